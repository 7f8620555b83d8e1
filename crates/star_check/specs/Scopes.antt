-- What the guards of a process can name.
use Rattle.std.specs.Prelude.{◌≡◌, ◌≤◌, length, Bool, false, nat_lt, List}
use Rattle.std.specs.List.{list_any}
use Rattle.proto_model.specs.Faults.{Scope, scope_of, is_large_guard}
use Rattle.proto_model.specs.declared.protocol.Initial.{Initial}
use Rattle.proto_model.specs.declared.protocol.Initial.TheVariants as initial
use Rattle.proto_model.specs.declared.protocol.Message.{Message}
use Rattle.proto_model.specs.declared.protocol.Process.{Process}
use Rattle.proto_model.specs.declared.numbered.Side.{Side}
use Rattle.star_check.specs.declared.scope.Scope as code

-- the scope as the definitions have it
abbrev pub scope_seen : code.Scope → Scope
scope_seen s = record { side = s.side; messages = s.messages.now; vars = s.vars; states = s.states }

-- there are at most 64 messages, variables and states
pub record IsSmallScope (s : code.Scope) : Type 0 where
  pub few_messages : length s.messages.now ≤ 64
  pub few_vars : length s.vars ≤ 64
  pub few_states : length s.states ≤ 64

-- the process of a scope
abbrev pub process_seen : code.Scope → Process
process_seen s = record { vars = s.vars; start = s.start.now; states = s.states }

-- a first value is a number above 65,535, which no int holds
abbrev pub is_large_initial : Initial → Bool
is_large_initial (initial.Number n) = nat_lt 65535 n
is_large_initial initial.Nowhere = false
is_large_initial initial.Empty = false

-- the scope is that of this process
pub record IsScopeOf (s : code.Scope) (side : Side) (messages : List Message) (p : Process)
    : Type 0 where
  pub seen : scope_seen s ≡ scope_of side messages p
  pub start_name : s.start.now ≡ p.start

-- What the process of the scope says can be numbered: each place fits in a byte, and each number in
-- two.
pub record IsNumberable (s : code.Scope) : Type 0 where
  pub small : IsSmallScope s
  pub firsts : list_any (λ v. is_large_initial v.first) s.vars ≡ false
  pub guards : list_any (λ t. list_any is_large_guard t.guards) s.states ≡ false
