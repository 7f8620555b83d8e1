-- Which message is the reply of which. A message and its reply take two messages between the home
-- and a remote where each alone would take two, since the reply stands for the ack of the request.
use Rattle.std.specs.Prelude.{ℕ, Bool, true, false, not, ◌&&◌, ◌||◌, ◌==◌, List, [], ◌∷◌, length}
use Rattle.std.specs.Prelude.{map, Option, Some, None, slice_get, find, flat_map}
use Rattle.std.specs.Option.{option_map_or}
use Rattle.std.specs.List.{list_any, list_all, range_with_len}
use Rattle.proto_model.specs.Numbered.{NumberedProtocol}
use Rattle.proto_model.specs.Guards.{only_next}
use Rattle.proto_model.specs.ValueTypes.{message_in, message_out}
use Rattle.proto_model.specs.declared.mode.Mode.{Mode}
use Rattle.proto_model.specs.declared.mode.Mode.TheVariants.{Plain, Lean}
use Rattle.proto_model.specs.declared.numbered.RulePartner.{RulePartner}
use Rattle.proto_model.specs.declared.numbered.RulePartner.TheVariants as partner
use Rattle.proto_model.specs.declared.numbered.RuleKind.{RuleKind}
use Rattle.proto_model.specs.declared.numbered.RuleKind.TheVariants as action
use Rattle.proto_model.specs.declared.numbered.Rule.{Rule}
use Rattle.proto_model.specs.declared.numbered.RuleAtom.{RuleAtom}
use Rattle.proto_model.specs.declared.numbered.Body.{Body}

-- all guards of a process, in file order
abbrev pub all_rules : Body → List Rule
all_rules body = flat_map (λ state. state.rules) body.states

-- the guard is an output of the message
abbrev pub gives_message : ℕ → Rule → Bool
gives_message m rule = option_map_or (λ k. k == m) (message_out rule.kind) false

-- the guard is an input of the message
abbrev pub takes_message : ℕ → Rule → Bool
takes_message m rule = option_map_or (λ k. k == m) (message_in rule.kind) false

-- there is no condition
abbrev pub no_atoms : List RuleAtom → Bool
no_atoms [] = true
no_atoms (atom ∷ atoms) = false

-- the guard is an input of the message without a condition
abbrev pub awaits : ℕ → Rule → Bool
awaits m rule = takes_message m rule && no_atoms rule.conds

-- the partner is the remote that variable x holds
abbrev pub is_held_by : ℕ → RulePartner → Bool
is_held_by x partner.Home = false
is_held_by x (partner.Any y) = false
is_held_by x (partner.Member y s) = false
is_held_by x (partner.Named y) = y == x

-- an input from the remote that variable x holds
abbrev pub is_from : ℕ → RuleKind → Bool
is_from x action.Tau = false
is_from x (action.Input p m bound) = is_held_by x p
is_from x (action.Output p m sent) = false

-- the variable of a partner, in each of its three forms
abbrev pub partner_var : RulePartner → Option ℕ
partner_var partner.Home = None
partner_var (partner.Any x) = Some x
partner_var (partner.Member x s) = Some x
partner_var (partner.Named x) = Some x

-- the variable of the partner of an output
abbrev pub output_var : RuleKind → Option ℕ
output_var action.Tau = None
output_var (action.Input p m bound) = None
output_var (action.Output p m sent) = partner_var p

-- no assignment of the guard is to variable x
abbrev pub leaves_alone : ℕ → Rule → Bool
leaves_alone x rule = list_all (λ assign. not (assign.var == x)) rule.assigns

-- the state to which the guard goes has one guard alone, which passes the test
abbrev pub goes_to_only : Body → (Rule → Bool) → Rule → Bool
goes_to_only body test rule = option_map_or test (only_next body rule) false

-- each guard that passes the first test passes the second
abbrev pub each_that : (Rule → Bool) → (Rule → Bool) → List Rule → Bool
each_that first second rules = list_all (λ rule. not (first rule) || second rule) rules

-- some guard passes the first test, and each guard that does passes the second
abbrev pub some_and_each : (Rule → Bool) → (Rule → Bool) → List Rule → Bool
some_and_each first second rules = list_any first rules && each_that first second rules

module _ (protocol : NumberedProtocol) where
  -- there is a message at this place, and it goes from a remote to the home
  abbrev pub goes_up : ℕ → Bool
  goes_up m = option_map_or (λ info. info.up) (slice_get protocol.messages m) false

  -- there is a message at this place, and it goes from the home to a remote
  abbrev pub goes_down : ℕ → Bool
  goes_down m = option_map_or (λ info. not info.up) (slice_get protocol.messages m) false

  -- An up message q is paired with the down message p: some remote output gives q, and each one
  -- goes to a state whose only guard is an input of p without a condition.
  abbrev pub is_up_pair : ℕ → ℕ → Bool
  is_up_pair q p =
      goes_up q && (goes_down p
      && some_and_each (gives_message q) (goes_to_only protocol.remote (awaits p))
      (all_rules protocol.remote))

  -- The home's output to the remote that x becomes or is leaves x alone in its assignments, and
  -- goes to a state whose only guard is an input of p from the remote that x holds, without a
  -- condition.
  abbrev pub awaits_from_target : ℕ → Rule → ℕ → Bool
  awaits_from_target p rule x =
      leaves_alone x rule
      && goes_to_only protocol.home (λ input. is_from x input.kind && awaits p input) rule

  -- The guard is an output of the home to a remote that a variable holds, and it awaits p from this
  -- remote.
  abbrev pub awaits_answer : ℕ → Rule → Bool
  awaits_answer p rule = option_map_or (awaits_from_target p rule) (output_var rule.kind) false

  -- A down message m is paired with the up message p: some home output gives m, and each one awaits
  -- p from the remote to which it went; some remote input takes m, and each one goes to an active
  -- state whose output is p.
  abbrev pub is_down_pair : ℕ → ℕ → Bool
  is_down_pair m p =
      goes_down m && (goes_up p
      && (some_and_each (gives_message m) (awaits_answer p) (all_rules protocol.home)
      && some_and_each (takes_message m) (goes_to_only protocol.remote (gives_message p))
      (all_rules protocol.remote)))

  -- messages m and p are a pair, in either direction
  abbrev pub is_pair : ℕ → ℕ → Bool
  is_pair m p = is_up_pair m p || is_down_pair m p

  -- The message at the least place that is paired with m; no message is paired with two.
  abbrev pub paired_with : ℕ → Option ℕ
  paired_with m = find (is_pair m) (range_with_len 0 (length protocol.messages))

  -- The reply of message m: in mode plain none has one, in mode lean each has the one it is paired
  -- with.
  abbrev pub reply_of : Mode → ℕ → Option ℕ
  reply_of Plain m = None
  reply_of Lean m = paired_with m

  -- the replies of all messages, in file order
  abbrev pub replies_of : Mode → List (Option ℕ)
  replies_of mode = map (reply_of mode) (range_with_len 0 (length protocol.messages))
