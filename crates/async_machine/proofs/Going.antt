-- The guard that is found bare, with what its row tells, is the guard of the protocol.
use Rattle.std.proofs.Common.{◌≡◌, ℕ, Some, sym, ap, ◌∙◌}
use Rattle.proto_model.specs.Guards.{guard_at, bare_rule, bare_body}
use Rattle.proto_model.specs.declared.numbered.Rule.{Rule}
use Rattle.proto_model.specs.declared.numbered.Body.{Body}
use Rattle.async_machine.specs.Moves.{going}
use Rattle.async_machine.proofs.Tables.{guard-found}

-- a bare rule that goes where the rule goes is the rule
going-bare : (rule found : Rule) (next : ℕ) → bare_rule rule ≡ found → next ≡ rule.next
    → going found next ≡ rule
going-bare rule found next same to =
    ap (λ (r : Rule). going r next) (sym same) ∙ ap (λ n. going (bare_rule rule) n) to

-- found bare, and told to go to this state
pub guard-going : (body bare : Body) (s g : ℕ) (found : Rule) (next : ℕ) → bare ≡ bare_body body
    → Some found ≡ guard_at bare s g
    → ((rule : Rule) → guard_at body s g ≡ Some rule → rule.kind ≡ found.kind → next ≡ rule.next)
    → Some (going found next) ≡ guard_at body s g
guard-going body bare s g found next is_bare there told =
    let guard = guard-found body bare s g found is_bare there in
    let kinds : guard.0.kind ≡ found.kind = ap (λ (r : Rule). r.kind) guard.2 in
    ap (λ (r : Rule). Some r)
    (going-bare guard.0 found next guard.2 (told guard.0 guard.1 kinds)) ∙ sym guard.1
