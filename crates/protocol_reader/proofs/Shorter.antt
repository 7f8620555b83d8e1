-- A rule that is repeated takes a lexeme at least.
use Rattle.std.proofs.Common.{◌<◌, Bool, Result, Ok, Err, IfOk, List, length, arith, codes, [], ◌∷◌}
use Rattle.proto_model.specs.Tokens.{Text, Token}
use Rattle.proto_model.specs.declared.protocol.Message.{Message}
use Rattle.proto_model.specs.declared.protocol.Var.{Var}
use Rattle.proto_model.specs.declared.protocol.State.{State}
use Rattle.proto_model.specs.declared.protocol.Claim.{Claim}
use Rattle.proto_model.specs.declared.guard.Atom.{Atom}
use Rattle.proto_model.specs.declared.guard.Assign.{Assign}
use Rattle.proto_model.specs.declared.guard.Guard.{Guard}
use Rattle.protocol_reader.specs.Reading.{At, Reader, is_among, is_name, name, message, variable}
use Rattle.protocol_reader.specs.Reading.{guard, guard_words, state, and_atom, comma_assignment}
use Rattle.protocol_reader.specs.Reading.{claim}
use Rattle.protocol_reader.specs.declared.error.ReadError.{ReadError}
use Rattle.protocol_reader.specs.Reads.{Reads}
use Rattle.protocol_reader.proofs.Taking.{took_shorter}
use Rattle.protocol_reader.proofs.Rule.{IsRule}
use Rattle.protocol_reader.proofs.Repeated.{Begins, takes_some}
use Rattle.protocol_reader.proofs.Words.{name_rule}
use Rattle.protocol_reader.proofs.DeclarationRules.{message_rule, var_rule}
use Rattle.protocol_reader.proofs.GuardRules.{and_rule, and_begins, comma_rule, comma_begins}
use Rattle.protocol_reader.proofs.GuardRules.{guard_rule, guard_begins}
use Rattle.protocol_reader.proofs.ProcessRules.{state_rule, var_begins, state_begins}
use Rattle.protocol_reader.proofs.ClaimRules.{name_begins, claim_rule, claim_begins}
use Rattle.protocol_reader.proofs.ProtocolRule.{message_begins}

taken : {A : Type 0} {p : Reader A} {tokens : A → List Token} {P : A → Type 0} {s : A → Text → Bool}
    (comes : Text → Bool) → IsRule p tokens P s → Begins comes tokens P s
    → (old new : At) (r : Result A ReadError) → Reads (p old) r new
    → IfOk r (λ _. length new.lexemes < length old.lexemes)
taken {tokens = tokens} {P = P} {s = s} comes rule begins old new (Ok x) reads =
    let t = rule.takes old new x reads in
    let some = takes_some comes tokens P s begins x t.ok in
    let less = took_shorter (tokens x) old new t.took in
    omega arith
taken comes rule begins old new (Err e) reads = tt

pub message_taken : (old new : At) (r : Result Message ReadError) → Reads (message old) r new
    → IfOk r (λ _. length new.lexemes < length old.lexemes)
message_taken = taken (is_among (codes "message" ∷ [])) message_rule message_begins

pub variable_taken : (old new : At) (r : Result Var ReadError) → Reads (variable old) r new
    → IfOk r (λ _. length new.lexemes < length old.lexemes)
variable_taken = taken (is_among (codes "var" ∷ [])) var_rule var_begins

pub and_atom_taken : (old new : At) (r : Result Atom ReadError) → Reads (and_atom old) r new
    → IfOk r (λ _. length new.lexemes < length old.lexemes)
and_atom_taken = taken (is_among (codes "and" ∷ [])) and_rule and_begins

pub comma_assignment_taken : (old new : At) (r : Result Assign ReadError)
    → Reads (comma_assignment old) r new → IfOk r (λ _. length new.lexemes < length old.lexemes)
comma_assignment_taken = taken (is_among (codes "," ∷ [])) comma_rule comma_begins

pub guard_taken : (old new : At) (r : Result Guard ReadError) → Reads (guard old) r new
    → IfOk r (λ _. length new.lexemes < length old.lexemes)
guard_taken = taken (is_among guard_words) guard_rule guard_begins

pub state_taken : (old new : At) (r : Result State ReadError) → Reads (state old) r new
    → IfOk r (λ _. length new.lexemes < length old.lexemes)
state_taken = taken (is_among (codes "state" ∷ [])) state_rule state_begins

pub name_taken : (old new : At) (r : Result Text ReadError) → Reads (name old) r new
    → IfOk r (λ _. length new.lexemes < length old.lexemes)
name_taken = taken is_name name_rule name_begins

pub claim_taken : (old new : At) (r : Result Claim ReadError) → Reads (claim old) r new
    → IfOk r (λ _. length new.lexemes < length old.lexemes)
claim_taken = taken (is_among (codes "claim" ∷ [])) claim_rule claim_begins
