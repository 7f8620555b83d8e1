-- The tests of a pair ask of each rule to which reply it leads.
use Rattle.std.proofs.Common.{◌≡◌, ℕ, ◌==◌, ◌&&◌, Bool, true, false, cond, Option, Some, None}
use Rattle.std.proofs.Common.{option_and_then, refl}
use Rattle.std.specs.Option.{option_map_or}
use Rattle.std.proofs.Math.Bool.{and-true, and-false}
use Rattle.proto_model.specs.Guards.{only_next}
use Rattle.proto_model.specs.ValueTypes.{message_in, message_out}
use Rattle.proto_model.specs.Pairs.{gives_message, no_atoms, awaits, is_from, output_var}
use Rattle.proto_model.specs.Pairs.{leaves_alone, goes_to_only, awaits_from_target, awaits_answer}
use Rattle.proto_model.specs.Numbered.{NumberedProtocol}
use Rattle.proto_model.specs.declared.numbered.Rule.{Rule}
use Rattle.proto_model.specs.declared.numbered.Body.{Body}
use Rattle.request_reply.specs.Looks.{awaited, awaited_from, awaited_of_target, awaited_from_target}

-- there is a number, and it is p
abbrev pub is_it : ℕ → Option ℕ → Bool
is_it p o = option_map_or (λ k. k == p) o false

is_it-kept : (p : ℕ) (b : Bool) (o : Option ℕ) → (is_it p o && b) ≡ is_it p (cond b o None)
is_it-kept p true o = and-true (is_it p o)
is_it-kept p false o = and-false (is_it p o)

is_it-if : (p : ℕ) (b : Bool) (test : Bool) (o : Option ℕ) → test ≡ is_it p o
    → (b && test) ≡ is_it p (cond b o None)
is_it-if p true test o same = same
is_it-if p false test o same = refl

awaits-awaited : (p : ℕ) (rule : Rule) → awaits p rule ≡ is_it p (awaited rule)
awaits-awaited p rule = is_it-kept p (no_atoms rule.conds) (message_in rule.kind)

awaits-awaited_from : (p x : ℕ) (rule : Rule)
    → (is_from x rule.kind && awaits p rule) ≡ is_it p (awaited_from x rule)
awaits-awaited_from p x rule =
    is_it-if p (is_from x rule.kind) (awaits p rule) (awaited rule) (awaits-awaited p rule)

-- A test of the only rule asks which message that rule has.
of_rule : (p : ℕ) (test : Rule → Bool) (message : Rule → Option ℕ)
    → ((rule : Rule) → test rule ≡ is_it p (message rule))
    → (o : Option Rule) → option_map_or test o false ≡ is_it p (option_and_then message o)
of_rule p test message same None = refl
of_rule p test message same (Some rule) = same rule

goes_to_only-only_next : (p : ℕ) (test : Rule → Bool) (message : Rule → Option ℕ)
    → ((rule : Rule) → test rule ≡ is_it p (message rule))
    → (body : Body) (rule : Rule)
    → goes_to_only body test rule ≡ is_it p (option_and_then message (only_next body rule))
goes_to_only-only_next p test message same body rule =
    of_rule p test message same (only_next body rule)

pub goes_to_only-awaited : (body : Body) (p : ℕ) (rule : Rule)
    → goes_to_only body (awaits p) rule ≡ is_it p (option_and_then awaited (only_next body rule))
goes_to_only-awaited body p rule =
    goes_to_only-only_next p (awaits p) awaited (awaits-awaited p) body rule

pub goes_to_only-message_out : (body : Body) (p : ℕ) (rule : Rule)
    → goes_to_only body (gives_message p) rule
    ≡ is_it p (option_and_then (λ next. message_out next.kind) (only_next body rule))
goes_to_only-message_out body p rule =
    goes_to_only-only_next p (gives_message p) (λ next. message_out next.kind)
    (λ next. refl) body rule

from_target : (protocol : NumberedProtocol) (p : ℕ) (rule : Rule) (x : ℕ)
    → awaits_from_target protocol p rule x ≡ is_it p (awaited_of_target protocol.home rule x)
from_target protocol p rule x =
    is_it-if p (leaves_alone x rule)
    (goes_to_only protocol.home (λ input. is_from x input.kind && awaits p input) rule)
    (option_and_then (awaited_from x) (only_next protocol.home rule))
    (goes_to_only-only_next p (λ input. is_from x input.kind && awaits p input) (awaited_from x)
    (awaits-awaited_from p x) protocol.home rule)

of_output : (protocol : NumberedProtocol) (p : ℕ) (rule : Rule) (o : Option ℕ)
    → option_map_or (awaits_from_target protocol p rule) o false
    ≡ is_it p (option_and_then (awaited_of_target protocol.home rule) o)
of_output protocol p rule None = refl
of_output protocol p rule (Some x) = from_target protocol p rule x

pub awaits_answer-awaited_from_target : (protocol : NumberedProtocol) (p : ℕ) (rule : Rule)
    → awaits_answer protocol p rule ≡ is_it p (awaited_from_target protocol.home rule)
awaits_answer-awaited_from_target protocol p rule = of_output protocol p rule (output_var rule.kind)
