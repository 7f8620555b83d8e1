-- Each line raises the counts by one at most.
use Rattle.std.proofs.Common.{◌≡◌, ℕ, ◌+◌, ◌≤◌, Some, inl, inr, arith, refl, ap}
use Rattle.proto_model.specs.Tokens.{Text}
use Rattle.trace_audit.specs.Auditing.{Auditing, audit_line}
use Rattle.trace_audit.specs.Turns.{count_of}
use Rattle.trace_audit.specs.declared.auditor.Section.{Section}
use Rattle.trace_audit.specs.declared.auditor.Section.TheVariants.{Steps, States, Abstraction}
use Rattle.trace_audit.proofs.Heard.{HearsWords, StepsLineIs, StatesLineIs, LineIs, line-is}

-- the counts, by those before
pub record RisesByOne (told : ℕ) (at new : Auditing) : Type 0 where
  pub counted : count_of new.section ≤ told + 1
  pub events : new.events ≤ at.events + 1

words-rise : (at : Auditing) (told : ℕ) (words : Text) (new : Auditing)
    → HearsWords at (told + 1) words new → RisesByOne told at new
words-rise at told words new (inl (quiet, new_is)) = rw new_is record {
  counted = omega arith;
  events = omega arith;
}
words-rise at told words new (inr hears) = rw hears.new_is record {
  counted = omega arith;
  events = omega arith;
}

steps-rise : (at : Auditing) (told : ℕ) (line : Text) (new : Auditing) → at.section ≡ Steps told
    → StepsLineIs at told line new → RisesByOne told at new
steps-rise at told line new is (inl (indented, new_is)) = rw (new_is) record {
  counted = let e : count_of at.section ≡ told = ap count_of is in omega (arith, e);
  events = omega arith;
}
steps-rise at told line new is (inr (inl (last, new_is))) = rw new_is record {
  counted = omega arith;
  events = omega arith;
}
steps-rise at told line new is (inr (inr tells)) = words-rise at told tells.words new tells.hears

states-rise : (at : Auditing) (line : Text) (new : Auditing) → at.section ≡ States
    → StatesLineIs at line new → RisesByOne 0 at new
states-rise at line new is (inl (indented, new_is)) = rw new_is record {
  counted = let e : count_of at.section ≡ 0 = ap count_of is in omega (arith, e);
  events = omega arith;
}
states-rise at line new is (inr (last, new_is)) = rw new_is record {
  counted = omega arith;
  events = omega arith;
}

line-rises : (at : Auditing) (section : Section) (line : Text) (new : Auditing)
    → at.section ≡ section → LineIs at section line new
    → RisesByOne (count_of section) at new
line-rises at (Steps told) line new is done = steps-rise at told line new is done
line-rises at States line new is done = states-rise at line new is done
line-rises at (Abstraction seen) line new is done = rw done.1 record {
  counted = omega arith;
  events = omega arith;
}

pub audit_line-rises : (at : Auditing) (line : Text) (new : Auditing)
    → audit_line at line ≡ Some new → RisesByOne (count_of at.section) at new
audit_line-rises at line new e =
    line-rises at at.section line new refl (line-is at at.section line new e)
