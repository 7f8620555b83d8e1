-- Each command's run is the one that its description tells.
use Rattle.std.proofs.Common.{◌≡◌, Some, None, sym, ◌∙◌, ap, subst, refl}
use Rattle.std.specs.declared.option.Option.{Option}
use Rattle.rvc_top.specs.Commands.{describe, done}
use Rattle.rvc_top.specs.Texts.{usage_text}
use Rattle.rvc_top.specs.Examples.{example_text}
use Rattle.rvc_top.specs.Runs.{Seen, IsRun}
use Rattle.rvc_top.specs.declared.command.Command.{Command}
use Rattle.rvc_top.specs.declared.command.Command.TheVariants as named
use Rattle.rvc_top.specs.declared.status.Status.{Status}
use Rattle.rvc_top.specs.declared.status.Status.TheVariants.{Usage}
use Rattle.rvc_top.proofs.Forms.{spelled_form-is, checked_form-is}
use Rattle.rvc_top.proofs.StoreForms.{stored_form-is, image_form-is}
use Rattle.rvc_top.proofs.Runs.{run-written, run-beside}
use Rattle.rvc_top.proofs.top.carry_out.Goals as goal

-- what is known of the run of a command is known of what was found
meant : (found : Option Command) (some command : Command) → found ≡ Some some → some ≡ command
    → (file schedule out : Seen) (answer : Status)
    → IsRun (describe (Some command)).task file schedule out answer
    → IsRun (describe found).task file schedule out answer
meant found some command is same file schedule out answer run =
    subst (λ (m : Option Command). IsRun (describe m).task file schedule out answer)
    (sym (is ∙ ap (λ (k : Command). Some k) same)) run

meant-none : (found : Option Command) → found ≡ None → (file schedule out : Seen) (answer : Status)
    → IsRun (describe None).task file schedule out answer
    → IsRun (describe found).task file schedule out answer
meant-none found is file schedule out answer run =
    subst (λ (m : Option Command). IsRun (describe m).task file schedule out answer) (sym is) run

-- what is true of the numbers of what was found is true of those of the command
numbers-of : (found : Option Command) (some command : Command) → found ≡ Some some
    → some ≡ command → (describe found).Numbers → (describe (Some command)).Numbers
numbers-of found some command is same numbers =
    subst (λ (m : Option Command). (describe m).Numbers)
    (is ∙ ap (λ (k : Command). Some k) same) numbers

pub returns-in-None : goal.returns-in-None
returns-in-None g c =
    let f = c.deliver in
    meant-none c.args.command c.in-None.is _ _ _ f.result
    (run-written record { status = Usage; text = usage_text } _ _ _ f.result
    record { at = refl; same = refl } record { at = refl; same = refl }
    tt (λ e. absurd (cc)) f.ensures.bytes f.ensures.counts f.ensures.wants)

pub run_file_command-requires : goal.run_file_command-requires
run_file_command-requires g c = record { form = spelled_form-is; numbers = tt }

pub run_file_command-requires-in-Some-Check : goal.run_file_command-requires-in-Some-Check
run_file_command-requires-in-Some-Check g c =
    record { form = checked_form-is; numbers = tt }

pub run_file_command-requires-in-Some-Drive : goal.run_file_command-requires-in-Some-Drive
run_file_command-requires-in-Some-Drive g c =
    let found = c.in-Some-Drive in
    record {
      form = checked_form-is;
      numbers =
          numbers-of c.args.command found.field-0 (named.Drive found.driving) found.is
          (rw found.is at found.field-0-is) c.requires;
    }

pub run_file_command-requires-in-Some-TableText : goal.run_file_command-requires-in-Some-TableText
run_file_command-requires-in-Some-TableText g c =
    record { form = checked_form-is; numbers = tt }

pub run_file_command-requires-in-Some-TableJson : goal.run_file_command-requires-in-Some-TableJson
run_file_command-requires-in-Some-TableJson g c =
    record { form = checked_form-is; numbers = tt }

pub returns-in-Some-Print : goal.returns-in-Some-Print
returns-in-Some-Print g c =
    meant c.args.command c.in-Some-Print.field-0 named.Print
    c.in-Some-Print.is (rw c.in-Some-Print.is at c.in-Some-Print.field-0-is) _ _ _
    c.run_file_command.result (run-beside _ _ _ _ _ c.run_file_command.result _
    record { at = refl; same = refl } c.run_file_command.ensures)

pub returns-in-Some-Check : goal.returns-in-Some-Check
returns-in-Some-Check g c =
    meant c.args.command c.in-Some-Check.field-0 named.Check
    c.in-Some-Check.is (rw c.in-Some-Check.is at c.in-Some-Check.field-0-is) _ _ _
    c.run_file_command-in-Some-Check.result
    (run-beside _ _ _ _ _ c.run_file_command-in-Some-Check.result _
    record { at = refl; same = refl } c.run_file_command-in-Some-Check.ensures)

pub returns-in-Some-Drive : goal.returns-in-Some-Drive
returns-in-Some-Drive g c =
    let found = c.in-Some-Drive in
    meant c.args.command found.field-0 (named.Drive found.driving) found.is
    (rw found.is at found.field-0-is) _ _ _ c.run_file_command-in-Some-Drive.result
    (run-beside _ _ _ _ _ c.run_file_command-in-Some-Drive.result _
    record { at = refl; same = refl } c.run_file_command-in-Some-Drive.ensures)

pub returns-in-Some-TableText : goal.returns-in-Some-TableText
returns-in-Some-TableText g c =
    meant c.args.command c.in-Some-TableText.field-0 (named.TableText c.in-Some-TableText.mode)
    c.in-Some-TableText.is (rw c.in-Some-TableText.is at c.in-Some-TableText.field-0-is) _ _ _
    c.run_file_command-in-Some-TableText.result
    (run-beside _ _ _ _ _ c.run_file_command-in-Some-TableText.result _
    record { at = refl; same = refl } c.run_file_command-in-Some-TableText.ensures)

pub returns-in-Some-TableJson : goal.returns-in-Some-TableJson
returns-in-Some-TableJson g c =
    meant c.args.command c.in-Some-TableJson.field-0 (named.TableJson c.in-Some-TableJson.mode)
    c.in-Some-TableJson.is (rw c.in-Some-TableJson.is at c.in-Some-TableJson.field-0-is) _ _ _
    c.run_file_command-in-Some-TableJson.result
    (run-beside _ _ _ _ _ c.run_file_command-in-Some-TableJson.result _
    record { at = refl; same = refl } c.run_file_command-in-Some-TableJson.ensures)

pub run_file_command-requires-in-Some-Store : goal.run_file_command-requires-in-Some-Store
run_file_command-requires-in-Some-Store g c =
    record { form = stored_form-is; numbers = tt }

pub returns-in-Some-Store : goal.returns-in-Some-Store
returns-in-Some-Store g c =
    meant c.args.command c.in-Some-Store.field-0 (named.Store c.in-Some-Store.mode)
    c.in-Some-Store.is (rw c.in-Some-Store.is at c.in-Some-Store.field-0-is) _ _ _
    c.run_file_command-in-Some-Store.result
    (run-beside _ _ _ _ _ c.run_file_command-in-Some-Store.result _
    record { at = refl; same = refl } c.run_file_command-in-Some-Store.ensures)

pub run_schedule_command-requires : goal.run_schedule_command-requires
run_schedule_command-requires g c =
    let found = c.in-Some-Rv in
    record {
      form = checked_form-is;
      numbers =
          numbers-of c.args.command found.field-0
          (named.Rv found.n) found.is
          (rw found.is at found.field-0-is) c.requires;
    }

pub returns-in-Some-Rv : goal.returns-in-Some-Rv
returns-in-Some-Rv g c =
    let found = c.in-Some-Rv in
    meant c.args.command found.field-0 (named.Rv found.n)
    found.is (rw found.is at found.field-0-is) _ _ _ c.run_schedule_command.result
    c.run_schedule_command.ensures

pub run_schedule_command-requires-in-Some-Run : goal.run_schedule_command-requires-in-Some-Run
run_schedule_command-requires-in-Some-Run g c =
    let found = c.in-Some-Run in
    record {
      form = checked_form-is;
      numbers =
          numbers-of c.args.command found.field-0
          (named.Run found.n found.k found.mode) found.is
          (rw found.is at found.field-0-is) c.requires;
    }

pub returns-in-Some-Run : goal.returns-in-Some-Run
returns-in-Some-Run g c =
    let found = c.in-Some-Run in
    meant c.args.command found.field-0 (named.Run found.n found.k found.mode)
    found.is (rw found.is at found.field-0-is) _ _ _ c.run_schedule_command-in-Some-Run.result
    c.run_schedule_command-in-Some-Run.ensures

pub run_schedule_command-requires-in-Some-Lossy : goal.run_schedule_command-requires-in-Some-Lossy
run_schedule_command-requires-in-Some-Lossy g c =
    let found = c.in-Some-Lossy in
    record {
      form = checked_form-is;
      numbers =
          numbers-of c.args.command found.field-0
          (named.Lossy found.n found.k found.mode) found.is
          (rw found.is at found.field-0-is) c.requires;
    }

pub returns-in-Some-Lossy : goal.returns-in-Some-Lossy
returns-in-Some-Lossy g c =
    let found = c.in-Some-Lossy in
    meant c.args.command found.field-0 (named.Lossy found.n found.k found.mode)
    found.is (rw found.is at found.field-0-is) _ _ _ c.run_schedule_command-in-Some-Lossy.result
    c.run_schedule_command-in-Some-Lossy.ensures

pub run_schedule_command-requires-in-Some-Boot : goal.run_schedule_command-requires-in-Some-Boot
run_schedule_command-requires-in-Some-Boot g c =
    let found = c.in-Some-Boot in
    record {
      form = image_form-is;
      numbers =
          numbers-of c.args.command found.field-0
          (named.Boot found.n found.k) found.is
          (rw found.is at found.field-0-is) c.requires;
    }

pub returns-in-Some-Boot : goal.returns-in-Some-Boot
returns-in-Some-Boot g c =
    let found = c.in-Some-Boot in
    meant c.args.command found.field-0 (named.Boot found.n found.k)
    found.is (rw found.is at found.field-0-is) _ _ _ c.run_schedule_command-in-Some-Boot.result
    c.run_schedule_command-in-Some-Boot.ensures

pub run_schedule_command-requires-in-Some-Audit : goal.run_schedule_command-requires-in-Some-Audit
run_schedule_command-requires-in-Some-Audit g c =
    let found = c.in-Some-Audit in
    record {
      form = checked_form-is;
      numbers =
          numbers-of c.args.command found.field-0
          (named.Audit found.n) found.is
          (rw found.is at found.field-0-is) c.requires;
    }

pub returns-in-Some-Audit : goal.returns-in-Some-Audit
returns-in-Some-Audit g c =
    let found = c.in-Some-Audit in
    meant c.args.command found.field-0 (named.Audit found.n)
    found.is (rw found.is at found.field-0-is) _ _ _ c.run_schedule_command-in-Some-Audit.result
    c.run_schedule_command-in-Some-Audit.ensures

pub run_schedule_command-requires-in-Some-Lines : goal.run_schedule_command-requires-in-Some-Lines
run_schedule_command-requires-in-Some-Lines g c =
    let found = c.in-Some-Lines in
    record {
      form = checked_form-is;
      numbers =
          numbers-of c.args.command found.field-0
          (named.Lines found.n found.k found.mode found.lines) found.is
          (rw found.is at found.field-0-is) c.requires;
    }

pub returns-in-Some-Lines : goal.returns-in-Some-Lines
returns-in-Some-Lines g c =
    let found = c.in-Some-Lines in
    meant c.args.command found.field-0 (named.Lines found.n found.k found.mode found.lines)
    found.is (rw found.is at found.field-0-is) _ _ _ c.run_schedule_command-in-Some-Lines.result
    c.run_schedule_command-in-Some-Lines.ensures

pub returns-in-Some-Example : goal.returns-in-Some-Example
returns-in-Some-Example g c =
    let f = c.deliver-in-Some-Example in
    meant c.args.command c.in-Some-Example.field-0 (named.Example c.in-Some-Example.which)
    c.in-Some-Example.is (rw c.in-Some-Example.is at c.in-Some-Example.field-0-is) _ _ _ f.result
    (run-written (done (example_text c.in-Some-Example.which)) _ _ _ f.result
    record { at = refl; same = refl } record { at = refl; same = refl }
    tt (λ e. absurd (cc)) (rw c.example_text.ensures at f.ensures.bytes) f.ensures.counts
    f.ensures.wants)
