-- Each run has a verdict, and one alone.
use Rattle.std.proofs.Common.{◌≡◌, map, string_bytes, Option, Some, None, sym, ◌∙◌, subst, refl}
use Rattle.std.proofs.Common.{inl, inr}
use Rattle.proto_model.specs.Tokens.{Text}
use Rattle.rvc_top.specs.Words.{meaning}
use Rattle.rvc_top.specs.Forms.{FileForm, RefusesOrHolds, IsForm}
use Rattle.rvc_top.specs.Commands.{Said, Task, WritesText, RepliesToFile, ReplaysSchedule, describe}
use Rattle.rvc_top.specs.Verdict.{IsSaid, FileVerdict, TaskVerdict, EveryRunIsDecided}
use Rattle.rvc_top.specs.Verdict.{EveryVerdictIsOne}
use Rattle.rvc_top.specs.Runs.{RefusesWords}
use Rattle.rvc_top.specs.declared.command.Command.{Command}
use Rattle.rvc_top.specs.declared.command.Command.TheVariants.{Print, Check, Rv, Run, Drive}
use Rattle.rvc_top.specs.declared.command.Command.TheVariants.{Lossy, Store, Boot, Audit, Lines}
use Rattle.rvc_top.specs.declared.command.Command.TheVariants.{TableText, TableJson}
use Rattle.rvc_top.specs.declared.command.Command.TheVariants.{Example as ExampleText}
use Rattle.rvc_top.specs.declared.example.Example.{Example}
use Rattle.rvc_top.specs.declared.status.Status.{Status}
use Rattle.rvc_top.specs.declared.status.Status.TheVariants.{FileRefused}
use Rattle.rvc_top.proofs.Forms.{spelled_form-is, checked_form-is}
use Rattle.rvc_top.proofs.StoreForms.{stored_form-is, image_form-is}

-- The file that a command reads is refused with one text or holds one value.
abbrev pub IsSound : Task → Type 0
IsSound (WritesText said) = Unit {0}
IsSound (RepliesToFile Value form says) = IsForm form
IsSound (ReplaysSchedule Value form limits replay) = IsForm form

-- What each command owes: its description is sound, and words that mean it aren't refused.
pub record IsOwed (command : Option Command) : Type 0 where
  pub sound : IsSound (describe command).task
  pub meant : RefusesWords (describe command).task → command ≡ None

example-meant : (which : Example) → RefusesWords (describe (Some (ExampleText which))).task
    → Some (ExampleText which) ≡ None
example-meant which e = absurd (cc)

pub owed : (command : Option Command) → IsOwed command
owed None = record { sound = tt; meant = λ e. refl }
owed (Some Print) = record { sound = spelled_form-is; meant = λ e. absurd e }
owed (Some Check) = record { sound = checked_form-is; meant = λ e. absurd e }
owed (Some (Rv n)) = record { sound = checked_form-is; meant = λ e. absurd e }
owed (Some (Run n k mode)) = record { sound = checked_form-is; meant = λ e. absurd e }
owed (Some (Drive d)) = record { sound = checked_form-is; meant = λ e. absurd e }
owed (Some (Lossy n k mode)) = record { sound = checked_form-is; meant = λ e. absurd e }
owed (Some (Store mode)) = record { sound = stored_form-is; meant = λ e. absurd e }
owed (Some (Boot n k)) = record { sound = image_form-is; meant = λ e. absurd e }
owed (Some (Audit n)) = record { sound = checked_form-is; meant = λ e. absurd e }
owed (Some (Lines n k mode lines)) = record { sound = checked_form-is; meant = λ e. absurd e }
owed (Some (TableText mode)) = record { sound = checked_form-is; meant = λ e. absurd e }
owed (Some (TableJson mode)) = record { sound = checked_form-is; meant = λ e. absurd e }
owed (Some (ExampleText which)) = record { sound = tt; meant = example-meant which }

-- some status and some text are a verdict
abbrev IsThere : (Status → Text → Type 0) → Type 0
IsThere verdict = (status : Status) × (text : Text) × verdict status text

-- two verdicts are one
abbrev pub IsOne : (Status → Text → Type 0) → Type 0
IsOne verdict = (s : Status) (t : Text) (r : Status) (u : Text) → verdict s t → verdict r u
    → (s ≡ r) × (t ≡ u)

says-one : (said : Said) → IsOne (IsSaid said)
says-one said s t r u x y = (x.0 ∙ sym y.0, x.1 ∙ sym y.1)

module _ {Value : Type 0} (form : FileForm Value) (sound : IsForm form) (says : Value → Said)
    (file : Text) where
  file-there : RefusesOrHolds form file → IsThere (FileVerdict form says file)
  file-there (inl x) = (FileRefused, x.0, inl (refl, x.1))
  file-there (inr x) = ((says x.0).status, (says x.0).text, inr (x.0, x.1, (refl, refl)))

  -- the verdict on a file that holds this value is what is said of the value
  pub file-says : (value : Value) → form.Holds file value → (status : Status) (text : Text)
      → FileVerdict form says file status text → IsSaid (says value) status text
  file-says value holds status text (inl x) = absurd (sound.not_both file text value holds x.1)
  file-says value holds status text (inr x) =
      subst (λ (v : Value). IsSaid (says v) status text) (sound.held_once file x.0 value x.1 holds)
      x.2

  file-one : IsOne (FileVerdict form says file)
  file-one s t r u (inl x) (inl y) = (x.0 ∙ sym y.0, sound.refused_once file t u x.1 y.1)
  file-one s t r u (inl x) (inr y) = absurd (sound.not_both file t y.0 y.1 x.1)
  file-one s t r u (inr x) y = says-one (says x.0) s t r u x.2 (file-says x.0 x.1 r u y)

task-there : (task : Task) → IsSound task → (file schedule : Text)
    → IsThere (TaskVerdict task file schedule)
task-there (WritesText said) sound file schedule = (said.status, said.text, (refl, refl))
task-there (RepliesToFile Value form says) sound file schedule =
    file-there form sound says file (sound.decides file)
task-there (ReplaysSchedule Value form limits replay) sound file schedule =
    file-there form sound (λ value. (replay value).says schedule) file (sound.decides file)

pub task-one : (task : Task) → IsSound task → (file schedule : Text)
    → IsOne (TaskVerdict task file schedule)
task-one (WritesText said) sound file schedule = says-one said
task-one (RepliesToFile Value form says) sound file schedule = file-one form sound says file
task-one (ReplaysSchedule Value form limits replay) sound file schedule =
    file-one form sound (λ value. (replay value).says schedule) file

pub every-run-decided : EveryRunIsDecided
every-run-decided words file schedule =
    task-there (describe (meaning (map string_bytes words))).task
    (owed (meaning (map string_bytes words))).sound file schedule

pub every-verdict-one : EveryVerdictIsOne
every-verdict-one words file schedule s t r u x y =
    task-one (describe (meaning (map string_bytes words))).task
    (owed (meaning (map string_bytes words))).sound file schedule s t r u x y
