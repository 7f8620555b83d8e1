-- The kinds of step, with all their numbers but the last.
use Rattle.std.specs.Prelude.{ℕ}
use Rattle.async_shape.specs.declared.step.Step.{Step}
use Rattle.async_shape.specs.declared.step.Step.TheVariants as step
use Rattle.drive_report.specs.declared.forms.Form.{Form}
use Rattle.drive_report.specs.declared.forms.Form.TheVariants as form
use Rattle.drive_report.specs.declared.forms.Pair.{Pair}
use Rattle.drive_report.specs.declared.forms.Pair.TheVariants as pair

-- the step of this form with this number
abbrev pub step_of : Form → ℕ → Step
step_of form.HomeTau g = step.HomeTau g
step_of form.HomeTake j = step.HomeTake j
step_of (form.HomeSend g) j = step.HomeSend g j
step_of form.HomeDrop j = step.HomeDrop j
step_of (form.RemoteTau j) g = step.RemoteTau j g
step_of form.RemoteSend j = step.RemoteSend j
step_of form.RemoteAnswer j = step.RemoteAnswer j
step_of form.RemoteReply j = step.RemoteReply j
step_of form.Up j = step.Up j
step_of form.Down j = step.Down j

-- the form of this kind with this first number
abbrev pub form_of : Pair → ℕ → Form
form_of pair.HomeSend g = form.HomeSend g
form_of pair.RemoteTau j = form.RemoteTau j
