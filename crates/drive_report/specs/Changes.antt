-- What a step can change of the steps that are enabled.
use Rattle.std.specs.Prelude.{ℕ, ◌==◌, ◌≢◌, ⊤, if◌then◌else◌, Option}
use Rattle.std.specs.Option.{option_map_or}
use Rattle.async_shape.specs.Site.{Site, AtHome, AtRemote, UpFrom, DownTo, site}
use Rattle.async_shape.specs.declared.step.Step.{Step}
use Rattle.drive_report.specs.declared.changes.Change.{Change}
use Rattle.drive_report.specs.declared.changes.Change.TheVariants as change
use Rattle.drive_report.specs.declared.forms.Form.{Form}
use Rattle.drive_report.specs.declared.forms.Form.TheVariants as form

-- A step of the home can change all steps of the home itself, and whether a packet arrives at the
-- remote that it names, if it names one.
abbrev pub changed_at_home : Option ℕ → Form → Change
changed_at_home partner form.HomeTau = change.All
changed_at_home partner form.HomeTake = change.All
changed_at_home partner (form.HomeSend g) = change.All
changed_at_home partner form.HomeDrop = change.All
changed_at_home partner (form.RemoteTau i) = change.Nothing
changed_at_home partner form.RemoteSend = change.Nothing
changed_at_home partner form.RemoteAnswer = change.Nothing
changed_at_home partner form.RemoteReply = change.Nothing
changed_at_home partner form.Up = change.Nothing
changed_at_home partner form.Down = option_map_or (λ j. change.One j) partner change.Nothing

-- Where a packet of remote j arrives, this can change all steps of the home itself, whether a
-- further one of j arrives, and whether one arrives at any remote: a request that makes room is
-- another's.
abbrev pub changed_from : ℕ → Form → Change
changed_from j form.HomeTau = change.All
changed_from j form.HomeTake = change.All
changed_from j (form.HomeSend g) = change.All
changed_from j form.HomeDrop = change.All
changed_from j (form.RemoteTau i) = change.Nothing
changed_from j form.RemoteSend = change.Nothing
changed_from j form.RemoteAnswer = change.Nothing
changed_from j form.RemoteReply = change.Nothing
changed_from j form.Up = change.One j
changed_from j form.Down = change.All

-- A step at remote j can change the steps of this remote, and whether a packet arrives that goes
-- from it or to it.
abbrev pub changed_by_remote : ℕ → Form → Change
changed_by_remote j form.HomeTau = change.Nothing
changed_by_remote j form.HomeTake = change.Nothing
changed_by_remote j (form.HomeSend g) = change.Nothing
changed_by_remote j form.HomeDrop = change.Nothing
changed_by_remote j (form.RemoteTau i) = if i == j then change.All else change.Nothing
changed_by_remote j form.RemoteSend = change.One j
changed_by_remote j form.RemoteAnswer = change.One j
changed_by_remote j form.RemoteReply = change.One j
changed_by_remote j form.Up = change.One j
changed_by_remote j form.Down = change.One j

-- what a step at this site can change of a form
abbrev pub change_at : Site → Form → Change
change_at (AtHome partner) f = changed_at_home partner f
change_at (AtRemote j) f = changed_by_remote j f
change_at (UpFrom j) f = changed_from j f
change_at (DownTo j) f = changed_by_remote j f

-- what the step can change of a form
abbrev pub change_of : Step → Form → Change
change_of s f = change_at (site s) f

-- The step of the form with this number is none of those that can change.
abbrev pub IsLeft : Change → ℕ → Type 0
IsLeft change.Nothing b = ⊤
IsLeft (change.One j) b = b ≢ j
IsLeft change.All b = ⊥
