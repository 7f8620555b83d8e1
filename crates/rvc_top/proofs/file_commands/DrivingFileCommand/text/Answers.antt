-- The table is that of the protocol in this mode, so that what is counted over the run is what is
-- counted in the setting of the command.
use Rattle.std.proofs.Common.{◌≡◌, ℕ, [], ◌++◌, ◌∙◌, ap, refl}
use Rattle.proto_model.specs.Tokens.{Text}
use Rattle.proto_model.specs.Numbered.{NumberedProtocol, CheckedProtocol}
use Rattle.proto_model.specs.declared.mode.Mode.{Mode}
use Rattle.controller_table.specs.Sound.{Tabled, protocol_of}
use Rattle.async_shape.specs.Setting.{Setting}
use Rattle.async_machine.specs.Standing.{setting_of}
use Rattle.drive_report.specs.Drive.{summary}
use Rattle.drive_report.specs.SummaryText.{summary_text}
use Rattle.drive_report.specs.declared.summary.Summary.{Summary}
use Rattle.rvc_top.specs.Commands.{drive_text}
use Rattle.rvc_top.specs.declared.command.Driving.{Driving}
use Rattle.rvc_top.proofs.file_commands.DrivingFileCommand.text.Goals as goal

-- these are what the two controllers are given
abbrev given : NumberedProtocol → Mode → ℕ → Setting
given protocol mode slots = record { protocol = protocol; mode = mode; slots = slots }

-- two settings with the same protocol, the same mode and the same slots are one
one-setting : (p q : NumberedProtocol) (m n : Mode) (k : ℕ) → p ≡ q → m ≡ n
    → given p m k ≡ given q n k
one-setting p q m n k same_protocol same_mode = rw (same_protocol, same_mode) refl

-- the text of what is counted over a run of this table, after nothing, is that of the command
text-driven : (d : Driving) (checked : CheckedProtocol) (table : Tabled) (s : Summary)
    (old text : Text) → protocol_of table ≡ checked.protocol → table.mode ≡ d.mode
    → s ≡ summary (setting_of table d.slots) d.remotes d.turns d.seed → old ≡ []
    → text ≡ old ++ summary_text s → text ≡ drive_text d checked
text-driven d checked table s old text same_protocol same_mode counted empty appended =
    appended ∙ ap (λ (o : Text). o ++ summary_text s) empty
    ∙ ap (λ (x : Summary). summary_text x)
    (counted ∙ ap (λ (setting : Setting). summary setting d.remotes d.turns d.seed)
    (one-setting (protocol_of table) checked.protocol table.mode d.mode d.slots same_protocol
    same_mode))

pub returns : goal.returns
returns c =
    let table = c.in_ok-table in
    let counted = c.in_ok-summary in
    text-driven c.args.self.now c.args.checked.now table.table counted.summary _ _
    table.ensures.protocol table.ensures.mode counted.ensures.summary c.new-text.ensures.items
    c.in_ok-summary_text.ensures
