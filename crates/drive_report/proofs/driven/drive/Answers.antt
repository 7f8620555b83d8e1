-- The machine stands at the start, and what is counted to the end is the summary.
use Rattle.std.proofs.Common.{◌≡◌, length, sym, ap, ap₂, ◌∙◌}
use Rattle.std.proofs.lemmas.List.{length-replicate}
use Rattle.ordered_links.specs.Lists.{no_packets}
use Rattle.async_shape.specs.Config.{Config, start}
use Rattle.async_shape.specs.Setting.{Setting}
use Rattle.async_machine.specs.Standing.{setting_of}
use Rattle.drive_report.specs.Counted.{Counted, counted_config}
use Rattle.drive_report.specs.Drive.{drive_from}
use Rattle.drive_report.specs.Turns.{nothing_counted, counted_to_end}
use Rattle.drive_report.specs.declared.summary.Summary.{Summary}
use Rattle.drive_report.proofs.CountedOver.{counted-is}
use Rattle.drive_report.proofs.driven.drive.Goals as goal

pub returns-clause-summary : goal.returns-clause-summary
returns-clause-summary c =
    let machine = c.in_ok-machine.machine in
    let of = setting_of c.args.table.now c.args.k in
    let same = ap₂ setting_of c.in_ok-machine.ensures.parts.0 c.in_ok-machine.ensures.parts.1 in
    let lists = ap (λ (links : Counted). length links.lists) c.in_ok-links.ensures in
    let count = lists ∙ length-replicate c.args.n no_packets in
    let at : counted_config machine ≡ start of.protocol c.args.n =
    c.in_ok-machine.ensures.start ∙ ap (start of.protocol) count in
    c.turns.ensures
    ∙ ap₂
    (λ (setting : Setting) (first : Config).
    counted_to_end setting nothing_counted first
    (drive_from setting c.args.count first c.args.seed))
    same at
    ∙ counted-is of c.args.n c.args.count c.args.seed

pub returns-clause-still : goal.returns-clause-still
returns-clause-still c stopped =
    let of = setting_of c.args.table.now c.args.k in
    c.stopped_is_still.ensures of c.args.n c.home.ensures.sound.proper c.requires.remotes.0
    c.requires.remotes.1 c.requires.slots.0 c.requires.slots.1 c.args.count c.args.seed
    (ap (λ (s : Summary). s.stopped) (sym (returns-clause-summary c)) ∙ stopped)
