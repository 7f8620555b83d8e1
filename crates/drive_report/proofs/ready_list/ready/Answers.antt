-- The list is the ready list, and where that is empty nothing takes place.
use Rattle.std.proofs.Common.{sym, ◌∙◌}
use Rattle.drive_report.proofs.ready_list.ready.Goals as goal

pub returns-clause-still : goal.returns-clause-still
returns-clause-still g c empty = c.no_new_deadlock_of.ensures (sym c.in_ok-fill.ensures ∙ empty)
