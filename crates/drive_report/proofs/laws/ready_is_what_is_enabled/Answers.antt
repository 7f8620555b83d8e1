-- Each clause is a law of the list.
use Rattle.drive_report.proofs.AllReady.{ready-enabled, enabled-ready, empty-none, none-empty}
use Rattle.drive_report.proofs.laws.ready_is_what_is_enabled.Goals as goal

pub returns-clause-enabled : goal.returns-clause-enabled
returns-clause-enabled c setting d s there = ready-enabled setting d s there

pub returns-clause-all : goal.returns-clause-all
returns-clause-all c setting d s proper enabled = enabled-ready setting d proper s enabled

pub returns-clause-none : goal.returns-clause-none
returns-clause-none c setting d proper = (empty-none setting d proper, none-empty setting d)
