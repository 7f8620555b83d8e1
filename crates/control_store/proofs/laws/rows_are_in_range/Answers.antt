-- The rows of a proper protocol have its states, guards and messages, and are few.
use Rattle.control_store.proofs.Ranges.{rows-in}
use Rattle.control_store.proofs.FewRows.{table-few}
use Rattle.control_store.proofs.laws.rows_are_in_range.Goals as goal

pub returns-clause-range : goal.returns-clause-range
returns-clause-range c = rows-in

pub returns-clause-number : goal.returns-clause-number
returns-clause-number c = table-few
