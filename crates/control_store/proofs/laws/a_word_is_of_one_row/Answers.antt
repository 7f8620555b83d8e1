-- A row is read back from its word.
use Rattle.control_store.proofs.Undone.{word-undone, row_word-length}
use Rattle.control_store.proofs.laws.a_word_is_of_one_row.Goals as goal

pub returns-clause-undone : goal.returns-clause-undone
returns-clause-undone c = word-undone

pub returns-clause-length : goal.returns-clause-length
returns-clause-length c = row_word-length
