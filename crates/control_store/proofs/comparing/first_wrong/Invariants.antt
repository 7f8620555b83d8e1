-- The words of the first rows stand for them.
use Rattle.std.proofs.Common.{ℕ, ◌<◌}
use Rattle.control_store.specs.Compared.{RowAgrees}
use Rattle.control_store.proofs.comparing.first_wrong.Given as goal

abbrev pub invariant-loop-place : goal.invariant-loop-place
invariant-loop-place l = (earlier : ℕ) → earlier < l.place → RowAgrees l.rows l.words earlier
