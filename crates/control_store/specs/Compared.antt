-- How the rows of an image differ from those of a table.
use Rattle.std.specs.Prelude.{◌≡◌, ℕ, ◌<◌, ◌*◌, ◌++◌, List, length, take, drop, Option, Some, None}
use Rattle.std.specs.Prelude.{slice_get}
use Rattle.proto_model.specs.Tokens.{Text}
use Rattle.controller_table.specs.Sound.{Tabled}
use Rattle.controller_table.specs.declared.rows.Row.{Row}
use Rattle.control_store.specs.RowWord.{DecodesRow}
use Rattle.control_store.specs.Head.{words_behind}
use Rattle.control_store.specs.declared.heads.Head.{Head}
use Rattle.control_store.specs.declared.comparing.Compared.{Compared}
use Rattle.control_store.specs.declared.comparing.Compared.TheVariants as compared

-- the rows of a table: those of the home, and then those of a remote
abbrev pub all_rows : Tabled → List Row
all_rows table = table.home.rows ++ table.remote.rows

-- the word at this place among these; words count from 0
abbrev pub word_at : Text → ℕ → Text
word_at words place = take 16 (drop (16 * place) words)

-- There is a row at this place, and the word at this place stands for it.
abbrev pub RowAgrees : List Row → Text → ℕ → Type 0
RowAgrees rows words place =
    (row : Row) × (slice_get rows place ≡ Some row) × DecodesRow (word_at words place) (Some row)

-- At this place there is the first of the rows for which its word doesn't stand; or there is none.
abbrev pub FirstWrong : List Row → Text → Option ℕ → Type 0
FirstWrong rows words None = (place : ℕ) → place < length rows → RowAgrees rows words place
FirstWrong rows words (Some place) =
    (place < length rows) × (RowAgrees rows words place → ⊥)
    × ((earlier : ℕ) → earlier < place → RowAgrees rows words earlier)

-- The head tells how many rows the home of the table has, and how many a remote has.
abbrev pub CountsAgree : Head → Tabled → Type 0
CountsAgree head table =
    (head.home ≡ length table.home.rows) × (head.remote ≡ length table.remote.rows)

-- The image that begins with this head has the table's rows. Or it tells other numbers of rows. Or
-- it tells those, and this row, counted from 0 over the home and the remote, is the first one for
-- which its word doesn't stand.
abbrev pub Compares : Head → Text → Tabled → Compared → Type 0
Compares head bytes table compared.Same =
    CountsAgree head table × FirstWrong (all_rows table) (words_behind head bytes) None
Compares head bytes table compared.Counts = CountsAgree head table → ⊥
Compares head bytes table (compared.Row place) =
    CountsAgree head table
    × FirstWrong (all_rows table) (words_behind head bytes) (Some place)
