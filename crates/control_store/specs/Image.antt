-- The image of a table: what a control store holds.
use Rattle.std.specs.Prelude.{ℕ, List, ◌++◌, length, codes, flat_map}
use Rattle.std.specs.Int.{w64, to_be_bytes}
use Rattle.proto_model.specs.Tokens.{Text}
use Rattle.proto_model.specs.declared.mode.Mode.{Mode}
use Rattle.proto_model.specs.declared.mode.Mode.TheVariants.{Plain, Lean}
use Rattle.controller_table.specs.Sound.{Tabled}
use Rattle.controller_table.specs.declared.rows.Row.{Row}
use Rattle.control_store.specs.RowWord.{row_word}

-- the eight bytes with which each image begins
abbrev pub mark : Text
mark = codes "RVCIMG01"

-- the number of a mode
abbrev pub mode_number : Mode → ℕ
mode_number Plain = 0
mode_number Lean = 1

-- a number as eight bytes, the greatest byte first
unfoldable pub eight : ℕ → Text
eight n = to_be_bytes w64 n

-- The head of an image, 40 bytes: the mark, the number of the mode, the length of the text, and how
-- many rows the home and a remote have.
abbrev pub head_bytes : Mode → ℕ → ℕ → ℕ → Text
head_bytes mode text home remote =
    mark ++ (eight (mode_number mode) ++ (eight text ++ (eight home ++ eight remote)))

-- the words of some rows, in order
abbrev pub words_of : List Row → Text
words_of rows = flat_map row_word rows

-- The image of a table with a text, the one of its protocol: the head, which tells the table's
-- mode, the length of the text and the numbers of rows; the text; the word of each row of the home;
-- the word of each row of a remote.
abbrev pub image : Text → Tabled → Text
image text table =
    head_bytes table.mode (length text) (length table.home.rows) (length table.remote.rows)
    ++ (text ++ (words_of table.home.rows ++ words_of table.remote.rows))
