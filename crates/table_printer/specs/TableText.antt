-- The text of a table: its first line, a line for each message, and the rows of its two
-- controllers.
use Rattle.std.specs.Prelude.{ℕ, Bool, true, false, List, [], ◌++◌, Option, Some, None, codes}
use Rattle.std.specs.Prelude.{decimal}
use Rattle.std.specs.List.{flat_map}
use Rattle.rv_base.specs.Lists.{flat_from}
use Rattle.proto_model.specs.Tokens.{Text}
use Rattle.proto_model.specs.Texts.{message_name}
use Rattle.proto_model.specs.declared.mode.Mode.{Mode}
use Rattle.proto_model.specs.declared.mode.Mode.TheVariants.{Plain, Lean}
use Rattle.proto_model.specs.declared.protocol.Carry.{Carry}
use Rattle.proto_model.specs.declared.protocol.Carry.TheVariants as carry
use Rattle.proto_model.specs.declared.numbered.MessageInfo.{MessageInfo}
use Rattle.proto_model.specs.declared.numbered.Body.{Body}
use Rattle.controller_table.specs.Rows.{reply_at}
use Rattle.controller_table.specs.Sound.{Tabled}
use Rattle.controller_table.specs.declared.rows.Row.{Row}
use Rattle.controller_table.specs.declared.controller.Controller.{Controller}
use Rattle.table_printer.specs.RowText.{place_text, trigger_text, puts_text}
use Rattle.table_printer.specs.RowText.{does_text}

-- the name of the mode
abbrev pub mode_text : Mode → Text
mode_text Plain = codes "plain"
mode_text Lean = codes "lean"

-- ---- messages

-- the way that a message goes
abbrev pub way_text : Bool → Text
way_text true = codes "up"
way_text false = codes "down"

-- what a message carries: `nothing`, or a type as it stands in a file, with `int n` for the numbers
-- below n
abbrev pub carries_text : Carry → Text
carries_text carry.Nothing = codes "nothing"
carries_text (carry.Int n) = codes "int " ++ decimal n
carries_text carry.Node = codes "node"
carries_text carry.Set = codes "set"

-- one space and the type, where a message carries a value
abbrev pub type_text : Carry → Text
type_text carry.Nothing = []
type_text (carry.Int n) = codes " " ++ carries_text (carry.Int n)
type_text carry.Node = codes " " ++ carries_text carry.Node
type_text carry.Set = codes " " ++ carries_text carry.Set

-- ` reply ` and the name of the reply, where a message has one
abbrev pub reply_text : List MessageInfo → Option ℕ → Text
reply_text messages None = []
reply_text messages (Some p) = codes " reply " ++ message_name messages p

-- the line of a message: its name, its way, its type and its reply
abbrev pub message_line : List MessageInfo → List (Option ℕ) → ℕ → MessageInfo → Text
message_line messages replies m info =
    codes "message "
    ++ (info.name ++ (codes " " ++ (way_text info.up ++ (type_text info.carries
    ++ (reply_text messages (reply_at replies m) ++ codes "\n")))))

-- the lines of the messages in file order
abbrev pub message_lines : List MessageInfo → List (Option ℕ) → Text
message_lines messages replies = flat_from (message_line messages replies) 0 messages

-- ---- rows

-- the line of a row: two spaces, where it stands, one space, what makes it move, `: `, what it
-- puts, `, `, what it completes, `, `, and where it stands then
abbrev pub row_line : List MessageInfo → Body → Row → Text
row_line messages body row =
    codes "  "
    ++ (place_text body row.at ++ (codes " " ++ (trigger_text messages row.on
    ++ (codes ": " ++ (puts_text messages row.puts
    ++ (codes ", " ++ (does_text body row.does
    ++ (codes ", " ++ (place_text body row.to ++ codes "\n")))))))))

-- the lines of a controller's rows, in order
abbrev pub row_lines : List MessageInfo → Controller → Text
row_lines messages controller = flat_map (row_line messages controller.body) controller.rows

-- ---- the table

-- the first line: `table`, the name of the protocol and the mode
abbrev pub first_line : Text → Mode → Text
first_line name mode = codes "table " ++ (name ++ (codes " " ++ (mode_text mode ++ codes "\n")))

-- The first line; the messages; the line `home` and the home's rows; the line `remote` and the
-- remote's rows.
abbrev pub table_text : Tabled → Text
table_text table =
    first_line table.name table.mode
    ++ (message_lines table.messages table.replies
    ++ (codes "home\n" ++ (row_lines table.messages table.home
    ++ (codes "remote\n" ++ row_lines table.messages table.remote))))
