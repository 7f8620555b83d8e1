-- The JSON of a table: one object without spaces, and LF. The keys of an object stand in the order
-- of their bytes.
use Rattle.std.specs.Prelude.{ℕ, List, ◌++◌, map, Option, Some, None, codes}
use Rattle.rv_base.specs.Lists.{map_from}
use Rattle.serde_json.specs.Data.{Data, null, boolean, string, array, object, no_members, member}
use Rattle.serde_json.specs.View.{items_of}
use Rattle.serde_json.specs.Written.{compact_text}
use Rattle.proto_model.specs.Tokens.{Text}
use Rattle.proto_model.specs.Texts.{message_name}
use Rattle.proto_model.specs.declared.numbered.MessageInfo.{MessageInfo}
use Rattle.proto_model.specs.declared.numbered.Body.{Body}
use Rattle.controller_table.specs.Rows.{reply_at}
use Rattle.controller_table.specs.Sound.{Tabled}
use Rattle.controller_table.specs.declared.rows.Row.{Row}
use Rattle.controller_table.specs.declared.controller.Controller.{Controller}
use Rattle.table_printer.specs.RowText.{place_text, trigger_text, puts_text}
use Rattle.table_printer.specs.RowText.{does_text}
use Rattle.table_printer.specs.TableText.{mode_text, carries_text}

-- A row is an object of its five texts: where it stands (`at`), what it completes (`does`), what
-- makes it move (`on`), what it puts (`puts`), and where it stands then (`to`).
abbrev pub row_data : List MessageInfo → Body → Row → Data
row_data messages body row =
    object (member (codes "at") (string (place_text body row.at))
    (member (codes "does") (string (does_text body row.does))
    (member (codes "on") (string (trigger_text messages row.on))
    (member (codes "puts") (string (puts_text messages row.puts))
    (member (codes "to") (string (place_text body row.to)) no_members)))))

-- the rows of a controller are an array, in order
abbrev pub rows_data : List MessageInfo → Controller → Data
rows_data messages controller =
    array (items_of (map (row_data messages controller.body) controller.rows))

-- the reply of a message: its name, or null where there is none
abbrev pub reply_data : List MessageInfo → Option ℕ → Data
reply_data messages None = null
reply_data messages (Some p) = string (message_name messages p)

-- A message is an object: what it carries (`carries`), its `name`, its `reply`, and whether it goes
-- `up`.
abbrev pub message_data : List MessageInfo → List (Option ℕ) → ℕ → MessageInfo → Data
message_data messages replies m info =
    object (member (codes "carries") (string (carries_text info.carries))
    (member (codes "name") (string info.name)
    (member (codes "reply") (reply_data messages (reply_at replies m))
    (member (codes "up") (boolean info.up) no_members))))

-- the messages are an array, in file order
abbrev pub messages_data : List MessageInfo → List (Option ℕ) → Data
messages_data messages replies =
    array (items_of (map_from (message_data messages replies) 0 messages))

-- A table is an object: the rows of the home (`home`), the `messages`, the `mode`, the `name` of
-- the protocol, and the rows of a remote (`remote`).
abbrev pub table_data : Tabled → Data
table_data table =
    object (member (codes "home") (rows_data table.messages table.home)
    (member (codes "messages") (messages_data table.messages table.replies)
    (member (codes "mode") (string (mode_text table.mode))
    (member (codes "name") (string table.name)
    (member (codes "remote") (rows_data table.messages table.remote) no_members)))))

-- the text of the object, without spaces, and LF
unfoldable pub table_json : Tabled → Text
table_json table = compact_text (table_data table) ++ codes "\n"
