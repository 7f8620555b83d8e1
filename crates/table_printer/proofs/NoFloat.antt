-- The value of a table has no number, and so no float.
use Rattle.std.proofs.Common.{◌≡◌, ◌+◌, ℕ, false, List, [], ◌∷◌, map, Option, Some, None, refl}
use Rattle.rv_base.specs.Lists.{map_from}
use Rattle.serde_json.specs.View.{items_of}
use Rattle.serde_json.specs.Written.{has_float, items_have_float}
use Rattle.proto_model.specs.declared.numbered.MessageInfo.{MessageInfo}
use Rattle.proto_model.specs.declared.numbered.Body.{Body}
use Rattle.controller_table.specs.Rows.{reply_at}
use Rattle.controller_table.specs.Sound.{Tabled}
use Rattle.controller_table.specs.declared.rows.Row.{Row}
use Rattle.table_printer.specs.TableJson.{row_data, reply_data, message_data, table_data}

rows-no_float : (messages : List MessageInfo) (body : Body) (rows : List Row)
    → items_have_float (items_of (map (row_data messages body) rows)) ≡ false
rows-no_float messages body [] = refl
rows-no_float messages body (row ∷ rows) = rows-no_float messages body rows

reply-no_float : (messages : List MessageInfo) (reply : Option ℕ)
    → has_float (reply_data messages reply) ≡ false
reply-no_float messages None = refl
reply-no_float messages (Some p) = refl

messages-no_float : (all : List MessageInfo) (replies : List (Option ℕ)) (place : ℕ)
    (messages : List MessageInfo)
    → items_have_float (items_of (map_from (message_data all replies) place messages)) ≡ false
messages-no_float all replies place [] = refl
messages-no_float all replies place (info ∷ messages) =
    rw (
      reply-no_float all (reply_at replies place),
      messages-no_float all replies (place + 1)
          messages,
    ) refl

pub table-no_float : (table : Tabled) → has_float (table_data table) ≡ false
table-no_float table =
    rw (
      rows-no_float table.messages table.home.body table.home.rows,
      messages-no_float table.messages
          table.replies 0 table.messages,
      rows-no_float table.messages table.remote.body
          table.remote.rows,
    ) refl
