-- What a table is, the protocol that its rows tell, and when it is sound.
use Rattle.std.specs.Prelude.{◌≡◌, ℕ, Bool, false, ◌&&◌, ◌==◌, List, Option, find}
use Rattle.std.specs.Option.{option_map_or}
use Rattle.rv_base.specs.Lists.{map_from}
use Rattle.proto_model.specs.Tokens.{Text}
use Rattle.proto_model.specs.Numbered.{NumberedProtocol}
use Rattle.proto_model.specs.Guards.{bare_body}
use Rattle.proto_model.specs.Proper.{IsProper}
use Rattle.proto_model.specs.Pairs.{replies_of}
use Rattle.proto_model.specs.declared.mode.Mode.{Mode}
use Rattle.proto_model.specs.declared.numbered.Rule.{Rule}
use Rattle.proto_model.specs.declared.numbered.StateInfo.{StateInfo}
use Rattle.proto_model.specs.declared.numbered.MessageInfo.{MessageInfo}
use Rattle.proto_model.specs.declared.numbered.Body.{Body}
use Rattle.controller_table.specs.Rows.{guard_id, home_rows, remote_rows}
use Rattle.controller_table.specs.declared.rows.GuardId.{GuardId}
use Rattle.controller_table.specs.declared.rows.Place.{Place}
use Rattle.controller_table.specs.declared.rows.Place.TheVariants.{Comm, Trans, Due}
use Rattle.controller_table.specs.declared.rows.Does.{Does}
use Rattle.controller_table.specs.declared.rows.Does.TheVariants as does
use Rattle.controller_table.specs.declared.rows.Row.{Row}
use Rattle.controller_table.specs.declared.controller.Controller.{Controller}

-- a table: the name of its protocol, its mode, its messages, the reply of each, and the two
-- controllers
pub record Tabled : Type 0 where
  pub name : Text
  pub mode : Mode
  pub messages : List MessageInfo
  pub replies : List (Option ℕ)
  pub home : Controller
  pub remote : Controller

-- the body in which each guard goes to the state that is said of it
abbrev pub with_nexts : (GuardId → ℕ) → Body → Body
with_nexts next body = record {
  vars = body.vars;
  start = body.start;
  states = map_from (λ state (info : StateInfo). record {
    name = info.name;
    rules = map_from (λ guard (rule : Rule). record {
      kind = rule.kind;
      conds = rule.conds;
      assigns = rule.assigns;
      next = next (guard_id state guard);
    }) 0 info.rules;
  }) 0 body.states;
}

-- the state in which a controller stands at this place, or which it has left
abbrev pub state_of : Place → ℕ
state_of (Comm state) = state
state_of (Trans g) = g.state
state_of (Due g) = g.state

-- both are the guard with the same number in the same state
abbrev pub same_guard : GuardId → GuardId → Bool
same_guard g h = g.state == h.state && g.guard == h.guard

-- the guard is the first that is completed
abbrev pub begins_with : GuardId → Does → Bool
begins_with g does.Nothing = false
begins_with g (does.One h) = same_guard g h
begins_with g (does.Two h i) = same_guard g h

-- The state to which the first guard goes that the row completes: that of the row's next place; or,
-- where the row completes another guard too, the state of that one.
abbrev pub goes_to : Does → Place → ℕ
goes_to does.Nothing to = state_of to
goes_to (does.One g) to = state_of to
goes_to (does.Two g h) to = h.state

-- The state to which a guard goes, as the rows tell it: the first row whose completed guards begin
-- with it says so.
abbrev pub next_by : List Row → GuardId → ℕ
next_by rows g =
    option_map_or (λ row. goes_to row.does row.to) (find (λ row. begins_with g row.does) rows) 0

-- the body of a controller in which each guard goes where the rows tell
abbrev pub body_by_rows : Controller → Body
body_by_rows controller = with_nexts (next_by controller.rows) controller.body

-- the protocol of a table, read from its rows
abbrev pub protocol_of : Tabled → NumberedProtocol
protocol_of table = record {
  name = table.name;
  messages = table.messages;
  home = body_by_rows table.home;
  remote = body_by_rows table.remote;
}

-- A table is sound where its protocol is proper, its bodies say of no guard where it goes, since
-- its rows alone do, and its replies and its rows are those of its protocol in its mode.
pub record IsSound (table : Tabled) : Type 0 where
  pub proper : IsProper (protocol_of table)
  pub home_nexts : table.home.body ≡ bare_body table.home.body
  pub remote_nexts : table.remote.body ≡ bare_body table.remote.body
  pub replies : table.replies ≡ replies_of (protocol_of table) table.mode
  pub home_rows : table.home.rows ≡ home_rows (protocol_of table) table.mode
  pub remote_rows : table.remote.rows ≡ remote_rows (protocol_of table) table.mode

-- the protocol of which these are the messages and the bodies
abbrev pub protocol_with : Text → List MessageInfo → Controller → Controller → NumberedProtocol
protocol_with name messages home remote = record {
  name = name;
  messages = messages;
  home = home.body;
  remote = remote.body;
}

-- These parts make a table in this mode: they are those of a proper protocol, with its replies and
-- its rows.
pub record MakesTable (name : Text) (mode : Mode) (messages : List MessageInfo)
    (replies : List (Option ℕ)) (home remote : Controller) : Type 0 where
  pub proper : IsProper (protocol_with name messages home remote)
  pub same_replies : replies ≡ replies_of (protocol_with name messages home remote) mode
  pub same_home : home.rows ≡ home_rows (protocol_with name messages home remote) mode
  pub same_remote : remote.rows ≡ remote_rows (protocol_with name messages home remote) mode

-- the controller with the same rows, whose body says of no guard where it goes
abbrev pub bare_controller : Controller → Controller
bare_controller controller = record { body = bare_body controller.body; rows = controller.rows }

-- the table of these parts
abbrev pub table_of : Text → Mode → List MessageInfo → List (Option ℕ) → Controller → Controller
    → Tabled
table_of name mode messages replies home remote = record {
  name = name;
  mode = mode;
  messages = messages;
  replies = replies;
  home = bare_controller home;
  remote = bare_controller remote;
}

-- the table of a protocol in a mode
abbrev pub table_in : NumberedProtocol → Mode → Tabled
table_in protocol mode = record {
  name = protocol.name;
  mode = mode;
  messages = protocol.messages;
  replies = replies_of protocol mode;
  home = record { body = bare_body protocol.home; rows = home_rows protocol mode };
  remote = record { body = bare_body protocol.remote; rows = remote_rows protocol mode };
}
