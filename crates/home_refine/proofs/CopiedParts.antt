-- Copies of the parts of a proper protocol, with its replies and its rows, make a table.
use Rattle.std.proofs.Common.{◌≡◌, ℕ, List, Option, refl, ap, ◌∙◌, subst}
use Rattle.proto_model.specs.Tokens.{Text}
use Rattle.proto_model.specs.Numbered.{NumberedProtocol}
use Rattle.proto_model.specs.Proper.{IsProper}
use Rattle.proto_model.specs.Pairs.{replies_of}
use Rattle.proto_model.specs.declared.mode.Mode.{Mode}
use Rattle.proto_model.specs.declared.numbered.MessageInfo.{MessageInfo}
use Rattle.controller_table.specs.Rows.{home_rows, remote_rows}
use Rattle.controller_table.specs.Sound.{MakesTable, protocol_with, table_of, table_in}
use Rattle.controller_table.specs.declared.controller.Controller.{Controller}

-- the second protocol has the parts of the first
pub record HasPartsOf (protocol copy : NumberedProtocol) : Type 0 where
  pub name : copy.name ≡ protocol.name
  pub messages : copy.messages ≡ protocol.messages
  pub home : copy.home ≡ protocol.home
  pub remote : copy.remote ≡ protocol.remote

same_parts : (protocol copy : NumberedProtocol) → HasPartsOf protocol copy → protocol ≡ copy
same_parts protocol copy has = rw (← has.name, ← has.messages, ← has.home, ← has.remote) refl

pub MakesTable-parts : (protocol : NumberedProtocol) (mode : Mode) (name : Text)
    (messages : List MessageInfo)
    (replies : List (Option ℕ)) (home remote : Controller)
    → IsProper protocol → HasPartsOf protocol (protocol_with name messages home remote)
    → replies ≡ replies_of protocol mode → home.rows ≡ home_rows protocol mode
    → remote.rows ≡ remote_rows protocol mode
    → MakesTable name mode messages replies home remote
MakesTable-parts protocol mode name messages replies home remote proper has same_replies same_home
    same_remote =
    let same = same_parts protocol (protocol_with name messages home remote) has in
    record {
      proper = subst IsProper same proper;
      same_replies = same_replies ∙ ap (λ p. replies_of p mode) same;
      same_home = same_home ∙ ap (λ p. home_rows p mode) same;
      same_remote = same_remote ∙ ap (λ p. remote_rows p mode) same;
    }

-- and the table that they make is that of the protocol
pub table_of-parts : (protocol : NumberedProtocol) (mode : Mode) (name : Text)
    (messages : List MessageInfo)
    (replies : List (Option ℕ)) (home remote : Controller)
    → HasPartsOf protocol (protocol_with name messages home remote)
    → replies ≡ replies_of protocol mode → home.rows ≡ home_rows protocol mode
    → remote.rows ≡ remote_rows protocol mode
    → table_of name mode messages replies home remote ≡ table_in protocol mode
table_of-parts protocol mode name messages replies home remote has same_replies same_home
    same_remote =
    rw (has.name, has.messages, has.home, has.remote, same_replies, same_home, same_remote) refl
