-- Texts in a list, written one after the other.
use Rattle.std.specs.Prelude.{◌≡◌, ◌≤◌, ℕ, Bool, true, false, List, [], ◌∷◌, ◌++◌, length}
use Rattle.std.specs.Prelude.{Option, Some, None, slice_get}
use Rattle.std.specs.List.{join_with_byte}
use Rattle.proto_model.specs.Tokens.{Text}
use Rattle.proto_model.specs.Texts.{separator}
use Rattle.proto_model.specs.declared.numbered.MessageInfo.{MessageInfo}
use Rattle.ordered_links.specs.declared.packet.Packet.{Packet}
use Rattle.proto_model.specs.Texts.{process_text, vars_text}
use Rattle.proto_model.specs.declared.numbered.Body.{Body}
use Rattle.async_shape.specs.declared.config.RemoteState.{RemoteState}
use Rattle.run_replay.specs.StateLines.{packet_text, remote_place_text}

-- texts with `,` between them
abbrev pub joined : List Text → Text
joined texts = join_with_byte 44 texts

-- There are none.
abbrev pub is_nil : List Text → Bool
is_nil [] = true
is_nil (text ∷ texts) = false

-- Texts that go on with a list, in which they are the first or stand behind others.
abbrev pub further : Bool → List Text → Text
further first [] = []
further first (text ∷ texts) = separator first ++ joined (text ∷ texts)

-- the text of a packet, if there is one
abbrev pub packet_texts : List MessageInfo → Option Packet → List Text
packet_texts messages None = []
packet_texts messages (Some packet) = packet_text messages packet ∷ []

-- These are the first three of the packets, which are no more.
pub record AreAll (packets : List Packet) (first second third : Option Packet) : Type 0 where
  pub few : length packets ≤ 3
  pub at_0 : first ≡ slice_get packets 0
  pub at_1 : second ≡ slice_get packets 1
  pub at_2 : third ≡ slice_get packets 2

-- what the line of remote j of this body begins with: its place and its variables
abbrev pub remote_standing : Body → ℕ → RemoteState → Text
remote_standing body j remote =
    process_text (Some j)
    ++ (remote_place_text body remote.place ++ vars_text body.vars remote.vars)
