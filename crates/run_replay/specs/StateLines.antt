-- The lines that show where the home and the remotes stand, what the home holds and owes, and what
-- is under way.
use Rattle.std.specs.Prelude.{ℕ, List, [], ◌∷◌, ◌++◌, Option, Some, None, slice_get, map}
use Rattle.std.specs.Prelude.{codes, decimal}
use Rattle.std.specs.Option.{option_map_or}
use Rattle.std.specs.List.{join_with_byte}
use Rattle.rv_base.specs.Lists.{flat_from}
use Rattle.proto_model.specs.Tokens.{Text}
use Rattle.proto_model.specs.Numbered.{NumberedProtocol}
use Rattle.proto_model.specs.Texts.{vars_text, process_text, state_name, message_name}
use Rattle.proto_model.specs.declared.numbered.MessageInfo.{MessageInfo}
use Rattle.proto_model.specs.declared.numbered.Body.{Body}
use Rattle.rendezvous_meaning.specs.GivenMessage.{message_by_number}
use Rattle.controller_table.specs.declared.rows.Place.{Place}
use Rattle.controller_table.specs.declared.rows.Place.TheVariants.{Comm, Trans, Due}
use Rattle.slot_reserve.specs.declared.held.Held.{Held}
use Rattle.ordered_links.specs.Lists.{LinkPair, links_at}
use Rattle.ordered_links.specs.declared.packet.Packet.{Packet}
use Rattle.ordered_links.specs.declared.packet.Packet.TheVariants as packet
use Rattle.async_shape.specs.Config.{Config}
use Rattle.async_shape.specs.declared.config.HomePlace.{HomePlace}
use Rattle.async_shape.specs.declared.config.HomePlace.TheVariants.{Idle, Waits}
use Rattle.async_shape.specs.declared.config.RemoteState.{RemoteState}
use Rattle.async_shape.specs.declared.config.Request.{Request}

-- texts with `,` between them, in brackets
abbrev pub bracketed : List Text → Text
bracketed texts = codes "[" ++ (join_with_byte 44 texts ++ codes "]")

-- the place of the home: the name of its state; or, while it waits, `S/G>J` with the state that it
-- left, the guard and the remote
abbrev pub home_place_text : Body → HomePlace → Text
home_place_text body (Idle state) = state_name body state
home_place_text body (Waits waiting) =
    state_name body waiting.by.state
    ++ (codes "/" ++ (decimal waiting.by.guard ++ (codes ">" ++ decimal waiting.on)))

-- the place of a remote: the name of its state; the state that it left and `*` while it waits; its
-- active state and `!` while it is due to reply
abbrev pub remote_place_text : Body → Place → Text
remote_place_text body (Comm state) = state_name body state
remote_place_text body (Trans g) = state_name body g.state ++ codes "*"
remote_place_text body (Due g) = state_name body g.state ++ codes "!"

module _ (messages : List MessageInfo) where
  -- a held request: its remote, `:` and the message with its value
  abbrev pub held_text : Held → Text
  held_text held =
      decimal held.from ++ (codes ":" ++ message_by_number messages held.message held.value)

  -- a debt to remote j: the remote, `:` and the message's name
  abbrev pub debt_text : ℕ → ℕ → Text
  debt_text j p = decimal j ++ (codes ":" ++ message_name messages p)

  -- the debt to remote j, if there is one
  abbrev pub debt_texts : ℕ → Option ℕ → List Text
  debt_texts j None = []
  debt_texts j (Some p) = debt_text j p ∷ []

  -- a packet: `?` and a request, `=` and a reply, `+` for an ack, `-` for a nack
  abbrev pub packet_text : Packet → Text
  packet_text (packet.Request m v) = codes "?" ++ message_by_number messages m v
  packet_text packet.Ack = codes "+"
  packet_text packet.Nack = codes "-"
  packet_text (packet.Reply p v) = codes "=" ++ message_by_number messages p v

  -- the request in a slot, if there is one
  abbrev pub slot_texts : Option Request → List Text
  slot_texts None = []
  slot_texts (Some request) =
      message_by_number messages request.message request.value ∷ []

-- the line of the home: its place, its variables, the requests that it holds in order of arrival,
-- and its debts in the order of the remotes
abbrev pub home_state_line : NumberedProtocol → Config → Text
home_state_line protocol c =
    process_text None
    ++ (home_place_text protocol.home c.home.place
    ++ (vars_text protocol.home.vars c.home.vars
    ++ (codes " held" ++ (bracketed (map (held_text protocol.messages) c.held)
    ++ (codes " owed" ++ (bracketed (flat_from (debt_texts protocol.messages) 0 c.home.owed)
    ++ codes "\n"))))))

-- the line of remote j, which stands so: its place, its variables, its slot, and the packets on its
-- links, the first one first
abbrev pub remote_line_of : NumberedProtocol → List LinkPair → ℕ → RemoteState → Text
remote_line_of protocol links j remote =
    process_text (Some j)
    ++ (remote_place_text protocol.remote remote.place
    ++ (vars_text protocol.remote.vars remote.vars
    ++ (codes " slot" ++ (bracketed (slot_texts protocol.messages remote.slot)
    ++ (codes " up" ++ (bracketed (map (packet_text protocol.messages) (links_at links j).up)
    ++ (codes " down" ++ (bracketed (map (packet_text protocol.messages) (links_at links j).down)
    ++ codes "\n"))))))))

-- the line of remote j; no text where there is no such remote
abbrev pub remote_state_line : NumberedProtocol → Config → ℕ → Text
remote_state_line protocol c j =
    option_map_or (remote_line_of protocol c.links j) (slice_get c.remotes j) []

-- the lines of all remotes, in the order of their numbers
abbrev pub remote_state_lines : NumberedProtocol → Config → Text
remote_state_lines protocol c = flat_from (remote_line_of protocol c.links) 0 c.remotes
