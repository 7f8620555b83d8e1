-- The pairs of a protocol, the way the compiler keeps them: the replies of up and of down messages
-- apart.
use Rattle.std.specs.Prelude.{◌≡◌, ℕ, if◌then◌else◌, List, length, map, Option, Some, None, zip}
use Rattle.std.specs.List.{range_with_len}
use Rattle.proto_model.specs.Numbered.{NumberedProtocol}
use Rattle.proto_model.specs.Pairs.{goes_up, goes_down, reply_of}
use Rattle.proto_model.specs.declared.mode.Mode.{Mode}
use Rattle.request_reply.specs.declared.pairs.Pairs.{Pairs}

-- the reply of each up message, and none at the places of down messages
abbrev pub up_replies : NumberedProtocol → Mode → List (Option ℕ)
up_replies protocol mode =
    map (λ m. if goes_up protocol m then reply_of protocol mode m else None)
    (range_with_len 0 (length protocol.messages))

-- the reply of each down message, and none at the places of up messages
abbrev pub down_replies : NumberedProtocol → Mode → List (Option ℕ)
down_replies protocol mode =
    map (λ m. if goes_down protocol m then reply_of protocol mode m else None)
    (range_with_len 0 (length protocol.messages))

-- these are the pairs of the protocol in this mode
pub record ArePairs (protocol : NumberedProtocol) (mode : Mode) (pairs : Pairs) : Type 0 where
  pub up : pairs.up ≡ up_replies protocol mode
  pub down : pairs.down ≡ down_replies protocol mode

-- the one that is there, where only one is
abbrev pub either : Option ℕ × Option ℕ → Option ℕ
either (Some p, down) = Some p
either (None, down) = down

-- the reply of each message
abbrev pub replies_in : Pairs → List (Option ℕ)
replies_in pairs = map either (zip pairs.up pairs.down)
