-- How many packets are on the links of a remote, by its phase.
use Rattle.std.proofs.Common.{◌≡◌, ℕ, ◌<◌, ◌≤◌, List, [], ◌∷◌, length, Option, Some, None}
use Rattle.std.proofs.Common.{sym, subst, arith}
use Rattle.ordered_links.specs.declared.packet.Packet.{Packet}
use Rattle.async_shape.specs.Setting.{Setting}
use Rattle.async_shape.specs.View.{View}
use Rattle.async_shape.specs.Phase.{Phase, Resting, RequestComes, RequestInSlot, AnswerGoes}
use Rattle.async_shape.specs.Phase.{ReplyIsDue, RequestGoes, RequestsCross, RequestCrossed}
use Rattle.async_shape.specs.Phase.{AnswerThenRequestGo, RequestIsHeld, AnswerComes, ReplyIsOwed}
use Rattle.async_shape.specs.Phase.{packets_of, down_list, signs_of, IsInPhase}
use Rattle.async_shape.specs.declared.config.Request.{Request}
use Rattle.async_shape.proofs.Phases.{IsIn, IdlePhase, Rests, Comes, InSlot, Answered, FreePhase}
use Rattle.async_shape.proofs.Phases.{FreeRests, FreeGoes, FreeComes}

-- an old request is one packet at most
few-old : (old : Option Request) → length (packets_of old) < 3
few-old None = omega arith
few-old (Some r) = omega arith

-- behind an old request an answer, and then one request at most
few-down : (old : Option Request) (answer : Packet) (awaited : Option Request)
    → length (down_list old answer awaited) ≤ 3
few-down None answer None = omega arith
few-down None answer (Some r) = omega arith
few-down (Some o) answer None = omega arith
few-down (Some o) answer (Some r) = omega arith

-- where the home doesn't wait on the remote, no request is behind the answer
fewer-down : (old : Option Request) (answer : Packet) → length (down_list old answer None) < 3
fewer-down None answer = omega arith
fewer-down (Some r) answer = omega arith

-- ---- the most that there are

-- on the up link
up-most : (phase : Phase) → length (signs_of phase).up ≤ 2
up-most Resting = omega arith
up-most (RequestComes r) = omega arith
up-most (RequestInSlot r) = omega arith
up-most (AnswerGoes r answer) = omega arith
up-most (ReplyIsDue r) = omega arith
up-most (RequestGoes q) = omega arith
up-most (RequestsCross q r) = omega arith
up-most (RequestCrossed q r) = omega arith
up-most (AnswerThenRequestGo q r answer) = omega arith
up-most (RequestIsHeld q old) = omega arith
up-most (AnswerComes q old answer awaited) = omega arith
up-most (ReplyIsOwed q old p) = omega arith

-- on the down link
down-most : (phase : Phase) → length (signs_of phase).down ≤ 3
down-most Resting = omega arith
down-most (RequestComes r) = omega arith
down-most (RequestInSlot r) = omega arith
down-most (AnswerGoes r answer) = omega arith
down-most (ReplyIsDue r) = omega arith
down-most (RequestGoes q) = omega arith
down-most (RequestsCross q r) = omega arith
down-most (RequestCrossed q r) = omega arith
down-most (AnswerThenRequestGo q r answer) = omega arith
down-most (RequestIsHeld q old) = omega (arith, few-old old)
down-most (AnswerComes q old answer awaited) = few-down old answer awaited
down-most (ReplyIsOwed q old p) = omega (arith, few-old old)

-- as many as there are of these
as_many : (n : ℕ) (packets these : List Packet) → packets ≡ these → length these < n
    → length packets < n
as_many n packets these same few = subst (λ (ps : List Packet). length ps < n) (sym same) few

module _ (setting : Setting) (v : View) where
  -- two packets at most come up
  pub length-up : IsInPhase setting v → length v.up ≤ 2
  length-up is =
      subst (λ (ps : List Packet). length ps ≤ 2) (sym is.has.up) (up-most is.phase)

  -- three packets at most come down
  pub length-down : IsInPhase setting v → length v.down ≤ 3
  length-down is =
      subst (λ (ps : List Packet). length ps ≤ 3) (sym is.has.down) (down-most is.phase)

  -- ---- room for one packet more

  -- the up link has room for one more
  abbrev pub HasRoomUp : Type 0
  HasRoomUp = length v.up < 2

  -- the down link has room for one more
  abbrev pub HasRoomDown : Type 0
  HasRoomDown = length v.down < 3

  -- up from an idle remote
  pub room-idle : IdlePhase setting v → HasRoomUp
  room-idle (Rests is) = as_many 2 v.up [] is.has.up (omega arith)
  room-idle (Comes r is) = as_many 2 v.up [] is.has.up (omega arith)
  room-idle (InSlot r is) = as_many 2 v.up [] is.has.up (omega arith)
  room-idle (Answered r answer is) = as_many 2 v.up (answer ∷ []) is.has.up (omega arith)

  -- up from a remote that is due to reply
  pub room-due : (r : Request) → IsIn setting v (ReplyIsDue r) → HasRoomUp
  room-due r is = as_many 2 v.up [] is.has.up (omega arith)

  -- down to a remote whose request is held
  pub room-held : (q : Request) (old : Option Request) → IsIn setting v (RequestIsHeld q old)
      → HasRoomDown
  room-held q old is = as_many 3 v.down (packets_of old) is.has.down (few-old old)

  -- down to a remote to which a reply is owed
  pub room-owed : (q : Request) (old : Option Request) (p : ℕ)
      → IsIn setting v (ReplyIsOwed q old p) → HasRoomDown
  room-owed q old p is = as_many 3 v.down (packets_of old) is.has.down (few-old old)

  -- down to a remote whose request is on its way
  pub room-goes : (q : Request) → IsIn setting v (RequestGoes q) → HasRoomDown
  room-goes q is = as_many 3 v.down [] is.has.down (omega arith)

  -- down to a remote to which the home may send a request
  pub room-free : FreePhase setting v → HasRoomDown
  room-free (FreeRests is) = as_many 3 v.down [] is.has.down (omega arith)
  room-free (FreeGoes q is) = room-goes q is
  room-free (FreeComes q old answer is) =
      as_many 3 v.down (down_list old answer None) is.has.down (fewer-down old answer)
