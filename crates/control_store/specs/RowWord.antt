-- The word of a row: the 16 bytes that stand for it in an image, and the row that a word stands
-- for.
use Rattle.std.specs.Prelude.{◌≡◌, ℕ, ◌<◌, List, [], ◌∷◌, ◌++◌, Option, Some, None}
use Rattle.controller_table.specs.declared.rows.GuardId.{GuardId}
use Rattle.controller_table.specs.declared.rows.Place.{Place}
use Rattle.controller_table.specs.declared.rows.Place.TheVariants.{Comm, Trans, Due}
use Rattle.controller_table.specs.declared.rows.Trigger.{Trigger}
use Rattle.controller_table.specs.declared.rows.Trigger.TheVariants.{Tau, Send, Pay, Take, Answer}
use Rattle.controller_table.specs.declared.rows.Trigger.TheVariants.{AnswerNone, GotAck, GotNack}
use Rattle.controller_table.specs.declared.rows.Trigger.TheVariants.{GotReply, GotRequest}
use Rattle.controller_table.specs.declared.rows.Puts.{Puts}
use Rattle.controller_table.specs.declared.rows.Puts.TheVariants as puts
use Rattle.controller_table.specs.declared.rows.Does.{Does}
use Rattle.controller_table.specs.declared.rows.Does.TheVariants as does
use Rattle.controller_table.specs.declared.rows.Row.{Row}

-- ---- the bytes of a row

-- two bytes: the place of the guard's state, and its number within the state
abbrev pub guard_bytes : GuardId → List ℕ
guard_bytes g = g.state ∷ g.guard ∷ []

-- Three bytes. 0, a communication state, and 0; 1 and the guard of a transient state; 2 and the
-- guard of a reply that is due.
abbrev pub place_bytes : Place → List ℕ
place_bytes (Comm state) = 0 ∷ state ∷ 0 ∷ []
place_bytes (Trans g) = 1 ∷ guard_bytes g
place_bytes (Due g) = 2 ∷ guard_bytes g

-- Two bytes: the kind of the trigger, and the number of its guard or its message, or 0 where it has
-- neither.
abbrev pub trigger_bytes : Trigger → List ℕ
trigger_bytes (Tau guard) = 0 ∷ guard ∷ []
trigger_bytes (Send guard) = 1 ∷ guard ∷ []
trigger_bytes (Pay guard) = 2 ∷ guard ∷ []
trigger_bytes (Take guard) = 3 ∷ guard ∷ []
trigger_bytes (Answer guard) = 4 ∷ guard ∷ []
trigger_bytes AnswerNone = 5 ∷ 0 ∷ []
trigger_bytes GotAck = 6 ∷ 0 ∷ []
trigger_bytes GotNack = 7 ∷ 0 ∷ []
trigger_bytes (GotReply message) = 8 ∷ message ∷ []
trigger_bytes GotRequest = 9 ∷ 0 ∷ []

-- Two bytes: the kind of what is put or owed, and its message, or 0 where it has none.
abbrev pub puts_bytes : Puts → List ℕ
puts_bytes puts.Nothing = 0 ∷ 0 ∷ []
puts_bytes (puts.Request message) = 1 ∷ message ∷ []
puts_bytes puts.Ack = 2 ∷ 0 ∷ []
puts_bytes puts.Nack = 3 ∷ 0 ∷ []
puts_bytes (puts.Reply message) = 4 ∷ message ∷ []
puts_bytes (puts.Owe message) = 5 ∷ message ∷ []

-- Five bytes: how many guards are completed, and the two bytes of the first and of the second, each
-- 0 where there is no such guard.
abbrev pub does_bytes : Does → List ℕ
does_bytes does.Nothing = 0 ∷ 0 ∷ 0 ∷ 0 ∷ 0 ∷ []
does_bytes (does.One g) = 1 ∷ (guard_bytes g ++ 0 ∷ 0 ∷ [])
does_bytes (does.Two g h) = 2 ∷ (guard_bytes g ++ guard_bytes h)

-- The word of a row, 16 bytes: its place, its trigger, what it puts, the guards that it completes,
-- its next place, and a 0.
abbrev pub row_word : Row → List ℕ
row_word row =
    place_bytes row.at ++ (trigger_bytes row.on ++ (puts_bytes row.puts
    ++ (does_bytes row.does ++ (place_bytes row.to ++ 0 ∷ []))))

-- ---- rows in range

-- a process has at most 64 states
abbrev pub IsState : ℕ → Type 0
IsState state = state < 64

-- a state has at most 16 guards
abbrev pub IsGuard : ℕ → Type 0
IsGuard guard = guard < 16

-- a protocol has at most 64 messages
abbrev pub IsMessage : ℕ → Type 0
IsMessage message = message < 64

-- its state and its number are in range
abbrev pub IsGuardInRange : GuardId → Type 0
IsGuardInRange g = IsState g.state × IsGuard g.guard

-- its state, or its guard, is in range
abbrev pub IsPlaceInRange : Place → Type 0
IsPlaceInRange (Comm state) = IsState state
IsPlaceInRange (Trans g) = IsGuardInRange g
IsPlaceInRange (Due g) = IsGuardInRange g

-- its guard, or its message, is in range
abbrev pub IsTriggerInRange : Trigger → Type 0
IsTriggerInRange (Tau guard) = IsGuard guard
IsTriggerInRange (Send guard) = IsGuard guard
IsTriggerInRange (Pay guard) = IsGuard guard
IsTriggerInRange (Take guard) = IsGuard guard
IsTriggerInRange (Answer guard) = IsGuard guard
IsTriggerInRange AnswerNone = Unit {0}
IsTriggerInRange GotAck = Unit {0}
IsTriggerInRange GotNack = Unit {0}
IsTriggerInRange (GotReply message) = IsMessage message
IsTriggerInRange GotRequest = Unit {0}

-- its message is in range
abbrev pub ArePutsInRange : Puts → Type 0
ArePutsInRange puts.Nothing = Unit {0}
ArePutsInRange (puts.Request message) = IsMessage message
ArePutsInRange puts.Ack = Unit {0}
ArePutsInRange puts.Nack = Unit {0}
ArePutsInRange (puts.Reply message) = IsMessage message
ArePutsInRange (puts.Owe message) = IsMessage message

-- each guard is in range
abbrev pub IsDoesInRange : Does → Type 0
IsDoesInRange does.Nothing = Unit {0}
IsDoesInRange (does.One g) = IsGuardInRange g
IsDoesInRange (does.Two g h) = IsGuardInRange g × IsGuardInRange h

-- Each state and each message of the row is below 64, and each number of a guard below 16.
pub record IsInRange (row : Row) : Type 0 where
  pub at : IsPlaceInRange row.at
  pub on : IsTriggerInRange row.on
  pub puts : ArePutsInRange row.puts
  pub does : IsDoesInRange row.does
  pub to : IsPlaceInRange row.to

-- ---- what bytes stand for

-- The answer is what these bytes stand for: the one thing in range of which they are the bytes; or
-- there is none of which they are.
abbrev pub Decodes : {A : Type 0} → (A → Type 0) → (A → List ℕ) → List ℕ → Option A → Type 0
Decodes InRange bytes_of bytes None = (x : _) → InRange x → bytes ≡ bytes_of x → ⊥
Decodes InRange bytes_of bytes (Some x) = InRange x × (bytes ≡ bytes_of x)

-- The word stands for this row, which is in range; or it stands for none that is.
abbrev pub DecodesRow : List ℕ → Option Row → Type 0
DecodesRow word row = Decodes IsInRange row_word word row
