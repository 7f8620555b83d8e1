-- What the steps of the loop that replays a schedule do: asking for a line, playing one, ending.
use Rattle.std.specs.Prelude.{◌≡◌, ◌⊎◌, ℕ, ◌+◌, List, [], ◌++◌, take, Bool, false, Some, None}
use Rattle.std.specs.Prelude.{Result, Ok, Err, IfSome}
use Rattle.std.specs.declared.option.Option.{Option}
use Rattle.std.specs.Io.KnownBytes.{append_known}
use Rattle.schedule_replay.specs.Reading.{Reading}
use Rattle.schedule_replay.specs.NextLine.{GetsLine, FindsEnd, FindsLong, FindsMany, Breaks, Lacks}
use Rattle.schedule_replay.specs.Play.{Play}
use Rattle.schedule_replay.specs.Played.{Stop, stopped, behind, numbered_block, claim_text}
use Rattle.schedule_replay.specs.Played.{played, trace}
use Rattle.schedule_replay.specs.Replayed.{answer_of, LeavesAt, BreaksOff, blocks_taken}
use Rattle.schedule_replay.specs.Replayed.{replay_read_failed, replay_write_failed, replay_wants}
use Rattle.schedule_replay.specs.declared.limits.Limits.{Limits}
use Rattle.schedule_replay.specs.declared.lines.NextLine.{NextLine}
use Rattle.schedule_replay.specs.declared.lines.NextLine.TheVariants as next
use Rattle.schedule_replay.specs.declared.player.Meaning.TheVariants.{Blank, Says, Bad}
use Rattle.schedule_replay.specs.declared.replaying.Replayed.{Replayed}
use Rattle.schedule_replay.specs.declared.replaying.Replayed.TheVariants as replayed

-- A front of a text was written.
abbrev pub PutsFront : Option (List ℕ) → List ℕ → Option (List ℕ) → Type 0
PutsFront before text now = (count : ℕ) × (now ≡ append_known before (take count text))

-- The line that was got, or how the replay ends.
abbrev pub said : NextLine → Result ℕ Replayed
said (next.Got number) = Ok number
said next.End = Err replayed.Done
said (next.TooLong number) = Err (replayed.BadLine number)
said next.TooMany = Err replayed.TooManyLines
said next.ReadFault = Err replayed.ReadFault
said next.NoMemory = Err replayed.NoMemory

-- The reading and the bytes left in the source, before and after the next line was asked for, where
-- there is none.
abbrev pub AskEnds : Limits → Reading → Reading → Option (List ℕ) → Option (List ℕ) → Replayed
    → Type 0
AskEnds limits old new before after replayed.Done = FindsEnd old new before after
AskEnds limits old new before after (replayed.BadLine number) =
    FindsLong limits old new before after number
AskEnds limits old new before after replayed.TooManyLines = FindsMany limits old new before after
AskEnds limits old new before after (replayed.ClaimBroken claim) = ⊥
AskEnds limits old new before after replayed.ReadFault = Breaks limits old new before after
AskEnds limits old new before after replayed.WriteFault = after ≡ before
AskEnds limits old new before after replayed.NoMemory = Lacks limits old before after

-- The same whatever asking answers.
abbrev pub AskMoves : Limits → Reading → Reading → Option (List ℕ) → Option (List ℕ)
    → Result ℕ Replayed → Type 0
AskMoves limits old new before after (Ok number) = GetsLine limits old new before after number
AskMoves limits old new before after (Err answer) = AskEnds limits old new before after answer

-- What is kept, and the bytes written: nothing was written, or all that was kept, and nothing is
-- kept then.
abbrev pub Moved : List ℕ → List ℕ → Option (List ℕ) → Option (List ℕ) → Type 0
Moved old new before now =
    ((new ≡ old) × (now ≡ before)) ⊎ ((new ≡ []) × (now ≡ append_known before old))

-- The same where there is no line. After a read fault all that was kept is written. Where writing
-- fails, or memory lacks, a front of it is.
abbrev pub AskKeeps : List ℕ → List ℕ → Option (List ℕ) → Option (List ℕ) → Replayed → Type 0
AskKeeps old new before now replayed.Done = Moved old new before now
AskKeeps old new before now (replayed.BadLine number) = Moved old new before now
AskKeeps old new before now replayed.TooManyLines = Moved old new before now
AskKeeps old new before now (replayed.ClaimBroken claim) = Moved old new before now
AskKeeps old new before now replayed.ReadFault = (new ≡ []) × (now ≡ append_known before old)
AskKeeps old new before now replayed.WriteFault = PutsFront before old now
AskKeeps old new before now replayed.NoMemory = PutsFront before old now

-- The same whatever asking answers.
abbrev pub AskWrites : List ℕ → List ℕ → Option (List ℕ) → Option (List ℕ) → Result ℕ Replayed
    → Type 0
AskWrites old new before now (Ok number) = Moved old new before now
AskWrites old new before now (Err answer) = AskKeeps old new before now answer

-- A read failed.
abbrev pub ask_read_failed : Result ℕ Replayed → Bool
ask_read_failed (Ok number) = false
ask_read_failed (Err answer) = replay_read_failed answer

-- A write failed.
abbrev pub ask_write_failed : Result ℕ Replayed → Bool
ask_write_failed (Ok number) = false
ask_write_failed (Err answer) = replay_write_failed answer

-- There was no memory, of the schedule's, of the sink's or for the line.
abbrev pub ask_wants : Result ℕ Replayed → Bool
ask_wants (Ok number) = false
ask_wants (Err answer) = replay_wants answer

module _ {State Item : Type 0} (play : Play State Item) where
  -- An item that the line says was played after so many others, and its block stands behind what
  -- was kept.
  abbrev pub PlaysItem : State → State → ℕ → List ℕ → List ℕ → List ℕ → Type 0
  PlaysItem old new played line before kept =
      (item : Item) × (play.says line ≡ Says item) × (new ≡ play.after old item)
      × (kept ≡ before ++ numbered_block play played old item)

  -- The machine, how many items were played, and what is kept, before and after a line at which the
  -- schedule doesn't end. Nothing changes at a blank one.
  abbrev pub GoesOn : State → State → ℕ → ℕ → List ℕ → List ℕ → List ℕ → Type 0
  GoesOn old new played count line before kept =
      ((play.says line ≡ Blank) × (new ≡ old) × (count ≡ played) × (kept ≡ before))
      ⊎ (PlaysItem old new played line before kept × (play.halts new ≡ None) × (count ≡ played + 1))

  -- The same where the schedule ends at the line with this number.
  abbrev pub LineEnds : State → State → ℕ → List ℕ → ℕ → List ℕ → List ℕ → Replayed → Type 0
  LineEnds old new played line number before kept replayed.Done = ⊥
  LineEnds old new played line number before kept (replayed.BadLine bad) =
      (bad ≡ number) × (play.says line ≡ Bad) × (new ≡ old) × (kept ≡ before)
  LineEnds old new played line number before kept replayed.TooManyLines = ⊥
  LineEnds old new played line number before kept (replayed.ClaimBroken claim) =
      PlaysItem old new played line before kept × (play.halts new ≡ Some claim)
  LineEnds old new played line number before kept replayed.ReadFault = ⊥
  LineEnds old new played line number before kept replayed.WriteFault = ⊥
  LineEnds old new played line number before kept replayed.NoMemory = Unit {0}

  -- The same whether the schedule goes on or ends.
  abbrev pub PlaysLine : State → State → ℕ → ℕ → List ℕ → ℕ → List ℕ → List ℕ → Option Replayed
      → Type 0
  PlaysLine old new played count line number before kept None =
      GoesOn old new played count line before kept
  PlaysLine old new played count line number before kept (Some answer) =
      LineEnds old new played line number before kept answer

  -- The last text of a replay that ends so.
  abbrev pub last_of : State → Replayed → List ℕ
  last_of state replayed.Done = play.ending state
  last_of state (replayed.BadLine number) = []
  last_of state replayed.TooManyLines = []
  last_of state (replayed.ClaimBroken claim) = claim_text claim ++ play.ending state
  last_of state replayed.ReadFault = []
  last_of state replayed.WriteFault = []
  last_of state replayed.NoMemory = []

  -- All was written, and the answer stays; or a front of it was.
  abbrev pub EndsWith : Replayed → List ℕ → Option (List ℕ) → Option (List ℕ) → Replayed → Type 0
  EndsWith answer text before now result =
      ((result ≡ answer) × (now ≡ append_known before text))
      ⊎ (((result ≡ replayed.WriteFault) ⊎ (result ≡ replayed.NoMemory))
      × PutsFront before text now)

  -- How a replay ends where the machine halts at the start, whatever the schedule holds and whether
  -- it tells that or not: nothing was asked of the schedule, and the line that names the claim with
  -- what shows the machine behind it is all that was written; or writing failed or memory lacked,
  -- and a front of it was.
  abbrev pub EndsAtStart : State → Type 0 → Option (List ℕ) → Option (List ℕ) → Replayed → Type 0
  EndsAtStart start unasked before now result =
      IfSome (play.halts start) (λ claim. unasked
      × EndsWith (replayed.ClaimBroken claim) (last_of start (replayed.ClaimBroken claim)) before
      now result)

  module _ (limits : Limits) (start : State) where
    -- The schedule ends so, in this state: what was written and what is kept are its blocks.
    pub record Ending
        (text : List ℕ)
        (left before now : Option (List ℕ))
        (kept : List ℕ)
        (state : State)
        (result : Replayed)
        : Type 0 where
      pub stop : Stop
      pub answer : result ≡ answer_of stop
      pub leaves : LeavesAt limits stop text left
      pub gone : List ℕ
      pub written : now ≡ append_known before gone
      pub ends : played play limits start text ≡ behind (gone ++ kept) (stopped state stop)

    -- What was written is a front of the trace.
    pub record Cut (text : List ℕ) (before now : Option (List ℕ)) : Type 0 where
      pub gone : List ℕ
      pub rest : List ℕ
      pub written : now ≡ append_known before gone
      pub front : trace play limits start text ≡ gone ++ rest

    -- The lines of a schedule were played, whose bytes were told: the last text is still to come,
    -- and so is what is kept.
    abbrev pub PlaysLines : List ℕ → Option (List ℕ) → Option (List ℕ) → Option (List ℕ) → List ℕ
        → State → Replayed → Type 0
    PlaysLines text left before now kept state replayed.Done =
        Ending text left before now kept state replayed.Done
    PlaysLines text left before now kept state (replayed.BadLine number) =
        Ending text left before now kept state (replayed.BadLine number)
    PlaysLines text left before now kept state replayed.TooManyLines =
        Ending text left before now kept state replayed.TooManyLines
    PlaysLines text left before now kept state (replayed.ClaimBroken claim) =
        Ending text left before now kept state (replayed.ClaimBroken claim)
    PlaysLines text left before now kept state replayed.ReadFault =
        (taken : List ℕ) × BreaksOff play limits start text left taken
        × (now ≡ append_known before (blocks_taken play limits start taken))
    PlaysLines text left before now kept state replayed.WriteFault = Cut text before now
    PlaysLines text left before now kept state replayed.NoMemory = Cut text before now
