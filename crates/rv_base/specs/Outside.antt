-- What a read and a write do to the bytes of what they are called on, to its counts of faults and
-- of calls without memory, and what they answer.
use Rattle.std.specs.Prelude.{◌≡◌, Bool, true, false, ℕ, ◌+◌, ◌-◌, ◌^◌, ◌≤◌, min, List, length}
use Rattle.std.specs.Prelude.{take, IsNone}
use Rattle.std.specs.declared.option.Option.{Option}
use Rattle.std.specs.Io.KnownBytes.{prepend_known, append_known, IsAtEnd}
use Rattle.rv_base.specs.declared.outside.ReadAnswer.{ReadAnswer}
use Rattle.rv_base.specs.declared.outside.ReadAnswer.TheVariants.{Got, End, Failed, NoMemory}
use Rattle.rv_base.specs.declared.outside.WriteAnswer.{WriteAnswer}
use Rattle.rv_base.specs.declared.outside.WriteAnswer.TheVariants.{Took, Failed as WriteFailed}
use Rattle.rv_base.specs.declared.outside.WriteAnswer.TheVariants.{NoMemory as WriteNoMemory}

-- A count after one more: it stands still at 2^64 - 1, the last value of a counter.
abbrev pub counted : ℕ → ℕ
counted count = min (count + 1) (2 ^ 64 - 1)

-- A count rose: it is greater than before, or stands at 2^64 - 1, where counting stops.
abbrev pub Rose : ℕ → ℕ → Type 0
Rose before now = counted before ≤ now

-- A count before and after: it rose where this is so, and else it stays.
abbrev pub RisesWhere : Bool → ℕ → ℕ → Type 0
RisesWhere true before now = (before ≤ now) × Rose before now
RisesWhere false before now = now ≡ before

-- A count before and after: it may have risen where this is so, and else it stays.
abbrev pub MayRise : Bool → ℕ → ℕ → Type 0
MayRise true before now = before ≤ now
MayRise false before now = now ≡ before

-- The read failed.
abbrev pub read_failed : ReadAnswer → Bool
read_failed (Got count) = false
read_failed End = false
read_failed Failed = true
read_failed NoMemory = false

-- The write failed.
abbrev pub write_failed : WriteAnswer → Bool
write_failed (Took count) = false
write_failed WriteFailed = true
write_failed WriteNoMemory = false

-- There was no memory for the read.
abbrev pub read_wants : ReadAnswer → Bool
read_wants (Got count) = false
read_wants End = false
read_wants Failed = false
read_wants NoMemory = true

-- There was no memory for the write.
abbrev pub write_wants : WriteAnswer → Bool
write_wants (Took count) = false
write_wants WriteFailed = false
write_wants WriteNoMemory = true

-- The bytes left before and after a read, and what it left in the buffer. Got: at least one byte
-- and no more than the buffer holds stand at its front, and were the next ones left. End: nothing
-- is left, where that is told. Want of memory comes only where the bytes left aren't told. After
-- each answer but Got the bytes left stay.
abbrev pub ReadMoves : Option (List ℕ) → Option (List ℕ) → List ℕ → ReadAnswer → Type 0
ReadMoves old new into (Got count) =
    (1 ≤ count) × (count ≤ length into) × (old ≡ prepend_known (take count into) new)
ReadMoves old new into End = (new ≡ old) × IsAtEnd old
ReadMoves old new into Failed = new ≡ old
ReadMoves old new into NoMemory = (new ≡ old) × IsNone old

-- Whether the last read of a source answered End, after a read.
abbrev pub ReadEnds : Bool → ReadAnswer → Type 0
ReadEnds now (Got count) = now ≡ false
ReadEnds now End = now ≡ true
ReadEnds now Failed = now ≡ false
ReadEnds now NoMemory = now ≡ false

-- The bytes taken before and after a write of a piece. Took: a front of the piece, of at least
-- one byte, follows what was taken before. After each other answer the bytes taken stay.
abbrev pub WriteMoves : Option (List ℕ) → Option (List ℕ) → List ℕ → WriteAnswer → Type 0
WriteMoves old new piece (Took count) =
    (1 ≤ count) × (count ≤ length piece) × (new ≡ append_known old (take count piece))
WriteMoves old new piece WriteFailed = new ≡ old
WriteMoves old new piece WriteNoMemory = new ≡ old
