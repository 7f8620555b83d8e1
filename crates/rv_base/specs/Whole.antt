-- What reading a source to its end and writing a text whole do to the bytes, and what is counted.
use Rattle.std.specs.Prelude.{◌≡◌, Bool, true, false, ℕ, ◌+◌, ◌≤◌, ◌<◌, List, length, take}
use Rattle.std.specs.declared.option.Option.{Option}
use Rattle.std.specs.Io.KnownBytes.{prepend_known, append_known, IsAtEnd}
use Rattle.rv_base.specs.declared.whole.Gathered.{Gathered}
use Rattle.rv_base.specs.declared.whole.Gathered.TheVariants.{Whole, TooLong, Failed, NoMemory}
use Rattle.rv_base.specs.declared.whole.Wrote.{Wrote}
use Rattle.rv_base.specs.declared.whole.Wrote.TheVariants.{Whole as WroteWhole}
use Rattle.rv_base.specs.declared.whole.Wrote.TheVariants.{Failed as WriteFailed}
use Rattle.rv_base.specs.declared.whole.Wrote.TheVariants.{NoMemory as WriteNoMemory}

-- The most bytes that a protocol file may have.
abbrev pub file_limit : ℕ
file_limit = 65536

-- A front of at most so many bytes is no longer left.
abbrev pub TakesAtMost : ℕ → Option (List ℕ) → Option (List ℕ) → Type 0
TakesAtMost most old new =
    (front : List ℕ) × (length front ≤ most) × (old ≡ prepend_known front new)

-- The bytes left before and after a source is read whole, up to a limit. Whole: the bytes answered
-- are all that was left, no more than the limit, and it was read to its end. TooLong: it gave one
-- byte more than the limit. Failed: at most as many bytes as the limit were taken. Want of memory:
-- at most one more than the limit was taken.
abbrev pub Reads : ℕ → Option (List ℕ) → Option (List ℕ) → Gathered → Type 0
Reads limit old new (Whole bytes) =
    (length bytes.items ≤ limit) × (old ≡ prepend_known bytes.items new) × IsAtEnd new
Reads limit old new TooLong =
    (front : List ℕ) × (length front ≡ limit + 1) × (old ≡ prepend_known front new)
Reads limit old new Failed = TakesAtMost limit old new
Reads limit old new NoMemory = TakesAtMost (limit + 1) old new

-- Whether the last read of a source answered End, after it is read whole: it did where all that was
-- left is answered, and only there.
abbrev pub ReadsToEnd : Bool → Gathered → Type 0
ReadsToEnd now (Whole bytes) = now ≡ true
ReadsToEnd now TooLong = now ≡ false
ReadsToEnd now Failed = now ≡ false
ReadsToEnd now NoMemory = now ≡ false

-- A read failed while a source was read whole.
abbrev pub gathering_failed : Gathered → Bool
gathering_failed (Whole bytes) = false
gathering_failed TooLong = false
gathering_failed Failed = true
gathering_failed NoMemory = false

-- There was no memory while a source was read whole: none for a read, or none for the bytes
-- gathered.
abbrev pub gathering_wants : Gathered → Bool
gathering_wants (Whole bytes) = false
gathering_wants TooLong = false
gathering_wants Failed = false
gathering_wants NoMemory = true

-- A front of the text, and not the whole of it, follows what was taken before.
abbrev pub TakesPart : Option (List ℕ) → Option (List ℕ) → List ℕ → Type 0
TakesPart old new text =
    (count : ℕ) × (count < length text) × (new ≡ append_known old (take count text))

-- The bytes taken before and after a text is written whole: all of the text follows them, or,
-- after a failure or want of memory, a part of it.
abbrev pub Writes : Option (List ℕ) → Option (List ℕ) → List ℕ → Wrote → Type 0
Writes old new text WroteWhole = new ≡ append_known old text
Writes old new text WriteFailed = TakesPart old new text
Writes old new text WriteNoMemory = TakesPart old new text

-- A write failed while a text was written whole.
abbrev pub writing_failed : Wrote → Bool
writing_failed WroteWhole = false
writing_failed WriteFailed = true
writing_failed WriteNoMemory = false

-- There was no memory for a write while a text was written whole.
abbrev pub writing_wants : Wrote → Bool
writing_wants WroteWhole = false
writing_wants WriteFailed = false
writing_wants WriteNoMemory = true
