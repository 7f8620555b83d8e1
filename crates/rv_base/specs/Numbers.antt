-- The number that bytes write in decimal.
use Rattle.std.specs.Prelude.{◌≡◌, ◌≢◌, ℕ, ◌≤◌, length, slice_index, nat_le, ◌&&◌, if◌then◌else◌}
use Rattle.std.specs.Prelude.{List, Some, None, decimal, bytes_eq}
use Rattle.std.specs.Str.Parse.{digits_value}
use Rattle.std.specs.declared.option.Option.{Option}

-- Some: the number is at most `most`, and the bytes are its decimal text, which has no leading
-- zeros. None: the bytes are the decimal text of no such number.
abbrev pub ReadsNumber : List ℕ → ℕ → Option ℕ → Type 0
ReadsNumber text most (Some number) = (number ≤ most) × (text ≡ decimal number)
ReadsNumber text most None = (number : ℕ) → number ≤ most → text ≢ decimal number

-- The number of at most `most` whose decimal text the bytes are. It can only be the value that the
-- bytes have as digits, so it is there exactly where that value is at most `most` and its decimal
-- text gives the bytes back.
unfoldable pub number_of : List ℕ → ℕ → Option ℕ
number_of text most =
    if bytes_eq text (decimal (digits_value 10 text)) && nat_le (digits_value 10 text) most
    then Some (digits_value 10 text)
    else None

-- The first byte is a digit, and no zero before others.
abbrev pub LeadsWell : List ℕ → Type 0
LeadsWell text =
    (48 ≤ slice_index text 0)
    × (slice_index text 0 ≤ 57)
    × (slice_index text 0 ≡ 48 → length text ≡ 1)
