-- Sets of numbers below 64, of remotes or of states: a set is a number whose bit j is 1 exactly
-- where j is in it.
use Rattle.std.specs.Prelude.{ℕ, zero, suc, ◌+◌, ◌-◌, ◌^◌, Bool, ◌==◌, nat_lt, if◌then◌else◌, List}
use Rattle.std.specs.Prelude.{[], ◌∷◌, ◌++◌, bit_or}
use Rattle.std.specs.Int.{bit_at}

-- the set has the number
abbrev pub has_number : ℕ → ℕ → Bool
has_number set j = bit_at set j == 1

-- The set with the number. A set has room for the numbers below 64 alone.
abbrev pub with_number : ℕ → ℕ → ℕ
with_number set j = if nat_lt j 64 then bit_or set (2 ^ j) else set

-- the set without the number
abbrev pub without_number : ℕ → ℕ → ℕ
without_number set j = if has_number set j then set - 2 ^ j else set

-- the set of the numbers below n that pass the test
unfoldable pub numbers_below : (ℕ → Bool) → ℕ → ℕ
numbers_below test zero = 0
numbers_below test (suc n) = numbers_below test n + (if test n then 2 ^ n else 0)

-- the numbers below n in the set, in ascending order
unfoldable pub members_below : ℕ → ℕ → List ℕ
members_below set zero = []
members_below set (suc n) = members_below set n ++ (if has_number set n then n ∷ [] else [])

-- the numbers in the set, in ascending order
abbrev pub members : ℕ → List ℕ
members set = members_below set 64
