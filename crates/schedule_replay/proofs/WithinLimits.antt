-- What the tests of the limits of lines answer.
use Rattle.std.proofs.Common.{◌≡◌, ℕ, ◌<◌, ◌≤◌, List, length, true, false, nat_le, nat_lt, arith}
use Rattle.std.proofs.lemmas.Grind.{common_steps}

pub few-lines : (most before : ℕ) → before < most → nat_le most before ≡ false
few-lines most before few = grind (arith, common_steps)

pub many-lines : (most before : ℕ) → most ≤ before → nat_le most before ≡ true
many-lines most before full = grind (arith, common_steps)

pub short-line : (most : ℕ) (line : List ℕ) → length line ≤ most
    → nat_lt most (length line) ≡ false
short-line most line fits = grind (arith, common_steps)

pub long-line : (most : ℕ) (line : List ℕ) → most < length line
    → nat_lt most (length line) ≡ true
long-line most line long = grind (arith, common_steps)
