-- A word says a number where it is its decimal text, and the number has at most five digits.
use Rattle.std.proofs.Common.{◌≡◌, ℕ, Some, decimal, arith}
use Rattle.rv_base.proofs.DecimalText.{number_of-Some, number_of-decimal}
use Rattle.proto_model.specs.Tokens.{Text, IsNumber}
use Rattle.proto_model.specs.ScheduleNumbers.{number}

pub number-is : (word : Text) (n : ℕ) → number word ≡ Some n → (word ≡ decimal n) × IsNumber n
number-is word n e = let h = number_of-Some word 99999 n e in (h.1, omega (arith, h.0))

pub number-decimal : (n : ℕ) → IsNumber n → number (decimal n) ≡ Some n
number-decimal n small = number_of-decimal 99999 n (omega arith) (omega (arith, small))
