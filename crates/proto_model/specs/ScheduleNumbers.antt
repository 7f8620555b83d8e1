-- The numbers that a line of a schedule says.
use Rattle.std.specs.Prelude.{ℕ, Option}
use Rattle.rv_base.specs.Numbers.{number_of}
use Rattle.proto_model.specs.Tokens.{Text}

-- The number from 0 to 99,999 whose decimal text the word is.
abbrev pub number : Text → Option ℕ
number word = number_of word 99999
