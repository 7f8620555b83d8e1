-- A name is ASCII, so it is text.
use Rattle.std.proofs.Common.{◌≡◌, ◌<◌, ℕ, true, [], ◌∷◌, zero, suc, arith}
use Rattle.std.specs.Str.{IsAscii, IsUtf8}
use Rattle.std.proofs.lemmas.Str.{IsUtf8-from_ascii}
use Rattle.std.proofs.lemmas.Bool.Decides.{nat_tests}
use Rattle.proto_model.specs.Tokens.{Text, is_word, AllWord}

is_word-ascii : (b : ℕ) → is_word b ≡ true → b < 128
unfolding is_word
is_word-ascii b word = grind (arith, nat_tests)

AllWord-ascii : (text : Text) → AllWord text → IsAscii text
AllWord-ascii [] words place = omega arith
AllWord-ascii (b ∷ bs) words zero = is_word-ascii b words.0
AllWord-ascii (b ∷ bs) words (suc place) = AllWord-ascii bs words.1 place

pub AllWord-text : (text : Text) → AllWord text → IsUtf8 text
AllWord-text text words = IsUtf8-from_ascii text (AllWord-ascii text words)
