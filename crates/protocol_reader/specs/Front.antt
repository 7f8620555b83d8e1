-- The lexeme in front of some bytes.
use Rattle.std.specs.Prelude.{ℕ, Bool, false, ◌||◌, List, [], ◌∷◌}
use Rattle.proto_model.specs.Tokens.{Text, is_space}
use Rattle.proto_model.specs.Lexemes.{Lexeme, begins_comment, cut}

-- a white space byte or a comment stands in front
abbrev pub begins_gap : Text → Bool
begins_gap [] = false
begins_gap (b ∷ bs) = is_space b || begins_comment (b ∷ bs)

-- The lexemes from one with this text on this line, with these bytes behind it, on. The empty text
-- is that of the end of the file, behind which nothing stands.
abbrev pub lexemes_from : Text → ℕ → Text → List Lexeme
lexemes_from [] line behind = record { text = []; line = line } ∷ []
lexemes_from (b ∷ bs) line behind = record { text = b ∷ bs; line = line } ∷ cut false line behind
