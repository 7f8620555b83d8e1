-- The bytes of a file cut into lexemes from the front, each with its line.
use Rattle.std.specs.Prelude.{ℕ, ◌+◌, Bool, true, false, not, ◌&&◌, ◌==◌, if◌then◌else◌}
use Rattle.std.specs.Prelude.{List, [], ◌∷◌}
use Rattle.proto_model.specs.Tokens.{Text, is_word, is_space, begins_word}

-- A lexeme is its text, and the line on which it begins.
pub record Lexeme : Type 0 where
  pub text : Text
  pub line : ℕ

-- the line behind this byte: an LF ends a line
abbrev pub line_after : ℕ → ℕ → ℕ
line_after b line = if b == 10 then line + 1 else line

-- two slashes stand in front
abbrev pub begins_comment : Text → Bool
begins_comment (b ∷ c ∷ _) = (b == 47) && (c == 47)
begins_comment _ = false

-- the byte in front of the first lexeme
abbrev pub in_front : ℕ → List Lexeme → List Lexeme
in_front b [] = []
in_front b (l ∷ ls) = record { text = b ∷ l.text; line = l.line } ∷ ls

-- The lexemes of bytes that begin on this line, within a comment or not. White space and comments
-- are skipped, a comment up to its LF. A maximal run of letters, digits and _ is one lexeme, every
-- other byte is one by itself. The end of the file is a last lexeme, which is empty.
unfoldable pub cut : Bool → ℕ → Text → List Lexeme
cut in_comment line [] = record { text = []; line = line } ∷ []
cut true line (b ∷ bs) = cut (not (b == 10)) (line_after b line) bs
cut false line (b ∷ bs) =
    if is_space b then cut false (line_after b line) bs
    else (if begins_comment (b ∷ bs) then cut true line bs
    else (if is_word b && begins_word bs then in_front b (cut false line bs)
    else (record { text = b ∷ []; line = line } ∷ cut false line bs)))

-- the lexemes of a file, whose lines count from 1
abbrev pub lexemes : Text → List Lexeme
lexemes bytes = cut false 1 bytes
