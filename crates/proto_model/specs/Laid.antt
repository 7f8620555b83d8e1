-- Tokens laid in bytes: what a file that has these tokens looks like.
use Rattle.std.specs.Prelude.{◌≡◌, ◌≢◌, ℕ, true, false, List, [], ◌∷◌, ◌++◌, Option, Some, None}
use Rattle.proto_model.specs.Tokens.{Text, is_space, begins_word}

-- What may stand between tokens: a white space byte, or a comment with the LF behind it.
pub data Piece : Type 0 where
  Space : ℕ → Piece
  Comment : Text → Piece

-- a comment is // and then any bytes but LF
abbrev pub piece : Piece → Text
piece (Space b) = b ∷ []
piece (Comment text) = 47 ∷ 47 ∷ text ++ 10 ∷ []

-- no byte is LF
abbrev pub NoLineFeed : Text → Type 0
NoLineFeed [] = Unit {0}
NoLineFeed (b ∷ bs) = (b ≢ 10) × NoLineFeed bs

-- the byte is white space, and the text of a comment has no LF
abbrev pub IsPiece : Piece → Type 0
IsPiece (Space b) = is_space b ≡ true
IsPiece (Comment text) = NoLineFeed text

-- a gap: any number of white space bytes and comments
abbrev pub gap : List Piece → Text
gap [] = []
gap (p ∷ ps) = piece p ++ gap ps

-- each piece is one
abbrev pub IsGap : List Piece → Type 0
IsGap [] = Unit {0}
IsGap (p ∷ ps) = IsPiece p × IsGap ps

-- the last comment of a file may be ended by the end of the file, without LF
abbrev pub last_comment : Option Text → Text
last_comment None = []
last_comment (Some text) = 47 ∷ 47 ∷ text

-- the text of the last comment, where there is one, has no LF
abbrev pub IsLastComment : Option Text → Type 0
IsLastComment None = Unit {0}
IsLastComment (Some text) = NoLineFeed text

-- Two word tokens never touch: behind a token that begins with a letter, a digit or _ stands none
-- of these.
abbrev pub Apart : Text → Text → Type 0
Apart token rest = begins_word token ≡ true → begins_word rest ≡ false

-- The bytes are a gap, then for each token its spelling and a gap, and at the end perhaps a last
-- comment. Two word tokens never touch.
abbrev pub Laid : Text → List Text → Type 0
Laid bytes [] =
    (g : List Piece) × (last : Option Text) × IsGap g × IsLastComment last
    × (bytes ≡ gap g ++ last_comment last)
Laid bytes (token ∷ tokens) =
    (g : List Piece) × (rest : Text) × IsGap g × (bytes ≡ gap g ++ (token ++ rest))
    × Apart token rest × Laid rest tokens
