-- Where the lexemes of a file stand, and on which line.
use Rattle.std.specs.Prelude.{◌≡◌, ℕ, ◌+◌, ◌==◌, if◌then◌else◌, List, [], ◌∷◌, ◌++◌}
use Rattle.proto_model.specs.Tokens.{Text}
use Rattle.proto_model.specs.Laid.{Piece, gap, IsGap, Laid}
use Rattle.proto_model.specs.Lexemes.{Lexeme}
use Rattle.proto_model.specs.Spelled.{texts}

-- the number of LFs in a text
abbrev pub line_feeds : Text → ℕ
line_feeds [] = 0
line_feeds (b ∷ bs) = if b == 10 then line_feeds bs + 1 else line_feeds bs

-- The bytes are a gap, and then each of these texts with a gap behind it.
abbrev pub AreBefore : List Text → Text → Type 0
AreBefore [] bytes = (g : List Piece) × IsGap g × (bytes ≡ gap g)
AreBefore (text ∷ more) bytes =
    (g : List Piece) × (rest : Text) × IsGap g × (bytes ≡ gap g ++ (text ++ rest))
    × AreBefore more rest

-- Where the lexeme `here` of bytes that begin on the line `first` stands, with the lexemes `front`
-- before it and `rest` behind it: the bytes before it are those lexemes and gaps, the bytes behind
-- it are laid by the others, and its line is `first` plus the LFs before it. The last lexeme is
-- that of the end of the file, and its line is `first` plus all LFs.
pub record Stands
    (first : ℕ) (bytes : Text) (front : List Lexeme) (here : Lexeme)
    (rest : List Lexeme) : Type 0 where
  pub before : Text
  pub behind : Text
  pub bytes_are : bytes ≡ before ++ (here.text ++ behind)
  pub are_before : AreBefore (texts front) before
  pub are_behind : Laid behind (texts rest)
  pub line : here.line ≡ first + line_feeds before
  pub last : rest ≡ [] → here.line ≡ first + line_feeds bytes
