-- What a file says: the protocol that it spells, the line of each item, and where it goes wrong.
use Rattle.std.specs.Prelude.{◌≡◌, ℕ, List, [], ◌∷◌, ◌++◌, map, if◌then◌else◌}
use Rattle.proto_model.specs.Tokens.{Text, Token, spellings}
use Rattle.proto_model.specs.Laid.{Laid}
use Rattle.proto_model.specs.Lexemes.{Lexeme, lexemes}
use Rattle.proto_model.specs.Grammar.{tokens_of}
use Rattle.proto_model.specs.Sayable.{IsSayable}
use Rattle.proto_model.specs.declared.protocol.Protocol.{Protocol}

-- the file spells the protocol: its bytes are the protocol's tokens, laid
pub record Spells (bytes : Text) (p : Protocol) : Type 0 where
  pub sayable : IsSayable p
  pub laid : Laid bytes (spellings (tokens_of p))

-- the lines of those lexemes whose tokens begin an item
abbrev pub marked_lines : List Token → List Lexeme → List ℕ
marked_lines [] ls = []
marked_lines (t ∷ ts) [] = []
marked_lines (t ∷ ts) (l ∷ ls) =
    if t.begins then l.line ∷ marked_lines ts ls else marked_lines ts ls

-- the line of each item, in file order: that of its first token
abbrev pub item_lines : Text → Protocol → List ℕ
item_lines bytes p = marked_lines (tokens_of p) (lexemes bytes)

-- the texts of some lexemes
abbrev pub texts : List Lexeme → List Text
texts ls = map (λ l. l.text) ls

-- the tokens of some protocol begin with these
abbrev pub IsViable : List Text → Type 0
IsViable tokens =
    (p : Protocol) × (more : List Text) × IsSayable p × (spellings (tokens_of p) ≡ tokens ++ more)

-- The line of the syntax fault of a file that spells no protocol: that of the first lexeme with
-- which the tokens up to it are no longer viable. A lexeme that is no token is never viable, and
-- neither is the empty one at the end of the file.
pub record IsFaultLine (bytes : Text) (line : ℕ) : Type 0 where
  pub spells_none : (p : Protocol) → Spells bytes p → ⊥
  pub front : List Lexeme
  pub here : Lexeme
  pub rest : List Lexeme
  pub cut : lexemes bytes ≡ front ++ here ∷ rest
  pub before : IsViable (texts front)
  pub with_it : IsViable (texts front ++ here.text ∷ []) → ⊥
  pub is_line : line ≡ here.line
