-- What the writer of a laid-out text has written, as a list of marks. Only private contracts of the
-- layout cite these definitions.
use Rattle.std.specs.Prelude.{◌≡◌, ℕ, Bool, true, ◌||◌, if◌then◌else◌, List, [], ◌∷◌, ◌++◌}
use Rattle.std.specs.Prelude.{replicate}
use Rattle.std.specs.List.{flat_map}
use Rattle.rv_base.specs.Appended.{Appends}
use Rattle.proto_model.specs.Continued.{Continues}
use Rattle.proto_model.specs.Tokens.{Text, Token}
use Rattle.proto_model.specs.declared.layout.writer.Writer.{Writer}
use Rattle.proto_model.specs.LaidOut.{hugs_left, hugs_right, Line}

-- the spaces that a line begins with, a token, the LF that ends a line
pub data Mark : Type 0 where
  Indent : ℕ → Mark
  Word : Text → Mark
  LineEnd : Mark

-- the space that is due before a token. A token is tight if it is the first of its line, or if the
-- one before it hugs to the right.
abbrev pub space_before : Bool → Text → Text
space_before tight t = if tight || hugs_left t then [] else 32 ∷ []

-- the text of a mark; the Bool says whether a token here is tight
abbrev pub mark_text : Bool → Mark → Text
mark_text tight (Indent n) = replicate n 32
mark_text tight (Word t) = space_before tight t ++ t
mark_text tight LineEnd = 10 ∷ []

-- whether a token behind the mark is tight
abbrev pub is_tight_behind : Mark → Bool
is_tight_behind (Indent n) = true
is_tight_behind (Word t) = hugs_right t
is_tight_behind LineEnd = true

-- the text of the marks; the Bool says whether a token at their front is tight
unfoldable pub laid : Bool → List Mark → Text
laid tight [] = []
laid tight (m ∷ ms) = mark_text tight m ++ laid (is_tight_behind m) ms

-- whether a token behind the marks is tight
unfoldable pub tight_after : Bool → List Mark → Bool
tight_after tight [] = tight
tight_after tight (m ∷ ms) = tight_after (is_tight_behind m) ms

-- the tokens as marks
abbrev pub words : List Token → List Mark
words [] = []
words (t ∷ ts) = Word t.text ∷ words ts

-- the marks of a line: its indent, its tokens, its end
abbrev pub line_marks : Line → List Mark
line_marks l = Indent l.indent ∷ (words l.tokens ++ LineEnd ∷ [])

-- the marks of the lines, in order
abbrev pub marks_of : List Line → List Mark
marks_of ls = flat_map line_marks ls

-- A call puts these bytes behind the text, and leaves it at that whether a token is tight.
pub record Puts (bytes : Text) (old new : Writer) : Type 0 where
  pub text : Continues bytes old.result old.text.items new.result new.text.items
  pub tight : new.tight ≡ old.tight

-- behind the start stands the text of the marks, or, after want of memory, a front of it
pub record Stands (start : Text) (marks : List Mark) (w : Writer) : Type 0 where
  pub text : Appends (laid true marks) w.result start w.text.items
  pub tight : w.tight ≡ tight_after true marks

-- a call lays the marks: behind any start they stand behind whatever marks stood there
abbrev pub Lays : List Mark → Writer → Writer → Type 0
Lays marks old new =
    (start : Text) (before : List Mark) → Stands start before old
    → Stands start (before ++ marks) new
