-- The lines of a text. Each LF ends a line, and bytes after the last LF are a last line; without
-- such bytes there is none.
use Rattle.std.specs.Prelude.{◌≢◌, ℕ, Bool, List, [], ◌∷◌, ◌++◌, ◌==◌, if◌then◌else◌, All}
use Rattle.std.specs.List.{list_any}

-- The byte stands at the front of the first line, which begins with it where there was none.
abbrev pub onto_line : ℕ → List (List ℕ) → List (List ℕ)
onto_line b [] = (b ∷ []) ∷ []
onto_line b (line ∷ lines) = (b ∷ line) ∷ lines

-- The lines of a text, each without its LF.
abbrev pub lines_of : List ℕ → List (List ℕ)
lines_of [] = []
lines_of (b ∷ bs) = if b == 10 then [] ∷ lines_of bs else onto_line b (lines_of bs)

-- The byte stands at the front of the first line, where there is one.
abbrev pub into_line : ℕ → List (List ℕ) → List (List ℕ)
into_line b [] = []
into_line b (line ∷ lines) = (b ∷ line) ∷ lines

-- The closed lines of a text, those that an LF ends, each without it.
abbrev pub closed_lines : List ℕ → List (List ℕ)
closed_lines [] = []
closed_lines (b ∷ bs) = if b == 10 then [] ∷ closed_lines bs else into_line b (closed_lines bs)

-- The byte is an LF.
abbrev pub is_lf : ℕ → Bool
is_lf b = b == 10

-- Some byte is an LF.
abbrev pub has_lf : List ℕ → Bool
has_lf text = list_any is_lf text

-- What follows the last LF of a text; all of the text where it has none.
abbrev pub open_part : List ℕ → List ℕ
open_part [] = []
open_part (b ∷ bs) = if has_lf (b ∷ bs) then open_part bs else b ∷ bs

-- No byte is an LF.
abbrev pub HasNoLf : List ℕ → Type 0
HasNoLf text = All (λ b. b ≢ 10) text

-- The lines, each with its LF.
abbrev pub joined : List (List ℕ) → List ℕ
joined [] = []
joined (line ∷ lines) = line ++ (10 ∷ joined lines)
