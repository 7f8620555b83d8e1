-- The words of a line of text.
use Rattle.std.specs.Prelude.{ℕ, Bool, false, ◌||◌, ◌==◌, nat_eq, nat_lt, if◌then◌else◌, List, []}
use Rattle.std.specs.Prelude.{◌∷◌, length, filter, codes}
use Rattle.std.specs.List.{slice_split, starts_with}

-- A blank parts words: a space, a tab or a CR.
abbrev pub is_blank : ℕ → Bool
is_blank b = b == 32 || b == 9 || b == 13

-- A comment begins here: two slashes stand first.
abbrev pub opens_comment : List ℕ → Bool
opens_comment bytes = starts_with nat_eq bytes (codes "//")

-- A blank stands first.
abbrev pub opens_blank : List ℕ → Bool
opens_blank [] = false
opens_blank (b ∷ bs) = is_blank b

-- A word ends here: a blank stands first, or a comment begins.
abbrev pub ends_word : List ℕ → Bool
ends_word bytes = opens_blank bytes || opens_comment bytes

-- What stands before the comment of a line; all of the line where it has none.
abbrev pub before_comment : List ℕ → List ℕ
before_comment [] = []
before_comment (b ∷ bs) = if opens_comment (b ∷ bs) then [] else b ∷ before_comment bs

-- At least one byte.
abbrev pub has_bytes : List ℕ → Bool
has_bytes bytes = nat_lt 0 (length bytes)

-- The words of a line: what stands before the comment is cut at each blank, and the pieces with
-- bytes are the words, in order.
abbrev pub words : List ℕ → List (List ℕ)
words line = filter has_bytes (slice_split is_blank (before_comment line))
