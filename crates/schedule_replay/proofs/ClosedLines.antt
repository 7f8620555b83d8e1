-- Texts that are closed lines and what follows them.
use Rattle.std.proofs.Common.{◌≡◌, ℕ, List, [], ◌∷◌, ◌++◌, Bool, true, false, refl, sym, ◌∙◌, ap}
use Rattle.std.proofs.Common.{append_assoc}
use Rattle.std.proofs.lemmas.List.{append-nil}
use Rattle.std.specs.Prelude.{◌||◌, ◌==◌}
use Rattle.schedule_replay.specs.TextLines.{lines_of, closed_lines, has_lf, open_part, HasNoLf}
use Rattle.schedule_replay.specs.TextLines.{joined}
use Rattle.schedule_replay.proofs.LinesOf.{no-lf, HasNoLf-first, HasNoLf-rest, lines_of-closed}

-- no line holds an LF
abbrev pub EachLine : List (List ℕ) → Type 0
EachLine [] = Unit {0}
EachLine (line ∷ lines) = HasNoLf line × EachLine lines

pub EachLine-snoc : (lines : List (List ℕ)) (line : List ℕ) → EachLine lines → HasNoLf line
    → EachLine (lines ++ line ∷ [])
EachLine-snoc [] line each none = (none, tt)
EachLine-snoc (l ∷ lines) line each none = (each.0, EachLine-snoc lines line each.1 none)

joined-snoc : (lines : List (List ℕ)) (line : List ℕ)
    → joined (lines ++ line ∷ []) ≡ joined lines ++ (line ++ 10 ∷ [])
joined-snoc [] line = refl
joined-snoc (l ∷ lines) line = ap (λ bytes. l ++ (10 ∷ bytes)) (joined-snoc lines line)
    ∙ sym (append_assoc l (10 ∷ joined lines) (line ++ 10 ∷ []))

pub joined-snoc_then : (lines : List (List ℕ)) (line rest : List ℕ)
    → joined (lines ++ line ∷ []) ++ rest ≡ joined lines ++ (line ++ 10 ∷ rest)
joined-snoc_then lines line rest =
    ap (λ bytes. bytes ++ rest) (joined-snoc lines line)
    ∙ (append_assoc (joined lines) (line ++ 10 ∷ []) rest
    ∙ ap (λ bytes. joined lines ++ bytes) (append_assoc line (10 ∷ []) rest))

pub lines_of-joined : (lines : List (List ℕ)) (rest : List ℕ) → EachLine lines
    → lines_of (joined lines ++ rest) ≡ lines ++ lines_of rest
lines_of-joined [] rest each = refl
lines_of-joined (line ∷ lines) rest each =
    ap lines_of (append_assoc line (10 ∷ joined lines) rest)
    ∙ (lines_of-closed line (joined lines ++ rest) each.0
    ∙ ap (λ more. line ∷ more) (lines_of-joined lines rest each.1))

closed_lines-closed : (line rest : List ℕ) → HasNoLf line
    → closed_lines (line ++ 10 ∷ rest) ≡ line ∷ closed_lines rest
closed_lines-closed [] rest none = refl
closed_lines-closed (b ∷ bs) rest none = rw (
  no-lf b (HasNoLf-first b bs none),
  closed_lines-closed bs rest (HasNoLf-rest b bs none),
) refl

closed_lines-open : (line : List ℕ) → HasNoLf line → closed_lines line ≡ []
closed_lines-open [] none = refl
closed_lines-open (b ∷ bs) none = rw (
  no-lf b (HasNoLf-first b bs none),
  closed_lines-open bs (HasNoLf-rest b bs none),
) refl

pub closed_lines-joined_then : (lines : List (List ℕ)) (rest : List ℕ) → EachLine lines
    → closed_lines (joined lines ++ rest) ≡ lines ++ closed_lines rest
closed_lines-joined_then [] rest each = refl
closed_lines-joined_then (line ∷ lines) rest each =
    ap closed_lines (append_assoc line (10 ∷ joined lines) rest)
    ∙ (closed_lines-closed line (joined lines ++ rest) each.0
    ∙ ap (λ more. line ∷ more) (closed_lines-joined_then lines rest each.1))

pub closed_lines-joined : (lines : List (List ℕ)) (rest : List ℕ) → EachLine lines → HasNoLf rest
    → closed_lines (joined lines ++ rest) ≡ lines
closed_lines-joined lines rest each none =
    closed_lines-joined_then lines rest each
    ∙ (ap (λ more. lines ++ more) (closed_lines-open rest none) ∙ append-nil lines)

or-true : (b : Bool) → (b || true) ≡ true
or-true true = refl
or-true false = refl

has_lf-closed : (line rest : List ℕ) → has_lf (line ++ 10 ∷ rest) ≡ true
has_lf-closed [] rest = refl
has_lf-closed (b ∷ bs) rest = rw (has_lf-closed bs rest) (or-true (b == 10))

has_lf-open : (line : List ℕ) → HasNoLf line → has_lf line ≡ false
has_lf-open [] none = refl
has_lf-open (b ∷ bs) none = rw (
  no-lf b (HasNoLf-first b bs none),
  has_lf-open bs (HasNoLf-rest b bs none),
) refl

open_part-closed : (line rest : List ℕ) → open_part (line ++ 10 ∷ rest) ≡ open_part rest
open_part-closed [] rest = refl
open_part-closed (b ∷ bs) rest = rw (has_lf-closed (b ∷ bs) rest) (open_part-closed bs rest)

open_part-open : (line : List ℕ) → HasNoLf line → open_part line ≡ line
open_part-open [] none = refl
open_part-open (b ∷ bs) none = rw (has_lf-open (b ∷ bs) none) refl

pub open_part-joined : (lines : List (List ℕ)) (rest : List ℕ) → EachLine lines → HasNoLf rest
    → open_part (joined lines ++ rest) ≡ rest
open_part-joined [] rest each none = open_part-open rest none
open_part-joined (line ∷ lines) rest each none =
    ap open_part (append_assoc line (10 ∷ joined lines) rest)
    ∙ (open_part-closed line (joined lines ++ rest) ∙ open_part-joined lines rest each.1 none)
