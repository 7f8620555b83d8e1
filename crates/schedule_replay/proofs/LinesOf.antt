-- The first line of a text, and the lines after it.
use Rattle.std.proofs.Common.{◌≡◌, ◌≢◌, ℕ, suc, ◌<◌, ◌≤◌, List, [], ◌∷◌, ◌++◌, length, Bool, true}
use Rattle.std.proofs.Common.{false, arith, refl, ap}
use Rattle.std.proofs.lemmas.Grind.{common_steps}
use Rattle.std.specs.Prelude.{◌==◌}
use Rattle.schedule_replay.specs.TextLines.{lines_of, onto_line, HasNoLf}

pub no-lf : (b : ℕ) → b ≢ 10 → (b == 10) ≡ false
no-lf b n = grind (arith, common_steps)

pub HasNoLf-first : (b : ℕ) (bs : List ℕ) → HasNoLf (b ∷ bs) → b ≢ 10
HasNoLf-first b bs none = none 0 b (omega arith)

pub HasNoLf-rest : (b : ℕ) (bs : List ℕ) → HasNoLf (b ∷ bs) → HasNoLf bs
HasNoLf-rest b bs none k d within = none (suc k) d (omega (arith, within))

pub lines_of-closed : (line rest : List ℕ) → HasNoLf line
    → lines_of (line ++ 10 ∷ rest) ≡ line ∷ lines_of rest
lines_of-closed [] rest none = refl
lines_of-closed (b ∷ bs) rest none = rw (
  no-lf b (HasNoLf-first b bs none),
  lines_of-closed bs rest (HasNoLf-rest b bs none),
) refl

pub lines_of-open : (line : List ℕ) → HasNoLf line → 0 < length line → lines_of line ≡ line ∷ []
lines_of-open [] none some = absurd (omega (arith, some))
lines_of-open (b ∷ []) none some = rw (no-lf b (HasNoLf-first b [] none)) refl
lines_of-open (b ∷ c ∷ bs) none some =
    rw (no-lf b (HasNoLf-first b (c ∷ bs) none)) (ap (onto_line b)
    (lines_of-open (c ∷ bs) (HasNoLf-rest b (c ∷ bs) none) (omega arith)))

-- the lines begin with one of at least so many bytes
abbrev pub BeginsWith : ℕ → List (List ℕ) → Type 0
BeginsWith least lines = (first : List ℕ) × (more : List (List ℕ)) × (lines ≡ first ∷ more) ×
    (least ≤ length first)

onto-first : (b : ℕ) (lines : List (List ℕ)) → BeginsWith 1 (onto_line b lines)
onto-first b [] = (b ∷ [], [], refl, omega arith)
onto-first b (line ∷ lines) = (b ∷ line, lines, refl, omega arith)

onto-longer : (b least : ℕ) (lines : List (List ℕ)) → BeginsWith least lines
    → BeginsWith (suc least) (onto_line b lines)
onto-longer b least lines h = (b ∷ h.0, h.1, ap (onto_line b) h.2, omega (arith, h.3))

-- bytes that hold no LF are in the first line
pub lines_of-front : (front rest : List ℕ) → HasNoLf front → 0 < length front
    → BeginsWith (length front) (lines_of (front ++ rest))
lines_of-front [] rest none some = absurd (omega (arith, some))
lines_of-front (b ∷ []) rest none some = rw (no-lf b (HasNoLf-first b [] none))
    (onto-first b (lines_of rest))
lines_of-front (b ∷ c ∷ bs) rest none some =
    rw (no-lf b (HasNoLf-first b (c ∷ bs) none))
    (onto-longer b (length (c ∷ bs)) (lines_of ((c ∷ bs) ++ rest))
    (lines_of-front (c ∷ bs) rest (HasNoLf-rest b (c ∷ bs) none) (omega arith)))

begins : (b : ℕ) (bs : List ℕ) (lf : Bool) → (b == 10) ≡ lf → BeginsWith 0 (lines_of (b ∷ bs))
begins b bs true e = rw e ([], lines_of bs, refl, omega arith)
begins b bs false e = let h = onto-first b (lines_of bs) in rw e (h.0, h.1, h.2, omega arith)

pub lines_of-some : (text : List ℕ) → 0 < length text → BeginsWith 0 (lines_of text)
lines_of-some [] some = absurd (omega (arith, some))
lines_of-some (b ∷ bs) some = begins b bs (b == 10) refl
