-- The lines of a text are its closed lines and, where bytes stand behind the last LF, one more.
use Rattle.std.proofs.Common.{◌≡◌, ◌≢◌, ℕ, ◌≤◌, List, [], ◌∷◌, ◌++◌, length, Bool, true, false}
use Rattle.std.proofs.Common.{◌⊎◌, inl, inr, arith, refl, sym, ◌∙◌, ap}
use Rattle.std.proofs.lemmas.Grind.{common_steps}
use Rattle.std.proofs.lemmas.List.Elements.{All-nil, All-cons}
use Rattle.std.specs.Prelude.{◌||◌, ◌==◌}
use Rattle.std.specs.List.{AllByRecursion}
use Rattle.schedule_replay.specs.TextLines.{lines_of, onto_line, closed_lines, into_line, has_lf}
use Rattle.schedule_replay.specs.TextLines.{open_part, joined, HasNoLf}

is-lf : (b : ℕ) → (b == 10) ≡ true → b ≡ 10
is-lf b e = grind (arith, common_steps)

-- the line that these bytes are, where there are any
abbrev pub last_line : List ℕ → List (List ℕ)
last_line [] = []
last_line (b ∷ bs) = (b ∷ bs) ∷ []

-- ---- a text without LF

none-closed : (b : ℕ) (bs : List ℕ) (lf : Bool) → (b == 10) ≡ lf → (lf || has_lf bs) ≡ false
    → (has_lf bs ≡ false → closed_lines bs ≡ []) → closed_lines (b ∷ bs) ≡ []
none-closed b bs true e none later = absurd (cc)
none-closed b bs false e none later = rw e (ap (into_line b) (later none))

closed_lines-none : (bs : List ℕ) → has_lf bs ≡ false → closed_lines bs ≡ []
closed_lines-none [] none = refl
closed_lines-none (b ∷ bs) none = none-closed b bs (b == 10) refl none (closed_lines-none bs)

open_part-none : (bs : List ℕ) → has_lf bs ≡ false → open_part bs ≡ bs
open_part-none [] none = refl
open_part-none (b ∷ bs) none = rw none refl

-- ---- a text with one

-- the first closed line, and those after it
abbrev HasLines : List (List ℕ) → Type 0
HasLines lines = (first : List ℕ) × (more : List (List ℕ)) × (lines ≡ first ∷ more)

some-closed : (b : ℕ) (bs : List ℕ) (lf : Bool) → (b == 10) ≡ lf → (lf || has_lf bs) ≡ true
    → (has_lf bs ≡ true → HasLines (closed_lines bs)) → HasLines (closed_lines (b ∷ bs))
some-closed b bs true e some later = ([], closed_lines bs, rw e refl)
some-closed b bs false e some later =
    let lines = later some in (b ∷ lines.0, lines.1, rw e (ap (into_line b) lines.2))

closed_lines-some : (bs : List ℕ) → has_lf bs ≡ true → HasLines (closed_lines bs)
closed_lines-some [] some = absurd (cc)
closed_lines-some (b ∷ bs) some = some-closed b bs (b == 10) refl some (closed_lines-some bs)

-- ---- all lines

onto-last : (b : ℕ) (bs : List ℕ) → onto_line b (last_line bs) ≡ (b ∷ bs) ∷ []
onto-last b [] = refl
onto-last b (c ∷ bs) = refl

onto-some : (b : ℕ) (lines more : List (List ℕ)) → HasLines lines
    → onto_line b (lines ++ more) ≡ into_line b lines ++ more
onto-some b lines more some = rw some.2 refl

abbrev AreAll : List ℕ → Type 0
AreAll text = lines_of text ≡ closed_lines text ++ last_line (open_part text)

-- a byte that is no LF stands in front
then-open : (b : ℕ) (bs : List ℕ) (lf : Bool) → (b == 10) ≡ false → has_lf bs ≡ lf → AreAll bs
    → AreAll (b ∷ bs)
then-open b bs true e some later =
    rw (e, some) (ap (onto_line b) later
    ∙ onto-some b (closed_lines bs) (last_line (open_part bs)) (closed_lines-some bs some))
then-open b bs false e none later =
    rw (e, none, closed_lines-none bs none) (ap (onto_line b) (later
    ∙ rw (closed_lines-none bs none, open_part-none bs none) refl) ∙ onto-last b bs)

then-byte : (b : ℕ) (bs : List ℕ) (lf : Bool) → (b == 10) ≡ lf → AreAll bs → AreAll (b ∷ bs)
then-byte b bs true e later = rw e (ap (λ lines. [] ∷ lines) later)
then-byte b bs false e later = then-open b bs (has_lf bs) e refl later

pub lines_of-closed_open : (text : List ℕ) → AreAll text
lines_of-closed_open [] = refl
lines_of-closed_open (b ∷ bs) = then-byte b bs (b == 10) refl (lines_of-closed_open bs)

-- ---- the bytes

abbrev IsWhole : List ℕ → Type 0
IsWhole text = joined (closed_lines text) ++ open_part text ≡ text

into-some : (b : ℕ) (lines : List (List ℕ)) (rest : List ℕ) → HasLines lines
    → joined (into_line b lines) ++ rest ≡ b ∷ (joined lines ++ rest)
into-some b lines rest some = rw some.2 refl

bytes-open : (b : ℕ) (bs : List ℕ) (lf : Bool) → (b == 10) ≡ false → has_lf bs ≡ lf → IsWhole bs
    → IsWhole (b ∷ bs)
bytes-open b bs true e some later =
    rw (e, some) (into-some b (closed_lines bs) (open_part bs) (closed_lines-some bs some)
    ∙ ap (λ bytes. b ∷ bytes) later)
bytes-open b bs false e none later = rw (e, none, closed_lines-none bs none) refl

bytes-then : (b : ℕ) (bs : List ℕ) (lf : Bool) → (b == 10) ≡ lf → IsWhole bs → IsWhole (b ∷ bs)
bytes-then b bs true e later =
    rw e (ap (λ bytes. 10 ∷ bytes) later ∙ ap (λ c. c ∷ bs) (sym (is-lf b e)))
bytes-then b bs false e later = bytes-open b bs (has_lf bs) e refl later

-- the closed lines with their LFs, and what stands behind the last LF
pub joined-closed_open : (text : List ℕ) → IsWhole text
joined-closed_open [] = refl
joined-closed_open (b ∷ bs) = bytes-then b bs (b == 10) refl (joined-closed_open bs)

-- ---- no closed line holds an LF

not-lf : (b : ℕ) → (b == 10) ≡ false → b ≢ 10
not-lf b e = grind (arith, common_steps)

into-clear : (b : ℕ) (lines : List (List ℕ)) → b ≢ 10 → AllByRecursion HasNoLf lines
    → AllByRecursion HasNoLf (into_line b lines)
into-clear b [] n each = tt
into-clear b (line ∷ lines) n each = (All-cons (λ (c : ℕ). c ≢ 10) b line n each.0, each.1)

clear-then : (b : ℕ) (bs : List ℕ) (lf : Bool) → (b == 10) ≡ lf
    → AllByRecursion HasNoLf (closed_lines bs) → AllByRecursion HasNoLf (closed_lines (b ∷ bs))
clear-then b bs true e later = rw e (All-nil (λ (c : ℕ). c ≢ 10), later)
clear-then b bs false e later = rw e (into-clear b (closed_lines bs) (not-lf b e) later)

pub closed_lines-clear : (text : List ℕ) → AllByRecursion HasNoLf (closed_lines text)
closed_lines-clear [] = tt
closed_lines-clear (b ∷ bs) = clear-then b bs (b == 10) refl (closed_lines-clear bs)

-- ---- one line of a text

-- The closed lines go on with this one behind those; or those are all, and bytes stand behind the
-- last LF.
abbrev pub GoesOnOrEnds : List (List ℕ) → List ℕ → List (List ℕ) → List ℕ → Type 0
GoesOnOrEnds done line closed part =
    ((more : List (List ℕ)) × (closed ≡ done ++ line ∷ more))
    ⊎ ((closed ≡ done) × (last_line part ≢ []))

last-short : (part : List ℕ) → length (last_line part) ≤ 1
last-short [] = omega arith
last-short (b ∷ bs) = omega arith

two-long : (first second : List ℕ) (before more : List (List ℕ)) (lines : List (List ℕ))
    → lines ≡ first ∷ (before ++ second ∷ more) → 2 ≤ length lines
two-long first second [] more lines e = omega (arith, ap length e)
two-long first second (b ∷ before) more lines e = omega (arith, ap length e)

pub line-closed_open : (done closed more : List (List ℕ)) (line part : List ℕ)
    → closed ++ last_line part ≡ done ++ line ∷ more → GoesOnOrEnds done line closed part
line-closed_open [] [] more line part e = inr (refl, λ none. absurd (cc))
line-closed_open [] (c ∷ closed) more line part e = inl (
  closed,
  ap (λ first. first ∷ closed)
      (let same : c ≡ line = cc in same),
)
line-closed_open (d ∷ done) [] more line part e =
    absurd (omega (arith, last-short part, two-long d line done more (last_line part) e))
line-closed_open (d ∷ done) (c ∷ closed) more line part e =
    let first : c ≡ d = cc in
    let rest : closed ++ last_line part ≡ done ++ line ∷ more = cc in
    after-first c d done closed line part first (line-closed_open done closed more line part rest)
  where
    after-first : (c d : List ℕ) (done closed : List (List ℕ)) (line part : List ℕ) → c ≡ d
        → GoesOnOrEnds done line closed part → GoesOnOrEnds (d ∷ done) line (c ∷ closed) part
    after-first c d done closed line part same (inl (more, goes)) = inl (more, cc)
    after-first c d done closed line part same (inr (all, some)) = inr (cc, some)
