-- The first row for which its word doesn't stand: there is one answer, and it is found row by row,
-- and in one list after another.
use Rattle.std.proofs.Common.{◌≡◌, ◌⊎◌, inl, inr, ℕ, zero, suc, ◌+◌, ◌-◌, ◌*◌, ◌<◌, Bool, true}
use Rattle.std.proofs.Common.{false, get_or}
use Rattle.std.proofs.Common.{List, [], ◌∷◌, ◌++◌, length, take, drop, Option, Some, None}
use Rattle.std.proofs.Common.{slice_get}
use Rattle.std.proofs.Common.{refl, sym, ap, subst, ◌∙◌, arith, length-append}
use Rattle.std.specs.List.{AllByRecursion}
use Rattle.std.specs.Str.{bytes_eq}
use Rattle.std.proofs.lemmas.Bool.{cases_lt}
use Rattle.std.proofs.lemmas.List.{drop-drop}
use Rattle.std.proofs.lemmas.Option.{same_Some, slice_get-get_or}
use Rattle.std.proofs.lemmas.Slice.Eq.{bytes_eq-Decides}
use Rattle.proto_model.specs.Tokens.{Text}
use Rattle.controller_table.specs.declared.rows.Row.{Row}
use Rattle.control_store.specs.RowWord.{IsInRange, row_word, DecodesRow}
use Rattle.control_store.specs.Compared.{word_at, RowAgrees, FirstWrong}

-- ---- one answer

pub FirstWrong-once : (rows : List Row) (words : Text) (a b : Option ℕ) → FirstWrong rows words a
    → FirstWrong rows words b → a ≡ b
FirstWrong-once rows words None None x y = refl
FirstWrong-once rows words None (Some q) x y = absurd (y.1 (x q y.0))
FirstWrong-once rows words (Some p) None x y = absurd (x.1 (y p x.0))
FirstWrong-once rows words (Some p) (Some q) x y =
    elim (cases_lt p q) [
      | inl before ↦ absurd (x.1 (y.2 p before))
      | inr from ↦ elim (cases_lt q p) [
        | inl before ↦ absurd (y.1 (x.2 q before))
        | inr other ↦ let same : p ≡ q = omega arith in ap (λ (n : ℕ). Some n) same
      ]
    ]

-- ---- the row at a place

-- the word at a place stands for the row there exactly where the two agree
pub right-here : (rows : List Row) (words word : Text) (place : ℕ) (d : Row) → place < length rows
    → word ≡ word_at words place → DecodesRow word (Some (get_or rows place d))
    → RowAgrees rows words place
right-here rows words word place d within same is = (
  get_or rows place d,
  slice_get-get_or rows place d within,
  (is.0, sym same ∙ is.1),
)

pub wrong-here : (rows : List Row) (words word : Text) (place : ℕ) (d : Row) → place < length rows
    → word ≡ word_at words place → (DecodesRow word (Some (get_or rows place d)) → ⊥)
    → RowAgrees rows words place → ⊥
wrong-here rows words word place d within same other agrees =
    let is : get_or rows place d ≡ agrees.0 =
    same_Some (get_or rows place d) agrees.0
    (sym (slice_get-get_or rows place d within) ∙ agrees.1) in
    other (subst (λ (row : Row). DecodesRow word (Some row)) (sym is)
    (agrees.2.0, same ∙ agrees.2.1))

-- ---- words further on

pub word_at-further : (words : Text) (count place : ℕ)
    → word_at (drop (16 * count) words) place ≡ word_at words (count + place)
word_at-further words count place =
    let sum : 16 * count + 16 * place ≡ 16 * (count + place) = omega arith in
    ap (λ (w : Text). take 16 w) (drop-drop (16 * place) (16 * count) words)
    ∙ ap (λ (n : ℕ). take 16 (drop n words)) sum

pub agrees-moved : (xs ys : List Row) (ws vs : Text) (p q : ℕ)
    → slice_get xs p ≡ slice_get ys q → word_at ws p ≡ word_at vs q → RowAgrees xs ws p
    → RowAgrees ys vs q
agrees-moved xs ys ws vs p q same_row same_word agrees =
    (agrees.0, sym same_row ∙ agrees.1, (agrees.2.0, sym same_word ∙ agrees.2.1))

-- ---- one list behind another

slice_get-front : (xs ys : List Row) (p : ℕ) → p < length xs
    → slice_get (xs ++ ys) p ≡ slice_get xs p
slice_get-front [] ys p within = absurd (omega arith)
slice_get-front (x ∷ xs) ys zero within = refl
slice_get-front (x ∷ xs) ys (suc p) within =
    let less : p < length xs = omega arith in slice_get-front xs ys p less

slice_get-behind : (xs ys : List Row) (p : ℕ)
    → slice_get (xs ++ ys) (length xs + p) ≡ slice_get ys p
slice_get-behind [] ys p =
    let same : 0 + p ≡ p = omega arith in ap (λ (n : ℕ). slice_get ys n) same
slice_get-behind (x ∷ xs) ys p =
    let same : length (x ∷ xs) + p ≡ suc (length xs + p) = omega arith in
    ap (λ (n : ℕ). slice_get (x ∷ (xs ++ ys)) n) same ∙ slice_get-behind xs ys p

module _ (xs ys : List Row) (words : Text) where
  front-agrees : (p : ℕ) → p < length xs → RowAgrees xs words p → RowAgrees (xs ++ ys) words p
  front-agrees p within =
      agrees-moved xs (xs ++ ys) words words p p (sym (slice_get-front xs ys p within)) refl

  agrees-front : (p : ℕ) → p < length xs → RowAgrees (xs ++ ys) words p → RowAgrees xs words p
  agrees-front p within =
      agrees-moved (xs ++ ys) xs words words p p (slice_get-front xs ys p within) refl

  behind-agrees : (p : ℕ) → RowAgrees ys (drop (16 * length xs) words) p
      → RowAgrees (xs ++ ys) words (length xs + p)
  behind-agrees p =
      agrees-moved ys (xs ++ ys) (drop (16 * length xs) words) words p (length xs + p)
      (sym (slice_get-behind xs ys p)) (word_at-further words (length xs) p)

  agrees-behind : (p : ℕ) → RowAgrees (xs ++ ys) words (length xs + p)
      → RowAgrees ys (drop (16 * length xs) words) p
  agrees-behind p =
      agrees-moved (xs ++ ys) ys words (drop (16 * length xs) words) (length xs + p) p
      (slice_get-behind xs ys p) (sym (word_at-further words (length xs) p))

  pub wrong-front : (p : ℕ) → FirstWrong xs words (Some p) → FirstWrong (xs ++ ys) words (Some p)
  wrong-front p is =
      let within = is.0 in
      let count = length-append xs ys in
      let inside : p < length (xs ++ ys) = omega arith in (
        inside,
        λ agrees. is.1 (agrees-front p within agrees),
        λ earlier before.
            let less : earlier < length xs = omega arith in
            front-agrees earlier less (is.2 earlier before),
      )

  -- a place below so many places is in the first list, or behind it
  all-agree : (bound : ℕ) → FirstWrong xs words None
      → ((q : ℕ) → q < bound → RowAgrees ys (drop (16 * length xs) words) q)
      → (place : ℕ) → place < length xs + bound → RowAgrees (xs ++ ys) words place
  all-agree bound first behind place within =
      elim (cases_lt place (length xs)) [
        | inl front ↦ front-agrees place front (first place front)
        | inr further ↦
            let q : ℕ = place - length xs in
            let less : q < bound = omega arith in
            let same : length xs + q ≡ place = omega arith in
            subst (RowAgrees (xs ++ ys) words) same (behind-agrees q (behind q less))
      ]

  pub wrong-behind : (p : ℕ) → FirstWrong xs words None
      → FirstWrong ys (drop (16 * length xs) words) (Some p)
      → FirstWrong (xs ++ ys) words (Some (length xs + p))
  wrong-behind p first is =
      let within = is.0 in
      let count = length-append xs ys in
      let inside : length xs + p < length (xs ++ ys) = omega arith in (
        inside,
        λ agrees. is.1 (agrees-behind p agrees),
        all-agree p first is.2,
      )

  pub right-both : FirstWrong xs words None → FirstWrong ys (drop (16 * length xs) words) None
      → FirstWrong (xs ++ ys) words None
  right-both first behind = λ place within.
      let count = length-append xs ys in
      let inside : place < length xs + length ys = omega arith in
      all-agree (length ys) first behind place inside

-- ---- there is an answer

one-agrees : (row : Row) (words : Text) (same : Bool) → IsInRange row
    → bytes_eq (take 16 words) (row_word row) ≡ same
    → (FirstWrong (row ∷ []) words None) ⊎ (FirstWrong (row ∷ []) words (Some 0))
one-agrees row words true range e =
    let is : take 16 words ≡ row_word row = (bytes_eq-Decides (take 16 words) (row_word row)).0 e in
    inl (λ place within. at-place place within is) where
      at-place : (place : ℕ) → place < length (row ∷ []) → take 16 words ≡ row_word row
          → RowAgrees (row ∷ []) words place
      at-place zero within is = (row, refl, (range, is))
      at-place (suc place) within is = absurd (omega arith)
one-agrees row words false range e =
    let first : 0 < length (row ∷ []) = omega arith in
    inr (
      first,
      λ agrees.
          let same : row ≡ agrees.0 = same_Some row agrees.0 agrees.1 in
          let is : take 16 words ≡ row_word row =
          agrees.2.1 ∙ ap (λ (r : Row). row_word r) (sym same) in
          let yes : bytes_eq (take 16 words) (row_word row) ≡ true =
          (bytes_eq-Decides (take 16 words) (row_word row)).1 is in
          absurd (cc (yes, e)),
      λ earlier before. absurd (omega arith),
    )

pub FirstWrong-some : (rows : List Row) (words : Text) → AllByRecursion IsInRange rows
    → (answer : Option ℕ) × FirstWrong rows words answer
FirstWrong-some [] words range = (None, λ place within. absurd (omega arith))
FirstWrong-some (row ∷ rows) words range =
    elim (one-agrees row words (bytes_eq (take 16 words) (row_word row)) range.0 refl) [
      | inl agrees ↦ joined row rows words agrees (FirstWrong-some rows (drop 16 words) range.1)
      | inr wrong ↦ (Some 0, wrong-front (row ∷ []) rows words 0 wrong)
    ] where
      joined : (row : Row) (rows : List Row) (words : Text) → FirstWrong (row ∷ []) words None
          → ((answer : Option ℕ) × FirstWrong rows (drop 16 words) answer)
          → (answer : Option ℕ) × FirstWrong (row ∷ rows) words answer
      joined row rows words agrees (None, is) =
          (None, right-both (row ∷ []) rows words agrees is)
      joined row rows words agrees (Some p, is) =
          (Some (1 + p), wrong-behind (row ∷ []) rows words p agrees is)
