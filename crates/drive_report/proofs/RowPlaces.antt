-- The step at a place among the steps of all rows.
use Rattle.std.proofs.Common.{◌≡◌, ℕ, zero, suc, ◌+◌, ◌-◌, ◌<◌, ◌≤◌, List, [], ◌∷◌, ◌++◌, length}
use Rattle.std.proofs.Common.{drop, get_or, slice_get, refl, sym, ap, arith, ◌∙◌, ◌≢◌, true}
use Rattle.std.proofs.Common.{false, cond, filter, map, Some}
use Rattle.std.specs.List.{range_with_len}
use Rattle.std.proofs.Math.Seq.{drop-cons}
use Rattle.proto_model.specs.NumberSets.{has_number}
use Rattle.async_shape.specs.declared.step.Step.{Step}
use Rattle.drive_report.specs.Forms.{step_of}
use Rattle.drive_report.specs.Rows.{steps_from, steps_of, steps_in}
use Rattle.drive_report.specs.declared.rows.Row.{Row}

get-front : (xs ys : List Step) (i : ℕ) → i < length xs → slice_get (xs ++ ys) i ≡ slice_get xs i
get-front [] ys i within = absurd (omega arith)
get-front (x ∷ xs) ys zero within = refl
get-front (x ∷ xs) ys (suc i) within = get-front xs ys i (omega arith)

get-back : (xs ys : List Step) (i : ℕ) → length xs ≤ i
    → slice_get (xs ++ ys) i ≡ slice_get ys (i - length xs)
get-back [] ys i past = let e : i - 0 ≡ i = omega arith in rw e refl
get-back (x ∷ xs) ys zero past = absurd (omega arith)
get-back (x ∷ xs) ys (suc i) past =
    let e : suc i - suc (length xs) ≡ i - length xs = omega arith in
    get-back xs ys i (omega arith) ∙ ap (slice_get ys) (sym e)

module _ (rows : List Row) (i : ℕ) (other : Row) (left : ℕ) (within : i < length rows) where
  abbrev row : Row
  row = get_or rows i other

  rows-from : steps_in (drop i rows) ≡ steps_of row ++ steps_in (drop (i + 1) rows)
  rows-from =
      let next : suc i ≡ i + 1 = omega arith in
      ap steps_in (drop-cons rows i other within)
      ∙ ap (λ (k : ℕ). steps_of row ++ steps_in (drop k rows)) next

  -- It stands in this row.
  pub row-here : left < length (steps_of row)
      → slice_get (steps_of row) left ≡ slice_get (steps_in (drop i rows)) left
  row-here inside =
      sym (ap (λ (steps : List Step). slice_get steps left) rows-from
      ∙ get-front (steps_of row) (steps_in (drop (i + 1) rows)) left inside)

  -- It stands behind this row.
  pub row-behind : length (steps_of row) ≤ left
      → slice_get (steps_in (drop (i + 1) rows)) (left - length (steps_of row))
      ≡ slice_get (steps_in (drop i rows)) left
  row-behind past =
      sym (ap (λ (steps : List Step). slice_get steps left) rows-from
      ∙ get-back (steps_of row) (steps_in (drop (i + 1) rows)) left past)

-- of a row, at a number below its count
module _ (row : Row) (number : ℕ) (within : number < row.count) where
  -- those of the numbers behind it
  abbrev behind : List Step
  behind = steps_from row (number + 1) (row.count - (number + 1))

  abbrev here : Step
  here = step_of row.form number

  steps-from : steps_from row number (row.count - number)
      ≡ map (step_of row.form)
      (cond (has_number row.enabled number)
      (number ∷ filter (has_number row.enabled)
      (range_with_len (number + 1) (row.count - (number + 1))))
      (filter (has_number row.enabled) (range_with_len (number + 1) (row.count - (number + 1)))))
  steps-from =
      let more : row.count - number ≡ suc (row.count - (number + 1)) = omega arith in
      ap (steps_from row number) more

  -- It is the step of this number.
  pub step-here : has_number row.enabled number ≡ true
      → Some here ≡ slice_get (steps_from row number (row.count - number)) 0
  step-here has = rw (steps-from, has) refl

  -- It is that of a number behind it.
  pub step-behind : (left : ℕ) → has_number row.enabled number ≡ true → left ≢ 0
      → slice_get behind (left - 1) ≡ slice_get (steps_from row number (row.count - number)) left
  step-behind zero has more = absurd (more refl)
  step-behind (suc left) has more =
      let one : suc left - 1 ≡ left = omega arith in
      rw (steps-from, has, one) refl

  pub step-elsewhere : (left : ℕ) → has_number row.enabled number ≡ false
      → slice_get behind left ≡ slice_get (steps_from row number (row.count - number)) left
  step-elsewhere left has = rw (steps-from, has) refl
