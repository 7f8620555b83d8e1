-- Lists of rows in which each row has a place and a trigger of its own.
use Rattle.std.proofs.Common.{◌≡◌, ℕ, zero, suc, ◌+◌, ◌≤◌, List, [], ◌∷◌, ◌++◌, Some, slice_get}
use Rattle.std.proofs.Common.{refl, sym, ap, ◌∙◌, arith}
use Rattle.std.specs.List.{AllByRecursion}
use Rattle.rv_base.specs.Lists.{flat_from}
use Rattle.rv_base.proofs.Lists.{AllByRecursion-append, AllByRecursion-weaker}
use Rattle.rv_base.proofs.Lists.{AllByRecursion-from_at, AllByRecursion-at}
use Rattle.controller_table.specs.Keys.{NoTwoShareKey}
use Rattle.controller_table.specs.OneRow.{HasKey, NoneHasKey, IsOnlyRow}
use Rattle.controller_table.specs.declared.rows.Place.{Place}
use Rattle.controller_table.specs.declared.rows.Trigger.{Trigger}
use Rattle.controller_table.specs.declared.rows.Row.{Row}

-- no later row has the key of an earlier one
abbrev pub AllApart : List Row → Type 0
AllApart [] = Unit {0}
AllApart (row ∷ rows) = NoneHasKey row.at row.on rows × AllApart rows

-- ---- one list behind another

pub apart-append : (xs ys : List Row) → AllApart xs → AllApart ys
    → AllByRecursion (λ x. NoneHasKey x.at x.on ys) xs → AllApart (xs ++ ys)
apart-append [] ys p q across = q
apart-append (x ∷ xs) ys p q across = (
  AllByRecursion-append (λ row. HasKey x.at x.on row → ⊥) xs ys p.0 across.0,
  apart-append xs ys p.1 q across.1,
)

-- ---- what the items of a list give, where a number of each row is told by its key alone and is
-- the place of the item that gives it

module _ {A : Type 0} (give : ℕ → A → List Row) (owner : Place → Trigger → ℕ)
    (owned : (i : ℕ) (item : A) → AllByRecursion (λ row. owner row.at row.on ≡ i) (give i item))
  where
    abbrev IsOwned : ℕ → Row → Type 0
    IsOwned i row = owner row.at row.on ≡ i

    abbrev IsBehind : ℕ → Row → Type 0
    IsBehind from row = from ≤ owner row.at row.on

    flat-behind : (from : ℕ) (items : List A)
        → AllByRecursion (IsBehind from) (flat_from give from items)
    flat-behind from [] = tt
    flat-behind from (item ∷ items) =
        AllByRecursion-append (IsBehind from) (give from item) (flat_from give (from + 1) items)
        (AllByRecursion-weaker (IsOwned from) (IsBehind from) (give from item)
        (λ row e. omega arith)
        (owned from item))
        (AllByRecursion-weaker (IsBehind (from + 1)) (IsBehind from)
        (flat_from give (from + 1) items)
        (λ row e. omega arith) (flat-behind (from + 1) items))

    another : (from : ℕ) (a b : Row) → IsOwned from a → IsBehind (from + 1) b
        → HasKey a.at a.on b → ⊥
    another from a b here behind key =
        let same : owner b.at b.on ≡ owner a.at a.on = cc in
        omega arith

    pub apart-flat : (from : ℕ) (items : List A)
        → ((i : ℕ) (item : A) → AllApart (give i item)) → AllApart (flat_from give from items)
    apart-flat from [] each = tt
    apart-flat from (item ∷ items) each =
        let rest : List Row = flat_from give (from + 1) items in
        apart-append (give from item) rest (each from item) (apart-flat (from + 1) items each)
        (AllByRecursion-weaker (IsOwned from) (λ a. NoneHasKey a.at a.on rest) (give from item)
        (λ a here. AllByRecursion-weaker (IsBehind (from + 1)) (λ b. HasKey a.at a.on b → ⊥) rest
        (λ b behind. another from a b here behind) (flat-behind (from + 1) items))
        (owned from item))

-- ---- what follows

pub apart-places : (rows : List Row) → AllApart rows → NoTwoShareKey rows
apart-places [] apart i j a b there here at on = absurd (cc)
apart-places (row ∷ rows) apart zero zero a b there here at on = refl
apart-places (row ∷ rows) apart zero (suc j) a b there here at on =
    let same : row ≡ a = cc in
    let key : HasKey row.at row.on b = (
      sym at ∙ ap (λ (r : Row). r.at) (sym same),
      sym on
          ∙ ap (λ (r : Row). r.on) (sym same),
    ) in
    absurd (AllByRecursion-at (λ r. HasKey row.at row.on r → ⊥) rows j b apart.0 here key)
apart-places (row ∷ rows) apart (suc i) zero a b there here at on =
    let same : row ≡ b = cc in
    let key : HasKey row.at row.on a = (
      at ∙ ap (λ (r : Row). r.at) (sym same),
      on
          ∙ ap (λ (r : Row). r.on) (sym same),
    ) in
    absurd (AllByRecursion-at (λ r. HasKey row.at row.on r → ⊥) rows i a apart.0 there key)
apart-places (row ∷ rows) apart (suc i) (suc j) a b there here at on =
    ap (λ (n : ℕ). suc n) (apart-places rows apart.1 i j a b there here at on)

pub places-apart : (rows : List Row) → NoTwoShareKey rows → AllApart rows
places-apart [] differ = tt
places-apart (row ∷ rows) differ = (
  AllByRecursion-from_at (λ r. HasKey row.at row.on r → ⊥) rows
      (λ i r there key. absurd
      (let same = differ 0 (suc i) row r refl there (sym key.0) (sym key.1) in omega arith)),
  places-apart rows (λ i j a b there here at on. let same = differ (suc i) (suc j) a b there here at
      on in omega arith),
)

-- a row is the only one with its place and trigger
pub apart-only : (rows : List Row) (i : ℕ) (row : Row) (at : Place) (on : Trigger)
    → AllApart rows → slice_get rows i ≡ Some row → HasKey at on row
    → IsOnlyRow rows at on (Some row)
apart-only [] i row at on apart there key = absurd (cc)
apart-only (first ∷ rows) zero row at on apart there key =
    let same : first ≡ row = cc in (
      key,
      [],
      rows,
      ap (λ (r : Row). r ∷ rows) same,
      tt,
      AllByRecursion-weaker (λ r. HasKey first.at first.on r → ⊥) (λ r. HasKey at on r → ⊥) rows
          (λ r no_key k. no_key (cc, cc)) apart.0,
    )
apart-only (first ∷ rows) (suc i) row at on apart there key =
    let rest = apart-only rows i row at on apart.1 there key in
    let others = AllByRecursion-at (λ r. HasKey first.at first.on r → ⊥) rows i row
    apart.0 there in (
      key,
      first ∷ rest.1,
      rest.2,
      ap (λ (rs : List Row). first ∷ rs) rest.3,
      (λ k. others (cc, cc), rest.4),
      rest.5,
    )
