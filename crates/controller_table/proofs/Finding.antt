-- What an index finds: it grows with the rows, and the row that it finds is the only one.
use Rattle.std.proofs.Common.{◌≡◌, ℕ, zero, suc, ◌+◌, ◌<◌, Bool, true, false, cond, List, [], ◌∷◌}
use Rattle.std.proofs.Common.{◌++◌, length, take, get_or, Option, Some, None, slice_get, refl, sym}
use Rattle.std.proofs.Common.{subst, ◌∙◌, arith}
use Rattle.std.proofs.lemmas.List.{take_more, length-take-le}
use Rattle.std.proofs.lemmas.Option.{get_or_from_slice_get}
use Rattle.rv_base.proofs.Lists.{AllByRecursion-append}
use Rattle.controller_table.specs.Keys.{NoTwoShareKey}
use Rattle.controller_table.specs.Indexed.{Finds}
use Rattle.controller_table.specs.OneRow.{HasKey, IsOnlyRow}
use Rattle.controller_table.specs.contracts.index.KeyPartialEq.TheImpl.{ghosts}
use Rattle.controller_table.specs.declared.index.Key.{Key}
use Rattle.controller_table.specs.declared.rows.Place.{Place}
use Rattle.controller_table.specs.declared.rows.Trigger.{Trigger}
use Rattle.controller_table.specs.declared.rows.Row.{Row}
use Rattle.controller_table.proofs.Apart.{apart-only, places-apart}
use Rattle.controller_table.proofs.SameKey.{same_key-same, same_key-itself}

at-front : {X : Type 0} (xs ys : List X) (i : ℕ) (x : X) → slice_get xs i ≡ Some x
    → slice_get (xs ++ ys) i ≡ Some x
at-front [] ys i x there = absurd (cc)
at-front (y ∷ xs) ys zero x there = there
at-front (y ∷ xs) ys (suc i) x there = at-front xs ys i x there

at-end : {X : Type 0} (xs : List X) (i : ℕ) (x : X) → i ≡ length xs
    → slice_get (xs ++ x ∷ []) i ≡ Some x
at-end [] zero x e = refl
at-end [] (suc i) x e = absurd (omega arith)
at-end (y ∷ xs) zero x e = absurd (omega arith)
at-end (y ∷ xs) (suc i) x e = at-end xs i x (omega arith)

-- a row with another key changes nothing
finds-other : (rows : List Row) (row : Row) (at : Place) (on : Trigger) (found : Option ℕ)
    → (HasKey at on row → ⊥) → Finds rows at on found → Finds (rows ++ row ∷ []) at on found
finds-other rows row at on None other finds =
    AllByRecursion-append (λ r. HasKey at on r → ⊥) rows (row ∷ []) finds (other, tt)
finds-other rows row at on (Some i) other finds =
    (finds.0, at-front rows (row ∷ []) i finds.0 finds.1, finds.2)

-- one more row is indexed
finds-more : (rows : List Row) (place : ℕ) (row : Row) (old : Option ℕ) (new : Key) (key : Key)
    → place ≡ length rows → new.at ≡ row.at → new.on ≡ row.on
    → Finds rows key.at key.on old
    → Finds (rows ++ row ∷ []) key.at key.on (cond (ghosts.eq new key) (Some place) old)
finds-more rows place row old new key e at on finds = by (ghosts.eq new key) refl
  where
    by : (same : Bool) → ghosts.eq new key ≡ same
        → Finds (rows ++ row ∷ []) key.at key.on (cond same (Some place) old)
    by true is =
        let both = same_key-same new key is in
        (row, at-end rows place row e, (sym at ∙ both.0, sym on ∙ both.1))
    by false is =
        let other : HasKey key.at key.on row → ⊥ = λ has. let same = same_key-itself new key
        (at ∙ has.0) (on ∙ has.1) in absurd (cc) in
        finds-other rows row key.at key.on old other finds

-- the row at this place is indexed, after those before it
pub finds-next : (rows : List Row) (place : ℕ) (d : Row) (old : Option ℕ) (new : Key) (key : Key)
    → place < length rows → new.at ≡ (get_or rows place d).at → new.on ≡ (get_or rows place d).on
    → Finds (take place rows) key.at key.on old
    → Finds (take (place + 1) rows) key.at key.on (cond (ghosts.eq new key) (Some place) old)
finds-next rows place d old new key within at on finds =
    let now : Option ℕ = cond (ghosts.eq new key) (Some place) old in
    subst (λ (front : List Row). Finds front key.at key.on now)
    (sym (take_more rows place d within))
    (finds-more (take place rows) place (get_or rows place d) old new key
    (omega (arith, length-take-le place rows)) at on finds)

-- where no two rows share a key, what is found is the only row
pub finds-only : (rows : List Row) (at : Place) (on : Trigger) (i : ℕ) (d : Row)
    → NoTwoShareKey rows → Finds rows at on (Some i) → IsOnlyRow rows at on (Some (get_or rows i d))
finds-only rows at on i d differ finds =
    subst (λ (row : Row). IsOnlyRow rows at on (Some row))
    (sym (get_or_from_slice_get rows i finds.0 d finds.1))
    (apart-only rows i finds.0 at on (places-apart rows differ) finds.1 finds.2)
