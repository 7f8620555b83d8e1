-- An array of values whose front is used, and that the list of the used values gives it back.
use Rattle.std.specs.Prelude.{◌≡◌, ℕ, ◌-◌, ◌≤◌, List, ◌++◌, length, take, drop, replicate}
use Rattle.std.proofs.lemmas.List.{length-take-le, take-append-drop}
use Rattle.proto_model.specs.declared.numbered.Value.{Value}
use Rattle.proto_model.specs.declared.numbered.Value.TheVariants as value
use Rattle.proto_model.specs.declared.values.vars.Vars.TheInside.{Inside}

-- Of its 16 places the first n are used, and the others hold Unit.
pub record IsFilled (n : ℕ) (xs : List Value) : Type 0 where
  pub fits : n ≤ 16
  pub room : length xs ≡ 16
  pub rest : drop n xs ≡ replicate (16 - n) value.Unit

-- the used values, and Unit in the other places, are all the values
padded : (n m : ℕ) (xs : List Value) → n ≤ length xs → drop n xs ≡ replicate (m - n) value.Unit
    → take n xs ++ replicate (m - length (take n xs)) value.Unit ≡ xs
padded n m xs fits rest = rw (length-take-le n xs fits, ← rest, take-append-drop)

-- an array of values and their number, by their parts
same_inside : (xs ys : List Value) (n m : ℕ) → xs ≡ ys → n ≡ m
    → ◌≡◌ {A = Inside} (record { values = xs; len = n }) (record { values = ys; len = m })
same_inside xs ys n m p e = cc

-- The array is found again from the list of its used values: these stand in front, and Unit in the
-- other places.
pub vars_back : (a : Inside) → IsFilled a.len a.values
    → ◌≡◌ {A = Inside}
    (record {
      values = take a.len a.values ++ replicate (16 - length (take a.len a.values)) value.Unit;
      len = length (take a.len a.values);
    }) a
vars_back a filled =
    let fits : a.len ≤ length a.values = rw filled.room filled.fits in
    same_inside _ _ _ _ (padded a.len 16 a.values fits filled.rest)
    (length-take-le a.len a.values fits)
