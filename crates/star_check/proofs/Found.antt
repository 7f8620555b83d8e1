-- A declared name stands at a place: there is a first declaration of it.
use Rattle.std.proofs.Common.{◌≡◌, ℕ, zero, suc, ◌+◌, ◌<◌, Bool, true, false, cond, List, [], ◌∷◌}
use Rattle.std.proofs.Common.{map, length, refl, sym, arith, Option, Some, None, is_some}
use Rattle.std.specs.Prelude.{slice_get, IfSome}
use Rattle.std.specs.List.{position_from}
use Rattle.std.specs.Str.{bytes_eq}
use Rattle.std.proofs.lemmas.List.{length-map}
use Rattle.proto_model.specs.Tokens.{Text}
use Rattle.proto_model.specs.Names.{place_of, is_declared}

pub record Found {A : Type 0} (name_of : A → Text) (declared : List A) (name : Text) : Type 0 where
  pub place : ℕ
  pub item : A
  pub at : place_of name (map name_of declared) ≡ Some place
  pub here : slice_get declared place ≡ Some item
  pub within : place < length declared

position_within : {A : Type 0} (test : A → Bool) (n : ℕ) (xs : List A) (k : ℕ)
    → position_from test n xs ≡ Some k → k < n + length xs
position_within test n [] k e = absurd (cc)
position_within test n (x ∷ xs) k e = by (test x) e (λ f. position_within test (n + 1) xs k f)
  where
    by : (b : Bool) → cond b (Some n) (position_from test (n + 1) xs) ≡ Some k
        → (position_from test (n + 1) xs ≡ Some k → k < n + 1 + length xs) → k < n + suc (length xs)
    by true f below = let same : n ≡ k = cc in omega arith
    by false f below = let rest : k < n + 1 + length xs = below f in omega arith

item_at : {A : Type 0} (xs : List A) (k : ℕ) → k < length xs → (x : A) × (slice_get xs k ≡ Some x)
item_at [] k h = absurd (omega arith)
item_at (x ∷ xs) zero h = (x, refl)
item_at (x ∷ xs) (suc k) h = item_at xs k (omega arith)

pub found : {A : Type 0} (name_of : A → Text) (declared : List A) (name : Text)
    → is_declared name (map name_of declared) ≡ true → Found name_of declared name
found name_of declared name known = by (place_of name (map name_of declared)) refl known
  where
    by : (o : Option ℕ) → place_of name (map name_of declared) ≡ o → is_some o ≡ true
        → Found name_of declared name
    by None e h = absurd (cc)
    by (Some k) e h =
        let near : k < 0 + length (map name_of declared) = position_within (bytes_eq name) 0
        (map name_of declared) k e in
        let same : length (map name_of declared) ≡ length declared = length-map declared name_of in
        let in_range : k < length declared = omega arith in
        let x = item_at declared k in_range in
        record { place = k; item = x.0; at = e; here = x.1; within = in_range }

-- a place is that of a declaration
pub place_within : {A : Type 0} (name_of : A → Text) (declared : List A) (name : Text)
    (found_at : Option ℕ) → found_at ≡ place_of name (map name_of declared)
    → IfSome found_at (λ place. place < length declared)
place_within name_of declared name None e = tt
place_within name_of declared name (Some k) e =
    let near : k < 0 + length (map name_of declared) = position_within (bytes_eq name) 0
    (map name_of declared) k (sym e) in
    let same : length (map name_of declared) ≡ length declared = length-map declared name_of in
    omega arith
