-- Where a protocol has no fault, no item has a code, and no test of a code holds.
use Rattle.std.proofs.Common.{◌≡◌, ℕ, zero, suc, ◌+◌, ◌<◌, ◌≤◌, Bool, true, false, List, [], ◌∷◌}
use Rattle.std.proofs.Common.{◌++◌, length, refl, arith, Some}
use Rattle.std.specs.Prelude.{slice_get}
use Rattle.std.specs.List.{AllByRecursion}
use Rattle.rv_base.specs.Lists.{map_from}
use Rattle.rv_base.proofs.Lists.{AllByRecursion-front, AllByRecursion-back}
use Rattle.proto_model.specs.Faults.{when, states_from, state_codes, guard_codes, Scope}
use Rattle.proto_model.specs.Faults.{faults_from}
use Rattle.proto_model.specs.declared.protocol.State.{State}

abbrev pub IsEmpty : List ℕ → Type 0
IsEmpty codes = codes ≡ []

pub clean : (n : ℕ) (items : List (List ℕ)) → faults_from n items ≡ []
    → AllByRecursion IsEmpty items
clean n [] e = tt
clean n ([] ∷ items) e = (refl, clean (n + 1) items e)
clean n ((code ∷ more) ∷ items) e = absurd (cc)

-- the codes of the item at a place
pub codes_at : {A : Type 0} (f : ℕ → A → List ℕ) (n : ℕ) (xs : List A)
    → AllByRecursion IsEmpty (map_from f n xs)
    → (k : ℕ) (x : A) → slice_get xs k ≡ Some x → f (n + k) x ≡ []
codes_at f n [] all k x e = absurd (cc)
codes_at f n (y ∷ xs) all zero x e =
    let same : y ≡ x = cc in
    let here : n + 0 ≡ n = omega arith in
    rw (here, ← same) all.0
codes_at f n (y ∷ xs) all (suc k) x e =
    let there : n + suc k ≡ n + 1 + k = omega arith in
    rw there (codes_at f (n + 1) xs all.1 k x e)

-- the codes of the state at a place, and those of its guards
pub record CleanState (s : Scope) (place : ℕ) (state : State) : Type 0 where
  pub own : state_codes s.side s.states place state ≡ []
  pub guards : AllByRecursion IsEmpty (map_from (guard_codes s) 0 state.guards)

pub state_at : (s : Scope) (n : ℕ) (states : List State)
    → AllByRecursion IsEmpty (states_from s n states)
    → (k : ℕ) (state : State) → slice_get states k ≡ Some state → CleanState s (n + k) state
state_at s n [] all k state e = absurd (cc)
state_at s n (first ∷ states) all zero state e =
    let same : first ≡ state = cc in
    let here : n + 0 ≡ n = omega arith in
    let own : CleanState s n first = record {
      own = all.0;
      guards = AllByRecursion-front IsEmpty (map_from (guard_codes s) 0 first.guards)
          (states_from s (n + 1) states) all.1;
    } in
    rw (here, ← same) own
state_at s n (first ∷ states) all (suc k) state e =
    let there : n + suc k ≡ n + 1 + k = omega arith in
    rw there (state_at s (n + 1) states
    (AllByRecursion-back IsEmpty (map_from (guard_codes s) 0 first.guards)
    (states_from s (n + 1) states) all.1) k state e)

-- a code is not there only where its test fails
pub test_fails : (test : Bool) (code : ℕ) (more : List ℕ) → when test code ++ more ≡ []
    → (test ≡ false) × (more ≡ [])
test_fails true code more e = absurd (cc)
test_fails false code more e = (refl, e)

pub last_test_fails : (test : Bool) (code : ℕ) → when test code ≡ [] → test ≡ false
last_test_fails true code e = absurd (cc)
last_test_fails false code e = refl

pub parts_empty : (xs ys : List ℕ) → xs ++ ys ≡ [] → (xs ≡ []) × (ys ≡ [])
parts_empty [] ys e = (refl, e)
parts_empty (x ∷ xs) ys e = absurd (cc)

-- at most so many, where none stands at or past that place
pub few : {A : Type 0} (most : ℕ) (xs : List A)
    → ((k : ℕ) (x : A) → slice_get xs k ≡ Some x → k < most) → length xs ≤ most
few zero [] below = omega arith
few zero (x ∷ xs) below = absurd (let k : 0 < 0 = below 0 x refl in omega arith)
few (suc most) [] below = omega arith
few (suc most) (x ∷ xs) below = let rest : length xs ≤ most = few most xs
    (λ k y e. let more : suc k < suc most = below (suc k) y e in omega arith) in omega arith
