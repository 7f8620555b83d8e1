-- Passing over items: what the parts of a list of items say of the whole.
use Rattle.std.proofs.Common.{◌≡◌, ℕ, suc, ◌+◌, ◌<◌, List, [], ◌∷◌, ◌++◌, length, get_or, drop}
use Rattle.std.proofs.Common.{refl, sym, ap, ◌∙◌, arith, Some, None, drop-cons, length-append}
use Rattle.std.specs.Prelude.{Result, Ok, Err}
use Rattle.rv_base.specs.Lists.{map_from}
use Rattle.proto_model.specs.Faults.{first, faults_from, states_from, state_codes, guard_codes}
use Rattle.proto_model.specs.Faults.{Scope}
use Rattle.proto_model.specs.declared.protocol.State.{State}
use Rattle.proto_model.specs.declared.guard.Guard.{Guard}
use Rattle.star_check.specs.declared.fault.Fault.{Fault}
use Rattle.star_check.specs.Passes.{Passes}

-- items without a fault are passed over
pub first-pass : (n : ℕ) (xs ys : List (List ℕ)) → None ≡ first (faults_from n xs)
    → first (faults_from n (xs ++ ys)) ≡ first (faults_from (n + length xs) ys)
first-pass n [] ys e = let here : n + 0 ≡ n = omega arith in rw here refl
first-pass n ([] ∷ xs) ys e =
    let there : n + suc (length xs) ≡ n + 1 + length xs = omega arith in
    rw there (first-pass (n + 1) xs ys e)
first-pass n ((c ∷ codes) ∷ xs) ys e = absurd (cc)

-- the first fault of a front is that of the whole
pub first-stop : (n : ℕ) (xs ys : List (List ℕ)) (f : ℕ × ℕ) → Some f ≡ first (faults_from n xs)
    → Some f ≡ first (faults_from n (xs ++ ys))
first-stop n [] ys f e = absurd (cc)
first-stop n ([] ∷ xs) ys f e = first-stop (n + 1) xs ys f e
first-stop n ((c ∷ codes) ∷ xs) ys f e = e

pub pass_own : (own : List ℕ) (n : ℕ) (items : List (List ℕ)) → None ≡ first own
    → first (faults_from n (own ∷ items)) ≡ first (faults_from (n + 1) items)
pass_own [] n items e = refl
pass_own (c ∷ codes) n items e = absurd (cc)

stop_own : (own : List ℕ) (n : ℕ) (items : List (List ℕ)) (c : ℕ) → Some c ≡ first own
    → first (faults_from n (own ∷ items)) ≡ Some (n, c)
stop_own [] n items c e = absurd (cc)
stop_own (d ∷ codes) n items c e = let same : d ≡ c = cc in ap (λ k. Some (n, k)) same

-- items without a fault, and the item behind them
pub first-pass_to : (n next : ℕ) (xs : List (List ℕ)) (own : List ℕ) (rest : List (List ℕ))
    → None ≡ first (faults_from n xs) → next ≡ n + length xs → None ≡ first own
    → first (faults_from n (xs ++ own ∷ rest)) ≡ first (faults_from (next + 1) rest)
first-pass_to n next xs own rest clean count clean_own =
    first-pass n xs (own ∷ rest) clean
    ∙ ap (λ k. first (faults_from k (own ∷ rest))) (sym count)
    ∙ pass_own own next rest clean_own

pub first-stop_at : (n next : ℕ) (xs : List (List ℕ)) (own : List ℕ) (rest : List (List ℕ)) (c : ℕ)
    → None ≡ first (faults_from n xs) → next ≡ n + length xs → Some c ≡ first own
    → Some (next, c) ≡ first (faults_from n (xs ++ own ∷ rest))
first-stop_at n next xs own rest c clean count code =
    sym (first-pass n xs (own ∷ rest) clean
    ∙ ap (λ k. first (faults_from k (own ∷ rest))) (sym count)
    ∙ stop_own own next rest c code)

-- a pass over what stands behind them is a pass over all
pub Passes-on : (result : Result ℕ Fault) (n next : ℕ) (xs : List (List ℕ)) (own : List ℕ)
    (rest : List (List ℕ))
    → None ≡ first (faults_from n xs) → next ≡ n + length xs → None ≡ first own
    → Passes result (next + 1) rest → Passes result n (xs ++ own ∷ rest)
Passes-on (Ok last) n next xs own rest clean count clean_own passes =
    let whole : length (xs ++ own ∷ rest) ≡ length xs + suc (length rest) = length-append xs
    (own ∷ rest) in (
      passes.0 ∙ sym (first-pass_to n next xs own rest clean count clean_own),
      let last_is
          = passes.1 in omega arith,
    )
Passes-on (Err f) n next xs own rest clean count clean_own passes = passes
    ∙ sym (first-pass_to n next xs own rest clean count clean_own)

left_at : {A : Type 0} (xs : List A) (i : ℕ) (x : A) → i < length xs → x ≡ get_or xs i x
    → drop i xs ≡ x ∷ drop (i + 1) xs
left_at xs i x within at =
    let next : suc i ≡ i + 1 = omega arith in
    drop-cons xs i x within ∙ ap (λ y. y ∷ drop (suc i) xs) (sym at) ∙ ap (λ k. x ∷ drop k xs) next

-- at a state of a process: its guards are the items behind it
module _ (s : Scope) (states : List State) (i n : ℕ) (state : State) (guards : List Guard) where
  -- the states from this place on begin with this one
  here : i < length states → state ≡ get_or states i state → guards ≡ state.guards
      → states_from s i (drop i states)
      ≡ state_codes s.side s.states i state
      ∷ (map_from (guard_codes s) 0 guards ++ states_from s (i + 1) (drop (i + 1) states))
  here within at own =
      ap (states_from s i) (left_at states i state within at)
      ∙ ap (λ gs. state_codes s.side s.states i state
      ∷ (map_from (guard_codes s) 0 gs ++ states_from s (i + 1) (drop (i + 1) states)))
      (sym own)

  pub passed-state : i < length states → state ≡ get_or states i state → guards ≡ state.guards
      → None ≡ first (state_codes s.side s.states i state)
      → None ≡ first (faults_from (n + 1) (map_from (guard_codes s) 0 guards))
      → (next : ℕ) → next ≡ n + 1 + length (map_from (guard_codes s) 0 guards)
      → first (faults_from n (states_from s i (drop i states)))
      ≡ first (faults_from next (states_from s (i + 1) (drop (i + 1) states)))
  passed-state within at own clean clean_guards next count =
      ap (λ items. first (faults_from n items)) (here within at own)
      ∙ pass_own (state_codes s.side s.states i state) n
      (map_from (guard_codes s) 0 guards ++ states_from s (i + 1) (drop (i + 1) states)) clean
      ∙ first-pass (n + 1) (map_from (guard_codes s) 0 guards)
      (states_from s (i + 1) (drop (i + 1) states)) clean_guards
      ∙ ap (λ k. first (faults_from k (states_from s (i + 1) (drop (i + 1) states)))) (sym count)

  pub counted-state : i < length states → state ≡ get_or states i state → guards ≡ state.guards
      → (next : ℕ) → next ≡ n + 1 + length (map_from (guard_codes s) 0 guards)
      → next + length (states_from s (i + 1) (drop (i + 1) states)) ≡ n + length
      (states_from s i (drop i states))
  counted-state within at own next count =
      let whole : length (states_from s i (drop i states))
      ≡ suc (length (map_from (guard_codes s) 0 guards ++ states_from s (i + 1)
      (drop (i + 1) states))) =
      ap length (here within at own) in
      let parts : length (map_from (guard_codes s) 0 guards ++ states_from s (i + 1)
      (drop (i + 1) states))
      ≡ length (map_from (guard_codes s) 0 guards) + length
      (states_from s (i + 1) (drop (i + 1) states)) =
      length-append (map_from (guard_codes s) 0 guards)
      (states_from s (i + 1) (drop (i + 1) states)) in
      omega arith

  pub stopped-state : i < length states → state ≡ get_or states i state → guards ≡ state.guards
      → None ≡ first (state_codes s.side s.states i state)
      → (f : ℕ × ℕ) → Some f ≡ first (faults_from (n + 1) (map_from (guard_codes s) 0 guards))
      → Some f ≡ first (faults_from n (states_from s i (drop i states)))
  stopped-state within at own clean f found =
      first-stop (n + 1) (map_from (guard_codes s) 0 guards)
      (states_from s (i + 1) (drop (i + 1) states)) f found
      ∙ sym (pass_own (state_codes s.side s.states i state) n
      (map_from (guard_codes s) 0 guards ++ states_from s (i + 1) (drop (i + 1) states)) clean)
      ∙ sym (ap (λ items. first (faults_from n items)) (here within at own))
