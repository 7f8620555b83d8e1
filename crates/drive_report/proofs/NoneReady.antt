-- Where the ready list is empty, no step with numbers in range is enabled.
use Rattle.std.proofs.Common.{◌≡◌, ℕ, zero, suc, ◌+◌, ◌<◌, ◌≤◌, Bool, true, false, List, [], ◌∷◌}
use Rattle.std.proofs.Common.{◌++◌}
use Rattle.std.proofs.Common.{map, filter, flat_map, length, Some, slice_get, refl, sym, ap}
use Rattle.std.proofs.Common.{subst, arith, ◌∙◌}
use Rattle.std.specs.List.{AllByRecursion, range_with_len}
use Rattle.std.proofs.lemmas.List.FromFn.{length-range_with_len, get_or-range_with_len}
use Rattle.std.proofs.lemmas.Option.{slice_get-get_or, slice_get_within}
use Rattle.rv_base.proofs.Lists.{AllByRecursion-front, AllByRecursion-back, AllByRecursion-at}
use Rattle.rv_base.proofs.Lists.{some_and_then}
use Rattle.proto_model.specs.Guards.{guard_at}
use Rattle.proto_model.specs.Proper.{IsProperState, IsProperBody}
use Rattle.proto_model.specs.declared.numbered.Side.{Side}
use Rattle.proto_model.specs.declared.numbered.MessageInfo.{MessageInfo}
use Rattle.proto_model.specs.declared.numbered.StateInfo.{StateInfo}
use Rattle.proto_model.specs.declared.numbered.Rule.{Rule}
use Rattle.proto_model.specs.declared.numbered.Body.{Body}
use Rattle.async_shape.specs.Setting.{Setting}
use Rattle.async_shape.specs.Config.{Config, count_of}
use Rattle.async_shape.specs.Next.{is_enabled}
use Rattle.async_shape.specs.declared.step.Step.{Step}
use Rattle.async_shape.specs.declared.step.Step.TheVariants as step
use Rattle.proto_model.specs.Proper.{most_guards}
use Rattle.drive_report.specs.Ready.{steps_below, steps_of_two, all_steps, ready_list}

-- ---- lists

-- where a filter leaves nothing, no item passes
filter-none : {X : Type 0} (test : X → Bool) (xs : List X) → filter test xs ≡ []
    → AllByRecursion (λ x. test x ≡ false) xs
filter-none test [] none = tt
filter-none test (x ∷ xs) none = by (test x) refl (filter-none test xs)
  where
    by : (passes : Bool) → test x ≡ passes
        → (filter test xs ≡ [] → AllByRecursion (λ y. test y ≡ false) xs)
        → AllByRecursion (λ y. test y ≡ false) (x ∷ xs)
    by true is rest = let some : x ∷ filter test xs ≡ [] = rw is at none in absurd (cc)
    by false is rest = (is, rest (rw is at none))

-- what holds of all that the items give holds of what the item at a place gives
AllByRecursion-map_at : {A B : Type 0} (P : B → Type 0) (give : A → B) (items : List A)
    → AllByRecursion P (map give items) → (place : ℕ) (item : A)
    → slice_get items place ≡ Some item → P (give item)
AllByRecursion-map_at P give [] each place item at = absurd (cc)
AllByRecursion-map_at P give (first ∷ items) each zero item at =
    let same : first ≡ item = cc in subst (λ one. P (give one)) same each.0
AllByRecursion-map_at P give (first ∷ items) each (suc place) item at =
    AllByRecursion-map_at P give items each.1 place item at

AllByRecursion-flat_map_at : {A B : Type 0} (P : B → Type 0) (give : A → List B) (items : List A)
    → AllByRecursion P (flat_map give items) → (place : ℕ) (item : A)
    → slice_get items place ≡ Some item → AllByRecursion P (give item)
AllByRecursion-flat_map_at P give [] each place item at = absurd (cc)
AllByRecursion-flat_map_at P give (first ∷ items) each zero item at =
    let same : first ≡ item = cc in
    subst (λ one. AllByRecursion P (give one)) same
    (AllByRecursion-front P (give first) (flat_map give items) each)
AllByRecursion-flat_map_at P give (first ∷ items) each (suc place) item at =
    AllByRecursion-flat_map_at P give items
    (AllByRecursion-back P (give first) (flat_map give items) each) place item at

-- at a place of the numbers below n stands its number
pub range-at : (n j : ℕ) → j < n → slice_get (range_with_len 0 n) j ≡ Some j
range-at n j within =
    let inside : j < length (range_with_len 0 n) =
    subst (λ (k : ℕ). j < k) (sym (length-range_with_len 0 n)) within in
    let from : 0 + j ≡ j = omega arith in
    slice_get-get_or (range_with_len 0 n) j 0 inside
    ∙ ap (λ (k : ℕ). Some k) (get_or-range_with_len 0 n j 0 within ∙ from)

module _ (P : Step → Type 0) where
  steps_below-each : (n : ℕ) (form : ℕ → Step) → AllByRecursion P (steps_below n form)
      → (j : ℕ) → j < n → P (form j)
  steps_below-each n form each j within =
      AllByRecursion-map_at P form (range_with_len 0 n) each j j (range-at n j within)

  steps_of_two-each : (m n : ℕ) (form : ℕ → ℕ → Step) → AllByRecursion P (steps_of_two m n form)
      → (a b : ℕ) → a < m → b < n → P (form a b)
  steps_of_two-each m n form each a b first second =
      steps_below-each n (form a)
      (AllByRecursion-flat_map_at P (λ one. steps_below n (form one)) (range_with_len 0 m) each a a
      (range-at m a first)) b second

-- ---- the kinds of step, from each kind on

module _ (m n : ℕ) where
  abbrev pub from_down : List Step
  from_down = steps_below n (λ j. step.Down j)

  abbrev pub from_up : List Step
  from_up = steps_below n (λ j. step.Up j) ++ from_down

  abbrev pub from_reply : List Step
  from_reply = steps_below n (λ j. step.RemoteReply j) ++ from_up

  abbrev pub from_answer : List Step
  from_answer = steps_below n (λ j. step.RemoteAnswer j) ++ from_reply

  abbrev pub from_remote_send : List Step
  from_remote_send = steps_below n (λ j. step.RemoteSend j) ++ from_answer

  abbrev pub from_remote_tau : List Step
  from_remote_tau = steps_of_two n m (λ j g. step.RemoteTau j g) ++ from_remote_send

  abbrev pub from_drop : List Step
  from_drop = steps_below n (λ j. step.HomeDrop j) ++ from_remote_tau

  abbrev pub from_send : List Step
  from_send = steps_of_two m n (λ g j. step.HomeSend g j) ++ from_drop

  abbrev pub from_take : List Step
  from_take = steps_below n (λ j. step.HomeTake j) ++ from_send

  abbrev pub from_tau : List Step
  from_tau = steps_below m (λ g. step.HomeTau g) ++ from_take

-- the numbers of the step are in range: guards are below m, and remotes below n
abbrev pub IsWithin : ℕ → ℕ → Step → Type 0
IsWithin m n (step.HomeTau g) = g < m
IsWithin m n (step.HomeTake j) = j < n
IsWithin m n (step.HomeSend g j) = (g < m) × (j < n)
IsWithin m n (step.HomeDrop j) = j < n
IsWithin m n (step.RemoteTau j g) = (j < n) × (g < m)
IsWithin m n (step.RemoteSend j) = j < n
IsWithin m n (step.RemoteAnswer j) = j < n
IsWithin m n (step.RemoteReply j) = j < n
IsWithin m n (step.Up j) = j < n
IsWithin m n (step.Down j) = j < n

module _ (P : Step → Type 0) (m n : ℕ) (each : AllByRecursion P (from_tau m n)) where
  at_take : AllByRecursion P (from_take m n)
  at_take = AllByRecursion-back P (steps_below m (λ g. step.HomeTau g)) (from_take m n) each

  at_send : AllByRecursion P (from_send m n)
  at_send = AllByRecursion-back P (steps_below n (λ j. step.HomeTake j)) (from_send m n) at_take

  at_drop : AllByRecursion P (from_drop m n)
  at_drop =
      AllByRecursion-back P (steps_of_two m n (λ g j. step.HomeSend g j)) (from_drop m n) at_send

  at_tau : AllByRecursion P (from_remote_tau m n)
  at_tau =
      AllByRecursion-back P (steps_below n (λ j. step.HomeDrop j)) (from_remote_tau m n) at_drop

  at_remote_send : AllByRecursion P (from_remote_send m n)
  at_remote_send =
      AllByRecursion-back P (steps_of_two n m (λ j g. step.RemoteTau j g)) (from_remote_send m n)
      at_tau

  at_answer : AllByRecursion P (from_answer m n)
  at_answer =
      AllByRecursion-back P (steps_below n (λ j. step.RemoteSend j)) (from_answer m n)
      at_remote_send

  at_reply : AllByRecursion P (from_reply m n)
  at_reply =
      AllByRecursion-back P (steps_below n (λ j. step.RemoteAnswer j)) (from_reply m n) at_answer

  at_up : AllByRecursion P (from_up m n)
  at_up = AllByRecursion-back P (steps_below n (λ j. step.RemoteReply j)) (from_up m n) at_reply

  at_down : AllByRecursion P (from_down m n)
  at_down = AllByRecursion-back P (steps_below n (λ j. step.Up j)) (from_down m n) at_up

  -- What holds of each step of the list holds of each step with numbers in range.
  pub each-within : (s : Step) → IsWithin m n s → P s
  each-within (step.HomeTau g) within =
      steps_below-each P m (λ i. step.HomeTau i)
      (AllByRecursion-front P (steps_below m (λ i. step.HomeTau i)) (from_take m n) each) g within
  each-within (step.HomeTake j) within =
      steps_below-each P n (λ i. step.HomeTake i)
      (AllByRecursion-front P (steps_below n (λ i. step.HomeTake i)) (from_send m n) at_take) j
      within
  each-within (step.HomeSend g j) within =
      steps_of_two-each P m n (λ h i. step.HomeSend h i)
      (AllByRecursion-front P (steps_of_two m n (λ h i. step.HomeSend h i)) (from_drop m n) at_send)
      g j within.0 within.1
  each-within (step.HomeDrop j) within =
      steps_below-each P n (λ i. step.HomeDrop i)
      (AllByRecursion-front P (steps_below n (λ i. step.HomeDrop i)) (from_remote_tau m n) at_drop)
      j within
  each-within (step.RemoteTau j g) within =
      steps_of_two-each P n m (λ i h. step.RemoteTau i h)
      (AllByRecursion-front P (steps_of_two n m (λ i h. step.RemoteTau i h)) (from_remote_send m n)
      at_tau) j g within.0 within.1
  each-within (step.RemoteSend j) within =
      steps_below-each P n (λ i. step.RemoteSend i)
      (AllByRecursion-front P (steps_below n (λ i. step.RemoteSend i)) (from_answer m n)
      at_remote_send) j within
  each-within (step.RemoteAnswer j) within =
      steps_below-each P n (λ i. step.RemoteAnswer i)
      (AllByRecursion-front P (steps_below n (λ i. step.RemoteAnswer i)) (from_reply m n) at_answer)
      j within
  each-within (step.RemoteReply j) within =
      steps_below-each P n (λ i. step.RemoteReply i)
      (AllByRecursion-front P (steps_below n (λ i. step.RemoteReply i)) (from_up m n) at_reply) j
      within
  each-within (step.Up j) within =
      steps_below-each P n (λ i. step.Up i)
      (AllByRecursion-front P (steps_below n (λ i. step.Up i)) (from_down m n) at_up) j within
  each-within (step.Down j) within = steps_below-each P n (λ i. step.Down i) at_down j within

-- No step with numbers in range is enabled.
pub record NoneEnabled (setting : Setting) (c : Config) : Type 0 where
  pub none : (s : Step) → IsWithin most_guards (count_of c) s → is_enabled setting c s ≡ false

-- Where the ready list is empty, none is.
pub none-enabled : (setting : Setting) (c : Config) → ready_list setting c ≡ []
    → NoneEnabled setting c
unfolding all_steps
none-enabled setting c empty =
    let not_ready : Step → Type 0 = λ s. is_enabled setting c s ≡ false in
    record {
      none =
          each-within not_ready most_guards (count_of c)
          (filter-none (is_enabled setting c) (all_steps (count_of c)) empty);
    }

-- The number of a guard of a proper process is one of those in the list.
pub guard-few : (s : Side) (messages : List MessageInfo) (body : Body) (state g : ℕ) (rule : Rule)
    → IsProperBody s messages body → guard_at body state g ≡ Some rule → g < most_guards
guard-few s messages body state g rule proper there =
    let by =
    some_and_then (λ (i : StateInfo). slice_get i.rules g) (slice_get body.states state) rule
    there in
    let info : StateInfo = by.0 in
    let is =
    AllByRecursion-at (IsProperState s messages body.vars (length body.states)) body.states state
    info proper.states by.1 in
    let few : length info.rules ≤ 16 = is.few_rules in
    let within : g < length info.rules = slice_get_within info.rules g rule by.2 in
    omega arith
