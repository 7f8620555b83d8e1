-- The ready list, put together step by step and kind by kind.
use Rattle.std.proofs.Common.{◌≡◌, ℕ, ◌+◌, Bool, List, [], ◌∷◌, ◌++◌, filter, map, flat_map}
use Rattle.std.proofs.Common.{refl, sym, ap, arith, append_assoc, append-nil, ◌∙◌}
use Rattle.std.specs.List.{range_with_len}
use Rattle.std.proofs.lemmas.Grind.{flat_map-append}
use Rattle.std.proofs.lemmas.List.Elements.{filter-append}
use Rattle.std.proofs.lemmas.List.FromFn.{map-range_with_len_more}
use Rattle.async_shape.specs.declared.step.Step.{Step}
use Rattle.async_shape.specs.declared.step.Step.TheVariants as step
use Rattle.proto_model.specs.Proper.{most_guards}
use Rattle.drive_report.specs.Ready.{steps_below, steps_of_two, all_steps}
use Rattle.drive_report.proofs.NoneReady.{from_tau, from_take, from_send, from_drop}
use Rattle.drive_report.proofs.NoneReady.{from_remote_tau, from_remote_send, from_answer}
use Rattle.drive_report.proofs.NoneReady.{from_reply}
use Rattle.drive_report.proofs.NoneReady.{from_up, from_down}

map-same : {X : Type 0} (xs : List X) → map (λ x. x) xs ≡ xs
map-same [] = refl
map-same (x ∷ xs) = ap (λ rest. x ∷ rest) (map-same xs)

-- the numbers below i + 1 are those below i, and i
pub range-more : (i : ℕ) → range_with_len 0 (i + 1) ≡ range_with_len 0 i ++ i ∷ []
range-more i =
    let at : 0 + i ≡ i = omega arith in
    sym (map-same (range_with_len 0 (i + 1)))
    ∙ map-range_with_len_more (λ (j : ℕ). j) 0 i i at
    ∙ ap (λ (js : List ℕ). js ++ i ∷ []) (map-same (range_with_len 0 i))

-- What is behind a start are the steps of the front that pass the test, and then those of what
-- comes next.
pub filter-behind : (test : Step → Bool) (start old new front next : List Step)
    → old ≡ start ++ filter test front → new ≡ old ++ filter test next
    → new ≡ start ++ filter test (front ++ next)
filter-behind test start old new front next so_far more =
    more ∙ ap (λ (steps : List Step). steps ++ filter test next) so_far
    ∙ append_assoc start (filter test front) (filter test next)
    ∙ ap (λ (steps : List Step). start ++ steps) (sym (filter-append test front next))

-- one more step of a form
pub form-pushed : (test : Step → Bool) (form : ℕ → Step) (i : ℕ) (start old new : List Step)
    → old ≡ start ++ filter test (steps_below i form)
    → new ≡ old ++ filter test (form i ∷ [])
    → new ≡ start ++ filter test (steps_below (i + 1) form)
form-pushed test form i start old new so_far more =
    let at : 0 + i ≡ i = omega arith in
    filter-behind test start old new (steps_below i form) (form i ∷ []) so_far more
    ∙ ap (λ (steps : List Step). start ++ filter test steps)
    (sym (map-range_with_len_more form 0 i i at))

-- one more form of a kind
pub pair-pushed : (test : Step → Bool) (n : ℕ) (form : ℕ → ℕ → Step) (i : ℕ)
    (start old new : List Step) → old ≡ start ++ filter test (steps_of_two i n form)
    → new ≡ old ++ filter test (steps_below n (form i))
    → new ≡ start ++ filter test (steps_of_two (i + 1) n form)
pair-pushed test n form i start old new so_far more =
    let give : ℕ → List Step = λ a. steps_below n (form a) in
    let last : flat_map give (i ∷ []) ≡ give i = append-nil (give i) in
    let all : steps_of_two (i + 1) n form ≡ steps_of_two i n form ++ give i =
    ap (flat_map give) (range-more i) ∙ flat_map-append give (range_with_len 0 i) (i ∷ [])
    ∙ ap (λ (steps : List Step). steps_of_two i n form ++ steps) last in
    filter-behind test start old new (steps_of_two i n form) (give i) so_far more
    ∙ ap (λ (steps : List Step). start ++ filter test steps) (sym all)

-- What was pushed so far and what is to come are the whole, and so they are after the next kind.
pub kind-pushed : (test : Step → Bool) (old new next rest whole : List Step)
    → old ++ filter test (next ++ rest) ≡ whole → new ≡ old ++ filter test next
    → new ++ filter test rest ≡ whole
kind-pushed test old new next rest whole so_far more =
    ap (λ (steps : List Step). steps ++ filter test rest) more
    ∙ append_assoc old (filter test next) (filter test rest)
    ∙ ap (λ (steps : List Step). old ++ steps) (sym (filter-append test next rest))
    ∙ so_far

-- The kinds of step pushed one after the other, of m guards and n remotes: s is the list before
-- them, and each other one that after a kind.
module _ (test : Step → Bool) (m n : ℕ)
    (s tau take send drop tau_remote send_remote answer reply up down : List Step) where
  pub kinds-pushed : s ≡ [] → tau ≡ s ++ filter test (steps_below m (λ g. step.HomeTau g))
      → take ≡ tau ++ filter test (steps_below n (λ j. step.HomeTake j))
      → send ≡ take ++ filter test (steps_of_two m n (λ g j. step.HomeSend g j))
      → drop ≡ send ++ filter test (steps_below n (λ j. step.HomeDrop j))
      → tau_remote ≡ drop ++ filter test (steps_of_two n m (λ j g. step.RemoteTau j g))
      → send_remote ≡ tau_remote ++ filter test (steps_below n (λ j. step.RemoteSend j))
      → answer ≡ send_remote ++ filter test (steps_below n (λ j. step.RemoteAnswer j))
      → reply ≡ answer ++ filter test (steps_below n (λ j. step.RemoteReply j))
      → up ≡ reply ++ filter test (steps_below n (λ j. step.Up j))
      → down ≡ up ++ filter test (steps_below n (λ j. step.Down j))
      → down ≡ filter test (from_tau m n)
  kinds-pushed none tau_is take_is send_is drop_is tau_remote_is send_remote_is answer_is reply_is
      up_is
      down_is =
      let whole = filter test (from_tau m n) in
      let at_start : s ++ filter test (from_tau m n) ≡ whole =
      ap (λ (steps : List Step). steps ++ filter test (from_tau m n)) none in
      let at_tau =
      kind-pushed test s tau (steps_below m (λ g. step.HomeTau g)) (from_take m n) whole at_start
      tau_is in
      let at_take =
      kind-pushed test tau take (steps_below n (λ j. step.HomeTake j)) (from_send m n) whole at_tau
      take_is in
      let at_send =
      kind-pushed test take send (steps_of_two m n (λ g j. step.HomeSend g j)) (from_drop m n) whole
      at_take send_is in
      let at_drop =
      kind-pushed test send drop (steps_below n (λ j. step.HomeDrop j)) (from_remote_tau m n) whole
      at_send drop_is in
      let at_tau_remote =
      kind-pushed test drop tau_remote (steps_of_two n m (λ j g. step.RemoteTau j g))
      (from_remote_send m n) whole at_drop tau_remote_is in
      let at_send_remote =
      kind-pushed test tau_remote send_remote (steps_below n (λ j. step.RemoteSend j))
      (from_answer m n) whole at_tau_remote send_remote_is in
      let at_answer =
      kind-pushed test send_remote answer (steps_below n (λ j. step.RemoteAnswer j))
      (from_reply m n) whole at_send_remote answer_is in
      let at_reply =
      kind-pushed test answer reply (steps_below n (λ j. step.RemoteReply j)) (from_up m n) whole
      at_answer reply_is in
      let at_up =
      kind-pushed test reply up (steps_below n (λ j. step.Up j)) (from_down m n) whole at_reply
      up_is in
      down_is ∙ at_up

-- the list of all steps is that of the kinds
pub all_steps-kinds : (n : ℕ) → from_tau most_guards n ≡ all_steps n
unfolding all_steps
all_steps-kinds n = refl
