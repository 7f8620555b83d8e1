-- What is counted step by step is what is counted over the finished list.
use Rattle.std.proofs.Common.{◌≡◌, ℕ, zero, suc, ◌+◌, max, Bool, List, [], ◌∷◌, length}
use Rattle.std.proofs.Common.{map, fold, replicate, refl, sym, ap, arith, ◌∙◌}
use Rattle.ordered_links.specs.Lists.{LinkPair, no_packets}
use Rattle.async_shape.specs.Setting.{Setting}
use Rattle.async_shape.specs.Config.{Config, start}
use Rattle.ordered_links.specs.Packets.{is_request, is_ack, is_nack, is_reply}
use Rattle.async_shape.specs.Run.{after_step, run}
use Rattle.async_shape.specs.declared.step.Step.{Step}
use Rattle.drive_report.specs.Drive.{Driven, drive_run, moments, tells_event, puts_a}
use Rattle.drive_report.specs.Drive.{crosses_at, greatest, longest_up, longest_down}
use Rattle.drive_report.specs.Drive.{summary_of, summary}
use Rattle.drive_report.specs.Turns.{one_if, nothing_counted, counted, counted_all, counted_to_end}
use Rattle.drive_report.specs.declared.summary.Summary.{Summary}

module _ (setting : Setting) where
  -- the configurations of a run behind the first one
  abbrev later : Config → List Step → List Config
  later c [] = []
  later c (s ∷ steps) = run setting (after_step setting c s) steps

  run-later : (c : Config) (steps : List Step) → run setting c steps ≡ c ∷ later c steps
  run-later c [] = refl
  run-later c (s ∷ steps) = refl

  -- the count of the steps of which a test holds
  count-over : (get : Summary → ℕ) (test : Config × Step → Bool)
      → ((so_far : Summary) (c : Config) (s : Step)
      → get (counted setting so_far c s) ≡ get so_far + one_if (test (c, s)))
      → (so_far : Summary) (c : Config) (steps : List Step)
      → get (counted_all setting so_far c steps)
      ≡ fold (λ n m. n + one_if (test m)) (get so_far) (moments setting c steps)
  count-over get test each so_far c [] = refl
  count-over get test each so_far c (s ∷ steps) =
      let next = after_step setting c s in
      count-over get test each (counted setting so_far c s) next steps
      ∙ ap (λ (n : ℕ). fold (λ k m. k + one_if (test m)) n (moments setting next steps))
      (each so_far c s)

  -- the greatest of what the configurations have
  greatest-over : (get : Summary → ℕ) (of : Config → ℕ)
      → ((so_far : Summary) (c : Config) (s : Step)
      → get (counted setting so_far c s) ≡ max (get so_far) (of (after_step setting c s)))
      → (so_far : Summary) (c : Config) (steps : List Step)
      → get (counted_all setting so_far c steps)
      ≡ fold max (get so_far) (map of (later c steps))
  greatest-over get of each so_far c [] = refl
  greatest-over get of each so_far c (s ∷ steps) =
      let next = after_step setting c s in
      greatest-over get of each (counted setting so_far c s) next steps
      ∙ ap (λ (n : ℕ). fold max n (map of (later next steps))) (each so_far c s)
      ∙ sym (ap (λ (all : List Config). fold max (get so_far) (map of all)) (run-later next steps))

  -- the number of steps
  steps-over : (so_far : Summary) (c : Config) (steps : List Step)
      → (counted_all setting so_far c steps).steps ≡ so_far.steps + length steps
  steps-over so_far c [] = let e : so_far.steps ≡ so_far.steps + 0 = omega arith in e
  steps-over so_far c (s ∷ steps) =
      let e : so_far.steps + 1 + length steps ≡ so_far.steps + suc (length steps) = omega arith in
      steps-over (counted setting so_far c s) (after_step setting c s) steps ∙ e

  -- the greatest over all configurations, of which the first one has none
  greatest-from : (get : Summary → ℕ) (of : Config → ℕ)
      → ((so_far : Summary) (c : Config) (s : Step)
      → get (counted setting so_far c s) ≡ max (get so_far) (of (after_step setting c s)))
      → get nothing_counted ≡ 0 → (c : Config) → of c ≡ 0 → (steps : List Step)
      → get (counted_all setting nothing_counted c steps) ≡ greatest (map of (run setting c steps))
  greatest-from get of each none c first steps =
      let rest = map of (later c steps) in
      greatest-over get of each nothing_counted c steps
      ∙ ap (λ (n : ℕ). fold max n rest) none
      ∙ sym (ap (λ (all : List Config). greatest (map of all)) (run-later c steps)
      ∙ ap (λ (n : ℕ). fold max (max 0 n) rest) first)

  -- What is counted to the end from a configuration without packets and held requests is the
  -- summary.
  counted-summary : (c : Config) → length c.held ≡ 0 → longest_up c.links ≡ 0
      → longest_down c.links ≡ 0 → (driven : Driven)
      → counted_to_end setting nothing_counted c driven ≡ summary_of setting c driven
  counted-summary c held up down driven =
      let steps = driven.steps in
      let counted_steps : 0 + length steps ≡ length steps = omega arith in
      let step_count = steps-over nothing_counted c steps ∙ counted_steps in
      let events =
      count-over (λ s. s.events) (tells_event setting) (λ so_far d s. refl) nothing_counted c
      steps in
      let requests =
      count-over (λ s. s.requests) (λ m. puts_a setting m is_request) (λ so_far d s. refl)
      nothing_counted c steps in
      let acks =
      count-over (λ s. s.acks) (λ m. puts_a setting m is_ack) (λ so_far d s. refl) nothing_counted
      c steps in
      let nacks =
      count-over (λ s. s.nacks) (λ m. puts_a setting m is_nack) (λ so_far d s. refl)
      nothing_counted c steps in
      let replies =
      count-over (λ s. s.replies) (λ m. puts_a setting m is_reply) (λ so_far d s. refl)
      nothing_counted c steps in
      let crossed =
      count-over (λ s. s.crossed) (λ m. crosses_at m.0 m.1) (λ so_far d s. refl) nothing_counted c
      steps in
      let most_held =
      greatest-from (λ s. s.most_held) (λ d. length d.held) (λ so_far d s. refl) refl c held
      steps in
      let most_up =
      greatest-from (λ s. s.most_up) (λ d. longest_up d.links) (λ so_far d s. refl) refl c up
      steps in
      let most_down =
      greatest-from (λ s. s.most_down) (λ d. longest_down d.links) (λ so_far d s. refl) refl c down
      steps in
      rw (
        step_count,
        events,
        requests,
        acks,
        nacks,
        replies,
        crossed,
        most_held,
        most_up,
        most_down,
      )
      refl

-- no packet is on links that are empty
longest-none : (count : LinkPair → ℕ) → count no_packets ≡ 0 → (n : ℕ)
    → greatest (map count (replicate n no_packets)) ≡ 0
longest-none count none zero = refl
longest-none count none (suc n) =
    ap (λ (k : ℕ). fold max (max 0 k) (map count (replicate n no_packets))) none
    ∙ longest-none count none n

-- What is counted to the end of a driven run is its summary.
pub counted-is : (setting : Setting) (n turns seed : ℕ)
    → counted_to_end setting nothing_counted (start setting.protocol n)
    (drive_run setting n turns seed)
    ≡ summary setting n turns seed
counted-is setting n turns seed =
    counted-summary setting (start setting.protocol n) refl
    (longest-none (λ pair. length pair.up) refl n) (longest-none (λ pair. length pair.down) refl n)
    (drive_run setting n turns seed)
