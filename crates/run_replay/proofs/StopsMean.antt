-- What it means where a replay of steps stops.
use Rattle.std.proofs.Common.{◌≡◌, ◌⊎◌, inl, inr, ℕ, zero, suc, ◌+◌, ◌<◌, ◌≤◌, Bool, true, false}
use Rattle.std.proofs.Common.{List, [], ◌∷◌, length, nat_le, nat_lt, Option, Some, None, slice_get}
use Rattle.std.proofs.Common.{refl, sym, ap, subst, arith, ◌∙◌}
use Rattle.std.proofs.lemmas.Bool.{lt-ltb, ltb-true, ltb-false, leb-true, leb-false}
use Rattle.std.proofs.lemmas.Bool.{or_cases, or_left, or_right}
use Rattle.std.proofs.lemmas.Option.{none-some, same_Some, slice_get_within, slice_get-get_or}
use Rattle.rendezvous_meaning.specs.Claims.{broken, remote_states}
use Rattle.rendezvous_meaning.proofs.BrokenClaims.{broken-none, broken-first}
use Rattle.schedule_replay.specs.Play.{Play}
use Rattle.schedule_replay.specs.Played.{Stop, AtEnd, AtLine, TooMany, Halted, played_from}
use Rattle.schedule_replay.specs.PlayedItems.{state_at_end}
use Rattle.schedule_replay.specs.declared.limits.Limits.{Limits}
use Rattle.schedule_replay.specs.declared.player.Meaning.{Meaning}
use Rattle.schedule_replay.specs.declared.player.Meaning.TheVariants.{Blank, Says, Bad}
use Rattle.async_shape.specs.Run.{config_at_end}
use Rattle.async_shape.specs.declared.step.Step.{Step}
use Rattle.run_replay.specs.RunTrace.{Running, running_after, run_play, run_halts}
use Rattle.run_replay.specs.WhereStopped.{stop_by_claim, is_malformed, is_refused, stop_by_line}
use Rattle.run_replay.specs.WhereStopped.{stop_behind, state_behind, steps_in}
use Rattle.run_replay.specs.WhereStopped.{stands_behind, IsRefused, AreTaken, HoldBehind, MeansStop}
use Rattle.run_replay.proofs.FirstStop.{first_stop}

-- ---- of any schedule

-- where no line stands at a place, there are no more lines than that
none-there : (lines : List (List ℕ)) (n : ℕ) → slice_get lines n ≡ None → length lines ≤ n
none-there lines n none = by (nat_lt n (length lines)) refl
  where
    by : (less : Bool) → nat_lt n (length lines) ≡ less → length lines ≤ n
    by false is = ltb-false n (length lines) is
    by true is =
        let there = slice_get-get_or lines n [] (ltb-true n (length lines) is) in
        absurd (none-some _ (sym none ∙ there))

module _ {State Item : Type 0} (play : Play State Item) (limits : Limits) (start : State)
    (lines : List (List ℕ)) where
  -- Nothing stops it behind n lines: no claim is broken there, and a line follows that is taken.
  record GoesOn (n : ℕ) : Type 0 where
    holds : play.halts (state_behind play start lines n) ≡ None
    line : List ℕ
    there : slice_get lines n ≡ Some line
    few : n < limits.lines
    fine : is_refused play limits line ≡ false

  goes-on : (n : ℕ) → stop_behind play limits start lines n ≡ None → GoesOn n
  goes-on n none = by (play.halts (state_behind play start lines n)) refl none
    where
      by_line : (line : List ℕ) (many refused : Bool)
          → play.halts (state_behind play start lines n) ≡ None
          → slice_get lines n ≡ Some line → nat_le limits.lines n ≡ many
          → is_refused play limits line ≡ refused
          → stop_by_line play limits n (Some line) ≡ None → GoesOn n
      by_line line true refused holds there many_is refused_is no_stop =
          let other : Some TooMany ≡ None = rw many_is at no_stop in absurd (cc)
      by_line line false true holds there many_is refused_is no_stop =
          let other : Some (AtLine (n + 1)) ≡ None = rw (many_is, refused_is) at no_stop in
          absurd (cc)
      by_line line false false holds there many_is refused_is no_stop =
          let less = leb-false limits.lines n many_is in
          record {
            holds = holds;
            line = line;
            there = there;
            few = omega (arith, less);
            fine = refused_is;
          }

      by_next : (next : Option (List ℕ)) → play.halts (state_behind play start lines n) ≡ None
          → slice_get lines n ≡ next → stop_by_line play limits n next ≡ None → GoesOn n
      by_next None holds there no_stop = absurd (cc)
      by_next (Some line) holds there no_stop =
          by_line line (nat_le limits.lines n) (is_refused play limits line) holds there refl refl
          no_stop

      by : (halt : Option ℕ) → play.halts (state_behind play start lines n) ≡ halt
          → stop_by_claim halt n (stop_by_line play limits n (slice_get lines n)) ≡ None
          → GoesOn n
      by (Some claim) holds no_stop = absurd (cc)
      by None holds no_stop = by_next (slice_get lines n) holds refl no_stop

  -- How it is stopped behind n lines.
  abbrev StopsHow : ℕ → Stop → Type 0
  StopsHow n AtEnd =
      (play.halts (state_behind play start lines n) ≡ None) × (slice_get lines n ≡ None)
  StopsHow n (AtLine number) =
      (play.halts (state_behind play start lines n) ≡ None) × (number ≡ n + 1)
      × ((line : List ℕ) × (slice_get lines n ≡ Some line)
      × (is_refused play limits line ≡ true)) × (n < limits.lines)
  StopsHow n TooMany =
      (play.halts (state_behind play start lines n) ≡ None) × (n < length lines)
      × (limits.lines ≤ n)
  StopsHow n (Halted number claim) =
      (number ≡ n) × (play.halts (state_behind play start lines n) ≡ Some claim)

  stops-how : (n : ℕ) (stop : Stop) → stop_behind play limits start lines n ≡ Some stop
      → StopsHow n stop
  stops-how n stop stops = by (play.halts (state_behind play start lines n)) refl stops
    where
      by_line : (line : List ℕ) (many refused : Bool)
          → play.halts (state_behind play start lines n) ≡ None
          → slice_get lines n ≡ Some line → nat_le limits.lines n ≡ many
          → is_refused play limits line ≡ refused
          → stop_by_line play limits n (Some line) ≡ Some stop → StopsHow n stop
      by_line line true refused holds there many_is refused_is is =
          let same : Some TooMany ≡ Some stop = rw many_is at is in
          subst (λ (s : Stop). StopsHow n s) (same_Some TooMany stop same)
          (holds, slice_get_within lines n line there, leb-true limits.lines n many_is)
      by_line line false true holds there many_is refused_is is =
          let same : Some (AtLine (n + 1)) ≡ Some stop = rw (many_is, refused_is) at is in
          let less = leb-false limits.lines n many_is in
          let few : n < limits.lines = omega (arith, less) in
          subst (λ (s : Stop). StopsHow n s) (same_Some (AtLine (n + 1)) stop same)
          (holds, refl, (line, there, refused_is), few)
      by_line line false false holds there many_is refused_is is =
          let none : None ≡ Some stop = rw (many_is, refused_is) at is in
          absurd (none-some stop none)

      by_next : (next : Option (List ℕ)) → play.halts (state_behind play start lines n) ≡ None
          → slice_get lines n ≡ next → stop_by_line play limits n next ≡ Some stop
          → StopsHow n stop
      by_next None holds there is =
          subst (λ (s : Stop). StopsHow n s) (same_Some AtEnd stop is) (holds, there)
      by_next (Some line) holds there is =
          by_line line (nat_le limits.lines n) (is_refused play limits line) holds there refl refl
          is

      by : (halt : Option ℕ) → play.halts (state_behind play start lines n) ≡ halt
          → stop_by_claim halt n (stop_by_line play limits n (slice_get lines n)) ≡ Some stop
          → StopsHow n stop
      by (Some claim) holds is =
          subst (λ (s : Stop). StopsHow n s) (same_Some (Halted n claim) stop is) (refl, holds)
      by None holds is = by_next (slice_get lines n) holds refl is

-- ---- of a schedule of steps

-- Steps lead the controllers to where they lead their configuration.
leads-to : (running : Running) (steps : List Step)
    → state_at_end run_play running steps
    ≡ record {
      claims = running.claims;
      setting = running.setting;
      config = config_at_end running.setting running.config steps;
    }
leads-to running [] = refl
leads-to running (s ∷ steps) = leads-to (running_after running s) steps

is-malformed : (meaning : Meaning Step) → is_malformed meaning ≡ true → meaning ≡ Bad
is-malformed Blank is = absurd (cc)
is-malformed (Says s) is = absurd (cc)
is-malformed Bad is = refl

module _ (limits : Limits) where
  refused-is : (line : List ℕ) → is_refused run_play limits line ≡ true → IsRefused limits line
  refused-is line refused =
      by
      (or_cases (nat_lt limits.line (length line)) (is_malformed (run_play.says line)) refused)
    where
      by : (nat_lt limits.line (length line) ≡ true) ⊎ (is_malformed (run_play.says line) ≡ true)
          → IsRefused limits line
      by (inl long) = inl (ltb-true limits.line (length line) long)
      by (inr bad) = inr (is-malformed (run_play.says line) bad)

  is-refused : (line : List ℕ) → IsRefused limits line → is_refused run_play limits line ≡ true
  is-refused line (inl long) =
      or_left (nat_lt limits.line (length line)) (is_malformed (run_play.says line))
      (lt-ltb limits.line (length line) long)
  is-refused line (inr bad) =
      or_right (nat_lt limits.line (length line)) (is_malformed (run_play.says line))
      (ap is_malformed bad)

module _ (limits : Limits) (start : Running) (lines : List (List ℕ)) where
  -- whether the controllers halt behind n lines is whether a claim is broken there
  halts-behind : (n : ℕ) → run_halts (state_behind run_play start lines n)
      ≡ broken start.claims (remote_states (stands_behind start lines n))
  halts-behind n = ap run_halts (leads-to start (steps_in lines n))

  holds-behind : (n : ℕ) → run_halts (state_behind run_play start lines n) ≡ None
      → HoldBehind start lines n
  holds-behind n none =
      broken-none start.claims (remote_states (stands_behind start lines n))
      (sym (halts-behind n) ∙ none)

  -- ---- the lines before the stop

  module _ (n : ℕ) (before : (m : ℕ) → m < n → stop_behind run_play limits start lines m ≡ None)
    where
      goes : (m : ℕ) → m < n → GoesOn run_play limits start lines m
      goes m less = goes-on run_play limits start lines m (before m less)

      held : (m : ℕ) → m < n → HoldBehind start lines m
      held m less = holds-behind m (goes m less).holds

      bounds : (count : ℕ) → count ≤ n → (count ≤ length lines) × (count ≤ limits.lines)
      bounds zero less = ((omega arith), (omega arith))
      bounds (suc m) less =
          let below : m < n = omega (arith, less) in
          let on = goes m below in
          let inside : m < length lines = slice_get_within lines m on.line on.there in
          let few = on.few in
          (omega (arith, inside), omega (arith, few))

      taken : AreTaken limits lines n
      taken = record {
        there = (bounds n (omega arith)).0;
        few = (bounds n (omega arith)).1;
        fine = λ m line less there refused.
            let on = goes m less in
            let same : on.line ≡ line = same_Some on.line line (sym on.there ∙ there) in
            let is : is_refused run_play limits line ≡ true = is-refused limits line refused
            in
            let isnt : is_refused run_play limits line ≡ false =
            ap (is_refused run_play limits) (sym same) ∙ on.fine in
            cc;
      }

      -- and behind n of them
      held-to : HoldBehind start lines n → (m : ℕ) → m ≤ n → HoldBehind start lines m
      held-to here m less = by (nat_lt m n) refl
        where
          by : (below : Bool) → nat_lt m n ≡ below → HoldBehind start lines m
          by true is = held m (ltb-true m n is)
          by false is =
              let not_below = ltb-false m n is in
              let same : n ≡ m = omega (arith, not_below, less) in
              subst (λ (k : ℕ). HoldBehind start lines k) same here

  -- ---- what the stop means

  means : (n : ℕ) (stop : Stop) → StopsHow run_play limits start lines n stop
      → ((m : ℕ) → m < n → stop_behind run_play limits start lines m ≡ None)
      → MeansStop limits start lines stop
  means n AtEnd how before =
      let few = taken n before in
      let past = none-there lines n how.1 in
      let there = few.there in
      let same : n ≡ length lines = omega (arith, past, there) in
      record {
        taken = subst (λ (k : ℕ). AreTaken limits lines k) same few;
        holds = λ m less. held-to n before (holds-behind n how.0) m (omega (arith, less, same));
      }
  means n (AtLine number) how before =
      let few = how.3 in
      let number_is = how.1 in
      record {
        n = n;
        number_is = number_is;
        line = how.2.0;
        there = how.2.1;
        refused = refused-is limits how.2.0 how.2.2;
        among = omega (arith, few, number_is);
        taken = taken n before;
        holds = held-to n before (holds-behind n how.0);
      }
  means n TooMany how before =
      let all = taken n before in
      let few = all.few in
      let least = how.2 in
      let same : n ≡ limits.lines = omega (arith, few, least) in
      let inside = how.1 in
      record {
        more = omega (arith, inside, same);
        taken = subst (λ (k : ℕ). AreTaken limits lines k) same all;
        holds = λ m less. held-to n before (holds-behind n how.0) m (omega (arith, less, same));
      }
  means n (Halted number claim) how before =
      let same : n ≡ number = sym how.0 in
      subst (λ (k : ℕ). MeansStop limits start lines (Halted k claim)) same (record {
        broken = broken-first start.claims (remote_states (stands_behind start lines n)) claim
            (sym (halts-behind n) ∙ how.1);
        taken = taken n before;
        holds = held n before;
      })

  -- What is played stops so.
  pub stop-means : MeansStop limits start lines (played_from run_play limits start lines).stop
  stop-means =
      let is = first_stop run_play limits start lines in
      let stop = (played_from run_play limits start lines).stop in
      means is.n stop (stops-how run_play limits start lines is.n stop is.first.stops)
      is.first.before
