-- What is played of a schedule is what stands before the first stop.
use Rattle.std.proofs.Common.{◌≡◌, ℕ, zero, suc, ◌+◌, ◌<◌, Bool, true, false, List, [], ◌∷◌, ◌++◌}
use Rattle.std.proofs.Common.{length, nat_le, nat_lt, Option, Some, None, slice_get, refl, sym, ap}
use Rattle.std.proofs.Common.{arith, ◌∙◌}
use Rattle.std.proofs.lemmas.Bool.{ltb-true, ltb-false}
use Rattle.std.proofs.lemmas.Option.{none-some, same_Some}
use Rattle.schedule_replay.specs.Play.{Play}
use Rattle.schedule_replay.specs.Played.{Stop, AtEnd, AtLine, TooMany, Halted, Played, stopped}
use Rattle.schedule_replay.specs.Played.{behind}
use Rattle.schedule_replay.specs.Played.{unless_halted, numbered_block, line_then, played_lines}
use Rattle.schedule_replay.specs.Played.{played_from}
use Rattle.schedule_replay.specs.PlayedItems.{blocks_of}
use Rattle.schedule_replay.specs.declared.limits.Limits.{Limits}
use Rattle.schedule_replay.specs.declared.player.Meaning.{Meaning}
use Rattle.schedule_replay.specs.declared.player.Meaning.TheVariants.{Blank, Says, Bad}
use Rattle.run_replay.specs.WhereStopped.{stop_by_claim, items_in, state_behind, played_behind}
use Rattle.run_replay.specs.WhereStopped.{stop_by_line, stop_behind, IsFirstStop}

module _ {State Item : Type 0} (play : Play State Item) (limits : Limits) where
  -- what stops these lines, which follow so many others, behind n of them
  abbrev stop_from : ℕ → State → List (List ℕ) → ℕ → Option Stop
  stop_from taken start lines n =
      stop_by_claim (play.halts (state_behind play start lines n)) (taken + n)
      (stop_by_line play limits (taken + n) (slice_get lines n))

  -- What is played of lines that follow so many others, and so many items, ends at the first stop.
  record EndsAtFirst (taken before : ℕ) (start : State) (lines : List (List ℕ))
      (played : Played State) : Type 0 where
    n : ℕ
    stops : stop_from taken start lines n ≡ Some played.stop
    none : (m : ℕ) → m < n → stop_from taken start lines m ≡ None
    blocks : played.blocks ≡ blocks_of play before start (items_in play lines n)
    state : played.state ≡ state_behind play start lines n

  -- where no claim is broken, the first line may stop it
  stop-here : (taken : ℕ) (start : State) (lines : List (List ℕ)) → play.halts start ≡ None
      → stop_from taken start lines 0 ≡ stop_by_line play limits taken (slice_get lines 0)
  stop-here taken start lines none =
      let number : taken + 0 ≡ taken = omega arith in
      ap
      (λ (n : ℕ). stop_by_claim (play.halts start) n
      (stop_by_line play limits n (slice_get lines 0))) number
      ∙ ap (λ (halt : Option ℕ). stop_by_claim halt taken
      (stop_by_line play limits taken (slice_get lines 0))) none

  -- what stops it later is what stops the lines that follow the first, from where this leads
  stop-later : (taken n : ℕ) (start next : State) (line : List ℕ) (lines : List (List ℕ))
      → state_behind play start (line ∷ lines) (suc n) ≡ state_behind play next lines n
      → stop_from taken start (line ∷ lines) (suc n) ≡ stop_from (taken + 1) next lines n
  stop-later taken n start next line lines same =
      let number : taken + suc n ≡ taken + 1 + n = omega arith in
      ap
      (λ (k : ℕ). stop_by_claim (play.halts (state_behind play start (line ∷ lines) (suc n))) k
      (stop_by_line play limits k (slice_get lines n))) number
      ∙ ap (λ (state : State). stop_by_claim (play.halts state) (taken + 1 + n)
      (stop_by_line play limits (taken + 1 + n) (slice_get lines n))) same

  -- no line is taken
  ends-here : (taken before : ℕ) (start : State) (lines : List (List ℕ)) (stop : Stop)
      → stop_from taken start lines 0 ≡ Some stop
      → EndsAtFirst taken before start lines (stopped start stop)
  ends-here taken before start lines stop is = record {
    n = 0;
    stops = is;
    none = λ m below. absurd (omega (arith, below));
    blocks = refl;
    state = refl;
  }

  -- nothing stops it at the first line, nor behind fewer of the others
  none-before : (taken n : ℕ) (start next : State) (line : List ℕ) (lines : List (List ℕ))
      → stop_from taken start (line ∷ lines) 0 ≡ None
      → ((m : ℕ) → state_behind play start (line ∷ lines) (suc m)
      ≡ state_behind play next lines m)
      → ((m : ℕ) → m < n → stop_from (taken + 1) next lines m ≡ None)
      → (m : ℕ) → m < suc n → stop_from taken start (line ∷ lines) m ≡ None
  none-before taken n start next line lines first leads later zero below = first
  none-before taken n start next line lines first leads later (suc m) below =
      let less : m < n = omega (arith, below) in
      stop-later taken m start next line lines (leads m) ∙ later m less

  -- a blank line is taken
  ends-blank : (taken before : ℕ) (start : State) (line : List ℕ) (lines : List (List ℕ))
      (played : Played State) → play.says line ≡ Blank
      → stop_from taken start (line ∷ lines) 0 ≡ None
      → EndsAtFirst (taken + 1) before start lines played
      → EndsAtFirst taken before start (line ∷ lines) played
  ends-blank taken before start line lines played says first later =
      let leads : (m : ℕ) → state_behind play start (line ∷ lines) (suc m)
      ≡ state_behind play start lines m = λ m. rw says refl in
      let items : items_in play (line ∷ lines) (suc later.n) ≡ items_in play lines later.n =
      rw says refl in
      record {
        n = suc later.n;
        stops = stop-later taken later.n start start line lines (leads later.n) ∙ later.stops;
        none = none-before taken later.n start start line lines first leads later.none;
        blocks = later.blocks ∙ ap (blocks_of play before start) (sym items);
        state = later.state ∙ sym (leads later.n);
      }

  -- an item is played, and a claim is broken then
  ends-halted : (taken before : ℕ) (start : State) (line : List ℕ) (lines : List (List ℕ))
      (item : Item) (claim : ℕ) → play.says line ≡ Says item
      → stop_from taken start (line ∷ lines) 0 ≡ None
      → play.halts (play.after start item) ≡ Some claim
      → EndsAtFirst taken before start (line ∷ lines)
      (behind (numbered_block play before start item)
      (stopped (play.after start item) (Halted (taken + 1) claim)))
  ends-halted taken before start line lines item claim says first halts =
      let items : items_in play (line ∷ lines) 1 ≡ item ∷ [] = rw says refl in
      let leads : state_behind play start (line ∷ lines) 1 ≡ play.after start item = rw says refl in
      let halted : play.halts (state_behind play start (line ∷ lines) 1) ≡ Some claim =
      ap (λ (state : State). play.halts state) leads ∙ halts in
      record {
        n = 1;
        stops = ap (λ (halt : Option ℕ). stop_by_claim halt (taken + 1)
            (stop_by_line play limits (taken + 1) (slice_get lines 0))) halted;
        none = λ m below.
            let zero_is : m ≡ 0 = omega (arith, below) in
            ap (λ (k : ℕ). stop_from taken start (line ∷ lines) k) zero_is ∙ first;
        blocks = ap (blocks_of play before start) (sym items);
        state = sym leads;
      }

  -- an item is played, no claim is broken then, and it goes on
  ends-item : (taken before : ℕ) (start : State) (line : List ℕ) (lines : List (List ℕ))
      (item : Item) (played : Played State) → play.says line ≡ Says item
      → stop_from taken start (line ∷ lines) 0 ≡ None
      → EndsAtFirst (taken + 1) (before + 1) (play.after start item) lines played
      → EndsAtFirst taken before start (line ∷ lines)
      (behind (numbered_block play before start item) played)
  ends-item taken before start line lines item played says first later =
      let next = play.after start item in
      let leads : (m : ℕ) → state_behind play start (line ∷ lines) (suc m)
      ≡ state_behind play next lines m = λ m. rw says refl in
      let items : items_in play (line ∷ lines) (suc later.n)
      ≡ item ∷ items_in play lines later.n = rw says refl in
      record {
        n = suc later.n;
        stops = stop-later taken later.n start next line lines (leads later.n) ∙ later.stops;
        none = none-before taken later.n start next line lines first leads later.none;
        blocks = ap (λ (text : List ℕ). numbered_block play before start item ++ text) later.blocks
            ∙ ap (blocks_of play before start) (sym items);
        state = later.state ∙ sym (leads later.n);
      }

  -- the lines from here on
  all_from : (taken before : ℕ) (start : State) (lines : List (List ℕ))
      → play.halts start ≡ None
      → EndsAtFirst taken before start lines (played_lines play limits taken before start lines)
  all_from taken before start [] none =
      ends-here taken before start [] AtEnd (stop-here taken start [] none)
  all_from taken before start (line ∷ lines) none =
      by (nat_le limits.lines taken) (nat_lt limits.line (length line)) (play.says line) refl refl
      refl (λ count next halts. all_from (taken + 1) count next lines halts)
    where
      here : stop_from taken start (line ∷ lines) 0 ≡ stop_by_line play limits taken (Some line)
      here = stop-here taken start (line ∷ lines) none

      later : ℕ → State → Played State
      later count next = played_lines play limits (taken + 1) count next lines

      halted : (item : Item) (halt : Option ℕ) → play.says line ≡ Says item
          → stop_from taken start (line ∷ lines) 0 ≡ None
          → play.halts (play.after start item) ≡ halt
          → ((count : ℕ) (next : State) → play.halts next ≡ None
          → EndsAtFirst (taken + 1) count next lines (later count next))
          → EndsAtFirst taken before start (line ∷ lines)
          (behind (numbered_block play before start item)
          (unless_halted halt (taken + 1) (play.after start item)
          (later (before + 1) (play.after start item))))
      halted item (Some claim) says first halts goes =
          ends-halted taken before start line lines item claim says first halts
      halted item None says first halts goes =
          ends-item taken before start line lines item (later (before + 1) (play.after start item))
          says first (goes (before + 1) (play.after start item) halts)

      by : (many long : Bool) (says : Meaning Item) → nat_le limits.lines taken ≡ many
          → nat_lt limits.line (length line) ≡ long → play.says line ≡ says
          → ((count : ℕ) (next : State) → play.halts next ≡ None
          → EndsAtFirst (taken + 1) count next lines (later count next))
          → EndsAtFirst taken before start (line ∷ lines)
          (line_then play many long says taken before start later)
      by true long says is_many is_long is_said goes =
          ends-here taken before start (line ∷ lines) TooMany (here ∙ rw is_many refl)
      by false true says is_many is_long is_said goes =
          ends-here taken before start (line ∷ lines) (AtLine (taken + 1))
          (here ∙ rw (is_many, is_long) refl)
      by false false Blank is_many is_long is_said goes =
          ends-blank taken before start line lines (later before start) is_said
          (here ∙ rw (is_many, is_long, is_said) refl) (goes before start none)
      by false false (Says item) is_many is_long is_said goes =
          halted item (play.halts (play.after start item)) is_said
          (here ∙ rw (is_many, is_long, is_said) refl) refl goes
      by false false Bad is_many is_long is_said goes =
          ends-here taken before start (line ∷ lines) (AtLine (taken + 1))
          (here ∙ rw (is_many, is_long, is_said) refl)

  -- What is played of all lines stands before the first stop.
  pub record PlayedToStop (start : State) (lines : List (List ℕ)) (played : Played State) : Type 0
    where
      pub n : ℕ
      pub first : IsFirstStop play limits start lines n played.stop
      pub same : played ≡ played_behind play start lines n played.stop

  -- what is played is its blocks, its state and its stop
  of_parts : (start : State) (lines : List (List ℕ)) (n : ℕ) (played : Played State)
      → played.blocks ≡ blocks_of play 0 start (items_in play lines n)
      → played.state ≡ state_behind play start lines n
      → played ≡ played_behind play start lines n played.stop
  of_parts start lines n played blocks state =
      let made : List ℕ → State → Played State = λ text end. record {
        blocks = text;
        state = end;
        stop = played.stop;
      } in
      ap (λ (text : List ℕ). made text played.state) blocks
      ∙ ap (made (blocks_of play 0 start (items_in play lines n))) state

  from-zero : (start : State) (lines : List (List ℕ)) (n : ℕ)
      → stop_behind play limits start lines n ≡ stop_from 0 start lines n
  from-zero start lines n =
      let number : n ≡ 0 + n = omega arith in
      ap
      (λ (k : ℕ). stop_by_claim (play.halts (state_behind play start lines n)) k
      (stop_by_line play limits k (slice_get lines n))) number

  pub first_stop : (start : State) (lines : List (List ℕ))
      → PlayedToStop start lines (played_from play limits start lines)
  first_stop start lines = by (play.halts start) refl
    where
      by : (halt : Option ℕ) → play.halts start ≡ halt
          → PlayedToStop start lines
          (unless_halted halt 0 start (played_lines play limits 0 0 start lines))
      by (Some claim) is = record {
        n = 0;
        first = record {
          stops = ap (λ (halt : Option ℕ). stop_by_claim halt 0
              (stop_by_line play limits 0 (slice_get lines 0))) is;
          before = λ m below. absurd (omega (arith, below));
        };
        same = refl;
      }
      by None is =
          let played = played_lines play limits 0 0 start lines in
          let ends = all_from 0 0 start lines is in
          record {
            n = ends.n;
            first = record {
              stops = from-zero start lines ends.n ∙ ends.stops;
              before = λ m below. from-zero start lines m ∙ ends.none m below;
            };
            same = of_parts start lines ends.n played ends.blocks ends.state;
          }

  -- There is one first stop.
  stop-once : (start : State) (lines : List (List ℕ)) (n m : ℕ) (stop other : Stop)
      → IsFirstStop play limits start lines n stop → IsFirstStop play limits start lines m other
      → (n ≡ m) × (stop ≡ other)
  stop-once start lines n m stop other first second =
      by (nat_lt n m) (nat_lt m n) refl refl
    where
      at : ℕ → Option Stop
      at k = stop_behind play limits start lines k

      by : (less more : Bool) → nat_lt n m ≡ less → nat_lt m n ≡ more
          → (n ≡ m) × (stop ≡ other)
      by true more less is =
          absurd (none-some stop (sym (second.before n (ltb-true n m less)) ∙ first.stops))
      by false true less is =
          absurd (none-some other (sym (first.before m (ltb-true m n is)) ∙ second.stops))
      by false false less is =
          let not_less = ltb-false n m less in
          let not_more = ltb-false m n is in
          let same : n ≡ m = omega (arith, not_less, not_more) in (
            same,
            same_Some stop other (sym first.stops ∙ ap at same ∙ second.stops),
          )

  -- What is played is what stands before any first stop.
  pub played-behind : (start : State) (lines : List (List ℕ)) (n : ℕ) (stop : Stop)
      → IsFirstStop play limits start lines n stop
      → played_from play limits start lines ≡ played_behind play start lines n stop
  played-behind start lines n stop first =
      let is = first_stop start lines in
      let once =
      stop-once start lines is.n n (played_from play limits start lines).stop stop is.first first in
      is.same
      ∙ ap
      (λ (k : ℕ). played_behind play start lines k (played_from play limits start lines).stop)
      once.0
      ∙ ap (λ (s : Stop). played_behind play start lines n s) once.1
