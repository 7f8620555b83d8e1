-- What is true of the state at the start of a replay, and kept by each item, is true of the state at
-- its end. Where no claim is broken in a state of which it is true, no replay stops at a broken
-- claim.
use Rattle.std.proofs.Common.{◌≡◌, ◌≢◌, ℕ, ◌+◌, Bool, true, false, nat_le, nat_lt, List, [], ◌∷◌}
use Rattle.std.proofs.Common.{length, Option, None, subst, sym}
use Rattle.schedule_replay.specs.Play.{Play}
use Rattle.schedule_replay.specs.Played.{Halted, Played, line_then, unless_halted}
use Rattle.schedule_replay.specs.Played.{item_then, played_lines, played_from}
use Rattle.schedule_replay.specs.declared.limits.Limits.{Limits}
use Rattle.schedule_replay.specs.declared.player.Meaning.{Meaning}
use Rattle.schedule_replay.specs.declared.player.Meaning.TheVariants.{Blank, Says, Bad}

-- What is to be shown of what is played: the state at the end is good, and no claim stops it.
pub record EndsWell {State : Type 0} (Good : State → Type 0) (all : Played State) : Type 0 where
  pub good : Good all.state
  pub whole : (lines claim : ℕ) → all.stop ≢ Halted lines claim

module _ {State Item : Type 0} (play : Play State Item) (Good : State → Type 0)
    (kept : (state : State) (item : Item) → Good state → Good (play.after state item))
    (calm : (state : State) → Good state → play.halts state ≡ None) where
  -- a replay goes on where no claim is broken
  goes_on : (state : State) (lines : ℕ) (later : Played State) → Good state
      → EndsWell Good later → EndsWell Good (unless_halted (play.halts state) lines state later)
  goes_on state lines later good well =
      subst (λ (o : Option ℕ). EndsWell Good (unless_halted o lines state later))
      (sym (calm state good)) well

  -- the lines that follow, from each good state
  abbrev Later : (ℕ → State → Played State) → Type 0
  Later later = (count : ℕ) (state : State) → Good state → EndsWell Good (later count state)

  item-well : (before count : ℕ) (state : State) (item : Item) (later : ℕ → State → Played State)
      → Good state → Later later → EndsWell Good (item_then play before count state item later)
  item-well before count state item later good then =
      let next = play.after state item in
      let well =
      goes_on next (before + 1) (later (count + 1) next) (kept state item good)
      (then (count + 1) next (kept state item good)) in
      record { good = well.good; whole = well.whole }

  line-well : (many long : Bool) (says : Meaning Item) (before count : ℕ) (state : State)
      (later : ℕ → State → Played State) → Good state → Later later
      → EndsWell Good (line_then play many long says before count state later)
  line-well true long says before count state later good then =
      record { good = good; whole = λ lines claim e. absurd (cc) }
  line-well false true says before count state later good then =
      record { good = good; whole = λ lines claim e. absurd (cc) }
  line-well false false Blank before count state later good then = then count state good
  line-well false false (Says item) before count state later good then =
      item-well before count state item later good then
  line-well false false Bad before count state later good then =
      record { good = good; whole = λ lines claim e. absurd (cc) }

  lines-well : (limits : Limits) (before count : ℕ) (state : State) (lines : List (List ℕ))
      → Good state → EndsWell Good (played_lines play limits before count state lines)
  lines-well limits before count state [] good =
      record { good = good; whole = λ lines claim e. absurd (cc) }
  lines-well limits before count state (line ∷ lines) good =
      line-well (nat_le limits.lines before) (nat_lt limits.line (length line)) (play.says line)
      before count state (λ more next. played_lines play limits (before + 1) more next lines) good
      (λ more next is. lines-well limits (before + 1) more next lines is)

  pub played-well : (limits : Limits) (start : State) (lines : List (List ℕ)) → Good start
      → EndsWell Good (played_from play limits start lines)
  played-well limits start lines good =
      goes_on start 0 (played_lines play limits 0 0 start lines) good
      (lines-well limits 0 0 start lines good)
