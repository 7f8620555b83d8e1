-- How a run ends where a claim is broken before the first line of the schedule, whatever that
-- holds.
use Rattle.std.proofs.Common.{◌≡◌, ℕ, ◌++◌, Some, None, sym, ap, subst, refl, inl, inr, IfSome}
use Rattle.std.proofs.Common.{IsSome}
use Rattle.std.proofs.lemmas.List.{append-nil}
use Rattle.std.specs.declared.option.Option.{Option}
use Rattle.proto_model.specs.Tokens.{Text}
use Rattle.schedule_replay.specs.Play.{Play}
use Rattle.schedule_replay.specs.TextLines.{lines_of}
use Rattle.schedule_replay.specs.Played.{Halted, Played, stopped, unless_halted, claim_text}
use Rattle.schedule_replay.specs.Played.{played_lines}
use Rattle.schedule_replay.specs.Played.{played_text, played, trace}
use Rattle.schedule_replay.specs.Turns.{EndsWith}
use Rattle.schedule_replay.specs.declared.limits.Limits.{Limits}
use Rattle.schedule_replay.specs.declared.replaying.Replayed.{Replayed}
use Rattle.schedule_replay.specs.declared.replaying.Replayed.TheVariants as replay
use Rattle.rvc_top.specs.Commands.{said_at}
use Rattle.rvc_top.specs.Verdict.{IsSaid}
use Rattle.rvc_top.specs.Endings.{Ends, IsOrFails}
use Rattle.rvc_top.specs.Reply.{Concludes}
use Rattle.rvc_top.specs.declared.status.Status.{Status}
use Rattle.rvc_top.specs.declared.status.Status.TheVariants.{WriteFault, NoMemory, ClaimBroken}
use Rattle.rvc_top.proofs.Endings.{told}
use Rattle.rvc_top.proofs.Replays.{ends-there, ends-cut}

-- what is so of a claim that is there
with-some : (o : Option ℕ) (P : ℕ → Type 0) → IfSome o P → IsSome o → (n : ℕ) × (o ≡ Some n) × P n
with-some None P p is = absurd (cc)
with-some (Some n) P p is = (n, refl, p)

module _ {State Item : Type 0} (play : Play State Item) (limits : Limits) (start : State)
    (claim : ℕ) (halts : play.halts start ≡ Some claim) (schedule : Text) where
  -- the schedule ends before its first line
  halted-played : played play limits start schedule ≡ stopped start (Halted 0 claim)
  halted-played = ap (λ (h : Option ℕ). unless_halted h 0 start
      (played_lines play limits 0 0 start (lines_of schedule))) halts

  -- what is written, and how the run ends
  ends-halted : (fault : Type 0) (before : Text) (mid now : Option Text) (replayed : Replayed)
      (answer : Status)
      → EndsWith play (replay.ClaimBroken claim) (claim_text claim ++ play.ending start)
      (Some before) mid replayed
      → Concludes mid now replayed answer
      → Ends (IsSaid (said_at (Halted 0 claim) (claim_text claim ++ play.ending start))) fault
      before now answer
  ends-halted fault before mid now replayed answer (inl x) w =
      ends-there (Halted 0 claim) (claim_text claim ++ play.ending start) before fault mid now
      answer ClaimBroken refl (append-nil (claim_text claim ++ play.ending start)) tt x.1
      (subst (λ (r : Replayed). Concludes mid now r answer) x.0 w)
  ends-halted fault before mid now replayed answer (inr (inl e, front)) w =
      ends-cut (Halted 0 claim) (claim_text claim ++ play.ending start) before fault mid now answer
      WriteFault (λ p. p) front (subst (λ (r : Replayed). Concludes mid now r answer) e w)
  ends-halted fault before mid now replayed answer (inr (inr e, front)) w =
      ends-cut (Halted 0 claim) (claim_text claim ++ play.ending start) before fault mid now answer
      NoMemory (λ p. p) front (subst (λ (r : Replayed). Concludes mid now r answer) e w)

  -- the answer
  exact-halted : (text : Text) (old mid now : Option Text) (replayed : Replayed) (answer : Status)
      → EndsWith play (replay.ClaimBroken claim) text old mid replayed
      → Concludes mid now replayed answer → IsOrFails ClaimBroken answer
  exact-halted text old mid now replayed answer (inl x) w =
      inl (subst (λ (r : Replayed). Concludes mid now r answer) x.0 w).0
  exact-halted text old mid now replayed answer (inr (inl e, front)) w =
      inr (inr (inl (subst (λ (r : Replayed). Concludes mid now r answer) e w).0))
  exact-halted text old mid now replayed answer (inr (inr e, front)) w =
      inr (inr (inr (subst (λ (r : Replayed). Concludes mid now r answer) e w).0))

  -- what is so of a schedule that ends there is so of this one
  ends-so : (P : Played State → Type 0) → P (stopped start (Halted 0 claim))
      → P (played play limits start schedule)
  ends-so P p = subst P (sym halted-played) p

module _ {State Item : Type 0} (play : Play State Item) (limits : Limits) (start : State)
    (same : Type 0) (old mid now : Option Text) (replayed : Replayed) (answer : Status)
    (starts : IfSome (play.halts start) (λ claim. same × EndsWith play (replay.ClaimBroken claim)
    (claim_text claim ++ play.ending start) old mid replayed))
    (w : Concludes mid now replayed answer) (broken : IsSome (play.halts start)) where
  -- nothing is asked of the schedule
  pub broken-same : same
  broken-same = (with-some (play.halts start) _ starts broken).2.0

  -- what is written, by the schedule that is at hand
  pub broken-ends : (schedule : Text) (fault : Text → Type 0) → IfSome old (λ before.
      Ends (IsSaid (said_at (played play limits start schedule).stop
      (trace play limits start schedule))) (fault before) before now answer)
  broken-ends schedule fault =
      let found = with-some (play.halts start) _ starts broken in
      told old _ (λ before e.
      ends-so play limits start found.0 found.1 schedule
      (λ (p : Played State). Ends (IsSaid (said_at p.stop (played_text play p)))
      (fault before) before now answer)
      (ends-halted play limits start found.0 found.1 schedule (fault before) before mid now
      replayed answer
      (subst (λ (bytes : Option Text). EndsWith play (replay.ClaimBroken found.0)
      (claim_text found.0 ++ play.ending start) bytes mid replayed) e found.2.1) w))

  -- the answer, by the schedule that is at hand
  pub broken-exact : (schedule : Text) → IsOrFails
      (said_at (played play limits start schedule).stop (trace play limits start schedule)).status
      answer
  broken-exact schedule =
      let found = with-some (play.halts start) _ starts broken in
      ends-so play limits start found.0 found.1 schedule
      (λ (p : Played State). IsOrFails (said_at p.stop (played_text play p)).status answer)
      (exact-halted play limits start found.0 found.1 schedule
      (claim_text found.0 ++ play.ending start) old mid now replayed answer found.2.1 w)
