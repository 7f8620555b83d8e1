-- By `proofs/CondsSoFar.antt`.
use Rattle.std.proofs.Common.{ℕ, [], List, Bool, Bor, map, slice_range, sym, subst, ◌∙◌}
use Rattle.questions.specs.Adding.{AddsCond}
use Rattle.questions.specs.Reading.{typed_cond}
use Rattle.questions.proofs.CondsSoFar.{starts, goes-on, part-ends}
use Rattle.questions.proofs.conditions.conds_of.Goals.{then-is_and+in_ok-add_cond+else-not-branch, else-is_and}
use Rattle.questions.proofs.conditions.conds_of.Goals as goal

pub loop-place-preserved : goal.loop-place-preserved
loop-place-preserved c =
    let scope = c.args.scope.now in
    let words = c.args.words.now in
    let old = c.loop-place.conds in
    let start = c.loop-place.start in
    let place = c.loop-place.place in
    let d : Bor (List ℕ) = record { ref_ptr = (0, 0); now = [] } in
    elim c.if-is_and.branch [
      | then-is_and+in_ok-add_cond+else-not-branch w ↦ rw (w.start-is, w.conds-is)
          (part-ends scope (λ b. b.now) words old w.add_cond.new.conds start place d
          c.loop-place.invariant c.loop-place-test.true
          (sym c.is_and.ensures ∙ w.if-is_and.true)
          (subst (λ (said : Bool). AddsCond old w.add_cond.new.conds
          (typed_cond scope (map (λ b. b.now) (slice_range words start place))) said)
          w.if-not-branch.false w.in_ok-add_cond.ensures))
      | else-is_and w ↦ rw (w.start-is, w.conds-is)
          (goes-on scope (λ b. b.now) words old start place d c.loop-place.invariant
          c.loop-place-test.true (sym c.is_and.ensures ∙ w.if-is_and.false))
    ]

pub loop-place-init : goal.loop-place-init
loop-place-init c =
    rw c.new-conds.ensures (starts c.args.scope.now (λ b. b.now) c.args.words.now)
