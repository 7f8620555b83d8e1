-- Each turn keeps what was read and what was asked in step, and each answer says how it ends.
use Rattle.std.proofs.Common.{◌≡◌, ℕ, Bool, false, [], ◌∷◌, ◌++◌, refl, sym, ◌∙◌, ap}
use Rattle.std.proofs.Common.{subst}
use Rattle.rv_base.specs.Outside.{RisesWhere, MayRise}
use Rattle.schedule_replay.specs.NextLine.{NextMoves, next_failed, next_wants}
use Rattle.schedule_replay.specs.Reading.{Reading}
use Rattle.schedule_replay.specs.declared.lines.NextLine.{NextLine}
use Rattle.questions.specs.ReadsQuestions.{asking_failed}
use Rattle.questions.proofs.AskingEnds.{HasAsked-start, within-limits, next-owes, next-few}
use Rattle.questions.proofs.AskingEnds.{next-goes, goes-quiet, next-failed, next-wants, all-ends}
use Rattle.questions.proofs.asking.read_lines.Goals as goal

pub loop-answer-init : goal.loop-answer-init
loop-answer-init g c = record {
  done = [];
  asks = rw (c.requires.start, c.requires.none) (HasAsked-start c.args.limits c.args.known.now
      (g.Q.Source.left c.args.source.now));
  same_limits = ap (λ (r : Reading). r.limits) c.requires.start;
  at_end = λ over. absurd (let none : c.args.lines.now.ended ≡ false =
      ap (λ (r : Reading). r.ended) c.requires.start in cc);
  same_faults = refl;
  same_wants = refl;
}

pub returns-in-Some-clause-reads : goal.returns-in-Some-clause-reads
returns-in-Some-clause-reads g c =
    let so_far = c.loop-answer.invariant in
    let moves = within-limits c.args.limits c.loop-answer.lines.limits c.loop-answer.lines
    c.next-got.new.self (g.Q.Source.left c.loop-answer.source)
    (g.Q.Source.left c.next-got.new.source) c.next-got.result so_far.same_limits
    c.next-got.ensures.moves in
    next-owes c.args.limits c.args.known.now (g.Q.Source.left c.next-got.new.source)
    c.next-got.new.self c.hear_next.new.asked c.next-got.result c.in-Some.answer so_far.asks
    moves c.in-Some.ensures

pub returns-in-Some-clause-taken : goal.returns-in-Some-clause-taken
returns-in-Some-clause-taken g c =
    let so_far = c.loop-answer.invariant in
    let moves = within-limits c.args.limits c.loop-answer.lines.limits c.loop-answer.lines
    c.next-got.new.self (g.Q.Source.left c.loop-answer.source)
    (g.Q.Source.left c.next-got.new.source) c.next-got.result so_far.same_limits
    c.next-got.ensures.moves in
    next-few c.args.limits c.args.known.now (g.Q.Source.left c.next-got.new.source)
    c.next-got.new.self c.next-got.result so_far.asks moves

pub returns-in-Some-clause-cause : goal.returns-in-Some-clause-cause
returns-in-Some-clause-cause g c =
    let so_far = c.loop-answer.invariant in
    let now = g.Q.Source.faults c.next-got.new.source in
    let failed : asking_failed c.in-Some.answer ≡ next_failed c.next-got.result =
    next-failed c.args.known.now c.loop-answer.asked c.hear_next.new.asked c.next-got.new.self
    c.next-got.result c.in-Some.answer c.in-Some.ensures in
    subst (λ (rose : Bool). RisesWhere rose (g.Q.Source.faults c.args.source.now) now) (sym failed)
    (subst (λ (before : ℕ). RisesWhere (next_failed c.next-got.result) before now)
    so_far.same_faults c.next-got.ensures.cause)

pub returns-in-Some-clause-wants : goal.returns-in-Some-clause-wants
returns-in-Some-clause-wants g c =
    let so_far = c.loop-answer.invariant in
    let now = g.Q.Source.wants c.next-got.new.source in
    next-wants c.args.known.now c.loop-answer.asked c.hear_next.new.asked c.next-got.new.self
    (g.Q.Source.wants c.args.source.now) now c.next-got.result c.in-Some.answer c.in-Some.ensures
    (subst (λ (before : ℕ). MayRise (next_wants c.next-got.result) before now)
    so_far.same_wants c.next-got.ensures.wants)

pub returns-in-Some-clause-ended : goal.returns-in-Some-clause-ended
returns-in-Some-clause-ended g c = λ all is.
    let so_far = c.loop-answer.invariant in
    let new = c.next-got.new.self in
    let asked = all-ends c.args.known.now c.loop-answer.asked c.hear_next.new.asked all new
    c.next-got.result c.in-Some.answer c.in-Some.ensures is in
    let finds = subst (λ (asked : NextLine). NextMoves c.loop-answer.lines.limits
    c.loop-answer.lines new (g.Q.Source.left c.loop-answer.source)
    (g.Q.Source.left c.next-got.new.source) asked) asked c.next-got.ensures.moves in
    c.next-got.ensures.ends so_far.at_end finds.ended

pub loop-answer-preserved : goal.loop-answer-preserved
loop-answer-preserved g c =
    let so_far = c.loop-answer.invariant in
    let moves = within-limits c.args.limits c.loop-answer.lines.limits c.loop-answer.lines
    c.next-got.new.self (g.Q.Source.left c.loop-answer.source)
    (g.Q.Source.left c.next-got.new.source) c.next-got.result so_far.same_limits
    c.next-got.ensures.moves in
    let quiet = goes-quiet (Unit {0}) c.args.known.now c.loop-answer.asked c.hear_next.new.asked
    c.next-got.new.self c.next-got.result c.in_default.ensures in
    let faults : g.Q.Source.faults c.next-got.new.source
    ≡ g.Q.Source.faults c.loop-answer.source =
    subst (λ (failed : Bool). RisesWhere failed (g.Q.Source.faults c.loop-answer.source)
    (g.Q.Source.faults c.next-got.new.source)) quiet.0 c.next-got.ensures.cause in
    let wants : g.Q.Source.wants c.next-got.new.source
    ≡ g.Q.Source.wants c.loop-answer.source =
    subst (λ (lacks : Bool). MayRise lacks (g.Q.Source.wants c.loop-answer.source)
    (g.Q.Source.wants c.next-got.new.source)) quiet.1 c.next-got.ensures.wants in
    record {
      done = so_far.done ++ c.next-got.new.self.text ∷ [];
      asks = next-goes c.args.limits c.args.known.now (Unit {0}) (g.Q.Source.left c.next-got.new.source)
          c.next-got.new.self c.hear_next.new.asked c.next-got.result so_far.asks moves
          c.in_default.ensures;
      same_limits = c.next-got.ensures.limits ∙ so_far.same_limits;
      at_end = c.next-got.ensures.ends so_far.at_end;
      same_faults = faults ∙ so_far.same_faults;
      same_wants = wants ∙ so_far.same_wants;
    }
