-- Each row is compared with its word, up to the first for which it doesn't stand.
use Rattle.std.proofs.Common.{◌≡◌, ◌<◌, false, true, List, ℕ, take, below_more, ap, refl}
use Rattle.std.proofs.Common.{◌∙◌, arith}
use Rattle.control_store.proofs.FirstWrong.{right-here, wrong-here}
use Rattle.control_store.proofs.comparing.first_wrong.Goals as goal

pub returns-then-not-stands_for : goal.returns-then-not-stands_for
returns-then-not-stands_for c = (
  c.loop-place-test.true,
  wrong-here c.args.rows.now c.args.words.now c.in_ok-word.word.now c.loop-place.place _
      c.loop-place-test.true
      (c.in_ok-word.ensures.cases.same
      ∙ ap (λ (w : List ℕ). take 16 w) c.split_at.ensures.back)
      (λ is. let no : false ≡ true = c.if-not-stands_for.ensures.1 is in absurd (cc)),
  c.loop-place.invariant,
)

pub loop-place-preserved : goal.loop-place-preserved
loop-place-preserved c =
    below_more _ _ c.loop-place.invariant
    (right-here c.args.rows.now c.args.words.now c.in_ok-word.word.now c.loop-place.place _
    c.loop-place-test.true
    (c.in_ok-word.ensures.cases.same ∙ ap (λ (w : List ℕ). take 16 w) c.split_at.ensures.back)
    (c.if-not-stands_for.ensures.0 refl))

pub returns : goal.returns
returns c = λ place within.
    let below : place < c.loop-place.place = omega arith in c.loop-place.invariant place below
