-- The byte at which no comment begins stands before it.
use Rattle.std.proofs.Common.{◌∙◌, sym, ap}
use Rattle.rv_base.specs.Words.{opens_comment}
use Rattle.rv_base.proofs.BeforeComment.{before_comment-more}
use Rattle.std.proofs.lemmas.List.{take_rest}
use Rattle.rv_base.proofs.words.without_comment.Goals as goal

pub loop-end-preserved : goal.loop-end-preserved
loop-end-preserved c =
    let line = c.args.line.now in
    let end = c.loop-end.end in
    let none = ap opens_comment (sym (take_rest line end))
    ∙ (sym c.starts_with.ensures.value ∙ c.if-starts_with.false) in
    c.loop-end.invariant ∙ before_comment-more line end c.loop-end-test.true none
