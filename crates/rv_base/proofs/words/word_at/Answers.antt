-- The chain gives the pieces with bytes, in order.
use Rattle.std.proofs.Common.{rules, ap, ◌∙◌}
use Rattle.std.specs.Slice.Iter.{split_rest, split_done, split_callee}
use Rattle.std.proofs.lemmas.Iterator.Splits.{YieldsList-from_slice_split}
use Rattle.std.proofs.lemmas.Iterator.Consumers.{YieldsList-from_filter, nth_from_yields_List}
use Rattle.rv_base.specs.Words.{is_blank, has_bytes, before_comment}
use Rattle.rv_base.proofs.words.word_at.Goals as goal

pub returns : goal.returns
returns c =
    let from = c.filter.ensures.source in
    nth_from_yields_List _ _ c.args.place c.nth.ensures.ran
    (YieldsList-from_filter _ has_bytes
    (YieldsList-from_slice_split _ is_blank (before_comment c.args.line.now)
    (ap split_rest from ∙ (c.split.ensures.rest ∙ c.without_comment.ensures))
    (ap split_done from ∙ c.split.ensures.done)
    (ap split_callee from ∙ c.split.ensures.closure)
    (λ b r q k. search rules))
    c.filter.ensures.closure
    (λ w r q k. search rules))
