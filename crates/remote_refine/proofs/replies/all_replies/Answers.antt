-- The iterator gave each two replies that stand at one place.
use Rattle.std.proofs.Common.{ap, ◌∙◌, map}
use Rattle.std.proofs.lemmas.Iterator.{YieldsList-from_slice, YieldsList-from_zip}
use Rattle.std.proofs.lemmas.Iterator.{items_from_drains}
use Rattle.request_reply.specs.Pairs.{either}
use Rattle.remote_refine.proofs.replies.all_replies.Goals as goal

pub returns : goal.returns
returns c =
    c.loop-up.invariant
    ∙ ap (map either)
    (items_from_drains c.loop-up.yielded
    (c.loop-up.up-iterator, c.loop-up.yielded_by, λ _. (c.next.new.self, c.in-None.ensures.steps))
    (YieldsList-from_zip (YieldsList-from_slice c.args.pairs.now.up (cc))
    (YieldsList-from_slice c.args.pairs.now.down (cc))))
