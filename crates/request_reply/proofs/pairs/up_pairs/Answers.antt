-- The reply that is left of one more message is the one with which it is paired.
use Rattle.std.proofs.Common.{◌∙◌, cond, None, sym, ap}
use Rattle.proto_model.specs.Pairs.{goes_up, paired_with}
use Rattle.proto_model.specs.declared.numbered.Side.TheVariants as side
use Rattle.request_reply.specs.Candidates.{only_reply}
use Rattle.request_reply.specs.declared.look.Look.TheVariants.{RemoteOutputs}
use Rattle.request_reply.proofs.Among.{body_among}
use Rattle.request_reply.proofs.MoreReplies.{left_at, one_more_reply}
use Rattle.request_reply.proofs.Paired.{up_reply}
use Rattle.request_reply.proofs.pairs.up_pairs.Goals as goal

pub candidates-requires : goal.candidates-requires
candidates-requires c =
    body_among RemoteOutputs side.Remote c.args.checked.now.protocol.messages
    c.args.checked.now.protocol.remote c.messages-count.result.now c.remote.result.now
    c.remote.ensures.proper.remote c.messages-count.ensures.value c.remote.ensures.value

pub loop-place-preserved : goal.loop-place-preserved
loop-place-preserved c =
    let protocol = c.args.checked.now.protocol in
    let left =
    left_at RemoteOutputs _ protocol.remote _ _ _ c.loop-place.place c.as_slice.ensures
    c.in_ok-outputs.ensures.each
    c.remote.ensures.value c.loop-place-test.true in
    one_more_reply
    (λ q. cond (goes_up protocol q) (paired_with protocol q) None) c.loop-place.place
    c.only_reply.result
    c.loop-place.replies c.push.new.self c.in_ok-push.ensures.ok c.loop-place.invariant
    (c.only_reply.ensures
    ∙ (ap only_reply left
    ∙ sym (up_reply protocol c.messages-count.ensures.proper c.loop-place.place)))
