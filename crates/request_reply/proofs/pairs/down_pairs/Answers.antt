-- The reply that is left of one more message is the one with which it is paired.
use Rattle.std.proofs.Common.{◌∙◌, cond, get_or, None, sym, ap}
use Rattle.proto_model.specs.Pairs.{goes_down, paired_with}
use Rattle.proto_model.specs.declared.numbered.Side.TheVariants as side
use Rattle.request_reply.specs.Candidates.{candidate, agreed, only_reply}
use Rattle.request_reply.specs.declared.look.Look.TheVariants.{HomeOutputs, RemoteInputs}
use Rattle.request_reply.specs.declared.candidates.Candidate.TheVariants.{Unseen}
use Rattle.request_reply.proofs.Among.{body_among}
use Rattle.request_reply.proofs.MoreReplies.{left_at, one_more_reply}
use Rattle.request_reply.proofs.Paired.{down_reply}
use Rattle.request_reply.proofs.pairs.down_pairs.Goals as goal

pub candidates-requires : goal.candidates-requires
candidates-requires c =
    body_among HomeOutputs side.Home c.args.checked.now.protocol.messages
    c.args.checked.now.protocol.home c.messages-count.result.now c.home.result.now
    c.home.ensures.proper.home c.messages-count.ensures.value c.home.ensures.value

pub candidates-requires-2 : goal.candidates-requires-2
candidates-requires-2 c =
    body_among RemoteInputs side.Remote c.args.checked.now.protocol.messages
    c.args.checked.now.protocol.remote c.messages-count.result.now c.remote.result.now
    c.remote.ensures.proper.remote c.messages-count.ensures.value c.remote.ensures.value

pub loop-place-preserved : goal.loop-place-preserved
loop-place-preserved c =
    let protocol = c.args.checked.now.protocol in
    let place = c.loop-place.place in
    let outputs =
    left_at HomeOutputs _ protocol.home _ _ _ place c.as_slice.ensures c.in_ok-outputs.ensures.each
    c.home.ensures.value c.loop-place-test.true in
    let inputs =
    left_at RemoteInputs _ protocol.remote _ _ _ place c.as_slice-in-loop-place.ensures
    c.in_ok-inputs.ensures.each
    c.remote.ensures.value c.loop-place-test.true in
    let both =
    ap (λ kept. agreed kept (get_or c.as_slice-in-loop-place.result.now place Unseen)) outputs
    ∙ ap (agreed (candidate HomeOutputs protocol.home place)) inputs in
    one_more_reply
    (λ m. cond (goes_down protocol m) (paired_with protocol m) None) c.loop-place.place
    c.only_reply.result
    c.loop-place.replies c.push.new.self c.in_ok-push.ensures.ok c.loop-place.invariant
    (c.only_reply.ensures ∙ (ap only_reply (c.agreed-left.ensures ∙ both)
    ∙ sym (down_reply protocol c.messages-count.ensures.proper c.loop-place.place)))
