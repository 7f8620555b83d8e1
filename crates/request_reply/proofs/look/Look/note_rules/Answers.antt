-- One more rule is noted.
use Rattle.std.proofs.Common.{◌≡◌, ◌∙◌, length, take, sym, ap, subst}
use Rattle.rv_base.proofs.Lists.{AllByRecursion-read}
use Rattle.request_reply.specs.Candidates.{noted}
use Rattle.request_reply.specs.Looks.{IsAmong}
use Rattle.request_reply.proofs.Noted.{noted_all_more, length-noted_all}
use Rattle.request_reply.proofs.look.Look.note_rules.Goals as goal

pub note_rule-requires : goal.note_rule-requires
note_rule-requires c =
    let as_many : length c.loop-rule.candidates ≡ length c.args.candidates.now =
    ap length c.loop-rule.invariant
    ∙ length-noted_all c.args.self c.args.body.now c.args.candidates.now
    (take c.loop-rule.rule-index c.args.rules.now) in
    subst (λ count. IsAmong count c.args.self c.rule-item.result) (sym as_many)
    (AllByRecursion-read (IsAmong (length c.args.candidates.now) c.args.self) c.args.rules.now
    c.loop-rule.rule-index c.rule-item.result
    c.requires c.loop-rule-test.true c.rule-item.is)

pub loop-rule-preserved : goal.loop-rule-preserved
loop-rule-preserved c =
    c.note_rule.ensures
    ∙ (ap (λ kept. noted c.args.self c.args.body.now kept c.rule-item.result) c.loop-rule.invariant
    ∙ sym (noted_all_more c.args.self c.args.body.now c.args.candidates.now c.args.rules.now
    c.loop-rule.rule-index c.rule-item.result
    c.loop-rule-test.true c.rule-item.is))
