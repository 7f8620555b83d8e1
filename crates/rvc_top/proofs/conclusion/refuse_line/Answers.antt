-- The text for the line is delivered.
use Rattle.std.proofs.Common.{List, ℕ, subst, ◌∙◌}
use Rattle.rvc_top.specs.Reply.{Delivers}
use Rattle.rvc_top.specs.declared.status.Status.TheVariants.{ScheduleRefused}
use Rattle.rvc_top.proofs.conclusion.refuse_line.Goals as goal

pub returns-in-Ok-clause-bytes : goal.returns-in-Ok-clause-bytes
returns-in-Ok-clause-bytes g c =
    subst (λ (text : List ℕ). Delivers (g.O.Sink.taken c.args.out.now)
    (g.O.Sink.taken c.deliver.new.out) text ScheduleRefused c.deliver.result)
    (c.deref.ensures.value ∙ c.in-Ok.ensures) c.deliver.ensures.bytes
