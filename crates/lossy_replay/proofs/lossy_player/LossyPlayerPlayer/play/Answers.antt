-- A step that doesn't wait has the block of a schedule of steps alone.
use Rattle.std.proofs.Common.{◌++◌, sym, ap, ◌∙◌}
use Rattle.std.proofs.lemmas.Result.{on_ok_weaker}
use Rattle.proto_model.specs.Tokens.{Text}
use Rattle.lossy_replay.specs.Standing.{running_of}
use Rattle.lossy_replay.proofs.TakenRuns.{block-taken}
use Rattle.lossy_replay.proofs.lossy_player.LossyPlayerPlayer.play.Goals as goal

pub returns-else-waits-clause-tells : goal.returns-else-waits-clause-tells
returns-else-waits-clause-tells c =
    on_ok_weaker c.take_step.result
    (λ written. written ∙ ap (λ (text : Text). c.args.out.now.items ++ text)
    (block-taken (running_of c.self.inside.machine) c.args.self.now c.args.item c.in-Takes.step
    c.self.view_is c.in-Takes.is (sym c.waits.ensures ∙ c.if-waits.false)))
    c.take_step.ensures.tells
