-- The block of the step is written, and unless it is an event the claims stay as they were.
use Rattle.std.proofs.Common.{◌++◌, ap, ◌∙◌}
use Rattle.std.proofs.lemmas.Result.{on_ok_weaker}
use Rattle.proto_model.proofs.Continuing.{whole}
use Rattle.schedule_replay.proofs.Chained.{whole_there}
use Rattle.run_replay.specs.PlayedStep.{stands_for, unclaimed}
use Rattle.run_replay.specs.RunTrace.{Running, running_after, step_block}
use Rattle.run_replay.proofs.KeptClaims.{claims-kept}
use Rattle.run_replay.proofs.PlayedSteps.{taken-leads}
use Rattle.run_replay.proofs.run_player.RunPlayerPlayer.play.Goals as goal

pub broken_after-self-inside-requires-clause-before : goal.broken_after-self-inside-requires-clause-before
broken_after-self-inside-requires-clause-before g c =
    let player = c.self.inside in
    let lists = g.L.Links.lists in
    claims-kept c.play_step-told.result.0 player.claims.now (stands_for lists player.machine)
    (stands_for lists c.play_step-told.new.taker) player.halts_at c.play_step-told.ensures.still
    c.self.invariant.1

pub returns-clause-after : goal.returns-clause-after
returns-clause-after g c =
    let player = c.self.inside in
    taken-leads g.L.Links.lists g.L.Links.put_effect g.L.Links.take_effect player.claims.now
    player.machine c.args.item c.play_step-told.new.taker c.play_step-told.ensures.after
    ∙ ap (λ (running : Running). running_after running c.args.item) c.self.view_is

pub returns-clause-tells : goal.returns-clause-tells
returns-clause-tells g c =
    let block = step_block (unclaimed g.L.Links.lists c.self.inside.machine) c.args.item in
    let start = c.args.out.now.items in
    let written = c.play_step-told.result.1 in
    on_ok_weaker written
    (λ is. is ∙ ap (λ (running : Running). start ++ step_block running c.args.item) c.self.view_is)
    (whole_there block written start c.play_step-told.new.out.items
    (whole block written start c.play_step-told.new.out.items c.play_step-told.ensures.tells))
