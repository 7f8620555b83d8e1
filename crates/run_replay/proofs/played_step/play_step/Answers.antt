-- The words of the step and the lines after it make its block; what is told of it says what it
-- leaves of what the machine stands for.
use Rattle.std.proofs.Common.{◌≡◌, sym, subst}
use Rattle.abstraction_map.specs.declared.told.Told.{Told}
use Rattle.run_replay.specs.PlayedStep.{UnlessEvent, stands_for}
use Rattle.run_replay.proofs.KeptClaims.{stands-kept}
use Rattle.run_replay.proofs.PlayedSteps.{block-played}
use Rattle.run_replay.proofs.played_step.play_step.Goals as goal

pub returns-clause-told : goal.returns-clause-told
returns-clause-told g c = rw c.machine-machine.ensures at c.event_of-told.ensures.value

pub returns-clause-tells : goal.returns-clause-tells
returns-clause-tells g c =
    let taker = g.T.StepTaker in
    let old = taker.machine c.args.taker.now c.args.at in
    let new = taker.machine c.take-stepped.new.self c.args.at in
    block-played g.L.Links.lists old new c.args.step c.event_of-told.result
    c.would_displace-displaced.result c.take-stepped.result c.args.so_far
    c.put_told_line-so_far.result c.put_lines_if_moved-so_far.result c.args.out.now.items
    c.put_told_line-so_far.new.out.items c.put_lines_if_moved-so_far.new.out.items
    (rw c.machine-machine.ensures at c.event_of-told.ensures.value)
    (rw c.machine-machine.ensures at c.would_displace-displaced.ensures)
    c.take-stepped.ensures.leads c.take-stepped.ensures.table
    (rw c.machine-machine.ensures at c.put_told_line-so_far.ensures)
    (rw c.machine-machine-2.ensures at c.put_lines_if_moved-so_far.ensures)

pub returns-clause-still : goal.returns-clause-still
returns-clause-still g c =
    let taker = g.T.StepTaker in
    let lists = g.L.Links.lists in
    let old = taker.machine c.args.taker.now c.args.at in
    let new = taker.machine c.take-stepped.new.self c.args.at in
    subst (λ (t : Told). UnlessEvent t (stands_for lists new ≡ stands_for lists old))
    (sym (rw c.machine-machine.ensures at c.event_of-told.ensures.value))
    (stands-kept lists old new c.args.step c.take-stepped.result
    (rw c.machine-machine.ensures at c.event_of-told.ensures.meant) c.take-stepped.ensures.leads
    c.take-stepped.ensures.table)
