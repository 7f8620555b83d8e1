-- One more remote's debt is written, if there is one, and in the end those of all remotes.
use Rattle.std.proofs.Common.{◌<◌, ◌≤◌, ℕ, List, Option, length, subst, arith}
use Rattle.std.proofs.lemmas.List.{take_all}
use Rattle.rv_base.specs.Lists.{flat_from}
use Rattle.async_shape.proofs.ShapeParts.{IsShaped-whole}
use Rattle.async_machine.specs.Standing.{setting, config}
use Rattle.proto_model.specs.Continued.{Continues}
use Rattle.run_replay.specs.StateLines.{debt_texts}
use Rattle.run_replay.specs.Listed.{joined}
use Rattle.run_replay.proofs.Listing.{debt-listed, debt-begins}
use Rattle.schedule_replay.proofs.Chained.{grown}
use Rattle.run_replay.proofs.state_lines.put_debts.Goals as goal

pub loop-j-preserved : goal.loop-j-preserved
loop-j-preserved g c =
    let machine = c.args.machine.now in
    let j = c.loop-j.j in
    let first = c.loop-j.first in
    let stands = config g.L.Links.lists machine in
    let debts = (IsShaped-whole (setting machine) stands c.shaped.ensures).debts in
    let within : j < length machine.home.owed =
    omega (arith, debts, c.n-j-end.ensures, c.loop-j-test.true) in
    record {
      text = grown _ _ _ c.args.so_far c.loop-j.so_far c.put_debt-so_far.result
          c.args.out.now.items c.loop-j.out.items c.put_debt-so_far.new.out.items
          (debt-listed machine.table.messages machine.home j first within c.loop-j.invariant.first)
          c.loop-j.invariant.text
          (rw (c.owed-owed.ensures, c.messages-messages.ensures.value, c.table.ensures)
          at c.put_debt-so_far.ensures);
      first = debt-begins machine.table.messages machine.home j first
          c.still_first-first.result within c.loop-j.invariant.first
          (rw c.owed-owed.ensures at c.still_first-first.ensures);
    }

pub returns : goal.returns
returns g c =
    let machine = c.args.machine.now in
    let owed = machine.home.owed in
    let stands = config g.L.Links.lists machine in
    let debts = (IsShaped-whole (setting machine) stands c.shaped.ensures).debts in
    let all : length owed ≤ c.loop-j.j =
    omega (arith, debts, c.n-j-end.ensures, c.loop-j-test.false) in
    subst
    (λ (os : List (Option ℕ)).
    Continues (joined (flat_from (debt_texts machine.table.messages) 0 os)) c.args.so_far
    c.args.out.now.items c.loop-j.so_far c.loop-j.out.items)
    (take_all c.loop-j.j owed all) c.loop-j.invariant.text
