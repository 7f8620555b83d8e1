-- What the configuration stands for is one of the protocol, whose bodies show what the table's do.
use Rattle.std.proofs.Common.{subst, ap, ◌∙◌}
use Rattle.rv_base.specs.Appended.{Appends}
use Rattle.proto_model.specs.Tokens.{Text}
use Rattle.controller_table.specs.Sound.{next_by}
use Rattle.async_machine.specs.Standing.{config}
use Rattle.run_replay.proofs.AbstractLines.{IsPartOf-with_nexts, all-with_nexts}
use Rattle.run_replay.proofs.AbstractLines.{abstract_lines-by_table}
use Rattle.run_replay.proofs.run_trace.abstract_lines.Goals as goal

pub rv_lines-requires-clause-home : goal.rv_lines-requires-clause-home
rv_lines-requires-clause-home g c =
    let table = c.args.machine.now.table in
    rw (c.home.ensures.value, c.table-table.ensures)
    (IsPartOf-with_nexts (next_by table.home.rows) table.home.body c.in_ok-stands.stands.home
    c.in_ok-stands.ensures.standing.home)

pub rv_lines-requires-clause-remotes : goal.rv_lines-requires-clause-remotes
rv_lines-requires-clause-remotes g c =
    let table = c.args.machine.now.table in
    rw (c.remote.ensures.value, c.table-table.ensures)
    (all-with_nexts (next_by table.remote.rows) table.remote.body c.in_ok-stands.stands.remotes
    c.in_ok-stands.ensures.standing.remotes)

pub returns : goal.returns
returns g c =
    let machine = c.args.machine.now in
    let stands = config g.L.Links.lists machine in
    let shown = abstract_lines-by_table machine.table stands c.home.result.now c.remote.result.now
    c.in_ok-stands.stands (c.home.ensures.value ∙ ap (λ table. table.home) c.table-table.ensures)
    (c.remote.ensures.value ∙ ap (λ table. table.remote) c.table-table.ensures)
    c.in_ok-stands.ensures.value in
    subst
    (λ (text : Text). Appends text c.rv_lines.result c.args.out.now.items
    c.rv_lines.new.out.items) shown c.rv_lines.ensures
