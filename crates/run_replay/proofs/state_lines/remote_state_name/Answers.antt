-- The table's body has the names of the protocol's.
use Rattle.std.proofs.Common.{sym, ap, ◌∙◌}
use Rattle.proto_model.specs.Texts.{state_name}
use Rattle.controller_table.specs.Sound.{next_by}
use Rattle.controller_table.specs.declared.controller.Controller.{Controller}
use Rattle.run_replay.proofs.Shown.{state_name-with_nexts}
use Rattle.run_replay.proofs.state_lines.remote_state_name.Goals as goal

pub returns : goal.returns
returns c =
    let remote = c.args.table.now.remote in
    c.state_name.ensures.value
    ∙ ap (λ (controller : Controller). state_name controller.body c.args.state)
    c.remote-remote.ensures.value
    ∙ sym (state_name-with_nexts (next_by remote.rows) remote.body c.args.state)
