-- The last text is put together.
use Rattle.std.proofs.Common.{◌++◌}
use Rattle.std.specs.Prelude.{codes}
use Rattle.proto_model.proofs.Continuing.{Continues-append}
use Rattle.controller_table.specs.Sound.{protocol_of}
use Rattle.async_machine.specs.Standing.{config}
use Rattle.run_replay.specs.StateLines.{home_state_line, remote_state_lines}
use Rattle.run_replay.specs.RunTrace.{abstract_lines}
use Rattle.run_replay.proofs.run_trace.put_ending.Goals as goal

pub returns : goal.returns
returns g c =
    let protocol = protocol_of c.args.machine.now.table in
    let stands = config g.L.Links.lists c.args.machine.now in
    let home = home_state_line protocol stands in
    let remotes = remote_state_lines protocol stands in
    let lines = abstract_lines protocol stands in
    Continues-append (codes "end\n") (home ++ (remotes ++ (codes "abstract\n" ++ lines)))
    _ _ _ _ _ _ c.append-so_far.ensures
    (Continues-append home (remotes ++ (codes "abstract\n" ++ lines)) _ _ _ _ _ _
    c.put_home_line-so_far.ensures
    (Continues-append remotes (codes "abstract\n" ++ lines) _ _ _ _ _ _
    c.put_remote_lines-so_far.ensures
    (Continues-append (codes "abstract\n") lines _ _ _ _ _ _ c.append-so_far-2.ensures
    c.put_abstract_lines.ensures)))
