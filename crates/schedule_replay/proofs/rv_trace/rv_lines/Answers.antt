-- The home stands in a state of its body, and has as many variables.
use Rattle.schedule_replay.proofs.ShownParts.{vars-length}
use Rattle.schedule_replay.proofs.rv_trace.rv_lines.Goals as goal

pub rv_line-so_far-requires-clause-vars : goal.rv_line-so_far-requires-clause-vars
rv_line-so_far-requires-clause-vars c =
    vars-length c.args.home.now c.args.config.now.home c.requires.home
