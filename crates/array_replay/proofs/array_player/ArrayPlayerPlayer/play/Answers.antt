-- A cache line for which a step is meant is there, since the shared lists are in step.
use Rattle.std.proofs.Common.{sym, ◌∙◌}
use Rattle.line_array.specs.Standing.{array_setting}
use Rattle.array_replay.proofs.MeantLines.{meant-there}
use Rattle.array_replay.proofs.array_player.ArrayPlayerPlayer.play.Goals as goal

pub play_meant-requires-clause-there : goal.play_meant-requires-clause-there
play_meant-requires-clause-there c =
    let array = c.self.inside.lines.array in
    let setting = array_setting array in
    let in_step =
    c.shared_lists_are_in_step.ensures.sharing setting array.config c.shares.ensures.shares in
    meant-there setting array.config in_step c.args.item c.in-Some.line c.in-Some.step
    (sym c.meant.ensures ∙ c.in-Some.is)
