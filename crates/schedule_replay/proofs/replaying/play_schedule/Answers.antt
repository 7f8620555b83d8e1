-- What was written when the lines were played, and what the last write adds.
use Rattle.std.proofs.Common.{◌≡◌, true, false, ap}
use Rattle.std.proofs.lemmas.Option.{IfSome_then}
use Rattle.schedule_replay.specs.Replayed.{is_decided}
use Rattle.schedule_replay.proofs.LastWrite.{decided-writes, undecided-writes, ends-at-start}
use Rattle.schedule_replay.proofs.replaying.play_schedule.Goals as goal

pub returns-then-not-is_decided-clause-writes : goal.returns-then-not-is_decided-clause-writes
returns-then-not-is_decided-clause-writes g c =
    let played = c.play_lines-answer in
    let broken : is_decided played.result ≡ false = cc in
    undecided-writes g.P.Player.play c.args.limits c.args.player.now played.result
    (g.Q.Source.left c.args.schedule.now) (g.Q.Source.left played.new.schedule)
    (g.O.Sink.taken c.args.out.now) (g.O.Sink.taken played.new.out)
    played.new.kept.items played.new.player broken played.ensures.plays

pub returns-clause-writes : goal.returns-clause-writes
returns-clause-writes g c =
    let played = c.play_lines-answer in
    let decided : is_decided played.result ≡ true = cc in
    decided-writes g.P.Player.play c.args.limits c.args.player.now played.result c.end.result
    (g.Q.Source.left c.args.schedule.now) (g.Q.Source.left played.new.schedule)
    (g.O.Sink.taken c.args.out.now) (g.O.Sink.taken played.new.out)
    (g.O.Sink.taken c.end.new.out)
    played.new.kept.items played.new.player decided played.ensures.plays c.end.ensures.bytes

pub returns-clause-at_start : goal.returns-clause-at_start
returns-clause-at_start g c =
    let played = c.play_lines-answer in
    IfSome_then (g.P.Player.play.halts c.args.player.now) played.ensures.at_start
    (λ claim at. (
      at.2,
      ends-at-start g.P.Player.play claim played.result c.end.result c.args.player.now
          played.new.player (g.O.Sink.taken c.args.out.now) (g.O.Sink.taken played.new.out)
          (g.O.Sink.taken c.end.new.out) played.new.kept.items at.0 at.1 (ap g.O.Sink.taken at.3)
          at.4 c.end.ensures.bytes,
    ))
