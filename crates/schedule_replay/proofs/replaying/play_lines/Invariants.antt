-- So far the lines that were read were played, and no call failed or had no memory.
use Rattle.std.proofs.Common.{◌≡◌, ◌-◌, ℕ, List, None, true}
use Rattle.schedule_replay.proofs.LinesSoFar.{HasRead}
use Rattle.schedule_replay.proofs.PlayedSoFar.{Plays}
use Rattle.schedule_replay.proofs.replaying.play_lines.Given as goal

abbrev pub invariant-loop-number : goal.invariant-loop-number
invariant-loop-number g l = record {
  done : List (List ℕ);
  reads : HasRead l.fn.limits (g.Q.Source.left l.fn.schedule) (g.Q.Source.left l.schedule)
      l.lines done;
  plays : Plays g.P.Player.play l.fn.limits l.fn.player (g.O.Sink.taken l.fn.out)
      (g.O.Sink.taken l.out) l.kept.items l.player l.played done;
  same_limits : l.lines.limits ≡ l.fn.limits;
  at_end : l.lines.ended ≡ true → g.Q.Source.ended l.schedule ≡ true;
  none_halts : g.P.Player.play.halts l.fn.player ≡ None;
  same_read_wants : g.Q.Source.wants l.schedule ≡ g.Q.Source.wants l.fn.schedule;
  same_write_wants : g.O.Sink.wants l.out ≡ g.O.Sink.wants l.fn.out;
  same_reads : g.Q.Source.faults l.schedule ≡ g.Q.Source.faults l.fn.schedule;
  same_writes : g.O.Sink.faults l.out ≡ g.O.Sink.faults l.fn.out;
}

-- how many lines may still be read
abbrev pub decreases-loop-number : goal.decreases-loop-number
decreases-loop-number g l = l.fn.limits.lines - l.lines.got
