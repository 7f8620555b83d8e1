-- So far a front of the text was taken, and no write failed or had no memory.
use Rattle.std.proofs.Common.{◌≡◌, ◌≤◌, ◌-◌, length, take}
use Rattle.std.specs.Io.KnownBytes.{append_known}
use Rattle.rv_base.proofs.whole.write_whole.Given as goal

abbrev pub invariant-loop-done : goal.invariant-loop-done
invariant-loop-done g l = record {
  taken : g.O.Sink.taken l.out ≡ append_known (g.O.Sink.taken l.fn.out) (take l.done l.text);
  same_count : g.O.Sink.faults l.out ≡ g.O.Sink.faults l.fn.out;
  within : l.done ≤ length l.text;
  same_wants : g.O.Sink.wants l.out ≡ g.O.Sink.wants l.fn.out;
}

abbrev pub decreases-loop-done : goal.decreases-loop-done
decreases-loop-done g l = length l.text - l.done
