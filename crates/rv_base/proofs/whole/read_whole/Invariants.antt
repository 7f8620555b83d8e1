-- So far the bytes gathered were taken from the front of what was left, no read failed or had no
-- memory, and the last one, where there was one, gave bytes.
use Rattle.std.proofs.Common.{◌≡◌, ◌≤◌, ◌+◌, ◌-◌, false, vec_len}
use Rattle.std.specs.Io.KnownBytes.{prepend_known}
use Rattle.rv_base.proofs.whole.read_whole.Given as goal

abbrev pub invariant-loop-piece : goal.invariant-loop-piece
invariant-loop-piece g l = record {
  taken : g.S.Source.left l.fn.source ≡ prepend_known l.bytes.items (g.S.Source.left l.source);
  same_count : g.S.Source.faults l.source ≡ g.S.Source.faults l.fn.source;
  within : vec_len l.bytes ≤ l.limit + 1;
  goes_on : 1 ≤ vec_len l.bytes → g.S.Source.ended l.source ≡ false;
  same_wants : g.S.Source.wants l.source ≡ g.S.Source.wants l.fn.source;
}

abbrev pub decreases-loop-piece : goal.decreases-loop-piece
decreases-loop-piece g l = l.limit + 2 - vec_len l.bytes
