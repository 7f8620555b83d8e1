-- As many packets are gone as rounds were made.
use Rattle.std.proofs.Common.{◌≡◌, drop}
use Rattle.circular_buffer.specs.Buffer.{buffer}
use Rattle.faulty_link.proofs.wire.keep_last.Given as goal

abbrev pub invariant-loop : goal.invariant-loop
invariant-loop l =
    l.window ≡ buffer (drop l.counter l.fn.window.items) l.fn.window.capacity
