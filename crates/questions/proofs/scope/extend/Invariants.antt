-- The text has the bytes so far behind it.
use Rattle.std.proofs.Common.{◌≡◌, ◌++◌, take}
use Rattle.questions.proofs.scope.extend.Given as goal

abbrev pub invariant-loop-byte : goal.invariant-loop-byte
invariant-loop-byte l = l.text ≡ l.initial.text ++ take l.byte-index l.bytes
