-- So far the first messages are copied.
use Rattle.std.proofs.Common.{◌≡◌, take}
use Rattle.home_refine.proofs.compiling.copied_messages.Given as goal

abbrev pub invariant-loop-message : goal.invariant-loop-message
invariant-loop-message l = l.copies ≡ take l.message-index l.messages
