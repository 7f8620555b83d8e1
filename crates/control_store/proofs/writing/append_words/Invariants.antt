-- The words of the first rows are written.
use Rattle.std.proofs.Common.{take}
use Rattle.proto_model.specs.Continued.{Continues}
use Rattle.control_store.specs.Image.{words_of}
use Rattle.control_store.proofs.writing.append_words.Given as goal

abbrev pub invariant-loop-row : goal.invariant-loop-row
invariant-loop-row l =
    Continues (words_of (take l.row-index l.rows)) l.fn.so_far l.fn.out.items l.so_far l.out.items
