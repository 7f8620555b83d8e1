-- So far the first variables are written.
use Rattle.std.proofs.Common.{take}
use Rattle.proto_model.specs.Texts.{vars_text}
use Rattle.proto_model.specs.Continued.{Continues}
use Rattle.proto_model.proofs.texts.pieces.put_vars.Given as goal

abbrev pub invariant-loop-place : goal.invariant-loop-place
invariant-loop-place l =
    Continues (vars_text (take l.place l.infos) (take l.place l.vars)) l.fn.so_far l.fn.out.items
    l.so_far l.out.items
