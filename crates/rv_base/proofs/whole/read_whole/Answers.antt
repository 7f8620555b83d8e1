-- The bytes of a read that found no memory were taken too.
use Rattle.std.proofs.Common.{arith, ap, ◌∙◌, take, ◌++◌}
use Rattle.std.proofs.lemmas.Grind.{common_steps}
use Rattle.std.specs.Io.KnownBytes.{prepend_known}
use Rattle.rv_base.proofs.Moved.{prepend_known-append}
use Rattle.rv_base.proofs.whole.read_whole.Goals as goal

pub returns-then-is_err-clause-bytes : goal.returns-then-is_err-clause-bytes
returns-then-is_err-clause-bytes g c =
    let gathered = c.loop-piece.bytes.items in
    let piece = take c.in-Got.count c.read.new.into in (
      gathered ++ piece,
      grind (arith, common_steps),
      c.loop-piece.invariant.taken
          ∙ (ap (prepend_known gathered) c.in-Got.ensures.bytes.2
          ∙ prepend_known-append gathered piece (g.S.Source.left c.read.new.self)),
    )
