-- The bytes copied are the first of those left.
use Rattle.std.proofs.Common.{arith, Some, ap}
use Rattle.std.proofs.lemmas.Grind.{common_steps}
use Rattle.rv_base.proofs.Moved.{take-append-drop-on}
use Rattle.rv_base.proofs.memory.sources.SteadySourceSource.read.Goals as goal

pub returns-clause-bytes : goal.returns-clause-bytes
returns-clause-bytes c =
    let split = take-append-drop-on c.self.inside.bytes.items c.self.inside.at
    c.min-count.result in (
      grind (arith, common_steps),
      grind (arith, common_steps),
      ap (λ left. Some left)
          (grind (arith, common_steps, split)),
    )
