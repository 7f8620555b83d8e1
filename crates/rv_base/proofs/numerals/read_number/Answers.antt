-- The number that is written, where it is within the bound.
use Rattle.std.proofs.Common.{rules}
use Rattle.rv_base.specs.Numbers.{ReadsNumber}
use Rattle.rv_base.proofs.DecimalText.{filter-ReadsNumber, ReadsNumber-number_of}
use Rattle.rv_base.proofs.numerals.read_number.Goals as goal

reads : (c : goal.After-filter) → ReadsNumber c.args.text.now c.args.most c.filter.result
reads c = filter-ReadsNumber c.args.most c.args.text.now c.number_written.result c.filter.result _
    c.ranges.most.fits c.number_written.ensures c.filter.ensures (λ n b q. search rules)

pub returns-clause-reads : goal.returns-clause-reads
returns-clause-reads c = reads c

pub returns-clause-value : goal.returns-clause-value
returns-clause-value c = ReadsNumber-number_of c.args.most c.args.text.now c.filter.result
    c.ranges.most.fits (reads c)
