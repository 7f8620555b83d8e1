-- Behind the last item no fault is left.
use Rattle.std.proofs.Common.{◌+◌, ◌∙◌, length, ap, sym, arith}
use Rattle.std.proofs.lemmas.Grind.{common_steps}
use Rattle.rv_base.proofs.Lists.{length-map_from}
use Rattle.star_check.proofs.walk.check_series.Goals as goal

pub returns-clause-passes : goal.returns-clause-passes
returns-clause-passes g c = (
  grind (arith, common_steps),
  ap (λ k. c.args.start + k) (ap length c.listed-items.ensures
      ∙ sym (length-map_from (g.S.Series.codes_at c.args.series.now) 0
      (g.S.Series.items_of c.args.series.now))),
)
