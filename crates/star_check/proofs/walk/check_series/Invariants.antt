-- No item before the place has a code.
use Rattle.std.proofs.Common.{◌≡◌, ◌+◌, ◌≤◌, drop}
use Rattle.rv_base.specs.Lists.{map_from}
use Rattle.proto_model.specs.Faults.{first, faults_from}
use Rattle.star_check.proofs.walk.check_series.Given as goal

abbrev pub invariant-loop-place : goal.invariant-loop-place
invariant-loop-place g l = record {
  few : l.place ≤ 64;
  passed : first (faults_from l.start
      (map_from (g.S.Series.codes_at l.series) 0 (g.S.Series.items_of l.series)))
      ≡ first (faults_from (l.start + l.place)
      (map_from (g.S.Series.codes_at l.series) l.place
      (drop l.place (g.S.Series.items_of l.series))));
}
