-- No state before the place has a fault, nor has one of its guards.
use Rattle.std.proofs.Common.{◌≡◌, ◌+◌, ◌*◌, ◌≤◌, length, drop}
use Rattle.proto_model.specs.Faults.{first, faults_from, states_from}
use Rattle.star_check.specs.Scopes.{scope_seen}
use Rattle.star_check.proofs.walk.check_states.Given as goal

abbrev pub invariant-loop-place : goal.invariant-loop-place
invariant-loop-place l = record {
  few : l.place ≤ 64;
  bound : l.next ≤ l.start + 65 * l.place;
  counted : l.next + length (states_from (scope_seen l.scope) l.place (drop l.place l.scope.states))
      ≡ l.start + length (states_from (scope_seen l.scope) 0 l.scope.states);
  passed : first (faults_from l.start (states_from (scope_seen l.scope) 0 l.scope.states))
      ≡ first (faults_from l.next
      (states_from (scope_seen l.scope) l.place (drop l.place l.scope.states)));
}
