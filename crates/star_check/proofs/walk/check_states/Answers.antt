-- A state and its guards are passed over, or the first fault of the guards is that of all.
use Rattle.std.proofs.Common.{◌≡◌, ◌+◌, ◌<◌, ◌≤◌, ◌∙◌, length, get_or, sym, ap, arith}
use Rattle.std.proofs.lemmas.Result.{err_from_is_err_and}
use Rattle.star_check.specs.Scopes.{scope_seen}
use Rattle.star_check.proofs.Passing.{passed-state, counted-state, stopped-state}
use Rattle.star_check.proofs.walk.check_states.Goals as goal

pub returns-in_err-next-clause-passes : goal.returns-in_err-next-clause-passes
returns-in_err-next-clause-passes c =
    let p = err_from_is_err_and c.from_residual.result c.from_residual.ensures.1 in
    let within : c.loop-place.place < length c.args.scope.now.states = rw
    c.items-state-items.ensures at c.loop-place-test.true in
    rw (p.1, p.2)
    (stopped-state (scope_seen c.args.scope.now) c.args.scope.now.states c.loop-place.place
    c.loop-place.next c.state-item.result c.as_slice.result.now
    within (c.state-item.is ∙ ap (λ xs. get_or xs c.loop-place.place c.state-item.result)
    c.items-state-items.ensures) c.as_slice.ensures
    c.in_default.ensures.code (c.in_err-next.field-0.0.item, c.in_err-next.field-0.0.code)
    c.in_err-next.ensures.passes
    ∙ sym c.loop-place.invariant.passed)

pub loop-place-preserved : goal.loop-place-preserved
loop-place-preserved c =
    let within : c.loop-place.place < length c.args.scope.now.states = rw
    c.items-state-items.ensures at c.loop-place-test.true in
    let at : c.state-item.result ≡ get_or c.args.scope.now.states c.loop-place.place
    c.state-item.result =
    c.state-item.is ∙ ap (λ xs. get_or xs c.loop-place.place c.state-item.result)
    c.items-state-items.ensures in
    let few : c.loop-place.place < 64 = c.in_default.ensures.few in
    let more : c.in_ok-next.next ≤ c.loop-place.next + 1 + 64 = c.in_ok-next.ensures.few in
    let counted = counted-state (scope_seen c.args.scope.now) c.args.scope.now.states
    c.loop-place.place c.loop-place.next c.state-item.result c.as_slice.result.now
    within at c.as_slice.ensures c.in_ok-next.next c.in_ok-next.ensures.passes.1 in
    let passed = passed-state (scope_seen c.args.scope.now) c.args.scope.now.states
    c.loop-place.place c.loop-place.next c.state-item.result c.as_slice.result.now
    within at c.as_slice.ensures c.in_default.ensures.code c.in_ok-next.ensures.passes.0
    c.in_ok-next.next c.in_ok-next.ensures.passes.1 in
    record {
      few = omega arith;
      bound = let so_far = c.loop-place.invariant.bound in omega arith;
      counted = counted ∙ c.loop-place.invariant.counted;
      passed = c.loop-place.invariant.passed ∙ passed;
    }
