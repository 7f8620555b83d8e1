-- The variables, the start and the states are passed over one after another.
use Rattle.std.proofs.Common.{◌∷◌}
use Rattle.std.proofs.lemmas.Result.{err_from_is_err_and}
use Rattle.rv_base.specs.Lists.{map_from}
use Rattle.proto_model.specs.Faults.{var_codes, start_codes, states_from}
use Rattle.star_check.specs.Scopes.{scope_seen}
use Rattle.star_check.proofs.Passing.{first-stop, first-stop_at, Passes-on}
use Rattle.star_check.proofs.walk.check_process.Goals as goal

pub returns-in_err-start-clause-passes : goal.returns-in_err-start-clause-passes
returns-in_err-start-clause-passes c =
    let p = err_from_is_err_and c.from_residual.result c.from_residual.ensures.1 in
    rw (p.1, p.2)
    (first-stop c.args.first (map_from (var_codes c.args.scope.now.vars) 0 c.args.scope.now.vars)
    (start_codes c.args.scope.now.states c.args.scope.now.start.now ∷ states_from
    (scope_seen c.args.scope.now) 0 c.args.scope.now.states)
    (c.in_err-start.field-0.0.item, c.in_err-start.field-0.0.code) c.in_err-start.ensures.passes)

pub returns-in-Some-clause-passes : goal.returns-in-Some-clause-passes
returns-in-Some-clause-passes c =
    first-stop_at c.args.first c.in_ok-start.start
    (map_from (var_codes c.args.scope.now.vars) 0 c.args.scope.now.vars)
    (start_codes c.args.scope.now.states c.args.scope.now.start.now)
    (states_from (scope_seen c.args.scope.now) 0 c.args.scope.now.states)
    c.in-Some.code c.in_ok-start.ensures.passes.0 c.in_ok-start.ensures.passes.1 c.in-Some.ensures

pub returns-clause-passes : goal.returns-clause-passes
returns-clause-passes c =
    Passes-on c.check_states.result c.args.first c.in_ok-start.start
    (map_from (var_codes c.args.scope.now.vars) 0 c.args.scope.now.vars)
    (start_codes c.args.scope.now.states c.args.scope.now.start.now)
    (states_from (scope_seen c.args.scope.now) 0 c.args.scope.now.states)
    c.in_ok-start.ensures.passes.0 c.in_ok-start.ensures.passes.1 c.in_default.ensures
    c.check_states.ensures.passes
