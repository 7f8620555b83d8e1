-- The names and types of the variables so far stand behind those of before.
use Rattle.std.proofs.Common.{◌≡◌, ◌++◌, map, take}
use Rattle.proto_model.specs.Types.{kind_type}
use Rattle.questions.proofs.scope.add_vars.Given as goal

abbrev pub invariant-loop-var : goal.invariant-loop-var
invariant-loop-var l =
    (l.scope.names
    ≡ l.initial.scope.names ++ map (λ v. l.front ++ v.name) (take l.var-index l.body.vars))
    × (l.scope.types
    ≡ l.initial.scope.types ++ map (λ v. kind_type v.kind) (take l.var-index l.body.vars))
