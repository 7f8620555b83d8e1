-- A remote is compared with n; a value that isn't one is none.
use Rattle.std.proofs.Common.{sym, ap, ◌∙◌}
use Rattle.std.specs.List.{list_any, range_with_len}
use Rattle.proto_model.specs.Values.{is_node}
use Rattle.proto_model.specs.declared.numbered.Value.{Value}
use Rattle.async_machine.proofs.Targets.{below-node, below-no_node}
use Rattle.async_machine.proofs.choosing.is_remote_below.Goals as goal

pub returns-in-Node : goal.returns-in-Node
returns-in-Node c =
    sym (ap (λ (v : Value). list_any (is_node v) (range_with_len 0 c.args.n)) c.in-Node.is
    ∙ below-node c.in-Node.node c.args.n)

pub returns-in_default : goal.returns-in_default
returns-in_default c = sym (below-no_node c.args.value c.args.n c.in_default.not-Node)
