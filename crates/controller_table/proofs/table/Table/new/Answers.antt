-- The table is that of its parts, and its indexes are those of its rows.
use Rattle.std.proofs.Common.{List, ap, subst, sym, ◌∙◌}
use Rattle.controller_table.specs.Keys.{NoTwoShareKey}
use Rattle.controller_table.specs.Indexed.{IsIndexOf}
use Rattle.controller_table.specs.declared.controller.Controller.{Controller}
use Rattle.controller_table.specs.declared.rows.Row.{Row}
use Rattle.controller_table.proofs.Made.{home-differ, remote-differ, bare-protocol, bare-sound}
use Rattle.controller_table.proofs.table.Table.new.Goals as goal

pub new-requires : goal.new-requires
new-requires c = subst NoTwoShareKey (sym c.as_slice.ensures)
    (home-differ c.args.name c.args.mode c.args.messages c.args.replies c.args.home c.args.remote
    c.requires)

pub new-requires-2 : goal.new-requires-2
new-requires-2 c = subst NoTwoShareKey (sym c.as_slice-2.ensures)
    (remote-differ c.args.name c.args.mode c.args.messages c.args.replies c.args.home c.args.remote
    c.requires)

pub invariant_of-result : goal.invariant_of-result
invariant_of-result c = (
  bare-sound c.args.name c.args.mode c.args.messages c.args.replies c.args.home c.args.remote
      c.requires c.clear.new.self c.clear-2.new.self c.clear.ensures c.clear-2.ensures,
  subst (λ (rows : List Row). IsIndexOf rows c.in_ok-home_index.home_index)
      (c.as_slice.ensures ∙ sym (ap (λ (controller : Controller). controller.rows) c.clear.ensures))
      c.in_ok-home_index.ensures,
  subst (λ (rows : List Row). IsIndexOf rows c.in_ok-remote_index.remote_index)
      (c.as_slice-2.ensures
      ∙ sym (ap (λ (controller : Controller). controller.rows) c.clear-2.ensures))
      c.in_ok-remote_index.ensures,
)

pub returns-clause-protocol : goal.returns-clause-protocol
returns-clause-protocol c =
    bare-protocol c.args.name c.args.mode c.args.messages c.args.replies c.args.home c.args.remote
    c.requires c.clear.new.self c.clear-2.new.self c.clear.ensures c.clear-2.ensures
