-- A step that moved has its lines, and one that was refused has none.
use Rattle.std.proofs.Common.{◌≡◌, Some, None, sym, ap, subst}
use Rattle.proto_model.specs.Tokens.{Text}
use Rattle.proto_model.specs.Continued.{Continues}
use Rattle.proto_model.proofs.Continuing.{Continues-none}
use Rattle.controller_table.specs.Sound.{protocol_of}
use Rattle.async_machine.specs.Effects.{IsStep}
use Rattle.async_machine.specs.Standing.{config}
use Rattle.async_machine.specs.declared.stepped.Stepped.{Stepped}
use Rattle.run_replay.specs.RunTrace.{lines_if}
use Rattle.run_replay.proofs.run_trace.put_lines_if_moved.Goals as goal

pub returns-in-Moved : goal.returns-in-Moved
returns-in-Moved g c = λ before after leads.
    let stands = config g.L.Links.lists c.args.machine.now in
    let moved : after ≡ Some stands =
    subst (λ (stepped : Stepped). IsStep stepped before stands after) c.in-Moved.is leads in
    subst
    (λ (text : Text). Continues text c.args.so_far c.args.out.now.items c.put_moved_lines.result
    c.put_moved_lines.new.out.items)
    (sym (ap (lines_if (protocol_of c.args.machine.now.table) c.args.step c.args.displaced) moved))
    c.put_moved_lines.ensures

pub returns-in-Refused : goal.returns-in-Refused
returns-in-Refused g c = λ before after leads.
    let stands = config g.L.Links.lists c.args.machine.now in
    let refused : (after ≡ None) × (stands ≡ before) =
    subst (λ (stepped : Stepped). IsStep stepped before stands after) c.in-Refused.is leads in
    subst
    (λ (text : Text). Continues text c.args.so_far c.args.out.now.items c.args.so_far
    c.args.out.now.items)
    (sym
    (ap (lines_if (protocol_of c.args.machine.now.table) c.args.step c.args.displaced) refused.0))
    (Continues-none c.args.so_far c.args.out.now.items)
