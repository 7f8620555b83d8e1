-- The remote to which the home sends is there, and what it takes is taken by the guard behind it.
use Rattle.std.proofs.Common.{◌≡◌, true, sym, subst, ap, ◌∙◌, arith}
use Rattle.controller_table.specs.Sound.{protocol_of}
use Rattle.async_shape.specs.Next.{is_enabled}
use Rattle.async_shape.specs.declared.step.Step.{Step}
use Rattle.async_machine.specs.Planned.{guard_behind}
use Rattle.async_machine.specs.Standing.{setting, config}
use Rattle.abstraction_map.specs.Told.{event_behind}
use Rattle.abstraction_map.proofs.Ranges.{send-few}
use Rattle.abstraction_map.proofs.told.event_behind.Goals as goal

pub overflow_cast-j : goal.overflow_cast-j
overflow_cast-j g c =
    let at = setting c.args.machine.now in
    let stands = config g.L.Links.lists c.args.machine.now in
    let enabled = subst (λ (s : Step). is_enabled at stands s ≡ true) c.in-HomeSend.is c.requires.enabled in
    let few =
    send-few at stands c.in-HomeSend.g c.in-HomeSend.j c.shaped.ensures enabled in
    omega arith

pub returns-in-HomeTake : goal.returns-in-HomeTake
returns-in-HomeTake g c =
    let protocol = protocol_of c.args.machine.now.table in
    let stands = config g.L.Links.lists c.args.machine.now in
    c.take_event.ensures protocol stands
    (c.requires.by ∙ ap (guard_behind protocol stands) c.in-HomeTake.is)
    ∙ sym (ap (event_behind protocol stands) c.in-HomeTake.is)
