-- One more packet is heard.
use Rattle.std.proofs.Common.{◌+◌, Bool, drop, ap, ◌∙◌}
use Rattle.ordered_links.specs.Lists.{packets_on}
use Rattle.abstraction_map.specs.Abstraction.{fate_in}
use Rattle.abstraction_map.specs.Fates.{link_to}
use Rattle.abstraction_map.proofs.FateAhead.{fate-there, fate-past}
use Rattle.abstraction_map.proofs.fate.fate_on.Goals as goal
use Rattle.abstraction_map.proofs.fate.fate_on.Goals.{in-Request, in-Ack, in-Nack}

pub loop-place-preserved : goal.loop-place-preserved
loop-place-preserved g c =
    let packets = packets_on (link_to c.args.way c.args.j) (g.L.Links.lists c.args.links.now) in
    let place = c.loop-place.place in
    let left = λ (granted : Bool). fate_in (drop (place + 1) packets) granted in
    let next =
    fate-there packets place c.loop-place.granted _ c.loop-place.invariant c.in-Some.packet in
    elim c.match-packet.branch [
      | in-Request w ↦ ap left w.granted-is ∙ next _ c.in-Some.ensures w.in-Request.is
      | in-Ack w ↦ ap left w.granted-is ∙ next _ c.in-Some.ensures w.in-Ack.is
      | in-Nack w ↦ ap left w.granted-is ∙ next _ c.in-Some.ensures w.in-Nack.is
    ]

pub returns-in_default : goal.returns-in_default
returns-in_default g c =
    let packets = packets_on (link_to c.args.way c.args.j) (g.L.Links.lists c.args.links.now) in
    c.granted_if.ensures
    ∙ fate-past packets c.loop-place.place c.loop-place.granted _ c.loop-place.invariant
    c.in_default.ensures

pub returns-in-Reply : goal.returns-in-Reply
returns-in-Reply g c =
    let packets = packets_on (link_to c.args.way c.args.j) (g.L.Links.lists c.args.links.now) in
    fate-there packets c.loop-place.place c.loop-place.granted _ c.loop-place.invariant
    c.in-Some.packet _ c.in-Some.ensures c.in-Reply.is
