-- A step at a remote is planned where the remote's part is, and one that takes a packet where there
-- is one.
use Rattle.std.proofs.Common.{◌≡◌, ◌<◌, length, Option, Some, None, refl, sym, subst, ap, ◌∙◌}
use Rattle.std.specs.Option.{option_map, option_and_then}
use Rattle.ordered_links.specs.Link.{Up, Down}
use Rattle.ordered_links.specs.declared.packet.Packet.{Packet}
use Rattle.async_shape.specs.Guards.{Chosen, answering_guard}
use Rattle.async_shape.specs.HomeSteps.{up}
use Rattle.async_shape.specs.Next.{arrival, home_moved}
use Rattle.async_shape.specs.RemoteSteps.{remote_tau, remote_send, remote_answer}
use Rattle.async_shape.specs.RemoteSteps.{remote_reply, down}
use Rattle.async_shape.specs.Site.{site, arrival_link}
use Rattle.async_shape.specs.declared.config.RemoteState.{RemoteState}
use Rattle.async_shape.specs.declared.step.Step.{Step}
use Rattle.async_shape.specs.declared.step.Step.TheVariants as step
use Rattle.async_machine.specs.Arriving.{arriving_on}
use Rattle.async_machine.specs.Planned.{IsPlan, RemotePlans, sending_number}
use Rattle.async_machine.specs.Planned.{due_number, due_message, slot_message}
use Rattle.async_machine.specs.Standing.{setting_of, config_of}
use Rattle.async_machine.proofs.StepPlans.{home-planned, remote-planned}
use Rattle.async_machine.proofs.planning.plan_of.Goals as goal

pub returns-in-RemoteTau : goal.returns-in-RemoteTau
returns-in-RemoteTau c links arrives =
    let k = c.args.slots.now.size in
    let j = c.in-RemoteTau.j in
    let g = c.in-RemoteTau.g in
    let setting = setting_of c.args.table.now k in
    let before = config_of c.args.home.now c.args.slots.now.held c.args.remotes.now links in
    let below : j < length c.args.remotes.now = rw c.in-RemoteTau.is at c.requires.linked.there in
    subst (λ (s : Step). IsPlan setting before (arrival_link (site s)) s c.remote_tau.result)
    (sym c.in-RemoteTau.is)
    (remote-planned setting before None (step.RemoteTau j g) j c.remote_at.result.now
    (λ (r : RemoteState). remote_tau setting r g) c.remote_tau.result (Some g) None below
    c.remote_at.ensures (c.remote_tau.ensures.value k) c.remote_tau.ensures.says refl refl refl)

pub returns-in-RemoteSend : goal.returns-in-RemoteSend
returns-in-RemoteSend c links arrives =
    let k = c.args.slots.now.size in
    let j = c.in-RemoteSend.j in
    let there = c.remote_at-in-RemoteSend.ensures in
    let setting = setting_of c.args.table.now k in
    let before = config_of c.args.home.now c.args.slots.now.held c.args.remotes.now links in
    let below : j < length c.args.remotes.now = rw c.in-RemoteSend.is at c.requires.linked.there in
    subst (λ (s : Step). IsPlan setting before (arrival_link (site s)) s c.remote_send.result)
    (sym c.in-RemoteSend.is)
    (remote-planned setting before None (step.RemoteSend j) j c.remote_at-in-RemoteSend.result.now
    (remote_send setting j) c.remote_send.result _ None below there (c.remote_send.ensures.value k)
    c.remote_send.ensures.says refl
    (ap (option_and_then (sending_number setting.protocol.remote)) there) refl)

pub returns-in-RemoteAnswer : goal.returns-in-RemoteAnswer
returns-in-RemoteAnswer c links arrives =
    let k = c.args.slots.now.size in
    let j = c.in-RemoteAnswer.j in
    let there = c.remote_at-in-RemoteAnswer.ensures in
    let setting = setting_of c.args.table.now k in
    let before = config_of c.args.home.now c.args.slots.now.held c.args.remotes.now links in
    let below : j < length c.args.remotes.now =
    rw c.in-RemoteAnswer.is at c.requires.linked.there in
    subst (λ (s : Step). IsPlan setting before (arrival_link (site s)) s c.remote_answer.result)
    (sym c.in-RemoteAnswer.is)
    (remote-planned setting before None (step.RemoteAnswer j) j
    c.remote_at-in-RemoteAnswer.result.now (remote_answer setting j) c.remote_answer.result _ _
    below there (c.remote_answer.ensures.value k) c.remote_answer.ensures.says refl
    (ap (λ (o : Option RemoteState). option_map (λ (input : Chosen). input.number)
    (option_and_then (answering_guard setting.protocol.remote) o)) there)
    (ap (option_and_then (λ (r : RemoteState). option_map slot_message r.slot)) there))

pub returns-in-RemoteReply : goal.returns-in-RemoteReply
returns-in-RemoteReply c links arrives =
    let k = c.args.slots.now.size in
    let j = c.in-RemoteReply.j in
    let there = c.remote_at-in-RemoteReply.ensures in
    let setting = setting_of c.args.table.now k in
    let before = config_of c.args.home.now c.args.slots.now.held c.args.remotes.now links in
    let below : j < length c.args.remotes.now =
    rw c.in-RemoteReply.is at c.requires.linked.there in
    subst (λ (s : Step). IsPlan setting before (arrival_link (site s)) s c.remote_reply.result)
    (sym c.in-RemoteReply.is)
    (remote-planned setting before None (step.RemoteReply j) j
    c.remote_at-in-RemoteReply.result.now (remote_reply setting j) c.remote_reply.result _ _
    below there (c.remote_reply.ensures.value k) c.remote_reply.ensures.says refl
    (ap (option_and_then (λ (r : RemoteState). due_number r.place)) there)
    (ap (option_and_then (λ (r : RemoteState). due_message setting.protocol r r.place)) there))

pub returns-in_ok-arrived-in-Up : goal.returns-in_ok-arrived-in-Up
returns-in_ok-arrived-in-Up c links arrives =
    let j = c.in-Up.j in
    let k = c.args.slots.now.size in
    let home = c.args.home.now in
    let held = c.args.slots.now.held in
    let setting = setting_of c.args.table.now k in
    let n = length c.args.remotes.now in
    let before = config_of home held c.args.remotes.now links in
    let link = Some (Up j) in
    let packet = c.in_ok-arrived-in-Up.field-0 in
    let first : arrival before link ≡ Some packet =
    ap (arriving_on links) (sym c.in-Up.is) ∙ arrives ∙ c.in_ok-arrived-in-Up.was in
    let does = λ (arrived : Packet). home_moved before link (up setting n home held j arrived) in
    subst (λ (s : Step). IsPlan setting before (arrival_link (site s)) s (Some c.up.result))
    (sym c.in-Up.is)
    (home-planned setting before link (step.Up j) (Some c.up.result)
    (Some (up setting n home held j packet)) None None c.up.ensures.value c.up.ensures.says
    (c.up.ensures.fits n) (ap (option_map does) first) refl refl)

pub returns-in_ok-arrived-in-Down : goal.returns-in_ok-arrived-in-Down
returns-in_ok-arrived-in-Down c links arrives =
    let j = c.in-Down.j in
    let k = c.args.slots.now.size in
    let there = c.remote_at-in-Down.ensures in
    let remote = c.remote_at-in-Down.result.now in
    let setting = setting_of c.args.table.now k in
    let before = config_of c.args.home.now c.args.slots.now.held c.args.remotes.now links in
    let link = Some (Down j) in
    let packet = c.in_ok-arrived-in-Down.field-0 in
    let below : j < length c.args.remotes.now = rw c.in-Down.is at c.requires.linked.there in
    let first : arrival before link ≡ Some packet =
    ap (arriving_on links) (sym c.in-Down.is) ∙ arrives ∙ c.in_ok-arrived-in-Down.was in
    let does = λ (r : RemoteState). option_map (down setting r) (arrival before link) in
    subst (λ (s : Step). IsPlan setting before (arrival_link (site s)) s (Some c.down.result))
    (sym c.in-Down.is)
    (remote-planned setting before link (step.Down j) j remote does (Some c.down.result) None None
    below there
    (subst (RemotePlans j (Some c.down.result)) (sym (ap (option_map (down setting remote)) first))
    (c.down.ensures.value k)) c.down.ensures.says refl refl refl)
