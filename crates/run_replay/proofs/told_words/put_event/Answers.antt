-- The message at hand is the one that is given in the event.
use Rattle.std.proofs.Common.{◌++◌, subst, ap, ap₂, ◌∙◌}
use Rattle.proto_model.specs.Tokens.{Text}
use Rattle.proto_model.specs.Texts.{event_text}
use Rattle.proto_model.specs.Continued.{Continues}
use Rattle.proto_model.proofs.Continuing.{Continues-append}
use Rattle.controller_table.specs.Sound.{Tabled, IsSound}
use Rattle.async_machine.specs.Standing.{setting, config}
use Rattle.rendezvous_meaning.specs.GivenMessage.{given_text}
use Rattle.run_replay.proofs.MessagesBehind.{message_behind-given}
use Rattle.run_replay.proofs.told_words.put_event.Goals as goal

pub returns : goal.returns
returns g c =
    let machine = c.args.machine.now in
    let stands = config g.L.Links.lists machine in
    let e = c.args.event in
    let sound = subst IsSound c.table.ensures c.messages-messages.ensures.sound in
    let messages = c.messages-messages.ensures.value
    ∙ ap (λ (t : Tabled). t.messages) c.table.ensures in
    let given = c.message_behind.ensures
    ∙ message_behind-given (setting machine) sound.proper stands c.shaped.ensures c.args.step e
    c.requires in
    let text = given_text c.messages-messages.result.now c.message_behind.result in
    subst
    (λ (t : Text). Continues t c.args.so_far c.args.out.now.items c.put_given.result
    c.put_given.new.out.items)
    (ap (λ (t : Text). event_text e ++ t) (ap₂ given_text messages given))
    (Continues-append (event_text e) text _ _ _ _ _ _ c.put_event_text-so_far.ensures
    c.put_given.ensures)
