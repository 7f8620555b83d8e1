-- Where there is no such message, there is no text.
use Rattle.std.proofs.Common.{◌≡◌, [], Option, None, slice_get, ap}
use Rattle.std.proofs.lemmas.Option.{slice_get_past}
use Rattle.std.specs.Option.{option_map_or}
use Rattle.proto_model.specs.Texts.{message_text}
use Rattle.proto_model.specs.declared.numbered.MessageInfo.{MessageInfo}
use Rattle.rendezvous_meaning.specs.GivenMessage.{message_by_number}
use Rattle.schedule_replay.proofs.Chained.{nothing}
use Rattle.schedule_replay.proofs.given_message.put_message.Goals as goal

pub returns-in-None : goal.returns-in-None
returns-in-None c =
    let none : slice_get c.args.messages.now c.args.message ≡ None =
    slice_get_past c.args.messages.now c.args.message c.in-None.ensures.lookup.3 in
    nothing (message_by_number c.args.messages.now c.args.message c.args.value) c.args.so_far
    c.args.out.now.items
    (ap (λ (o : Option MessageInfo). option_map_or (λ info. message_text info c.args.value) o [])
    none)
