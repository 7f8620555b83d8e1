-- The value of a message stands behind those before it, and in the end those of all messages are
-- there.
use Rattle.std.proofs.Common.{◌≡◌, ◌<◌, ◌≤◌, [], ◌∷◌, length, map, ap, ◌∙◌, arith, rules}
use Rattle.std.proofs.lemmas.List.{take_all, map-append}
use Rattle.rv_base.specs.Lists.{map_from}
use Rattle.rv_base.proofs.Lists.{map_from-one_more}
use Rattle.serde_json.specs.Data.{array}
use Rattle.serde_json.specs.View.{view, items_of}
use Rattle.serde_json.specs.declared.value.Value.{Array, the_lemmas}
use Rattle.table_printer.specs.TableJson.{message_data}
use Rattle.table_printer.proofs.json.messages_value.Goals as goal

pub loop-message-preserved : goal.loop-message-preserved
loop-message-preserved c =
    let messages = c.args.messages.now in
    let info = c.index-messages-message.result in
    let within : c.loop-message.message < length messages = omega arith in
    let more = map_from-one_more (message_data messages c.args.replies.now) messages
    c.loop-message.message info within in
    let pushed = map-append view c.loop-message.values.items (c.in_ok-message_value.field-0 ∷ []) in
    cc (more, pushed, c.in_ok-push.ensures.items, c.in_ok-message_value.ensures)

pub returns : goal.returns
returns c =
    let messages = c.args.messages.now in
    let seen : view (Array c.loop-message.values)
    ≡ array (items_of (map view c.loop-message.values.items)) = search (rules, the_lemmas) in
    let all : length messages ≤ c.loop-message.message = omega arith in
    seen ∙ ap (λ values. array (items_of values)) (c.loop-message.invariant
    ∙ ap (map_from (message_data messages c.args.replies.now) 0)
    (take_all c.loop-message.message messages all))
