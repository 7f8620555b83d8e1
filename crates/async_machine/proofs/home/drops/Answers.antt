-- The reasons are looked for among the bare guards.
use Rattle.std.proofs.Common.{List, not, ◌&&◌, Bool, sym, ap, ◌∙◌}
use Rattle.proto_model.specs.Guards.{guards_of}
use Rattle.controller_table.specs.Sound.{protocol_of}
use Rattle.async_shape.specs.Requests.{some_completes}
use Rattle.async_shape.specs.HomeSteps.{may_drop}
use Rattle.slot_reserve.specs.declared.held.Held.{Held}
use Rattle.async_machine.specs.Standing.{setting_of}
use Rattle.async_machine.proofs.Dropping.{may_drop-bare}
use Rattle.async_machine.proofs.home.drops.Goals as goal

pub returns-then-not-some_completes : goal.returns-then-not-some_completes
returns-then-not-some_completes c =
    let table = c.args.table.now in
    let body = (protocol_of table).home in
    let home = c.args.home.now in
    let held = c.args.slots.now.held in
    let setting = setting_of table c.args.slots.now.size in
    let may = λ (held : List Held). may_drop setting c.args.n home held c.args.j in
    let rules = guards_of body c.args.state in
    c.may_drop.ensures setting (sym c.size.ensures.value)
    ∙ ap (λ (held : List Held). may held c.guards_of-rules.result.now)
    c.held-then-not-some_completes.ensures.value
    ∙ may_drop-bare setting c.args.n home held c.args.j body c.home_body.result.now c.args.state
    c.guards_of-rules.result.now c.home_body.ensures.bare c.guards_of-rules.ensures
    ∙ ap (λ (b : Bool). not b && may held rules) c.if-not-some_completes.ensures
    ∙ ap (λ (asked : List Held). not (some_completes c.args.n body home asked) && may held rules)
    c.held.ensures.value
