-- A turn takes one more item, and the loop ends where no further one comes.
use Rattle.std.proofs.Common.{◌≡◌, Bool, true, false, sym, ap, ◌∙◌}
use Rattle.std.proofs.lemmas.Result.{err_from_is_err_and}
use Rattle.proto_model.specs.Tokens.{Text}
use Rattle.protocol_reader.specs.Reading.{text_at, many_at}
use Rattle.protocol_reader.proofs.OneByOne.{behind_items, goes_first, goes_on, goes_wrong}
use Rattle.protocol_reader.proofs.OneByOne.{goes_no_further}
use Rattle.protocol_reader.proofs.grammar.repeated.each.Goals as goal

told : (comes : Text → Bool) (word text : Text) (test is : Bool) → word ≡ text
    → test ≡ comes word → test ≡ is → comes text ≡ is
told comes word text test is same tested e = sym (ap comes same) ∙ sym tested ∙ e

pub each-init : goal.each-init
each-init g c = goes_first g.T.Repeated.comes g.T.Repeated.reader c.args.items c.args.cursor.now

pub returns-in_err-item : goal.returns-in_err-item
returns-in_err-item g c =
    let comes = g.T.Repeated.comes in
    let read = g.T.Repeated.reader in
    let p = err_from_is_err_and c.from_residual.result c.from_residual.ensures.1 in
    let seen : comes (text_at c.each.cursor) ≡ true =
    told comes _ _ _ _ c.text.ensures c.comes.ensures c.each-test.true in
    rw (p.1, p.2)
    (goes_wrong comes read c.each.items c.in_err-item.field-0.0 c.each.cursor
    (behind_items c.args.items (many_at comes read c.args.cursor.now)) c.each.invariant seen
    c.in_err-item.ensures.rule)

pub each-preserved : goal.each-preserved
each-preserved g c =
    let comes = g.T.Repeated.comes in
    let read = g.T.Repeated.reader in
    let seen : comes (text_at c.each.cursor) ≡ true =
    told comes _ _ _ _ c.text.ensures c.comes.ensures c.each-test.true in
    rw c.in_ok-push.ensures.ok
    (goes_on comes read c.each.items c.in_ok-item.item c.each.cursor c.read.new.cursor
    (behind_items c.args.items (many_at comes read c.args.cursor.now)) c.each.invariant seen
    c.in_ok-item.ensures.rule c.in_ok-item.ensures.taken)

pub returns : goal.returns
returns g c =
    let comes = g.T.Repeated.comes in
    let read = g.T.Repeated.reader in
    let none : comes (text_at c.each.cursor) ≡ false =
    told comes _ _ _ _ c.text.ensures c.comes.ensures c.each-test.false in
    goes_no_further comes read c.each.items c.each.cursor
    (behind_items c.args.items (many_at comes read c.args.cursor.now)) c.each.invariant none
