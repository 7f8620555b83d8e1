-- A variable is written behind the ones before it.
use Rattle.std.proofs.Common.{◌≡◌, ◌+◌, ◌<◌, ◌++◌, length, take, get_or, Option, Some, slice_get}
use Rattle.std.proofs.Common.{unwrap_or, refl, sym, ap, subst, ◌∙◌, arith, add-one}
use Rattle.std.proofs.lemmas.Option.{slice_get_read, slice_get-get_or, unwrap_or-slice_get}
use Rattle.proto_model.specs.Tokens.{Text}
use Rattle.proto_model.specs.Texts.{var_text, vars_text}
use Rattle.proto_model.specs.Continued.{Continues}
use Rattle.proto_model.specs.declared.numbered.Value.{Value}
use Rattle.proto_model.specs.declared.numbered.Value.TheVariants as value
use Rattle.proto_model.proofs.Continuing.{Continues-append, vars_text-more}
use Rattle.proto_model.proofs.texts.pieces.put_vars.Goals as goal

pub loop-place-preserved : goal.loop-place-preserved
loop-place-preserved c =
    let infos = c.args.infos.now in
    let vars = c.args.vars.now in
    let place = c.loop-place.place in
    let info = c.index-infos-place.result in
    let v = c.unwrap_or-value.result in
    let in_vars : place < length vars = omega (arith, c.len-place-end.ensures) in
    let in_infos : place < length infos = omega arith in
    let info_is : slice_get infos place ≡ Some info = slice_get_read infos (length infos) place info
    refl in_infos c.index-infos-place.is in
    let worth : get_or vars place value.Unit ≡ v =
    sym (unwrap_or-slice_get vars place value.Unit)
    ∙ ap (λ (o : Option Value). unwrap_or o value.Unit) (sym c.at.ensures)
    ∙ sym c.unwrap_or-value.ensures in
    let v_is : slice_get vars place ≡ Some v = slice_get-get_or vars place value.Unit in_vars
    ∙ ap (λ (w : Value). Some w) worth in
    let before = vars_text (take place infos) (take place vars) in
    let both = Continues-append before (var_text info v) c.args.so_far c.loop-place.so_far
    c.put_var-so_far.result c.args.out.now.items c.loop-place.out.items
    c.put_var-so_far.new.out.items c.loop-place.invariant c.put_var-so_far.ensures in
    let grown : before ++ var_text info v ≡ vars_text (take (place + 1) infos)
    (take (place + 1) vars) =
    rw (add-one) (sym (vars_text-more infos vars place info v info_is v_is)) in
    subst (λ (text : Text). Continues text c.args.so_far c.args.out.now.items
    c.put_var-so_far.result c.put_var-so_far.new.out.items) grown both
