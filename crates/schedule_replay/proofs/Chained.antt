-- Texts that are appended one after the other: how a call that appends a text by itself goes on
-- with what was appended before it.
use Rattle.std.proofs.Common.{◌≡◌, [], ◌++◌, Result, Ok, Err, OnOk, sym, ap, subst, ◌∙◌}
use Rattle.std.proofs.Common.{append_assoc}
use Rattle.rv_base.specs.Appended.{Appends}
use Rattle.proto_model.specs.Tokens.{Text}
use Rattle.proto_model.specs.Continued.{Continues}
use Rattle.proto_model.proofs.Continuing.{Continues-none, Continues-append}

-- A call that appends a text goes on with what stands before it.
pub begun : {E : Type 0} (text : Text) (result : Result (Unit {0}) E) (old new : Text)
    → Appends text result old new → Continues text (Ok tt) old result new
begun text (Ok t) old new is =
    λ start before stands.
    is ∙ ap (λ (t : Text). t ++ text) stands ∙ append_assoc start before text
begun text (Err e) old new is =
    λ start before stands. (
      before ++ is.0,
      is.1,
      ap (λ (t : Text). before ++ t) is.2 ∙ sym (append_assoc before is.0 is.1),
      is.3 ∙ ap (λ (t : Text). t ++ is.0) stands ∙ append_assoc start before is.0,
    )

-- Where memory ran out before, nothing is appended.
pub ceased : {E : Type 0} (text : Text) (so_far : Result (Unit {0}) E) (e : E) (old : Text)
    → so_far ≡ Err e → Continues text so_far old (Err e) old
ceased text so_far e old stopped =
    let again : Continues text (Err e) old (Err e) old = λ start before stands. (
      stands.0,
      stands.1 ++ text,
      ap (λ (t : Text). t ++ text) stands.2 ∙ append_assoc stands.0 stands.1 text,
      stands.3,
    ) in
    subst (λ r. Continues text r old (Err e) old) (sym stopped) again

-- No text is appended by doing nothing.
pub nothing : {E : Type 0} (text : Text) (so_far : Result (Unit {0}) E) (old : Text)
    → text ≡ [] → Continues text so_far old so_far old
nothing text so_far old none =
    subst (λ t. Continues t so_far old so_far old) (sym none) (Continues-none so_far old)

-- Two texts make a third.
pub grown : {E : Type 0} (before more all : Text) (r s t : Result (Unit {0}) E) (a b c : Text)
    → before ++ more ≡ all → Continues before r a s b → Continues more s b t c
    → Continues all r a t c
grown before more all r s t a b c same first second =
    subst (λ (text : Text). Continues text r a t c) same
    (Continues-append before more r s t a b c first second)

-- Where there was memory, the text stands behind what stood there.
pub whole_there : {E : Type 0} (text : Text) (result : Result (Unit {0}) E) (old new : Text)
    → Appends text result old new → OnOk result (new ≡ old ++ text)
whole_there text (Ok t) old new is = is
whole_there text (Err e) old new is = tt
