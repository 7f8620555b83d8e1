-- A line is as another that ends with its LF where it is that one without the LF.
use Rattle.std.proofs.Common.{◌≡◌, [], ◌∷◌, ◌++◌, Some, None, sym, ◌∙◌, ap}
use Rattle.std.proofs.lemmas.Bool.Decides.{Decides-eqb}
use Rattle.std.proofs.lemmas.Slice.Eq.{strip_suffix_is}
use Rattle.std.specs.Prelude.{bytes_eq}
use Rattle.proto_model.specs.Tokens.{Text}
use Rattle.trace_audit.proofs.Expected.{same-behind, not-line}
use Rattle.trace_audit.proofs.step_line.is_line.Goals as goal

pub returns-in-Some : goal.returns-in-Some
returns-in-Some c =
    let line = c.args.line.now in
    let text = c.in-Some.text.now in
    let whole : c.args.whole.now ≡ text ++ 10 ∷ [] =
    strip_suffix_is Decides-eqb c.args.whole.now c.as_slice.result.now (Some c.in-Some.text)
    c.in-Some.ensures.cases
    ∙ ap (λ (lf : Text). text ++ lf) c.as_slice.ensures in
    c.eq.ensures ∙ (same-behind line text ∙ ap (bytes_eq (line ++ 10 ∷ [])) (sym whole))

pub returns-in-None : goal.returns-in-None
returns-in-None c =
    let none = strip_suffix_is Decides-eqb c.args.whole.now c.as_slice.result.now None
    c.in-None.ensures.cases in
    not-line c.args.line.now c.args.whole.now
    (λ front same. none front (same ∙ ap (λ (lf : Text). front ++ lf) (sym c.as_slice.ensures)))
