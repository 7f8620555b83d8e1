-- After any steps of an array each line stands where the steps lead that were meant for it.
use Rattle.std.proofs.Common.{◌≡◌, ℕ, zero, suc, ◌<◌, Bool, true, false, ◌==◌, List, []}
use Rattle.std.proofs.Common.{◌∷◌, set, replicate, Option, Some, None, unwrap_or, slice_get}
use Rattle.std.proofs.Common.{refl, sym}
use Rattle.std.proofs.Common.{ap, ◌∙◌, subst, arith}
use Rattle.std.proofs.lemmas.Bool.{eqb-true, eqb-false}
use Rattle.std.proofs.lemmas.Option.{slice_get_within}
use Rattle.std.specs.Option.{option_map, option_and_then}
use Rattle.rv_base.proofs.Lists.{slice_get-set_same, slice_get-set_other}
use Rattle.async_shape.specs.Setting.{Setting}
use Rattle.async_shape.specs.Config.{Config}
use Rattle.async_shape.specs.Next.{next}
use Rattle.async_shape.specs.Run.{after_step, config_at_end}
use Rattle.async_shape.specs.declared.step.Step.{Step}
use Rattle.line_array.specs.ArrayConfig.{ArrayConfig}
use Rattle.line_array.specs.ArrayNext.{LineMove, meant, move_at, next_by, array_moved}
use Rattle.line_array.specs.ArrayNext.{after_line_step, array_at_end, meant_first, steps_meant}
use Rattle.line_array.specs.declared.line_step.LineStep.{LineStep}

-- where the line is led by the steps that follow, if it is there
abbrev led : Setting → List Step → Option Config → Option Config
led setting steps line = option_map (λ line. config_at_end setting line steps) line

-- this move, with what the line gives
abbrev move_with : ℕ → Step → Config → LineMove
move_with b own before = record { number = b; before = before; own = own }

module _ (setting : Setting) (a : ℕ) (c : ArrayConfig) (later : List Step) where
  -- the array after the step that is meant, if one is
  abbrev after_meant : Option (ℕ × Step) → ArrayConfig
  after_meant m =
      unwrap_or (option_and_then (next_by setting c) (option_and_then (move_at c) m)) c

  -- what is to be shown of it
  abbrev Leads : Option (ℕ × Step) → ArrayConfig → Type 0
  Leads m after =
      led setting later (slice_get after.lines a)
      ≡ led setting (meant_first a m later) (slice_get c.lines a)

  -- of another line, which stays
  leads-other : (b : ℕ) (own : Step) (after : ArrayConfig) → (b == a) ≡ false
      → slice_get after.lines a ≡ slice_get c.lines a → Leads (Some (b, own)) after
  leads-other b own after other stays =
      let first : meant_first a (Some (b, own)) later ≡ later = rw other refl in
      ap (led setting later) stays
      ∙ ap (λ (steps : List Step). led setting steps (slice_get c.lines a)) (sym first)

  -- of this line, which stands so after the step
  leads-own : (own : Step) (before : Config) (after : ArrayConfig) (b : ℕ) → (b == a) ≡ true
      → slice_get c.lines a ≡ Some before
      → slice_get after.lines a ≡ Some (after_step setting before own)
      → Leads (Some (b, own)) after
  leads-own own before after b same there now =
      let first : meant_first a (Some (b, own)) later ≡ own ∷ later = rw same refl in
      ap (led setting later) now
      ∙ sym (ap (λ (steps : List Step). led setting steps (slice_get c.lines a)) first
      ∙ ap (led setting (own ∷ later)) there)

  -- by what the line may do
  leads_by : (b : ℕ) (own : Step) (before : Config) → slice_get c.lines b ≡ Some before
      → (d : Option Config) → next setting before own ≡ d
      → Leads (Some (b, own))
      (unwrap_or (option_map (array_moved setting c (move_with b own before)) d) c)
  leads_by b own before there None did = by (b == a) refl
    where
      by : (same : Bool) → (b == a) ≡ same → Leads (Some (b, own)) c
      by true is =
          let here : slice_get c.lines a ≡ Some before =
          subst (λ (i : ℕ). slice_get c.lines i ≡ Some before) (eqb-true b a is) there in
          leads-own own before c b is here
          (here ∙ ap (λ (d : Option Config). Some (unwrap_or d before)) (sym did))
      by false is = leads-other b own c is refl
  leads_by b own before there (Some d) did = by (b == a) refl
    where
      after : ArrayConfig
      after = array_moved setting c (move_with b own before) d

      by : (same : Bool) → (b == a) ≡ same
          → Leads (Some (b, own)) (array_moved setting c (move_with b own before) d)
      by true is =
          let same = eqb-true b a is in
          let here : slice_get c.lines a ≡ Some before =
          subst (λ (i : ℕ). slice_get c.lines i ≡ Some before) same there in
          let now : slice_get (set c.lines b d) a ≡ Some d =
          subst (λ (i : ℕ). slice_get (set c.lines b d) i ≡ Some d) same
          (slice_get-set_same c.lines b d (slice_get_within c.lines b before there)) in
          leads-own own before (array_moved setting c (move_with b own before) d) b is here
          (now ∙ ap (λ (d : Option Config). Some (unwrap_or d before)) (sym did))
      by false is =
          leads-other b own (array_moved setting c (move_with b own before) d) is
          (slice_get-set_other c.lines b a d (λ same. eqb-false b a is (sym same)))

  -- by whether the line is there
  leads_at : (b : ℕ) (own : Step) (before : Option Config) → slice_get c.lines b ≡ before
      → Leads (Some (b, own)) (unwrap_or (option_and_then (next_by setting c)
      (option_map (move_with b own) before)) c)
  leads_at b own None there = by (b == a) refl
    where
      by : (same : Bool) → (b == a) ≡ same → Leads (Some (b, own)) c
      by true is =
          let none : slice_get c.lines a ≡ None =
          subst (λ (i : ℕ). slice_get c.lines i ≡ None) (eqb-true b a is) there in
          ap (led setting later) none
          ∙ sym (ap (led setting (meant_first a (Some (b, own)) later)) none)
      by false is = leads-other b own c is refl
  leads_at b own (Some before) there =
      leads_by b own before there (next setting before own) refl

  -- by what is meant
  leads : (m : Option (ℕ × Step)) → Leads m (after_meant m)
  leads None = refl
  leads (Some (b, own)) = leads_at b own (slice_get c.lines b) refl

-- no steps lead anywhere
led-none : (setting : Setting) (line : Option Config) → line ≡ led setting [] line
led-none setting None = refl
led-none setting (Some line) = refl

-- Each line is led by its own steps.
pub steps-lead : (setting : Setting) (a : ℕ) (c : ArrayConfig) (steps : List LineStep)
    → slice_get (array_at_end setting c steps).lines a
    ≡ option_map (λ line. config_at_end setting line (steps_meant setting a c steps))
    (slice_get c.lines a)
steps-lead setting a c [] = led-none setting (slice_get c.lines a)
steps-lead setting a c (s ∷ steps) =
    let next = after_line_step setting c s in
    steps-lead setting a next steps
    ∙ leads setting a c (steps_meant setting a next steps) (meant c s)

-- what is at a place of a list of the same items
pub slice_get-replicate : {X : Type 0} (n i : ℕ) (x : X) → i < n
    → slice_get (replicate n x) i ≡ Some x
slice_get-replicate zero i x within = absurd (omega arith)
slice_get-replicate (suc n) zero x within = refl
slice_get-replicate (suc n) (suc i) x within = slice_get-replicate n i x (omega arith)
