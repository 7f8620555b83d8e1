-- What is taken from a shared link over the steps of an array is what was put on it, in order: the
-- rest is under way.
use Rattle.std.proofs.Common.{◌≡◌, List, [], ◌∷◌, ◌++◌, sym, ap, ◌∙◌, append_assoc, append-nil}
use Rattle.std.specs.Option.{option_map_or}
use Rattle.proto_model.specs.Proper.{IsProper}
use Rattle.ordered_links.specs.Link.{Link}
use Rattle.async_shape.specs.Setting.{Setting}
use Rattle.line_array.specs.ArrayConfig.{ArrayConfig}
use Rattle.line_array.specs.ArrayNext.{move_of, after_line_step, array_at_end}
use Rattle.line_array.specs.Carried.{Carried, AreUnderWay, IsInOrder, put_by, taken_by}
use Rattle.line_array.specs.Carried.{puts_over, takes_over}
use Rattle.line_array.specs.InStep.{IsSharing}
use Rattle.line_array.specs.declared.line_step.LineStep.{LineStep}
use Rattle.line_array.proofs.Sharing.{step-carries, IsSharing-step}

-- what goes through a link in two parts of a run
joined : (was put more taken also between now : List Carried)
    → was ++ put ≡ taken ++ between → between ++ more ≡ also ++ now
    → was ++ (put ++ more) ≡ (taken ++ also) ++ now
joined was put more taken also between now first then =
    sym (append_assoc was put more) ∙ ap (λ (xs : List Carried). xs ++ more) first
    ∙ append_assoc taken between more ∙ ap (λ (xs : List Carried). taken ++ xs) then
    ∙ sym (append_assoc taken also now)

module _ (setting : Setting) (proper : IsProper setting.protocol) (link : Link) where
  -- from packets that are under way
  pub steps-carry : (c : ArrayConfig) (steps : List LineStep) → IsSharing setting c
      → (carried : List Carried) → AreUnderWay c link carried
      → (now : List Carried)
      × (carried ++ puts_over setting link c steps ≡ takes_over setting link c steps ++ now)
      × AreUnderWay (array_at_end setting c steps) link now
  steps-carry c [] sharing carried under = (carried, append-nil carried, under)
  steps-carry c (s ∷ steps) sharing carried under =
      let next = after_line_step setting c s in
      let one = step-carries setting proper c sharing s link carried under in
      let rest =
      steps-carry next steps (IsSharing-step setting proper c sharing s) one.0 one.2 in
      let put = option_map_or (put_by setting link) (move_of c s) [] in
      let taken = option_map_or (taken_by setting link) (move_of c s) [] in (
        rest.0,
        joined carried put (puts_over setting link next steps) taken
            (takes_over setting link next steps) one.0 rest.0 one.1 rest.1,
        rest.2,
      )

  -- from a configuration in which nothing is
  pub steps-in_order : (c : ArrayConfig) (steps : List LineStep) → IsSharing setting c
      → AreUnderWay c link []
      → IsInOrder (array_at_end setting c steps) link (puts_over setting link c steps)
      (takes_over setting link c steps)
  steps-in_order c steps sharing none =
      let all = steps-carry c steps sharing [] none in
      record { carried = all.0; order = all.1; under_way = all.2 }
