-- Events reach what each of many cache lines stands for, wherever their steps lead.
use Rattle.std.proofs.Common.{◌≡◌, ℕ, ◌≤◌, List, [], ◌∷◌, Option, Some, None, unwrap_or, refl, subst}
use Rattle.std.specs.List.{AllByRecursion}
use Rattle.rv_base.proofs.Lists.{AllByRecursion-at, AllByRecursion-set, AllByRecursion-replicate}
use Rattle.rv_base.proofs.Lists.{some_map, some_and_then}
use Rattle.proto_model.specs.Proper.{IsProper}
use Rattle.async_shape.specs.Setting.{Setting}
use Rattle.async_shape.specs.Config.{start}
use Rattle.async_shape.specs.Next.{next}
use Rattle.line_array.specs.ArrayConfig.{ArrayConfig, array_start}
use Rattle.line_array.specs.ArrayNext.{move_of, next_by, array_moved, next_array}
use Rattle.line_array.specs.ArrayNext.{after_line_step, array_at_end}
use Rattle.line_array.specs.declared.line_step.LineStep.{LineStep}
use Rattle.line_array.proofs.Sharing.{move_of-is}
use Rattle.every_run.proofs.ToldLeads.{ComesTo, next-comes, start-comes}

module _ (setting : Setting) (proper : IsProper setting.protocol) (n : ℕ) where
  -- each line stands where events lead
  abbrev pub AllCome : ArrayConfig → Type 0
  AllCome c = AllByRecursion (ComesTo setting n) c.lines

  -- an enabled step leads one line on, and the others stay
  next-all : (c d : ArrayConfig) (s : LineStep) → next_array setting c s ≡ Some d → AllCome c
      → AllCome d
  next-all c d s leads come =
      let by = some_and_then (next_by setting c) (move_of c s) d leads in
      let move = by.0 in
      let did = some_map (array_moved setting c move) (next setting move.before move.own) d by.2 in
      let there = (move_of-is c s move by.1).there in
      let before =
      AllByRecursion-at (ComesTo setting n) c.lines move.number move.before come there in
      subst AllCome did.2
      (AllByRecursion-set (ComesTo setting n) c.lines move.number did.0 come
      (next-comes setting proper n move.before did.0 move.own before did.1))

  all_or_same : (c : ArrayConfig) (s : LineStep) (d : Option ArrayConfig)
      → next_array setting c s ≡ d → AllCome c → AllCome (unwrap_or d c)
  all_or_same c s None leads come = come
  all_or_same c s (Some d) leads come = next-all c d s leads come

  pub steps-come : (c : ArrayConfig) (steps : List LineStep) → AllCome c
      → AllCome (array_at_end setting c steps)
  steps-come c [] come = come
  steps-come c (s ∷ steps) come =
      steps-come (after_line_step setting c s) steps
      (all_or_same c s (next_array setting c s) refl come)

  -- at the start, and after any steps
  pub array-comes : (lines : ℕ) (steps : List LineStep) → 1 ≤ n → n ≤ 64 → 2 ≤ setting.slots
      → setting.slots ≤ 64
      → AllCome (array_at_end setting (array_start setting.protocol n lines) steps)
  array-comes lines steps some few two most =
      steps-come (array_start setting.protocol n lines) steps
      (AllByRecursion-replicate (ComesTo setting n) lines (start setting.protocol n)
      (start-comes setting proper n some few two most))
