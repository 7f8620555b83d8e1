-- A step of an array that is meant for a cache line, as a step of the controllers of that line.
use Rattle.std.proofs.Common.{◌≡◌, ◌≢◌, ℕ, ◌<◌, Bool, true, false, ◌&&◌, not, nat_lt}
use Rattle.std.proofs.Common.{List, [], length, Option, Some, None, IsSome}
use Rattle.std.proofs.Common.{slice_get, refl, sym, ap, ◌∙◌, subst}
use Rattle.std.specs.Option.{option_map, option_and_then}
use Rattle.std.specs.Prelude.{slice_set}
use Rattle.std.proofs.lemmas.Option.{slice_get_within}
use Rattle.std.proofs.lemmas.Bool.{ltb-true}
use Rattle.rv_base.proofs.Lists.{some_when, some_map, some_and_then, slice_get-set_same}
use Rattle.ordered_links.specs.Link.{Link, Up, Down}
use Rattle.async_shape.specs.Setting.{Setting}
use Rattle.async_shape.specs.Config.{Config}
use Rattle.async_shape.specs.Next.{next}
use Rattle.async_shape.specs.declared.step.Step.{Step}
use Rattle.async_shape.specs.declared.step.Step.TheVariants as step
use Rattle.line_array.specs.SharedLists.{shared_on, first_line}
use Rattle.line_array.specs.ArrayConfig.{ArrayConfig}
use Rattle.line_array.specs.ArrayNext.{LineMove, is_delivery, meant, move_at, move_of, next_by}
use Rattle.line_array.specs.ArrayNext.{next_array, array_moved}
use Rattle.line_array.specs.InStep.{IsInStep}
use Rattle.line_array.specs.declared.line_step.LineStep.{LineStep}
use Rattle.line_array.specs.declared.line_step.LineStep.TheVariants as array

-- ---- the line is there

some-of : {X : Type 0} (o : Option X) → IsSome o → (x : X) × (o ≡ Some x)
some-of None is = absurd (cc)
some-of (Some x) is = (x, refl)

both-left : (x y : Bool) → (x && y) ≡ true → x ≡ true
both-left true y both = refl
both-left false y both = both

module _ (setting : Setting) (c : ArrayConfig) where
  -- A step that is enabled is one of a line that is there.
  there-enabled : (s : LineStep) (a : ℕ) (own : Step) → meant c s ≡ Some (a, own)
      → IsSome (next_array setting c s) → a < length c.lines
  there-enabled s a own is_meant enabled =
      let after = some-of (next_array setting c s) enabled in
      let move = some_and_then (next_by setting c) (move_of c s) after.0 after.1 in
      let at = sym (ap (option_and_then (move_at c)) is_meant) ∙ move.1 in
      let line = some_map (λ (before : Config). record { number = a; before = before; own = own })
      (slice_get c.lines a) move.0 at in
      slice_get_within c.lines a line.0 line.1

  -- Something is under way where a first number is.
  under_way : (link : Link) (a : ℕ) → first_line link c.shared ≡ Some a
      → shared_on link c.shared ≢ []
  under_way link a first none =
      let empty : first_line link c.shared ≡ None =
      ap (λ (numbers : List ℕ). slice_get numbers 0) none in
      absurd (cc)

  -- A line for which a step is meant is there, where the shared lists are in step.
  pub meant-there : IsInStep setting c → (s : LineStep) (a : ℕ) (own : Step)
      → meant c s ≡ Some (a, own) → a < length c.lines
  meant-there in_step (array.At b t) a own is =
      let count = length c.lines in
      let holds : ℕ × Step = (b, t) in
      let answer : ℕ × Step = (a, own) in
      let tested = some_when (nat_lt b count && not (is_delivery t)) holds answer is in
      let within : b < count =
      ltb-true b count (both-left (nat_lt b count) (not (is_delivery t)) tested.0) in
      subst (λ (i : ℕ). i < count) (ap (λ (m : ℕ × Step). m.0) tested.1) within
  meant-there in_step (array.Up j) a own is =
      let delivers : ℕ → ℕ × Step = λ b. (b, step.Up j) in
      let answer : ℕ × Step = (a, own) in
      let first = some_map delivers (first_line (Up j) c.shared) answer is in
      there-enabled (array.Up j) a own is
      (in_step.goes (Up j) (under_way (Up j) first.0 first.1))
  meant-there in_step (array.Down j) a own is =
      let delivers : ℕ → ℕ × Step = λ b. (b, step.Down j) in
      let answer : ℕ × Step = (a, own) in
      let first = some_map delivers (first_line (Down j) c.shared) answer is in
      there-enabled (array.Down j) a own is
      (in_step.goes (Down j) (under_way (Down j) first.0 first.1))

-- ---- what the line does

none-map : {X Y : Type 0} (give : X → Y) (o : Option X) → option_map give o ≡ None → o ≡ None
none-map give None none = refl
none-map give (Some x) none = absurd (cc)

-- a step that is meant for line a, which stands so
module _ (setting : Setting) (c : ArrayConfig) (s : LineStep) (a : ℕ) (own : Step) (before : Config)
    (is_meant : meant c s ≡ Some (a, own)) (there : slice_get c.lines a ≡ Some before) where
  -- it is a move of that line
  abbrev its_move : LineMove
  its_move = record { number = a; before = before; own = own }

  moves-so : next_array setting c s ≡ next_by setting c its_move
  moves-so =
      ap (λ (m : Option (ℕ × Step)). option_and_then (next_by setting c)
      (option_and_then (move_at c) m)) is_meant
      ∙ ap (λ (line : Option Config). option_and_then (next_by setting c)
      (option_map (λ (before : Config). record { number = a; before = before; own = own }) line))
      there

  -- Where the array moves, the line is there then, and stands where its controllers go by their own
  -- step.
  pub line-moved : (d : ArrayConfig) → next_array setting c s ≡ Some d
      → (after : Config) × (next setting before own ≡ Some after)
      × (slice_get d.lines a ≡ Some after)
  line-moved d moves =
      let at =
      some_map (array_moved setting c its_move) (next setting before own) d
      (sym moves-so ∙ moves) in
      let changed : slice_get (slice_set c.lines a at.0) a ≡ Some at.0 =
      slice_get-set_same c.lines a at.0 (slice_get_within c.lines a before there) in
      (at.0, at.1, sym (ap (λ (d : ArrayConfig). slice_get d.lines a) at.2) ∙ changed)

  -- Where the array refuses, so does the line.
  pub line-refused : next_array setting c s ≡ None → next setting before own ≡ None
  line-refused refused =
      none-map (array_moved setting c its_move) (next setting before own) (sym moves-so ∙ refused)
