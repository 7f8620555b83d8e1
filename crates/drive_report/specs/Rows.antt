-- The enabled steps, kept by form.
use Rattle.std.specs.Prelude.{ℕ, ◌^◌, ◌<◌, ◌≤◌, nat_lt, Bool, true, false, if◌then◌else◌}
use Rattle.std.specs.Prelude.{List, [], ◌∷◌, ◌++◌, length, map, filter, flat_map}
use Rattle.std.specs.List.{range_with_len, AllByRecursion}
use Rattle.std.specs.Option.{option_map_or}
use Rattle.proto_model.specs.Guards.{guard_at}
use Rattle.proto_model.specs.NumberSets.{has_number, with_number, without_number, numbers_below}
use Rattle.proto_model.specs.Proper.{is_output_kind}
use Rattle.proto_model.specs.declared.numbered.Body.{Body}
use Rattle.async_shape.specs.Setting.{Setting}
use Rattle.async_shape.specs.Config.{Config, count_of}
use Rattle.async_shape.specs.Next.{is_enabled}
use Rattle.async_shape.specs.declared.step.Step.{Step}
use Rattle.proto_model.specs.Proper.{most_guards}
use Rattle.drive_report.specs.Changes.{change_of}
use Rattle.drive_report.specs.Forms.{step_of}
use Rattle.drive_report.specs.declared.changes.Change.{Change}
use Rattle.drive_report.specs.declared.changes.Change.TheVariants as change
use Rattle.drive_report.specs.declared.forms.Form.{Form}
use Rattle.drive_report.specs.declared.forms.Form.TheVariants as form
use Rattle.drive_report.specs.declared.rows.Row.{Row}

-- ---- forms of which it is seen at once that no step is enabled

-- the steps of this form take place at the home, and take no packet
abbrev pub is_at_home : Form → Bool
is_at_home form.HomeTau = true
is_at_home form.HomeTake = true
is_at_home (form.HomeSend g) = true
is_at_home form.HomeDrop = true
is_at_home (form.RemoteTau j) = false
is_at_home form.RemoteSend = false
is_at_home form.RemoteAnswer = false
is_at_home form.RemoteReply = false
is_at_home form.Up = false
is_at_home form.Down = false

-- guard g of the state is an output
abbrev pub is_output_at : Body → ℕ → ℕ → Bool
is_output_at body state g =
    option_map_or (λ rule. is_output_kind rule.kind) (guard_at body state g) false

-- ---- the rows

-- those steps of a row's form whose number is in its set, among so many numbers from this one on
abbrev pub steps_from : Row → ℕ → ℕ → List Step
steps_from row first count =
    map (step_of row.form) (filter (has_number row.enabled) (range_with_len first count))

-- the steps that a row holds
abbrev pub steps_of : Row → List Step
steps_of row = steps_from row 0 row.count

-- the steps that rows hold together
abbrev pub steps_in : List Row → List Step
steps_in rows = flat_map steps_of rows

-- A row has at most 64 steps, and in its set are numbers below their count alone.
pub record IsSmall (row : Row) : Type 0 where
  pub count : row.count ≤ 64
  pub enabled : row.enabled < 2 ^ row.count

-- There are at most 88 rows, and each is small.
pub record AreFew (rows : List Row) : Type 0 where
  pub count : length rows ≤ 88
  pub each : AllByRecursion IsSmall rows

-- all forms of step of n remotes with m guards, in order, each with the number of its steps
abbrev pub forms_with : ℕ → ℕ → List (Form × ℕ)
forms_with m n =
    (form.HomeTau, m) ∷ (form.HomeTake, n)
    ∷ (map (λ g. (form.HomeSend g, n)) (range_with_len 0 m)
    ++ ((form.HomeDrop, n)
    ∷ (map (λ j. (form.RemoteTau j, m)) (range_with_len 0 n)
    ++ ((form.RemoteSend, n) ∷ (form.RemoteAnswer, n) ∷ (form.RemoteReply, n) ∷ (form.Up, n)
    ∷ (form.Down, n) ∷ []))))

-- all forms of step of n remotes
unfoldable pub all_forms : ℕ → List (Form × ℕ)
all_forms n = forms_with most_guards n

-- the set, with the number where it is to have it, and else without it
abbrev pub with_answer : ℕ → ℕ → Bool → ℕ
with_answer set j answer = if answer then with_number set j else without_number set j

module _ (setting : Setting) (c : Config) where
  -- the set of the numbers below the count whose steps of the form are enabled
  abbrev pub enabled_of : Form → ℕ → ℕ
  enabled_of f count = numbers_below (λ b. is_enabled setting c (step_of f b)) count

  -- the row of a form with so many steps
  abbrev pub ready_row : Form × ℕ → Row
  ready_row of = record { form = of.0; count = of.1; enabled = enabled_of of.0 of.1 }

  -- the rows of all forms
  abbrev pub ready_rows : List Row
  ready_rows = map ready_row (all_forms (count_of c))

  -- the row, asked again whether its step with this number is enabled
  abbrev pub asked : ℕ → Row → Row
  asked j row = record {
    form = row.form;
    count = row.count;
    enabled = with_answer row.enabled j (is_enabled setting c (step_of row.form j));
  }

  -- the row, asked again of what can have changed
  abbrev pub changed : Change → Row → Row
  changed change.Nothing row = row
  changed (change.One j) row = if nat_lt j row.count then asked j row else row
  changed change.All row = ready_row (row.form, row.count)

  -- the row after a step that leads here
  abbrev pub refreshed : Step → Row → Row
  refreshed s row = changed (change_of s row.form) row
