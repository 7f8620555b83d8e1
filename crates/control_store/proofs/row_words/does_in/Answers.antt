-- Where two bytes are no guard in range, they are no part of what is completed.
use Rattle.std.proofs.Common.{◌≡◌, ℕ, List, [], ◌∷◌, Option, None, sym, subst, arith}
use Rattle.controller_table.specs.Rows.{guard_id}
use Rattle.controller_table.specs.declared.rows.GuardId.{GuardId}
use Rattle.controller_table.specs.declared.rows.Does.{Does}
use Rattle.controller_table.specs.declared.rows.Does.TheVariants as does
use Rattle.control_store.specs.RowWord.{guard_bytes, does_bytes, IsGuardInRange, IsDoesInRange}
use Rattle.control_store.specs.RowWord.{Decodes}
use Rattle.control_store.proofs.row_words.does_in.Goals as goal

zeroth : IsGuardInRange (guard_id 0 0)
zeroth = (omega arith, omega arith)

-- these two bytes are no guard in range
abbrev IsNoGuard : ℕ → ℕ → Type 0
IsNoGuard state guard =
    (g : GuardId) → IsGuardInRange g → state ∷ guard ∷ [] ≡ guard_bytes g → ⊥

no-first : (count state guard next number : ℕ) → IsNoGuard state guard
    → Decodes IsDoesInRange does_bytes (count ∷ state ∷ guard ∷ next ∷ number ∷ []) None
no-first count state guard next number no_guard does.Nothing range is =
    let same : state ∷ guard ∷ [] ≡ 0 ∷ 0 ∷ [] = cc in no_guard (guard_id 0 0) zeroth same
no-first count state guard next number no_guard (does.One g) range is =
    let same : state ∷ guard ∷ [] ≡ guard_bytes g = cc in no_guard g range same
no-first count state guard next number no_guard (does.Two g h) range is =
    let same : state ∷ guard ∷ [] ≡ guard_bytes g = cc in no_guard g range.0 same

no-second : (count state guard next number : ℕ) → IsNoGuard next number
    → Decodes IsDoesInRange does_bytes (count ∷ state ∷ guard ∷ next ∷ number ∷ []) None
no-second count state guard next number no_guard does.Nothing range is =
    let same : next ∷ number ∷ [] ≡ 0 ∷ 0 ∷ [] = cc in no_guard (guard_id 0 0) zeroth same
no-second count state guard next number no_guard (does.One g) range is =
    let same : next ∷ number ∷ [] ≡ 0 ∷ 0 ∷ [] = cc in no_guard (guard_id 0 0) zeroth same
no-second count state guard next number no_guard (does.Two g h) range is =
    let same : next ∷ number ∷ [] ≡ guard_bytes h = cc in no_guard h range.1 same

none-is : (bytes : List ℕ) (found : Option Does) → found ≡ None
    → Decodes IsDoesInRange does_bytes bytes None → Decodes IsDoesInRange does_bytes bytes found
none-is bytes found e none = subst (Decodes IsDoesInRange does_bytes bytes) (sym e) none

pub returns-in_err-first : goal.returns-in_err-first
returns-in_err-first c =
    let a = c.args in
    none-is (a.count ∷ a.state ∷ a.guard ∷ a.then_state ∷ a.then_guard ∷ [])
    c.from_residual.result c.from_residual.ensures
    (no-first a.count a.state a.guard a.then_state a.then_guard c.in_err-first.ensures)

pub returns-in_err-second : goal.returns-in_err-second
returns-in_err-second c =
    let a = c.args in
    none-is (a.count ∷ a.state ∷ a.guard ∷ a.then_state ∷ a.then_guard ∷ [])
    c.from_residual-in_err-second.result c.from_residual-in_err-second.ensures
    (no-second a.count a.state a.guard a.then_state a.then_guard c.in_err-second.ensures)
