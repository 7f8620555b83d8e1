-- The row that begins with a guard stands among the rows of its process, and no other row has its
-- place and trigger: so it tells where the guard goes.
use Rattle.std.proofs.Common.{◌≡◌, ℕ, zero, suc, List, [], ◌∷◌, ◌++◌}
use Rattle.std.proofs.Common.{Option, Some, None, slice_get, refl, sym, subst, ap, ◌∙◌}
use Rattle.std.specs.Option.{option_map_or}
use Rattle.std.proofs.lemmas.Option.{same_Some}
use Rattle.rv_base.proofs.Lists.{AllByRecursion-at}
use Rattle.proto_model.specs.declared.numbered.RuleKind.{RuleKind}
use Rattle.proto_model.specs.declared.numbered.RuleKind.TheVariants as action
use Rattle.proto_model.specs.declared.numbered.Rule.{Rule}
use Rattle.proto_model.specs.declared.numbered.MessageInfo.{MessageInfo}
use Rattle.proto_model.specs.declared.numbered.Body.{Body}
use Rattle.controller_table.specs.OneRow.{HasKey, NoneHasKey, IsOnlyRow}
use Rattle.controller_table.specs.Rows.{reply_at, tau_row, take_row, answered_row, answer_row}
use Rattle.controller_table.specs.Rows.{home_action_rows, home_rows_of, remote_action_rows}
use Rattle.controller_table.specs.Rows.{remote_rows_of}
use Rattle.controller_table.specs.Sound.{goes_to}
use Rattle.controller_table.specs.declared.rows.GuardId.{GuardId}
use Rattle.controller_table.specs.declared.rows.Place.{Place}
use Rattle.controller_table.specs.declared.rows.Place.TheVariants.{Comm}
use Rattle.controller_table.specs.declared.rows.Trigger.{Trigger}
use Rattle.controller_table.specs.declared.rows.Trigger.TheVariants.{Answer}
use Rattle.controller_table.specs.declared.rows.Row.{Row}
use Rattle.async_shape.specs.Guards.{guard_by}
use Rattle.async_shape.proofs.RowsAmong.{IsAmong, home-among, remote-among}
use Rattle.async_machine.specs.Keys.{answered_key, home_key, remote_key}

-- ---- the one row with a key

-- between rows that don't have the key there is one alone that has it
only-between : (at : Place) (on : Trigger) (row found : Row) (before behind : List Row) (place : ℕ)
    → HasKey at on row → NoneHasKey at on before → NoneHasKey at on behind
    → slice_get (before ++ found ∷ behind) place ≡ Some row → found ≡ row
only-between at on row found [] behind zero key none after there = same_Some found row there
only-between at on row found [] behind (suc place) key none after there =
    absurd
    (AllByRecursion-at (λ (r : Row). HasKey at on r → ⊥) behind place row after there key)
only-between at on row found (first ∷ before) behind zero key none after there =
    let same = same_Some first row there in
    absurd (none.0 (subst (HasKey at on) (sym same) key))
only-between at on row found (first ∷ before) behind (suc place) key none after there =
    only-between at on row found before behind place key none.1 after there

-- the one row with a key is any row among all that has it
only-among : (rows : List Row) (at : Place) (on : Trigger) (answer : Option Row) (row : Row)
    → IsOnlyRow rows at on answer → IsAmong row rows → HasKey at on row → answer ≡ Some row
only-among rows at on None row only there key =
    absurd
    (AllByRecursion-at (λ (r : Row). HasKey at on r → ⊥) rows there.0 row only there.1 key)
only-among rows at on (Some found) row only there key =
    ap (λ (r : Row). Some r)
    (only-between at on row found only.1 only.2 there.0 key only.4 only.5
    (subst (λ (rs : List Row). slice_get rs there.0 ≡ Some row) only.3 there.1))

-- ---- the row of a guard

-- A row with this key among these, which goes where the rule goes.
pub record Leads (key : Place × Trigger) (rule : Rule) (rows : List Row) : Type 0 where
  row : Row
  has : HasKey key.0 key.1 row
  among : IsAmong row rows
  goes : goes_to row.does row.to ≡ rule.next

-- the row that completes an output has the output's key
answered-has : (body : Body) (g : GuardId) (rule : Rule) (reply : Option ℕ)
    → HasKey (answered_key g reply).0 (answered_key g reply).1 (answered_row body g rule reply)
answered-has body g rule None = (refl, refl)
answered-has body g rule (Some p) = (refl, refl)

-- it goes where the output goes
answered-goes : (body : Body) (g : GuardId) (rule : Rule) (reply : Option ℕ)
    → goes_to (answered_row body g rule reply).does (answered_row body g rule reply).to ≡ rule.next
answered-goes body g rule None = refl
answered-goes body g rule (Some p) = refl

-- the row that answers by an input has the input's key
answer-has : (g : GuardId) (rule : Rule) (reply : Option ℕ)
    → HasKey (Comm g.state) (Answer g.guard) (answer_row g rule reply)
answer-has g rule None = (refl, refl)
answer-has g rule (Some p) = (refl, refl)

-- it goes where the input goes
answer-goes : (g : GuardId) (rule : Rule) (reply : Option ℕ)
    → goes_to (answer_row g rule reply).does (answer_row g rule reply).to ≡ rule.next
answer-goes g rule None = refl
answer-goes g rule (Some p) = refl

-- So the one row with the key goes where the rule goes.
pub told : (key : Place × Trigger) (rule : Rule) (rows : List Row) (answer : Option Row)
    → Leads key rule rows → IsOnlyRow rows key.0 key.1 answer
    → option_map_or (λ row. goes_to row.does row.to) answer 0 ≡ rule.next
told key rule rows answer leads only =
    ap (λ (o : Option Row). option_map_or (λ row. goes_to row.does row.to) o 0)
    (only-among rows key.0 key.1 answer leads.row only leads.among leads.has)
    ∙ leads.goes

module _ (messages : List MessageInfo) (replies : List (Option ℕ)) (body : Body) where
  -- among the rows of a guard of the home is one that leads where it goes
  home-row : (g : GuardId) (rule : Rule) (kind : RuleKind)
      → Leads (home_key replies g kind) rule (home_action_rows messages replies body g rule kind)
  home-row g rule action.Tau =
      record { row = tau_row g rule; has = (refl, refl); among = (0, refl); goes = refl }
  home-row g rule (action.Input p m bound) = record {
    row = take_row g rule (reply_at replies m);
    has = (refl, refl);
    among = (0, refl);
    goes = refl;
  }
  home-row g rule (action.Output p m sent) = record {
    row = answered_row body g rule (reply_at replies m);
    has = answered-has body g rule (reply_at replies m);
    among = (1, refl);
    goes = answered-goes body g rule (reply_at replies m);
  }

  -- so it is of a remote
  remote-row : (g : GuardId) (rule : Rule) (kind : RuleKind)
      → Leads (remote_key replies g kind) rule
      (remote_action_rows messages replies body g rule kind)
  remote-row g rule action.Tau =
      record { row = tau_row g rule; has = (refl, refl); among = (0, refl); goes = refl }
  remote-row g rule (action.Input p m bound) = record {
    row = answer_row g rule (reply_at replies m);
    has = answer-has g rule (reply_at replies m);
    among = (0, refl);
    goes = answer-goes g rule (reply_at replies m);
  }
  remote-row g rule (action.Output p m sent) = record {
    row = answered_row body g rule (reply_at replies m);
    has = answered-has body g rule (reply_at replies m);
    among = (1, refl);
    goes = answered-goes body g rule (reply_at replies m);
  }

  -- ---- among all rows of a process

  -- The rows of the home have one with the key of a guard, which goes where the guard goes.
  pub home-leads : (g : GuardId) (rule : Rule) → guard_by body g ≡ Some rule
      → Leads (home_key replies g rule.kind) rule (home_rows_of messages replies body)
  home-leads g rule there =
      let leads = home-row g rule rule.kind in
      record {
        row = leads.row;
        has = leads.has;
        goes = leads.goes;
        among = home-among messages replies body g rule leads.row there leads.among;
      }

  -- So have those of a remote.
  pub remote-leads : (g : GuardId) (rule : Rule) → guard_by body g ≡ Some rule
      → Leads (remote_key replies g rule.kind) rule (remote_rows_of messages replies body)
  remote-leads g rule there =
      let leads = remote-row g rule rule.kind in
      record {
        row = leads.row;
        has = leads.has;
        goes = leads.goes;
        among = remote-among messages replies body g rule leads.row there leads.among;
      }
