-- The rows of a guard of a process are among the rows of its controller, and each is the only one
-- with its place and trigger; so is the last row of a passive state of a remote.
use Rattle.std.proofs.Common.{◌≡◌, ℕ, zero, suc, ◌+◌, Bool, false, List, [], ◌∷◌, ◌++◌}
use Rattle.std.proofs.Common.{Option, Some, slice_get, sym, ap, subst, arith}
use Rattle.std.proofs.lemmas.Option.{same_Some}
use Rattle.rv_base.specs.Lists.{flat_from}
use Rattle.rv_base.proofs.Lists.{some_and_then}
use Rattle.proto_model.specs.Numbered.{NumberedProtocol}
use Rattle.proto_model.specs.Pairs.{replies_of}
use Rattle.proto_model.specs.declared.mode.Mode.{Mode}
use Rattle.proto_model.specs.declared.numbered.RuleKind.{RuleKind}
use Rattle.proto_model.specs.declared.numbered.Rule.{Rule}
use Rattle.proto_model.specs.declared.numbered.StateInfo.{StateInfo}
use Rattle.proto_model.specs.declared.numbered.MessageInfo.{MessageInfo}
use Rattle.proto_model.specs.declared.numbered.Body.{Body}
use Rattle.controller_table.specs.OneRow.{HasKey, IsOnlyRow}
use Rattle.controller_table.specs.Rows.{last_row, last_rows, is_active, home_action_rows}
use Rattle.controller_table.specs.Rows.{home_guard_rows, home_state_rows, home_rows, home_rows_of}
use Rattle.controller_table.specs.Rows.{remote_action_rows, remote_guard_rows, remote_state_rows}
use Rattle.controller_table.specs.Rows.{remote_rows, remote_rows_of}
use Rattle.controller_table.specs.declared.rows.GuardId.{GuardId}
use Rattle.controller_table.specs.declared.rows.Place.{Place}
use Rattle.controller_table.specs.declared.rows.Trigger.{Trigger}
use Rattle.controller_table.specs.declared.rows.Row.{Row}
use Rattle.controller_table.proofs.Apart.{apart-only}
use Rattle.controller_table.proofs.RowsApart.{home_rows-apart, remote_rows-apart}
use Rattle.async_shape.specs.Guards.{guard_by}

-- ---- a row among others

-- the row is one of these
abbrev pub IsAmong : Row → List Row → Type 0
IsAmong row rows = (place : ℕ) × (slice_get rows place ≡ Some row)

-- a row of the first list stands at the same place where more follow
at-front : (row : Row) (rows more : List Row) (place : ℕ) → slice_get rows place ≡ Some row
    → slice_get (rows ++ more) place ≡ Some row
at-front row [] more place there = absurd (cc)
at-front row (first ∷ rows) more zero there = there
at-front row (first ∷ rows) more (suc place) there = at-front row rows more place there

-- what is among the first rows is among all
among-front : (row : Row) (rows more : List Row) → IsAmong row rows → IsAmong row (rows ++ more)
among-front row rows more is = (is.0, at-front row rows more is.0 is.1)

-- what is among the last rows is among all
among-behind : (row : Row) (rows more : List Row) → IsAmong row more → IsAmong row (rows ++ more)
among-behind row [] more is = is
among-behind row (first ∷ rows) more is =
    let behind = among-behind row rows more is in (suc behind.0, behind.1)

-- what is among the rows that an item gives is among those that all items give
among-flat : {A : Type 0} (give : ℕ → A → List Row) (from i place : ℕ) (items : List A) (item : A)
    (row : Row) → from + i ≡ place → slice_get items i ≡ Some item
    → IsAmong row (give place item) → IsAmong row (flat_from give from items)
among-flat give from i place [] item row at there is = absurd (cc)
among-flat give from zero place (first ∷ items) item row at there is =
    let same : item ≡ first = sym (same_Some first item there) in
    let here : place ≡ from = omega arith in
    among-front row (give from first) (flat_from give (from + 1) items)
    (subst (λ it. IsAmong row (give from it)) same
    (subst (λ p. IsAmong row (give p item)) here is))
among-flat give from (suc i) place (first ∷ items) item row at there is =
    let behind : from + 1 + i ≡ place = omega arith in
    among-behind row (give from first) (flat_from give (from + 1) items)
    (among-flat give (from + 1) i place items item row behind there is)

-- where these are all messages, the replies of all, and the body of a process
module _ (messages : List MessageInfo) (replies : List (Option ℕ)) (body : Body) where
  -- a row of a guard of the home is among the rows of the home
  pub home-among : (g : GuardId) (rule : Rule) (row : Row) → guard_by body g ≡ Some rule
      → IsAmong row (home_action_rows messages replies body g rule rule.kind)
      → IsAmong row (home_rows_of messages replies body)
  home-among g rule row there is =
      let states = body.states in
      let of =
      some_and_then (λ (info : StateInfo). slice_get info.rules g.guard) (slice_get states g.state)
      rule there in
      let guard : 0 + g.guard ≡ g.guard = omega arith in
      let state : 0 + g.state ≡ g.state = omega arith in
      let guards = home_guard_rows messages replies body g.state in
      among-flat (home_state_rows messages replies body) 0 g.state g.state states
      of.0 row state of.1
      (among-flat guards 0 g.guard g.guard of.0.rules rule row guard of.2 is)

  -- a row of a guard of a remote is among the rows of a remote
  pub remote-among : (g : GuardId) (rule : Rule) (row : Row) → guard_by body g ≡ Some rule
      → IsAmong row (remote_action_rows messages replies body g rule rule.kind)
      → IsAmong row (remote_rows_of messages replies body)
  remote-among g rule row there is =
      let states = body.states in
      let of =
      some_and_then (λ (info : StateInfo). slice_get info.rules g.guard) (slice_get states g.state)
      rule there in
      let guard : 0 + g.guard ≡ g.guard = omega arith in
      let state : 0 + g.state ≡ g.state = omega arith in
      let guards = remote_guard_rows messages replies body g.state in
      among-flat (remote_state_rows messages replies body) 0 g.state g.state
      states of.0 row state of.1
      (among-front row (flat_from guards 0 of.0.rules) (last_rows (is_active of.0) g.state)
      (among-flat guards 0 g.guard g.guard of.0.rules rule row guard of.2 is))

module _ (protocol : NumberedProtocol) (mode : Mode) where
  -- the replies of all messages
  abbrev replies : List (Option ℕ)
  replies = replies_of protocol mode

  -- ---- the home

  -- the rows of a guard of the home, where this is what it does
  abbrev pub home_rows_by : GuardId → Rule → RuleKind → List Row
  home_rows_by g rule kind = home_action_rows protocol.messages replies protocol.home g rule kind

  -- a row of a guard of the home that does this is the only one with its place and trigger
  pub home-only : (g : GuardId) (rule : Rule) (kind : RuleKind) (row : Row) (at : Place)
      (on : Trigger) → guard_by protocol.home g ≡ Some rule → rule.kind ≡ kind
      → IsAmong row (home_rows_by g rule kind) → HasKey at on row
      → IsOnlyRow (home_rows protocol mode) at on (Some row)
  home-only g rule kind row at on there does is key =
      let by : IsAmong row (home_rows_by g rule rule.kind) =
      subst (λ (k : RuleKind). IsAmong row (home_rows_by g rule k)) (sym does) is in
      let among = home-among protocol.messages replies protocol.home g rule row there by in
      apart-only (home_rows protocol mode) among.0 row at on
      (home_rows-apart protocol.messages replies protocol.home) among.1 key

  -- ---- a remote

  -- the rows of a guard of a remote, where this is what it does
  abbrev pub remote_rows_by : GuardId → Rule → RuleKind → List Row
  remote_rows_by g rule kind =
      remote_action_rows protocol.messages replies protocol.remote g rule kind

  -- a row of a remote is the only one with its place and trigger
  remote_row-only : (row : Row) (at : Place) (on : Trigger)
      → IsAmong row (remote_rows protocol mode) → HasKey at on row
      → IsOnlyRow (remote_rows protocol mode) at on (Some row)
  remote_row-only row at on among key =
      apart-only (remote_rows protocol mode) among.0 row at on
      (remote_rows-apart protocol.messages replies protocol.remote) among.1 key

  -- a row of a guard of a remote that does this is the only one with its place and trigger
  pub remote-only : (g : GuardId) (rule : Rule) (kind : RuleKind) (row : Row) (at : Place)
      (on : Trigger) → guard_by protocol.remote g ≡ Some rule → rule.kind ≡ kind
      → IsAmong row (remote_rows_by g rule kind) → HasKey at on row
      → IsOnlyRow (remote_rows protocol mode) at on (Some row)
  remote-only g rule kind row at on there does is key =
      let by : IsAmong row (remote_rows_by g rule rule.kind) =
      subst (λ (k : RuleKind). IsAmong row (remote_rows_by g rule k)) (sym does) is in
      remote_row-only row at on (remote-among protocol.messages replies protocol.remote g rule row
      there by) key

  -- the last row of a passive state is the only one with its place and trigger
  pub last-only : (state : ℕ) (info : StateInfo) (at : Place) (on : Trigger)
      → slice_get protocol.remote.states state ≡ Some info → is_active info ≡ false
      → HasKey at on (last_row state)
      → IsOnlyRow (remote_rows protocol mode) at on (Some (last_row state))
  last-only state info at on there passive key =
      let row = last_row state in
      let body = protocol.remote in
      let place : 0 + state ≡ state = omega arith in
      let guards = remote_guard_rows protocol.messages replies body state in
      let last = last_rows (is_active info) state in
      let is : IsAmong row last =
      (0, ap (λ (b : Bool). slice_get (last_rows b state) 0) passive) in
      remote_row-only row at on
      (among-flat (remote_state_rows protocol.messages replies body) 0 state state body.states info
      row place there (among-behind row (flat_from guards 0 info.rules) last is))
      key
