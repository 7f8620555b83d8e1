-- The rows tell of each guard where it goes.
use Rattle.std.proofs.Common.{◌≡◌, ◌≢◌, ℕ, Bool, true, false, ◌⊎◌, inl, inr, List, Option, Some}
use Rattle.std.proofs.Common.{None, slice_get, refl, sym, arith}
use Rattle.std.specs.List.{find}
use Rattle.std.specs.Option.{option_map_or}
use Rattle.std.proofs.lemmas.Bool.Decides.{nat_tests}
use Rattle.std.proofs.lemmas.List.Folds.{find-append}
use Rattle.rv_base.specs.Lists.{flat_from}
use Rattle.proto_model.specs.declared.numbered.RuleKind.{RuleKind}
use Rattle.proto_model.specs.declared.numbered.RuleKind.TheVariants as action
use Rattle.proto_model.specs.declared.numbered.Rule.{Rule}
use Rattle.proto_model.specs.declared.numbered.StateInfo.{StateInfo}
use Rattle.proto_model.specs.declared.numbered.MessageInfo.{MessageInfo}
use Rattle.proto_model.specs.declared.numbered.Body.{Body}
use Rattle.controller_table.specs.Rows.{guard_id, reply_at, is_reply_down, is_reply_up}
use Rattle.controller_table.specs.Rows.{answered_row, pay_rows, due_rows, answer_row, last_rows}
use Rattle.controller_table.specs.Rows.{is_active, home_action_rows, home_guard_rows}
use Rattle.controller_table.specs.Rows.{home_state_rows, home_rows_of, remote_action_rows}
use Rattle.controller_table.specs.Rows.{remote_guard_rows, remote_state_rows, remote_rows_of}
use Rattle.controller_table.specs.Sound.{same_guard, begins_with, goes_to, next_by}
use Rattle.controller_table.specs.declared.rows.GuardId.{GuardId}
use Rattle.controller_table.specs.declared.rows.Row.{Row}
use Rattle.controller_table.proofs.FlatFrom.{option_or-none, find_flat, find_flat-none}

-- where the guard goes of which this row was found to be the first
abbrev leads : Option Row → ℕ
leads found = option_map_or (λ row. goes_to row.does row.to) found 0

-- the row begins with the guard
abbrev shows : GuardId → Row → Bool
shows g row = begins_with g row.does

same_guard-itself : (g : GuardId) → same_guard g g ≡ true
same_guard-itself g = grind (arith, nat_tests)

same_guard-other : (g h : GuardId) → (g.state ≢ h.state) ⊎ (g.guard ≢ h.guard)
    → same_guard g h ≡ false
same_guard-other g h (inl ne) = grind (arith, nat_tests)
same_guard-other g h (inr ne) = grind (arith, nat_tests)

module _ (messages : List MessageInfo) (replies : List (Option ℕ)) (body : Body) where
  -- ---- rows of one guard

  answered-shows : (g h : GuardId) (rule : Rule) (o : Option ℕ)
      → shows h (answered_row body g rule o) ≡ same_guard h g
  answered-shows g h rule None = refl
  answered-shows g h rule (Some p) = refl

  answered-leads : (g : GuardId) (rule : Rule) (o : Option ℕ)
      → leads (Some (answered_row body g rule o)) ≡ rule.next
  answered-leads g rule None = refl
  answered-leads g rule (Some p) = refl

  answer-shows : (g h : GuardId) (rule : Rule) (o : Option ℕ)
      → shows h (answer_row g rule o) ≡ same_guard h g
  answer-shows g h rule None = refl
  answer-shows g h rule (Some p) = refl

  answer-leads : (g : GuardId) (rule : Rule) (o : Option ℕ)
      → leads (Some (answer_row g rule o)) ≡ rule.next
  answer-leads g rule None = refl
  answer-leads g rule (Some p) = refl

  pay-none : (g h : GuardId) (rule : Rule) (m : ℕ) (b : Bool) → same_guard h g ≡ false
      → find (shows h) (pay_rows b g rule m) ≡ None
  pay-none g h rule m false ne = refl
  pay-none g h rule m true ne = rw ne refl

  due-none : (g h : GuardId) (rule : Rule) (m : ℕ) (b : Bool) → same_guard h g ≡ false
      → find (shows h) (due_rows b g rule m) ≡ None
  due-none g h rule m false ne = refl
  due-none g h rule m true ne = rw ne refl

  home-none : (g h : GuardId) (rule : Rule) (k : RuleKind) → same_guard h g ≡ false
      → find (shows h) (home_action_rows messages replies body g rule k) ≡ None
  home-none g h rule action.Tau ne = rw ne refl
  home-none g h rule (action.Input p m bound) ne = rw ne refl
  home-none g h rule (action.Output p m sent) ne =
      rw (answered-shows g h rule (reply_at replies m), ne)
      (pay-none g h rule m (is_reply_down messages replies m) ne)

  remote-none : (g h : GuardId) (rule : Rule) (k : RuleKind) → same_guard h g ≡ false
      → find (shows h) (remote_action_rows messages replies body g rule k) ≡ None
  remote-none g h rule action.Tau ne = rw ne refl
  remote-none g h rule (action.Input p m bound) ne =
      rw (answer-shows g h rule (reply_at replies m), ne) refl
  remote-none g h rule (action.Output p m sent) ne =
      rw (answered-shows g h rule (reply_at replies m), ne)
      (due-none g h rule m (is_reply_up messages replies m) ne)

  home-leads : (g : GuardId) (rule : Rule) (k : RuleKind)
      → leads (find (shows g) (home_action_rows messages replies body g rule k)) ≡ rule.next
  home-leads g rule action.Tau = rw (same_guard-itself g) refl
  home-leads g rule (action.Input p m bound) = rw (same_guard-itself g) refl
  home-leads g rule (action.Output p m sent) =
      rw (answered-shows g g rule (reply_at replies m), same_guard-itself g)
      (answered-leads g rule (reply_at replies m))

  remote-leads : (g : GuardId) (rule : Rule) (k : RuleKind)
      → leads (find (shows g) (remote_action_rows messages replies body g rule k)) ≡ rule.next
  remote-leads g rule action.Tau = rw (same_guard-itself g) refl
  remote-leads g rule (action.Input p m bound) =
      rw (answer-shows g g rule (reply_at replies m), same_guard-itself g)
      (answer-leads g rule (reply_at replies m))
  remote-leads g rule (action.Output p m sent) =
      rw (answered-shows g g rule (reply_at replies m), same_guard-itself g)
      (answered-leads g rule (reply_at replies m))

  -- ---- rows of one state

  abbrev home_guards : ℕ → ℕ → Rule → List Row
  home_guards = home_guard_rows messages replies body

  abbrev remote_guards : ℕ → ℕ → Rule → List Row
  remote_guards = remote_guard_rows messages replies body

  abbrev last : ℕ → StateInfo → List Row
  last s info = last_rows (is_active info) s

  -- the last row of a remote's state begins with no guard
  last-none : (h : GuardId) (b : Bool) (s : ℕ) → find (shows h) (last_rows b s) ≡ None
  last-none h true s = refl
  last-none h false s = refl

  home-other : (h : GuardId) (s i : ℕ) (rule : Rule) → (h.state ≢ s) ⊎ (h.guard ≢ i)
      → find (shows h) (home_guards s i rule) ≡ None
  home-other h s i rule ne =
      home-none (guard_id s i) h rule rule.kind (same_guard-other h (guard_id s i) ne)

  remote-other : (h : GuardId) (s i : ℕ) (rule : Rule) → (h.state ≢ s) ⊎ (h.guard ≢ i)
      → find (shows h) (remote_guards s i rule) ≡ None
  remote-other h s i rule ne =
      remote-none (guard_id s i) h rule rule.kind (same_guard-other h (guard_id s i) ne)

  home_state-none : (h : GuardId) (s : ℕ) (info : StateInfo) → s ≢ h.state
      → find (shows h) (home_state_rows messages replies body s info) ≡ None
  home_state-none h s info ne =
      find_flat-none (home_guards s) (shows h) 0 info.rules
      (λ i rule behind. home-other h s i rule (inl (λ e. ne (sym e))))

  remote_state-none : (h : GuardId) (s : ℕ) (info : StateInfo) → s ≢ h.state
      → find (shows h) (remote_state_rows messages replies body s info) ≡ None
  remote_state-none h s info ne =
      let guards =
      find_flat-none (remote_guards s) (shows h) 0 info.rules
      (λ i rule behind. remote-other h s i rule (inl (λ e. ne (sym e)))) in
      rw (find-append (shows h) (flat_from (remote_guards s) 0 info.rules) (last s info), guards)
      (last-none h (is_active info) s)

  home_state-leads : (s i : ℕ) (info : StateInfo) (rule : Rule) → slice_get info.rules i ≡ Some rule
      → leads (find (shows (guard_id s i)) (home_state_rows messages replies body s info))
      ≡ rule.next
  home_state-leads s i info rule there =
      let g : GuardId = guard_id s i in
      rw
      (find_flat (home_guards s) (shows g) i
      (λ j other ne. home-other g s j other (inr (λ e. ne (sym e)))) 0 i info.rules rule
      (omega arith) there)
      (home-leads g rule rule.kind)

  remote_state-leads : (s i : ℕ) (info : StateInfo) (rule : Rule)
      → slice_get info.rules i ≡ Some rule
      → leads (find (shows (guard_id s i)) (remote_state_rows messages replies body s info))
      ≡ rule.next
  remote_state-leads s i info rule there =
      let g : GuardId = guard_id s i in
      let guards : List Row = flat_from (remote_guards s) 0 info.rules in
      let none = last-none g (is_active info) s in
      rw (find-append (shows g) guards (last s info), none, option_or-none (find (shows g) guards))
      (rw (find_flat (remote_guards s) (shows g) i
      (λ j other ne. remote-other g s j other (inr (λ e. ne (sym e)))) 0 i info.rules rule
      (omega arith) there)
      (remote-leads g rule rule.kind))

  -- ---- all rows

  -- The rows of the home tell where each guard of the body goes.
  pub home-next : (s i : ℕ) (info : StateInfo) (rule : Rule)
      → slice_get body.states s ≡ Some info → slice_get info.rules i ≡ Some rule
      → next_by (home_rows_of messages replies body) (guard_id s i) ≡ rule.next
  home-next s i info rule state there =
      let g : GuardId = guard_id s i in
      rw
      (find_flat (home_state_rows messages replies body) (shows g) s
      (λ t other ne. home_state-none g t other ne) 0 s body.states info (omega arith) state)
      (home_state-leads s i info rule there)

  -- So do those of a remote.
  pub remote-next : (s i : ℕ) (info : StateInfo) (rule : Rule)
      → slice_get body.states s ≡ Some info → slice_get info.rules i ≡ Some rule
      → next_by (remote_rows_of messages replies body) (guard_id s i) ≡ rule.next
  remote-next s i info rule state there =
      let g : GuardId = guard_id s i in
      rw
      (find_flat (remote_state_rows messages replies body) (shows g) s
      (λ t other ne. remote_state-none g t other ne) 0 s body.states info (omega arith) state)
      (remote_state-leads s i info rule there)
