-- The rows of all forms, pushed one after the other.
use Rattle.std.proofs.Common.{◌≡◌, ℕ, ◌+◌, List, [], ◌∷◌, ◌++◌, map, refl, sym, ap, append_assoc}
use Rattle.std.proofs.Common.{append-nil, ◌∙◌}
use Rattle.std.specs.List.{range_with_len}
use Rattle.std.proofs.lemmas.List.{map-append}
use Rattle.proto_model.specs.Proper.{most_guards}
use Rattle.drive_report.specs.Rows.{forms_with, all_forms}
use Rattle.drive_report.specs.declared.rows.Row.{Row}
use Rattle.drive_report.specs.declared.forms.Form.{Form}
use Rattle.drive_report.specs.declared.forms.Form.TheVariants as form
use Rattle.drive_report.proofs.ReadyList.{range-more}

-- one more row of a kind
pub pair-row_pushed : (give : Form × ℕ → Row) (make : ℕ → Form × ℕ) (i : ℕ)
    (start old new : List Row)
    → old ≡ start ++ map give (map make (range_with_len 0 i)) → new ≡ old ++ give (make i) ∷ []
    → new ≡ start ++ map give (map make (range_with_len 0 (i + 1)))
pair-row_pushed give make i start old new so_far more =
    let before = range_with_len 0 i in
    more
    ∙ ap (λ (rows : List Row). rows ++ give (make i) ∷ []) so_far
    ∙ append_assoc start (map give (map make before)) (give (make i) ∷ [])
    ∙ ap (λ (rows : List Row). start ++ rows)
    (sym (ap (λ (js : List ℕ). map give (map make js)) (range-more i)
    ∙ ap (map give) (map-append make before (i ∷ []))
    ∙ map-append give (map make before) (make i ∷ [])))

module _ (give : Form × ℕ → Row) (whole : List Row) where
  -- The rows so far and those to come are the whole, and so they are after one more row.
  one-row_pushed : (old new : List Row) (f : Form × ℕ) (rest : List (Form × ℕ))
      → old ++ map give (f ∷ rest) ≡ whole → new ≡ old ++ give f ∷ []
      → new ++ map give rest ≡ whole
  one-row_pushed old new f rest so_far more =
      ap (λ (rows : List Row). rows ++ map give rest) more
      ∙ append_assoc old (give f ∷ []) (map give rest) ∙ so_far

  -- and after more rows
  rows-pushed : (old new : List Row) (fs rest : List (Form × ℕ))
      → old ++ map give (fs ++ rest) ≡ whole → new ≡ old ++ map give fs
      → new ++ map give rest ≡ whole
  rows-pushed old new fs rest so_far more =
      ap (λ (rows : List Row). rows ++ map give rest) more
      ∙ append_assoc old (map give fs) (map give rest)
      ∙ ap (λ (rows : List Row). old ++ rows) (sym (map-append give fs rest)) ∙ so_far

-- The rows of all kinds, pushed one after the other, of m guards and n remotes: s are the rows
-- before them, and each other list is that after a kind.
pub all-rows_pushed : (give : Form × ℕ → Row) (m n : ℕ)
    (s tau take send drop tau_remote send_remote answer reply up down : List Row)
    → s ≡ [] → tau ≡ s ++ give (form.HomeTau, m) ∷ []
    → take ≡ tau ++ give (form.HomeTake, n) ∷ []
    → send ≡ take ++ map give (map (λ g. (form.HomeSend g, n)) (range_with_len 0 m))
    → drop ≡ send ++ give (form.HomeDrop, n) ∷ []
    → tau_remote ≡ drop ++ map give (map (λ j. (form.RemoteTau j, m)) (range_with_len 0 n))
    → send_remote ≡ tau_remote ++ give (form.RemoteSend, n) ∷ []
    → answer ≡ send_remote ++ give (form.RemoteAnswer, n) ∷ []
    → reply ≡ answer ++ give (form.RemoteReply, n) ∷ []
    → up ≡ reply ++ give (form.Up, n) ∷ []
    → down ≡ up ++ give (form.Down, n) ∷ [] → down ≡ map give (forms_with m n)
all-rows_pushed give m n s tau take send drop tau_remote send_remote answer reply up down none
    tau_is
    take_is send_is drop_is tau_remote_is send_remote_is answer_is reply_is up_is down_is =
    let whole = map give (forms_with m n) in
    let from_up : List (Form × ℕ) = (form.Up, n) ∷ (form.Down, n) ∷ [] in
    let from_answer : List (Form × ℕ) =
    (form.RemoteAnswer, n) ∷ (form.RemoteReply, n) ∷ from_up in
    let taus = map (λ (j : ℕ). (form.RemoteTau j, m)) (range_with_len 0 n) in
    let from_taus : List (Form × ℕ) = taus ++ ((form.RemoteSend, n) ∷ from_answer) in
    let sends = map (λ (g : ℕ). (form.HomeSend g, n)) (range_with_len 0 m) in
    let from_sends : List (Form × ℕ) = sends ++ ((form.HomeDrop, n) ∷ from_taus) in
    let at_start : s ++ map give (forms_with m n) ≡ whole =
    ap (λ (rows : List Row). rows ++ whole) none in
    let at_tau =
    one-row_pushed give whole s tau (form.HomeTau, m) ((form.HomeTake, n) ∷ from_sends) at_start
    tau_is in
    let at_take = one-row_pushed give whole tau take (form.HomeTake, n) from_sends at_tau take_is in
    let at_send =
    rows-pushed give whole take send sends ((form.HomeDrop, n) ∷ from_taus) at_take send_is in
    let at_drop = one-row_pushed give whole send drop (form.HomeDrop, n) from_taus at_send
    drop_is in
    let at_tau_remote =
    rows-pushed give whole drop tau_remote taus ((form.RemoteSend, n) ∷ from_answer) at_drop
    tau_remote_is in
    let at_send_remote =
    one-row_pushed give whole tau_remote send_remote (form.RemoteSend, n) from_answer at_tau_remote
    send_remote_is in
    let at_answer =
    one-row_pushed give whole send_remote answer (form.RemoteAnswer, n)
    ((form.RemoteReply, n) ∷ from_up) at_send_remote answer_is in
    let at_reply =
    one-row_pushed give whole answer reply (form.RemoteReply, n) from_up at_answer reply_is in
    let at_up =
    one-row_pushed give whole reply up (form.Up, n) ((form.Down, n) ∷ []) at_reply up_is in
    let at_down = one-row_pushed give whole up down (form.Down, n) [] at_up down_is in
    sym (append-nil down) ∙ at_down

-- all forms are those of so many guards
pub all_forms-are : (n : ℕ) → forms_with most_guards n ≡ all_forms n
unfolding all_forms
all_forms-are n = refl
