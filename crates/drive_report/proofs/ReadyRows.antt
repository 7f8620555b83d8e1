-- The rows of all forms: what they hold together, how much, and what asking them again after a step
-- gives.
use Rattle.std.proofs.Common.{◌≡◌, ℕ, zero, suc, ◌+◌, ◌<◌, ◌≤◌, nat_lt, Bool, true, false, List, []}
use Rattle.std.proofs.Common.{◌∷◌, ◌++◌}
use Rattle.std.proofs.Common.{length, filter, map, flat_map, refl, sym, ap, ap₂, arith}
use Rattle.std.proofs.Common.{append-nil, if◌then◌else◌, take, drop, get_or, subst}
use Rattle.std.proofs.Common.{◌∙◌}
use Rattle.std.specs.List.{AllByRecursion, range_with_len}
use Rattle.std.proofs.lemmas.Bool.{ltb-true, ltb-false}
use Rattle.std.proofs.lemmas.Grind.{flat_map-append}
use Rattle.std.proofs.lemmas.List.{length-append, length-map}
use Rattle.std.proofs.lemmas.List.Elements.{filter-append}
use Rattle.std.proofs.lemmas.List.FromFn.{length-map-range_with_len}
use Rattle.rv_base.proofs.Lists.{AllByRecursion-append, AllByRecursion-map}
use Rattle.proto_model.specs.NumberSets.{numbers_below}
use Rattle.proto_model.proofs.NumberBits.{numbers_below-lt}
use Rattle.async_shape.specs.Setting.{Setting}
use Rattle.async_shape.specs.Config.{Config, count_of}
use Rattle.async_shape.specs.Next.{is_enabled}
use Rattle.async_shape.specs.Run.{after_step}
use Rattle.async_shape.specs.Site.{Site, AtHome, AtRemote, UpFrom, DownTo, site}
use Rattle.async_shape.specs.declared.step.Step.{Step}
use Rattle.drive_report.specs.Changes.{change_of, IsLeft}
use Rattle.drive_report.specs.Forms.{step_of}
use Rattle.proto_model.specs.Proper.{most_guards}
use Rattle.drive_report.specs.Ready.{steps_below, steps_of_two, ready_list}
use Rattle.drive_report.specs.Rows.{forms_with, all_forms, steps_of, steps_in, IsSmall, AreFew}
use Rattle.drive_report.specs.Rows.{with_answer, ready_row, ready_rows, changed, refreshed}
use Rattle.drive_report.specs.declared.changes.Change.{Change}
use Rattle.drive_report.specs.declared.changes.Change.TheVariants as change
use Rattle.drive_report.specs.declared.forms.Form.{Form}
use Rattle.drive_report.specs.declared.forms.Form.TheVariants as form
use Rattle.drive_report.specs.declared.rows.Row.{Row}
use Rattle.drive_report.proofs.NoneReady.{from_tau, from_take, from_send, from_drop}
use Rattle.drive_report.proofs.NoneReady.{from_remote_tau, from_remote_send, from_answer}
use Rattle.drive_report.proofs.NoneReady.{from_reply}
use Rattle.drive_report.proofs.NoneReady.{from_up, from_down}
use Rattle.drive_report.proofs.ReadyList.{all_steps-kinds}
use Rattle.drive_report.proofs.EnabledNumbers.{filter-members, filter-map, numbers_below-agree}
use Rattle.drive_report.proofs.EnabledNumbers.{numbers_below-answered}
use Rattle.drive_report.proofs.LeftAlone.{Keeps, step-keeps}
use Rattle.drive_report.proofs.EnabledFrames.{frame}

-- ---- what the rows hold together

filter-flat_map : {A B : Type 0} (test : B → Bool) (give : A → List B) (items : List A)
    → filter test (flat_map give items) ≡ flat_map (λ item. filter test (give item)) items
filter-flat_map test give [] = refl
filter-flat_map test give (item ∷ items) =
    filter-append test (give item) (flat_map give items)
    ∙ ap (λ rest. filter test (give item) ++ rest) (filter-flat_map test give items)

flat_map-map : {A B C : Type 0} (give : B → List C) (make : A → B) (items : List A)
    → flat_map give (map make items) ≡ flat_map (λ item. give (make item)) items
flat_map-map give make [] = refl
flat_map-map give make (item ∷ items) =
    ap (λ rest. give (make item) ++ rest) (flat_map-map give make items)

module _ (setting : Setting) (c : Config) (m n : ℕ) where
  abbrev test : Step → Bool
  test = is_enabled setting c

  -- the enabled steps of a form
  abbrev of : Form × ℕ → List Step
  of f = filter test (steps_below f.1 (step_of f.0))

  pairs-hold : (make : ℕ → Form) (count : ℕ) (firsts : ℕ)
      → flat_map of (map (λ a. (make a, count)) (range_with_len 0 firsts))
      ≡ filter test (steps_of_two firsts count (λ a. step_of (make a)))
  pairs-hold make count firsts =
      flat_map-map of (λ (a : ℕ). (make a, count)) (range_with_len 0 firsts)
      ∙ sym (filter-flat_map test (λ (a : ℕ). steps_below count (step_of (make a)))
      (range_with_len 0 firsts))

  -- a kind of one number, and the others
  one-holds : (f : Form) (count : ℕ) (rest : List (Form × ℕ)) (steps : List Step)
      → flat_map of rest ≡ filter test steps
      → flat_map of ((f, count) ∷ rest) ≡ filter test (steps_below count (step_of f) ++ steps)
  one-holds f count rest steps is =
      ap (λ (others : List Step). of (f, count) ++ others) is
      ∙ sym (filter-append test (steps_below count (step_of f)) steps)

  -- a kind of two numbers, and the others
  two-hold : (make : ℕ → Form) (firsts count : ℕ) (rest : List (Form × ℕ)) (steps : List Step)
      → flat_map of rest ≡ filter test steps
      → flat_map of (map (λ a. (make a, count)) (range_with_len 0 firsts) ++ rest)
      ≡ filter test (steps_of_two firsts count (λ a. step_of (make a)) ++ steps)
  two-hold make firsts count rest steps is =
      let first = map (λ (a : ℕ). (make a, count)) (range_with_len 0 firsts) in
      flat_map-append of first rest
      ∙ ap (λ (others : List Step). others ++ flat_map of rest) (pairs-hold make count firsts)
      ∙ ap
      (λ (others : List Step).
      filter test (steps_of_two firsts count (λ a. step_of (make a))) ++ others) is
      ∙ sym (filter-append test (steps_of_two firsts count (λ a. step_of (make a))) steps)

  forms-hold : flat_map of (forms_with m n) ≡ filter test (from_tau m n)
  forms-hold =
      let down = one-holds form.Down n [] [] refl in
      let down_alone : flat_map of ((form.Down, n) ∷ []) ≡ filter test (from_down m n) =
      append-nil (of (form.Down, n)) in
      let up = one-holds form.Up n ((form.Down, n) ∷ []) (from_down m n) down_alone in
      let reply =
      one-holds form.RemoteReply n ((form.Up, n) ∷ (form.Down, n) ∷ []) (from_up m n) up in
      let answer =
      one-holds form.RemoteAnswer n ((form.RemoteReply, n) ∷ (form.Up, n) ∷ (form.Down, n) ∷ [])
      (from_reply m n) reply in
      let rest : List (Form × ℕ) =
      (form.RemoteSend, n) ∷ (form.RemoteAnswer, n) ∷ (form.RemoteReply, n) ∷ (form.Up, n)
      ∷ (form.Down, n) ∷ [] in
      let send =
      one-holds form.RemoteSend n
      ((form.RemoteAnswer, n) ∷ (form.RemoteReply, n) ∷ (form.Up, n) ∷ (form.Down, n) ∷ [])
      (from_answer m n) answer in
      let taus =
      two-hold (λ j. form.RemoteTau j) n m rest (from_remote_send m n) send in
      let tau_rest : List (Form × ℕ) =
      map (λ (j : ℕ). (form.RemoteTau j, m)) (range_with_len 0 n) ++ rest in
      let drop = one-holds form.HomeDrop n tau_rest (from_remote_tau m n) taus in
      let sends =
      two-hold (λ g. form.HomeSend g) m n ((form.HomeDrop, n) ∷ tau_rest) (from_drop m n) drop in
      let send_rest : List (Form × ℕ) =
      map (λ (g : ℕ). (form.HomeSend g, n)) (range_with_len 0 m)
      ++ ((form.HomeDrop, n) ∷ tau_rest) in
      let take = one-holds form.HomeTake n send_rest (from_send m n) sends in
      one-holds form.HomeTau m ((form.HomeTake, n) ∷ send_rest) (from_take m n) take

  row-holds : (f : Form × ℕ) → steps_of (ready_row setting c f) ≡ of f
  row-holds f =
      let numbers = range_with_len 0 f.1 in
      ap (map (step_of f.0)) (filter-members (λ b. test (step_of f.0 b)) f.1 0 f.1 (omega arith))
      ∙ sym (filter-map test (step_of f.0) numbers)

  rows_hold : (fs : List (Form × ℕ)) → steps_in (map (ready_row setting c) fs) ≡ flat_map of fs
  rows_hold [] = refl
  rows_hold (f ∷ fs) =
      ap₂ (λ (one others : List Step). one ++ others) (row-holds f) (rows_hold fs)

-- The rows hold the ready list.
pub rows-hold : (setting : Setting) (c : Config)
    → steps_in (ready_rows setting c) ≡ ready_list setting c
unfolding all_forms
rows-hold setting c =
    let n = count_of c in
    rows_hold setting c most_guards n (forms_with most_guards n)
    ∙ forms-hold setting c most_guards n
    ∙ ap (filter (is_enabled setting c)) (all_steps-kinds n)

-- ---- how much they hold

forms-few : (m n : ℕ) → m ≤ 64 → n ≤ 64
    → AllByRecursion (λ (f : Form × ℕ). f.1 ≤ 64) (forms_with m n)
forms-few m n few_m few_n =
    let P : Form × ℕ → Type 0 = λ f. f.1 ≤ 64 in
    let rest : List (Form × ℕ) =
    (form.RemoteSend, n) ∷ (form.RemoteAnswer, n) ∷ (form.RemoteReply, n) ∷ (form.Up, n)
    ∷ (form.Down, n) ∷ [] in
    let taus = map (λ (j : ℕ). (form.RemoteTau j, m)) (range_with_len 0 n) in
    let sends = map (λ (g : ℕ). (form.HomeSend g, n)) (range_with_len 0 m) in
    let last =
    AllByRecursion-append P taus rest
    (AllByRecursion-map P (λ (j : ℕ). (form.RemoteTau j, m)) (range_with_len 0 n)
    (λ place j at. few_m)) (few_n, (few_n, (few_n, (few_n, (few_n, tt))))) in (
      few_m,
      (
        few_n,
        AllByRecursion-append P sends ((form.HomeDrop, n) ∷ (taus ++ rest))
            (AllByRecursion-map P (λ (g : ℕ). (form.HomeSend g, n)) (range_with_len 0 m)
            (λ place g at. few_n)) (few_n, last),
      ),
    )

forms-count : (m n : ℕ) → length (forms_with m n) ≡ m + n + 8
forms-count m n =
    let rest : List (Form × ℕ) =
    (form.RemoteSend, n) ∷ (form.RemoteAnswer, n) ∷ (form.RemoteReply, n) ∷ (form.Up, n)
    ∷ (form.Down, n) ∷ [] in
    let taus = map (λ (j : ℕ). (form.RemoteTau j, m)) (range_with_len 0 n) in
    let sends = map (λ (g : ℕ). (form.HomeSend g, n)) (range_with_len 0 m) in
    let behind : length (taus ++ rest) ≡ n + 5 =
    length-append taus rest
    ∙ ap (λ (k : ℕ). k + 5) (length-map-range_with_len (λ (j : ℕ). (form.RemoteTau j, m)) 0 n) in
    let both : length (sends ++ ((form.HomeDrop, n) ∷ (taus ++ rest))) ≡ m + suc (n + 5) =
    length-append sends ((form.HomeDrop, n) ∷ (taus ++ rest))
    ∙ ap₂ (λ (a b : ℕ). a + b)
    (length-map-range_with_len (λ (g : ℕ). (form.HomeSend g, n)) 0 m) (ap suc behind) in
    let sum : suc (suc (m + suc (n + 5))) ≡ m + n + 8 = omega arith in
    ap (λ (k : ℕ). suc (suc k)) both ∙ sum

rows-each_small : (setting : Setting) (c : Config) (fs : List (Form × ℕ))
    → AllByRecursion (λ (f : Form × ℕ). f.1 ≤ 64) fs
    → AllByRecursion IsSmall (map (ready_row setting c) fs)
rows-each_small setting c [] few = tt
rows-each_small setting c (f ∷ fs) few = (
  record {
    count = few.0;
    enabled = numbers_below-lt (λ b. is_enabled setting c (step_of f.0 b)) f.1;
  },
  rows-each_small setting c fs few.1,
)

all_forms-few : (n : ℕ) → n ≤ 64 → AllByRecursion (λ (f : Form × ℕ). f.1 ≤ 64) (all_forms n)
unfolding all_forms
all_forms-few n few =
    let sixteen : most_guards ≤ 64 = omega arith in
    forms-few most_guards n sixteen few

pub rows-few : (setting : Setting) (c : Config) → count_of c ≤ 64
    → AreFew (ready_rows setting c)
unfolding all_forms
rows-few setting c few =
    let n = count_of c in
    let count : length (forms_with most_guards n) ≡ most_guards + n + 8 = forms-count most_guards
    n in
    let same : length (ready_rows setting c) ≡ length (forms_with most_guards n) =
    length-map (forms_with most_guards n) (ready_row setting c) in
    record {
      count = omega arith;
      each = rows-each_small setting c (forms_with most_guards n) (all_forms-few n few);
    }

-- ---- asking again

-- what each item with the property gives
map-map : {A B C : Type 0} (P : A → Type 0) (give : B → C) (make : A → B) (other : A → C)
    → ((item : A) → P item → give (make item) ≡ other item) → (items : List A)
    → AllByRecursion P items → map give (map make items) ≡ map other items
map-map P give make other same [] each = refl
map-map P give make other same (item ∷ items) each =
    ap₂ (λ one rest. one ∷ rest) (same item each.0) (map-map P give make other same items each.1)

module _ (setting : Setting) (c : Config) (s : Step) where
  -- what is asked of form f before the step, and after it
  module _ (f : Form) (n : ℕ) (few : n ≤ 64) where
    abbrev before : ℕ → Bool
    before b = is_enabled setting c (step_of f b)

    abbrev after : ℕ → Bool
    after b = is_enabled setting (after_step setting c s) (step_of f b)

    abbrev row_of : ℕ → Row
    row_of set = record { form = f; count = n; enabled = set }

    row-changed : (what : Change) → ((b : ℕ) → IsLeft what b → after b ≡ before b)
        → changed setting (after_step setting c s) what (row_of (numbers_below before n))
        ≡ row_of (numbers_below after n)
    row-changed change.Nothing left =
        ap row_of (numbers_below-agree before after n (λ b below. sym (left b tt)))
    row-changed (change.One j) left = by (nat_lt j n) refl
      where
        by : (within : Bool) → nat_lt j n ≡ within
            → (if within
            then row_of (with_answer (numbers_below before n) j (after j))
            else row_of (numbers_below before n))
            ≡ row_of (numbers_below after n)
        by true is = ap row_of
            (numbers_below-answered before after n j few (ltb-true j n is) left)
        by false is =
            let above : n ≤ j = ltb-false j n is in
            ap row_of
            (numbers_below-agree before after n
            (λ b below. sym (left b (λ same. absurd (omega (arith, same))))))
    row-changed change.All left = refl

  row-refreshed : (f : Form × ℕ) → f.1 ≤ 64
      → refreshed setting (after_step setting c s) s (ready_row setting c f)
      ≡ ready_row setting (after_step setting c s) f
  row-refreshed f few =
      row-changed f.0 f.1 few (change_of s f.0) (frame setting c s f.0)

  count-kept : count_of (after_step setting c s) ≡ count_of c
  count-kept = by (site s) (step-keeps setting c s)
    where
      by : (at : Site) → Keeps c (after_step setting c s) at
          → count_of (after_step setting c s) ≡ count_of c
      by (AtHome partner) keeps = ap (λ rs. length rs) keeps.remotes
      by (AtRemote j) keeps = keeps.count
      by (UpFrom j) keeps = ap (λ rs. length rs) keeps.remotes
      by (DownTo j) keeps = keeps.count

  -- The rows, asked again after a step, are the rows after it.
  pub rows-refreshed : count_of c ≤ 64
      → map (refreshed setting (after_step setting c s) s) (ready_rows setting c)
      ≡ ready_rows setting (after_step setting c s)
  rows-refreshed few =
      let d = after_step setting c s in
      map-map (λ (f : Form × ℕ). f.1 ≤ 64) (refreshed setting d s) (ready_row setting c)
      (ready_row setting d) row-refreshed (all_forms (count_of c))
      (all_forms-few (count_of c) few)
      ∙ ap (λ (n : ℕ). map (ready_row setting d) (all_forms n)) (sym count-kept)

-- Where the rows before the next one are asked again, this one is as it was, and so is small.
pub row-next : (give : Row → Row) (rows old : List Row) (i : ℕ) (other : Row) → i < length rows
    → old ≡ map give (take i rows) ++ drop i rows → AllByRecursion IsSmall rows
    → (get_or old i other).count ≤ 64
row-next give rows old i other within so_far small =
    subst (λ (now : List Row). (get_or now i other).count ≤ 64) (sym so_far)
    (by rows i within small)
  where
    by : (rows : List Row) (i : ℕ) → i < length rows → AllByRecursion IsSmall rows
        → (get_or (map give (take i rows) ++ drop i rows) i other).count ≤ 64
    by [] i within small = absurd (omega arith)
    by (row ∷ rows) zero within small = small.0.count
    by (row ∷ rows) (suc i) within small = by rows i (omega arith) small.1

-- Asked again after a step that led from one configuration to another, in the same setting, they
-- are the rows there.
pub rows-after : (from of : Setting) (c d : Config) (s : Step) (old new : List Row)
    → count_of c ≤ 64 → of ≡ from → d ≡ after_step from c s → old ≡ ready_rows from c
    → new ≡ map (refreshed of d s) old → new ≡ ready_rows of d
rows-after from of c d s old new few same stepped were are =
    are
    ∙ ap (map (refreshed of d s)) were
    ∙ ap₂ (λ (setting : Setting) (e : Config). map (refreshed setting e s) (ready_rows from c)) same
    stepped
    ∙ rows-refreshed from c s few
    ∙ sym (ap₂ ready_rows same stepped)
