-- Where an array shares its links as it should, its shared lists and the lines' links are in step.
use Rattle.std.proofs.Common.{◌≡◌, ◌≢◌, inl, inr, ℕ, zero, suc, ◌+◌, ◌*◌, ◌<◌, ◌≤◌}
use Rattle.std.proofs.Common.{Bool, true, false}
use Rattle.std.proofs.Common.{not, ◌==◌, nat_lt, if◌then◌else◌, List, [], ◌∷◌, length, map, filter}
use Rattle.std.proofs.Common.{Option, Some, None, IsSome, slice_get, refl, sym, ap, ◌∙◌, subst}
use Rattle.std.proofs.Common.{arith}
use Rattle.std.proofs.Common.{mul-suc, not-suc-le-zero}
use Rattle.std.proofs.lemmas.Bool.{cases_lt, eqb-true, eqb-false, lt-ltb}
use Rattle.std.proofs.lemmas.List.{length-map, get_or_past}
use Rattle.std.proofs.lemmas.List.Filters.{length-filter_both}
use Rattle.std.specs.List.{AllByRecursion}
use Rattle.std.specs.Option.{option_map, option_and_then}
use Rattle.rv_base.proofs.Lists.{AllByRecursion-at}
use Rattle.ordered_links.specs.Link.{Link, Up, Down}
use Rattle.ordered_links.specs.Lists.{LinkPair, no_packets, links_at, packets_on, first_packet}
use Rattle.ordered_links.specs.declared.packet.Packet.{Packet}
use Rattle.async_shape.specs.Setting.{Setting}
use Rattle.async_shape.specs.Config.{Config, count_of}
use Rattle.async_shape.specs.HomeSteps.{up}
use Rattle.async_shape.specs.RemoteSteps.{down}
use Rattle.async_shape.specs.Next.{StepOutcome, outcome, next, config_after, arriving, home_moved}
use Rattle.async_shape.specs.Next.{remote_moved}
use Rattle.async_shape.specs.Shape.{IsShaped}
use Rattle.async_shape.specs.declared.config.RemoteState.{RemoteState}
use Rattle.async_shape.specs.declared.step.Step.{Step}
use Rattle.async_shape.specs.declared.step.Step.TheVariants as step
use Rattle.async_shape.specs.View.{view_at}
use Rattle.async_shape.proofs.LinkLengths.{length-up, length-down}
use Rattle.async_shape.proofs.ShapeParts.{IsShaped-whole, IsShaped-case}
use Rattle.line_array.specs.SharedLists.{shared_on, first_line}
use Rattle.line_array.specs.ArrayConfig.{ArrayConfig}
use Rattle.line_array.specs.ArrayNext.{LineMove, meant, move_at, move_of, next_by, next_array}
use Rattle.line_array.specs.ArrayNext.{array_moved}
use Rattle.line_array.specs.Carried.{Carried, AreUnderWay, packets_of}
use Rattle.line_array.specs.InStep.{entries_of, delivery, IsSharing, IsInStep}
use Rattle.line_array.specs.Noted.{remote_of, most_on}
use Rattle.line_array.proofs.OnLinks.{packets_on-within}
use Rattle.line_array.proofs.CarriedOf.{entries_of-numbers, packets_of-first}

-- ---- how many there are of all lines

-- whether it is of line a
abbrev own : ℕ → Carried → Bool
own a one = one.line == a

-- whether it isn't of line n
abbrev other : ℕ → Carried → Bool
other n one = not (one.line == n)

-- those of a line among those that aren't of another one
keeps_by : (a : ℕ) (one : Carried) (rest all : List Carried) → filter (own a) rest ≡ all
    → (at_n at_a : Bool) → (one.line == a) ≡ at_a → (at_n ≡ true → at_a ≡ true → ⊥)
    → filter (own a) (if not at_n then one ∷ rest else rest)
    ≡ (if at_a then one ∷ all else all)
keeps_by a one rest all same true true is apart = absurd (apart refl refl)
keeps_by a one rest all same true false is apart = same
keeps_by a one rest all same false true is apart = rw is (ap (λ (xs : List Carried). one ∷ xs) same)
keeps_by a one rest all same false false is apart = rw is same

keeps : (n a : ℕ) (xs : List Carried) → a ≢ n
    → filter (own a) (filter (other n) xs) ≡ filter (own a) xs
keeps n a [] apart = refl
keeps n a (one ∷ xs) apart =
    keeps_by a one (filter (other n) xs) (filter (own a) xs) (keeps n a xs apart) (one.line == n)
    (one.line == a) refl
    (λ at_n at_a. apart (sym (eqb-true one.line a at_a) ∙ eqb-true one.line n at_n))

-- they are of lines below
below_by : (n : ℕ) (one : Carried) (rest : List Carried) → one.line < suc n
    → AllByRecursion (λ (one : Carried). one.line < n) rest
    → (at_n : Bool) → (one.line == n) ≡ at_n
    → AllByRecursion (λ (one : Carried). one.line < n) (if not at_n then one ∷ rest else rest)
below_by n one rest within each true is = each
below_by n one rest within each false is =
    let apart : one.line ≢ n = eqb-false one.line n is in (omega (arith, apart, within), each)

below : (n : ℕ) (xs : List Carried) → AllByRecursion (λ (one : Carried). one.line < suc n) xs
    → AllByRecursion (λ (one : Carried). one.line < n) (filter (other n) xs)
below n [] each = tt
below n (one ∷ xs) each =
    below_by n one (filter (other n) xs) each.0 (below n xs each.1) (one.line == n) refl

-- Where there are few packets of each of so many lines, there are few in all.
few-carried : (count most : ℕ) (carried : List Carried)
    → AllByRecursion (λ (one : Carried). one.line < count) carried
    → ((a : ℕ) → a < count → length (packets_of a carried) ≤ most)
    → length carried ≤ most * count
few-carried zero most [] lines few = let least : 0 ≤ most * 0 = omega arith in least
few-carried zero most (one ∷ rest) lines few = absurd (not-suc-le-zero lines.0)
few-carried (suc n) most carried lines few =
    let split : length (filter (own n) carried) + length (filter (other n) carried)
    ≡ length carried = length-filter_both (own n) (other n) (λ one. refl) carried in
    let here : length (filter (own n) carried) ≤ most =
    subst (λ (k : ℕ). k ≤ most)
    (length-map (filter (own n) carried) (λ (one : Carried). one.packet)) (few n (omega arith)) in
    let there : length (filter (other n) carried) ≤ most * n =
    few-carried n most (filter (other n) carried) (below n carried lines)
    (λ a within.
    let apart : a ≢ n = λ same. absurd (omega (arith, same, within)) in
    subst (λ (xs : List Carried). length (map (λ (one : Carried). one.packet) xs) ≤ most)
    (sym (keeps n a carried apart)) (few a (omega (arith, within)))) in
    let more : most * suc n ≡ most * n + most = mul-suc most n in
    rw more (omega (arith, split, here, there))

-- ---- what is delivered

-- the step of a line that delivers from this link
abbrev pub own_delivery : Link → Step
own_delivery (Up j) = step.Up j
own_delivery (Down j) = step.Down j

-- there is an item at a place below the length
some-at : {X : Type 0} (xs : List X) (i : ℕ) → i < length xs → (x : X) × (slice_get xs i ≡ Some x)
some-at [] i within = absurd (omega arith)
some-at (x ∷ xs) zero within = (x, refl)
some-at (x ∷ xs) (suc i) within = some-at xs i (omega arith)

module _ (setting : Setting) (line : Config) (shaped : IsShaped setting line) where
  -- a link with a packet is that of a remote that is there
  within-count : (link : Link) (packet : Packet)
      → first_packet (packets_on link line.links) ≡ Some packet → remote_of link < count_of line
  within-count link packet first =
      subst (λ (n : ℕ). remote_of link < n) (IsShaped-whole setting line shaped).links
      (packets_on-within link line.links packet first)

  -- what is first on a link of a line can be delivered
  delivers : (link : Link) (packet : Packet)
      → first_packet (packets_on link line.links) ≡ Some packet
      → (o : StepOutcome) × (outcome setting line (own_delivery link) ≡ Some o)
  delivers (Up j) packet first =
      let n = count_of line in
      let in_range : nat_lt j n ≡ true = lt-ltb j n (within-count (Up j) packet first) in
      let does : Packet → StepOutcome =
      λ arrived. home_moved line (Some (Up j)) (up setting n line.home line.held j arrived) in (
        does packet,
        ap (λ (b : Bool). if b then option_map does (arriving line (Up j)) else None) in_range
            ∙ ap (option_map does) first,
      )
  delivers (Down j) packet first =
      let n = count_of line in
      let within = within-count (Down j) packet first in
      let in_range : nat_lt j n ≡ true = lt-ltb j n within in
      let remote = some-at line.remotes j within in
      let does : Option Packet → RemoteState → Option StepOutcome =
      λ arrived remote.
      option_map (remote_moved line (Some (Down j)) j)
      (option_map (down setting remote) arrived) in (
        remote_moved line (Some (Down j)) j (down setting remote.0 packet),
        ap (λ (b : Bool). if b then option_and_then (does (arriving line (Down j)))
            (slice_get line.remotes j) else None) in_range
            ∙ ap (option_and_then (does (arriving line (Down j)))) remote.1
            ∙ ap (λ (arrived : Option Packet). does arrived remote.0) first,
      )

-- ---- how many there are on a link

-- few packets of a line are on a link
pub few-on_line : (setting : Setting) (line : Config) → IsShaped setting line → (link : Link)
    → length (packets_on link line.links) ≤ most_on 1 link
few-on_line setting line shaped (Up j) = elim (cases_lt j (count_of line)) [
  | inl within ↦
      length-up setting (view_at setting.protocol line j)
      (IsShaped-case setting line shaped j within).in_phase
  | inr past ↦
      let count : length line.links ≤ j =
      subst (λ (n : ℕ). n ≤ j) (sym (IsShaped-whole setting line shaped).links) past in
      let none : links_at line.links j ≡ no_packets = get_or_past line.links j no_packets count in
      subst (λ (pair : LinkPair). length pair.up ≤ 2) (sym none)
      (let least : 0 ≤ 2 = omega arith in least)
]
few-on_line setting line shaped (Down j) = elim (cases_lt j (count_of line)) [
  | inl within ↦
      length-down setting (view_at setting.protocol line j)
      (IsShaped-case setting line shaped j within).in_phase
  | inr past ↦
      let count : length line.links ≤ j =
      subst (λ (n : ℕ). n ≤ j) (sym (IsShaped-whole setting line shaped).links) past in
      let none : links_at line.links j ≡ no_packets = get_or_past line.links j no_packets count in
      subst (λ (pair : LinkPair). length pair.down ≤ 3) (sym none)
      (let least : 0 ≤ 3 = omega arith in least)
]

-- so many of each line, so many more of all
most-of_all : (lines : ℕ) (link : Link) → most_on 1 link * lines ≡ most_on lines link
most-of_all lines (Up j) = refl
most-of_all lines (Down j) = refl

module _ (setting : Setting) (c : ArrayConfig) (sharing : IsSharing setting c) where
  -- few are on a shared link
  pub few-on : (link : Link)
      → length (shared_on link c.shared) ≤ most_on (length c.lines) link
  few-on link =
      let under = sharing.under_way link in
      let all : length under.0 ≤ most_on 1 link * length c.lines =
      few-carried (length c.lines) (most_on 1 link) under.0 under.1.lines
      (λ a within.
      let line = some-at c.lines a within in
      subst (λ (ps : List Packet). length ps ≤ most_on 1 link)
      (under.1.packets a line.0 line.1)
      (few-on_line setting line.0
      (AllByRecursion-at (IsShaped setting) c.lines a line.0 sharing.shaped line.1) link)) in
      let count : length (shared_on link c.shared) ≡ length under.0 =
      ap length under.1.numbers ∙ length-map under.0 (λ (one : Carried). one.line) in
      subst (λ (n : ℕ). n ≤ most_on (length c.lines) link) (sym count)
      (subst (λ (most : ℕ). length under.0 ≤ most) (most-of_all (length c.lines) link) all)

-- ---- all of it

-- a delivery means the first line on the link
meant-delivery : (c : ArrayConfig) (link : Link) (a : ℕ) → first_line link c.shared ≡ Some a
    → meant c (delivery link) ≡ Some (a, own_delivery link)
meant-delivery c (Up j) a first = ap (option_map (λ (a : ℕ). (a, step.Up j))) first
meant-delivery c (Down j) a first = ap (option_map (λ (a : ℕ). (a, step.Down j))) first

module _ (setting : Setting) (c : ArrayConfig) (sharing : IsSharing setting c) where
  -- what is first on a shared link is delivered
  goes-first : (link : Link) (carried : List Carried) → AreUnderWay c link carried
      → shared_on link c.shared ≢ [] → IsSome (next_array setting c (delivery link))
  goes-first link [] under some = absurd (some under.numbers)
  goes-first link (one ∷ rest) under some =
      let line = some-at c.lines one.line under.lines.0 in
      let packets : packets_on link line.0.links ≡ one.packet ∷ packets_of one.line rest =
      under.packets one.line line.0 line.1 ∙ packets_of-first one.line one.packet rest in
      let shaped =
      AllByRecursion-at (IsShaped setting) c.lines one.line line.0 sharing.shaped line.1 in
      let does = delivers setting line.0 shaped link one.packet (ap first_packet packets) in
      let move : LineMove =
      record { number = one.line; before = line.0; own = own_delivery link } in
      let first : first_line link c.shared ≡ Some one.line =
      ap (λ (ns : List ℕ). slice_get ns 0) under.numbers in
      let moves : move_of c (delivery link) ≡ Some move =
      ap (option_and_then (move_at c)) (meant-delivery c link one.line first)
      ∙ ap (option_map (λ (before : Config).
      record { number = one.line; before = before; own = own_delivery link })) line.1 in
      let is_next : next setting line.0 (own_delivery link) ≡ Some (config_after line.0 does.0) =
      ap (option_map (config_after line.0)) does.1 in
      let all : next_array setting c (delivery link)
      ≡ Some (array_moved setting c move (config_after line.0 does.0)) =
      ap (option_and_then (next_by setting c)) moves
      ∙ ap (option_map (array_moved setting c move)) is_next in
      subst (λ (d : Option ArrayConfig). IsSome d) (sym all) refl

  -- the shared lists are in step
  pub sharing-in_step : IsInStep setting c
  sharing-in_step = record {
    entries = λ link a line at.
        let under = sharing.under_way link in
        ap (entries_of a) under.1.numbers ∙ entries_of-numbers a under.0
        ∙ sym (ap length (under.1.packets a line at));
    up = λ j. few-on setting c sharing (Up j);
    down = λ j. few-on setting c sharing (Down j);
    goes = λ link some.
        let under = sharing.under_way link in goes-first link under.0 under.1 some;
  }
