-- What is under way on a shared link, after a step of one line: the packet that it put comes behind
-- all others, and the one that it took was the first.
use Rattle.std.proofs.Common.{◌≡◌, ◌≢◌, ℕ, ◌<◌, Bool, true, false, ◌==◌, List, [], ◌∷◌, ◌++◌}
use Rattle.std.proofs.Common.{length, drop, set, Option, Some, None, slice_get, refl, sym, ap, ◌∙◌}
use Rattle.std.proofs.Common.{subst, append-nil, length-set, set-set}
use Rattle.std.proofs.lemmas.Bool.{eqb-true, eqb-false}
use Rattle.std.proofs.lemmas.Option.{slice_get_within, same_Some}
use Rattle.std.specs.List.{AllByRecursion}
use Rattle.std.specs.Option.{option_map, option_map_or}
use Rattle.rv_base.proofs.Lists.{slice_get-set_same, slice_get-set_other, AllByRecursion-push}
use Rattle.ordered_links.specs.Link.{Link}
use Rattle.ordered_links.specs.Lists.{LinkPair, packets_on, first_packet, after_put, after_take}
use Rattle.ordered_links.specs.declared.packet.Packet.{Packet}
use Rattle.async_shape.specs.Config.{Config}
use Rattle.async_shape.specs.Outcome.{Put}
use Rattle.async_shape.specs.Next.{links_after, arriving}
use Rattle.line_array.specs.SharedLists.{SharedPair, shared_on, first_line}
use Rattle.line_array.specs.SharedLists.{shared_put, shared_left, shared_after}
use Rattle.line_array.specs.ArrayConfig.{ArrayConfig}
use Rattle.line_array.specs.Carried.{Carried, packets_of, numbers_of, is_link, carried_on}
use Rattle.line_array.specs.Carried.{AreUnderWay}
use Rattle.line_array.specs.Noted.{remote_of}
use Rattle.line_array.proofs.OnLinks.{is_link-same, is_link-itself, packets_on-same}
use Rattle.line_array.proofs.OnLinks.{packets_on-other}
use Rattle.line_array.proofs.OnLinks.{packets_on-within, shared_on-same, shared_on-other}
use Rattle.line_array.proofs.OnLinks.{shared_on-within}
use Rattle.line_array.proofs.CarriedOf.{one_of, numbers_of-append, packets_of-put}
use Rattle.line_array.proofs.CarriedOf.{packets_of-put_other, packets_of-first, packets_of-other}
use Rattle.line_array.proofs.CarriedOf.{carried_on-other}

-- the array in which line a stands so, over these shared links
abbrev pub array_with : ArrayConfig → ℕ → Config → List SharedPair → ArrayConfig
array_with c a after shared = record { lines = set c.lines a after; shared = shared }

-- What holds of line a as it stands now, and of all other lines, holds of all.
at_lines : (P : ℕ → Config → Type 0) (lines : List Config) (a : ℕ) (after : Config)
    → a < length lines → P a after
    → ((b : ℕ) (line : Config) → b ≢ a → slice_get lines b ≡ Some line → P b line)
    → (b : ℕ) (line : Config) → slice_get (set lines a after) b ≡ Some line → P b line
at_lines P lines a after within own others b line at = by (b == a) refl
  where
    by : (same : Bool) → (b == a) ≡ same → P b line
    by true is =
        let here : b ≡ a = eqb-true b a is in
        let own_at : slice_get (set lines a after) a ≡ Some line =
        subst (λ (i : ℕ). slice_get (set lines a after) i ≡ Some line) here at in
        let is_after : after ≡ line =
        same_Some after line (sym (slice_get-set_same lines a after within) ∙ own_at) in
        subst (λ (line : Config). P b line) is_after
        (subst (λ (i : ℕ). P i after) (sym here) own)
    by false is =
        let apart : b ≢ a = eqb-false b a is in
        others b line apart (sym (slice_get-set_other lines a b after apart) ∙ at)

module _ (c : ArrayConfig) (link : Link) (carried : List Carried)
    (is : AreUnderWay c link carried) (a : ℕ) (before after : Config)
    (there : slice_get c.lines a ≡ Some before) where
  -- what is under way after a step of line a, from what the step does at this link
  under_way-with : (shared : List SharedPair) (now : List Carried)
      → shared_on link shared ≡ numbers_of now
      → packets_on link after.links ≡ packets_of a now
      → ((b : ℕ) → b ≢ a → packets_of b now ≡ packets_of b carried)
      → AllByRecursion (λ (one : Carried). one.line < length c.lines) now
      → AreUnderWay (array_with c a after shared) link now
  under_way-with shared now numbers own others lines = record {
    numbers = numbers;
    packets = at_lines (λ b line. packets_on link line.links ≡ packets_of b now) c.lines a after
        (slice_get_within c.lines a before there) own
        (λ b line apart at. is.packets b line at ∙ sym (others b apart));
    lines =
        subst (λ (n : ℕ). AllByRecursion (λ (one : Carried). one.line < n) now)
        (sym (length-set c.lines a after)) lines;
  }

  -- where the step does nothing at this link
  under_way-kept : (shared : List SharedPair)
      → shared_on link shared ≡ shared_on link c.shared
      → packets_on link after.links ≡ packets_on link before.links
      → AreUnderWay (array_with c a after shared) link carried
  under_way-kept shared numbers own =
      under_way-with shared carried (numbers ∙ is.numbers) (own ∙ is.packets a before there)
      (λ b apart. refl) is.lines

  -- ---- a put

  module _ (on : Link) (packet : Packet) (within : remote_of on < length before.links)
      (shares : remote_of on < length c.shared)
      (puts : after.links ≡ after_put on packet before.links) where
    -- the shared links after it
    abbrev shared_now : List SharedPair
    shared_now = shared_put a (Some on) c.shared

    -- on this link
    put_here : on ≡ link
        → AreUnderWay (array_with c a after shared_now) link (carried ++ one_of a packet ∷ [])
    put_here same =
        let numbers : shared_on link shared_now ≡ numbers_of (carried ++ one_of a packet ∷ []) =
        subst (λ (l : Link). shared_on l shared_now ≡ shared_on l c.shared ++ a ∷ []) same
        (shared_on-same on (shared_on on c.shared ++ a ∷ []) c.shared shares)
        ∙ ap (λ (ns : List ℕ). ns ++ a ∷ []) is.numbers
        ∙ sym (numbers_of-append carried (one_of a packet ∷ [])) in
        let own : packets_on link after.links ≡ packets_of a (carried ++ one_of a packet ∷ []) =
        ap (packets_on link) puts
        ∙ subst (λ (l : Link). packets_on l (after_put on packet before.links)
        ≡ packets_on l before.links ++ packet ∷ []) same
        (packets_on-same on (packets_on on before.links ++ packet ∷ []) before.links within)
        ∙ ap (λ (ps : List Packet). ps ++ packet ∷ []) (is.packets a before there)
        ∙ sym (packets_of-put a packet carried) in
        under_way-with shared_now (carried ++ one_of a packet ∷ []) numbers own
        (λ b apart. packets_of-put_other a b packet carried apart)
        (AllByRecursion-push (λ (one : Carried). one.line < length c.lines) carried
        (one_of a packet) is.lines (slice_get_within c.lines a before there))

    -- on any link
    put-under_way :
        AreUnderWay (array_with c a after shared_now) link
        (carried ++ carried_on link a on (Some packet))
    put-under_way = by (is_link on link) refl
      where
        by : (here : Bool) → is_link on link ≡ here
            → AreUnderWay (array_with c a after shared_now) link
            (carried ++ carried_on link a on (Some packet))
        by true e = rw e (put_here (is_link-same on link e))
        by false e =
            let kept =
            under_way-kept shared_now
            (shared_on-other on link (shared_on on c.shared ++ a ∷ []) c.shared e)
            (ap (packets_on link) puts
            ∙ packets_on-other on link (packets_on on before.links ++ packet ∷ []) before.links e)
            in
            subst (λ (more : List Carried).
            AreUnderWay (array_with c a after shared_now) link (carried ++ more))
            (sym (carried_on-other link a on (Some packet) e))
            (subst (λ (all : List Carried). AreUnderWay (array_with c a after shared_now) link all)
            (sym (append-nil carried)) kept)

  -- ---- a take

  module _ (from : Link) (first : first_line from c.shared ≡ Some a)
      (takes : after.links ≡ after_take from before.links) where
    -- the shared links after it
    abbrev shared_left_now : List SharedPair
    shared_left_now = shared_left (Some from) c.shared

    -- what is taken, and what is under way then
    abbrev Takes : Type 0
    Takes =
        (now : List Carried)
        × (carried ≡ carried_on link a from (first_packet (packets_on from before.links)) ++ now)
        × AreUnderWay (array_with c a after shared_left_now) link now

    -- from this link, on which this one is the first, and is of line a
    take_first : (packet : Packet) (rest : List Carried) → carried ≡ one_of a packet ∷ rest
        → from ≡ link → Takes
    take_first packet rest splits same =
        let numbers_were : shared_on link c.shared ≡ a ∷ numbers_of rest =
        is.numbers ∙ ap numbers_of splits in
        let packets_were : packets_on link before.links ≡ packet ∷ packets_of a rest =
        is.packets a before there ∙ ap (packets_of a) splits ∙ packets_of-first a packet rest in
        let from_were : packets_on from before.links ≡ packet ∷ packets_of a rest =
        subst (λ (l : Link). packets_on l before.links ≡ packet ∷ packets_of a rest) (sym same)
        packets_were in
        let is_first : first_packet (packets_on from before.links) ≡ Some packet =
        ap first_packet from_were in
        let numbers : shared_on link shared_left_now ≡ numbers_of rest =
        subst (λ (l : Link). shared_on l shared_left_now ≡ drop 1 (shared_on l c.shared)) same
        (shared_on-same from (drop 1 (shared_on from c.shared)) c.shared
        (shared_on-within from c.shared a first))
        ∙ ap (drop 1) numbers_were in
        let own : packets_on link after.links ≡ packets_of a rest =
        ap (packets_on link) takes
        ∙ subst (λ (l : Link). packets_on l (after_take from before.links)
        ≡ drop 1 (packets_on l before.links)) same
        (packets_on-same from (drop 1 (packets_on from before.links)) before.links
        (packets_on-within from before.links packet is_first))
        ∙ ap (drop 1) packets_were in
        let others : (b : ℕ) → b ≢ a → packets_of b rest ≡ packets_of b carried =
        λ b apart. sym (ap (packets_of b) splits ∙ packets_of-other a b packet rest apart) in
        let lines =
        subst (AllByRecursion (λ (one : Carried). one.line < length c.lines)) splits is.lines in
        let here : is_link from link ≡ true =
        subst (λ (l : Link). is_link from l ≡ true) same (is_link-itself from) in
        let taken : carried_on link a from (first_packet (packets_on from before.links))
        ≡ one_of a packet ∷ [] =
        ap (carried_on link a from) is_first ∙ rw here refl in (
          rest,
          splits ∙ ap (λ (front : List Carried). front ++ rest) (sym taken),
          under_way-with shared_left_now rest numbers own others lines.1,
        )

    -- from this link, by what is under way
    take_here : (all : List Carried) → carried ≡ all → from ≡ link → Takes
    take_here [] none same =
        let empty : shared_on link c.shared ≡ [] = is.numbers ∙ ap numbers_of none in
        let gone : slice_get (shared_on link c.shared) 0 ≡ Some a =
        subst (λ (l : Link). first_line l c.shared ≡ Some a) same first in
        let never : slice_get {X = ℕ} [] 0 ≡ Some a =
        subst (λ (ns : List ℕ). slice_get ns 0 ≡ Some a) empty gone in
        absurd (cc)
    take_here (one ∷ rest) splits same =
        let numbers_were : shared_on link c.shared ≡ one.line ∷ numbers_of rest =
        is.numbers ∙ ap numbers_of splits in
        let is_a : Some one.line ≡ Some a =
        sym (ap (λ (ns : List ℕ). slice_get ns 0) numbers_were)
        ∙ subst (λ (l : Link). first_line l c.shared ≡ Some a) same first in
        take_first one.packet rest
        (splits ∙ ap (λ (i : ℕ). one_of i one.packet ∷ rest) (same_Some one.line a is_a)) same

    -- from any link
    take-under_way : Takes
    take-under_way = by (is_link from link) refl
      where
        by : (here : Bool) → is_link from link ≡ here → Takes
        by true e = take_here carried refl (is_link-same from link e)
        by false e = (
          carried,
          ap (λ (front : List Carried). front ++ carried)
              (sym (carried_on-other link a from (first_packet (packets_on from before.links)) e)),
          under_way-kept shared_left_now
              (shared_on-other from link (drop 1 (shared_on from c.shared)) c.shared e)
              (ap (packets_on link) takes
              ∙ packets_on-other from link (drop 1 (packets_on from before.links)) before.links e),
        )

-- ---- a step

-- what is put on a link, if anything, is put on one that is there, and from which nothing is taken
abbrev pub IsFitting : List LinkPair → List SharedPair → Option Link → Option Put → Type 0
IsFitting links shared from None = Unit {0}
IsFitting links shared from (Some put) =
    (remote_of put.on < length links) × (remote_of put.on < length shared)
    × ((l : Link) → from ≡ Some l → is_link put.on l ≡ false)

-- what is put, if it is on this link, as one of line a
abbrev pub put_carried : Link → ℕ → Option Put → List Carried
put_carried link a put =
    option_map_or (λ put. carried_on link a put.on (Some put.packet)) put []

-- what is taken, if it is from this link, as one of line a
abbrev pub taken_carried : Link → ℕ → Config → Option Link → List Carried
taken_carried link a before from =
    option_map_or (λ from. carried_on link a from (arriving before from)) from []

-- the link on which this is put
abbrev pub link_put : Option Put → Option Link
link_put put = option_map (λ put. put.on) put

-- A step of line a, by what it puts and takes.
pub step-under_way : (c : ArrayConfig) (link : Link) (carried : List Carried)
    → AreUnderWay c link carried → (a : ℕ) (before after : Config)
    → slice_get c.lines a ≡ Some before → (put : Option Put) (from : Option Link)
    → IsFitting before.links c.shared from put
    → ((l : Link) → from ≡ Some l → first_line l c.shared ≡ Some a)
    → after.links ≡ links_after put from before.links
    → (now : List Carried)
    × (carried ++ put_carried link a put ≡ taken_carried link a before from ++ now)
    × AreUnderWay (array_with c a after (shared_after a (link_put put) from c.shared)) link now
step-under_way c link carried is a before after there None None fits first moves = (
  carried,
  append-nil carried,
  under_way-kept c link carried is a before after there c.shared refl
      (ap (packets_on link) moves),
)
step-under_way c link carried is a before after there (Some put) None fits first moves = (
  carried ++ carried_on link a put.on (Some put.packet),
  refl,
  put-under_way c link carried is a before after there put.on put.packet fits.0 fits.1 moves,
)
step-under_way c link carried is a before after there None (Some from) fits first moves =
    let taken =
    take-under_way c link carried is a before after there from (first from refl) moves in
    (taken.0, append-nil carried ∙ taken.1, taken.2)
step-under_way c link carried is a before after there (Some put) (Some from) fits first moves =
    let links = after_put put.on put.packet before.links in
    let middle : Config = record {
      home = before.home;
      held = before.held;
      remotes = before.remotes;
      links = links;
    } in
    let apart : is_link put.on from ≡ false = fits.2 from refl in
    let shared = shared_put a (Some put.on) c.shared in
    let d = array_with c a middle shared in
    let more = carried ++ carried_on link a put.on (Some put.packet) in
    let puts : AreUnderWay d link more =
    put-under_way c link carried is a before middle there put.on put.packet fits.0 fits.1 refl in
    let there_now : slice_get d.lines a ≡ Some middle =
    slice_get-set_same c.lines a middle (slice_get_within c.lines a before there) in
    let first_now : first_line from shared ≡ Some a =
    ap (λ (ns : List ℕ). slice_get ns 0)
    (shared_on-other put.on from (shared_on put.on c.shared ++ a ∷ []) c.shared apart)
    ∙ first from refl in
    let taken = take-under_way d link more puts a middle after there_now from first_now moves in
    let same_first : first_packet (packets_on from links) ≡ arriving before from =
    ap first_packet
    (packets_on-other put.on from (packets_on put.on before.links ++ put.packet ∷ [])
    before.links apart) in (
      taken.0,
      taken.1
          ∙ ap (λ (o : Option Packet). carried_on link a from o ++ taken.0) same_first,
      subst (λ (lines : List Config). AreUnderWay
          (record { lines = lines; shared = shared_left (Some from) shared }) link taken.0)
          (set-set c.lines a middle after) taken.2,
    )
