-- The start of an array shares its links as it should, and every step keeps this: one step of an
-- array, with what it puts on a shared link and takes from it.
use Rattle.std.proofs.Common.{◌≡◌, ℕ, zero, suc, ◌<◌, ◌≤◌, Bool, true, false, not, ◌&&◌, nat_lt}
use Rattle.std.proofs.Common.{List, [], ◌∷◌, ◌++◌, length, replicate, get_or, Option, Some, None}
use Rattle.std.proofs.Common.{is_some, unwrap_or, slice_get, refl, sym, ap, ◌∙◌, subst, append-nil}
use Rattle.std.proofs.lemmas.List.{length-replicate}
use Rattle.std.specs.Option.{option_map, option_map_or, option_and_then}
use Rattle.rv_base.proofs.Lists.{AllByRecursion-at, AllByRecursion-set, AllByRecursion-replicate}
use Rattle.rv_base.proofs.Lists.{AllByRecursion-weaker, some_map, some_and_then, some_when}
use Rattle.proto_model.specs.Proper.{IsProper}
use Rattle.ordered_links.specs.Link.{Link, Up, Down}
use Rattle.ordered_links.specs.Lists.{LinkPair, no_packets, packets_on}
use Rattle.async_shape.specs.Setting.{Setting}
use Rattle.async_shape.specs.Config.{Config, count_of, start}
use Rattle.async_shape.specs.Site.{site, arrival_link}
use Rattle.async_shape.specs.Outcome.{Put}
use Rattle.async_shape.specs.Next.{StepOutcome, outcome, config_after, displaced_sender}
use Rattle.async_shape.specs.Shape.{IsShaped}
use Rattle.async_shape.specs.declared.step.Step.{Step}
use Rattle.async_shape.specs.declared.step.Step.TheVariants as step
use Rattle.async_shape.proofs.EveryStepKeep.{IsShaped-outcome}
use Rattle.async_shape.proofs.LinksAfter.{links_after-count}
use Rattle.async_shape.proofs.PutsHaveRoom.{HasRoomOn, HasRoomFor, put-room}
use Rattle.async_shape.proofs.ShapeParts.{IsShaped-whole}
use Rattle.async_shape.proofs.Start.{IsShaped-start}
use Rattle.line_array.specs.SharedLists.{SharedPair, no_entries, shared_on, first_line}
use Rattle.line_array.specs.SharedLists.{shared_after}
use Rattle.line_array.specs.ArrayConfig.{ArrayConfig, array_start}
use Rattle.line_array.specs.ArrayNext.{LineMove, is_delivery, meant, move_at, move_of, next_by}
use Rattle.line_array.specs.ArrayNext.{after_line_step, array_at_end}
use Rattle.line_array.specs.Carried.{Carried, AreUnderWay, is_link, put_by, taken_by}
use Rattle.line_array.specs.InStep.{IsSharing}
use Rattle.line_array.specs.Noted.{remote_of, may_put_in}
use Rattle.line_array.specs.declared.line_step.LineStep.{LineStep}
use Rattle.line_array.specs.declared.line_step.LineStep.TheVariants.{At}
use Rattle.line_array.specs.declared.line_step.LineStep.TheVariants as array_step
use Rattle.line_array.proofs.PutLink.{IsPutThere, put-may, may_put-apart, takes-there}
use Rattle.line_array.proofs.OnLinks.{shared_after-count}
use Rattle.line_array.proofs.StepsCarry.{array_with, IsFitting, link_put, put_carried}
use Rattle.line_array.proofs.StepsCarry.{taken_carried, step-under_way}

-- ---- what a step means

-- A delivery that is meant is one to the line whose number is the first on the link.
pub meant-first : (c : ArrayConfig) (s : LineStep) (a : ℕ) (own : Step) (link : Link)
    → meant c s ≡ Some (a, own) → arrival_link (site own) ≡ Some link
    → first_line link c.shared ≡ Some a
meant-first c (At b s) a own link means arrives =
    let by =
    some_when (nat_lt b (length c.lines) && not (is_delivery s)) (b, s) (a, own) means in
    let same : s ≡ own = ap (λ (pair : ℕ × Step). pair.1) by.1 in
    let delivers : is_delivery s ≡ true =
    subst (λ (own : Step). is_delivery own ≡ true) (sym same)
    (ap (λ (o : Option Link). is_some o) arrives) in
    let passes : (nat_lt b (length c.lines) && not true) ≡ true =
    subst (λ (d : Bool). (nat_lt b (length c.lines) && not d) ≡ true) delivers by.0 in
    absurd (never (nat_lt b (length c.lines)) passes)
  where
    never : (within : Bool) → (within && false) ≡ true → ⊥
    never true is = absurd (cc)
    never false is = absurd (cc)
meant-first c (array_step.Up j) a own link means arrives =
    let by = some_map (λ (i : ℕ). (i, step.Up j)) (first_line (Up j) c.shared) (a, own) means in
    let same : step.Up j ≡ own = ap (λ (pair : ℕ × Step). pair.1) by.2 in
    let is_a : by.0 ≡ a = ap (λ (pair : ℕ × Step). pair.0) by.2 in
    let here : Some (Up j) ≡ Some link =
    ap (λ (s : Step). arrival_link (site s)) same ∙ arrives in
    let is_link : Up j ≡ link = cc in
    subst (λ (l : Link). first_line l c.shared ≡ Some a) is_link
    (by.1 ∙ ap (λ (i : ℕ). Some i) is_a)
meant-first c (array_step.Down j) a own link means arrives =
    let by =
    some_map (λ (i : ℕ). (i, step.Down j)) (first_line (Down j) c.shared) (a, own) means in
    let same : step.Down j ≡ own = ap (λ (pair : ℕ × Step). pair.1) by.2 in
    let is_a : by.0 ≡ a = ap (λ (pair : ℕ × Step). pair.0) by.2 in
    let here : Some (Down j) ≡ Some link =
    ap (λ (s : Step). arrival_link (site s)) same ∙ arrives in
    let is_link : Down j ≡ link = cc in
    subst (λ (l : Link). first_line l c.shared ≡ Some a) is_link
    (by.1 ∙ ap (λ (i : ℕ). Some i) is_a)

-- What is known of the step of a line that a step of the array is.
pub record IsMove (c : ArrayConfig) (move : LineMove) : Type 0 where
  pub there : slice_get c.lines move.number ≡ Some move.before
  pub first :
      (l : Link) → arrival_link (site move.own) ≡ Some l
      → first_line l c.shared ≡ Some move.number

pub meant-move : (c : ArrayConfig) (s : LineStep) (a : ℕ) (own : Step) (before : Config)
    → meant c s ≡ Some (a, own) → slice_get c.lines a ≡ Some before
    → IsMove c (record { number = a; before = before; own = own })
meant-move c s a own before means there =
    record { there = there; first = λ l arrives. meant-first c s a own l means arrives }

pub move_of-is : (c : ArrayConfig) (s : LineStep) (move : LineMove) → move_of c s ≡ Some move
    → IsMove c move
move_of-is c s move moves =
    let by = some_and_then (move_at c) (meant c s) move moves in
    let at =
    some_map (λ (before : Config). record { number = by.0.0; before = before; own = by.0.1 })
    (slice_get c.lines by.0.0) move by.2 in
    subst (IsMove c) at.2 (meant-move c s by.0.0 by.0.1 at.0 by.1 at.1)

-- ---- one step

-- what is put, if anything
abbrev pub puts_of : Option StepOutcome → Option Put
puts_of did = option_and_then (λ o. o.put) did

-- from where it takes, if from anywhere
abbrev pub takes_of : Option StepOutcome → Option Link
takes_of did = option_and_then (λ o. o.takes_from) did

-- the array after the line has done this, if it may do anything
abbrev pub array_after : ArrayConfig → LineMove → Option StepOutcome → ArrayConfig
array_after c move did =
    unwrap_or
    (option_map
    (λ after. array_with c move.number after
    (shared_after move.number (link_put (puts_of did)) (takes_of did) c.shared))
    (option_map (config_after move.before) did)) c

-- a link with room is there
pub room-within : (links : List LinkPair) (on : Link) → HasRoomOn links on
    → remote_of on < length links
room-within links (Up j) room = room.0
room-within links (Down j) room = room.0

-- What is put is put on a link that is there, and from which nothing is taken.
fitting : (links : List LinkPair) (shared : List SharedPair) (from may : Option Link)
    → length links ≡ length shared
    → ((on l : Link) → may ≡ Some on → from ≡ Some l → is_link on l ≡ false)
    → (put : Option Put) → HasRoomFor links put → IsPutThere may put
    → IsFitting links shared from put
fitting links shared from may count apart None room there = tt
fitting links shared from may count apart (Some put) room there =
    let within = room-within links put.on room in (
      within,
      subst (λ (n : ℕ). remote_of put.on < n) count within,
      λ l takes. apart put.on l there takes,
    )

module _ (setting : Setting) (proper : IsProper setting.protocol) (c : ArrayConfig)
    (sharing : IsSharing setting c) where
  -- of a step of a line
  module _ (move : LineMove) (is : IsMove c move) where
    -- the line has the shape
    line_shaped : IsShaped setting move.before
    line_shaped =
        AllByRecursion-at (IsShaped setting) c.lines move.number move.before sharing.shaped is.there

    -- it has as many remotes as there are shared links
    line_count : count_of move.before ≡ length c.shared
    line_count =
        AllByRecursion-at (λ (line : Config). count_of line ≡ length c.shared) c.lines move.number
        move.before sharing.remotes is.there

    -- and so many links
    line_links : length move.before.links ≡ length c.shared
    line_links = (IsShaped-whole setting move.before line_shaped).links ∙ line_count

    -- what it puts and takes, of an enabled step
    module _ (o : StepOutcome) (did : outcome setting move.before move.own ≡ Some o) where
      -- what it puts fits
      pub put-fits : IsFitting move.before.links c.shared o.takes_from o.put
      put-fits =
          let takes = takes-there setting move.before move.own o did in
          let may = may_put_in setting move.before move.own in
          fitting move.before.links c.shared o.takes_from may line_links
          (λ on l puts from. may_put-apart (displaced_sender setting move.before move.own) move.own
          on l puts (sym takes ∙ from)) o.put
          (put-room setting move.before line_shaped move.own o did)
          (put-may setting move.before line_shaped move.own o did)

      -- the line after it
      abbrev line_after : Config
      line_after = config_after move.before o

      -- the line after it has the shape
      after_shaped : IsShaped setting line_after
      after_shaped = IsShaped-outcome setting proper move.before move.own o line_shaped did

      -- it has as many remotes as before
      after_count : count_of line_after ≡ count_of move.before
      after_count =
          sym (IsShaped-whole setting line_after after_shaped).links
          ∙ links_after-count o.put o.takes_from move.before.links
          ∙ (IsShaped-whole setting move.before line_shaped).links

      -- what is under way on each link
      pub moved-under_way : (link : Link) (carried : List Carried) → AreUnderWay c link carried
          → (now : List Carried)
          × (carried ++ put_carried link move.number o.put
          ≡ taken_carried link move.number move.before o.takes_from ++ now)
          × AreUnderWay (array_after c move (Some o)) link now
      moved-under_way link carried under =
          step-under_way c link carried under move.number move.before line_after is.there o.put
          o.takes_from put-fits
          (λ l from. is.first l (sym (takes-there setting move.before move.own o did) ∙ from)) refl

      -- the array after it
      pub IsSharing-moved : IsSharing setting (array_after c move (Some o))
      IsSharing-moved =
          let shared = shared_after move.number (link_put o.put) o.takes_from c.shared in
          let count : length shared ≡ length c.shared =
          shared_after-count move.number (link_put o.put) o.takes_from c.shared in
          record {
            shaped =
                AllByRecursion-set (IsShaped setting) c.lines move.number line_after sharing.shaped
                after_shaped;
            remotes =
                AllByRecursion-set (λ (line : Config). count_of line ≡ length shared) c.lines
                move.number line_after
                (AllByRecursion-weaker (λ (line : Config). count_of line ≡ length c.shared)
                (λ (line : Config). count_of line ≡ length shared) c.lines
                (λ line same. same ∙ sym count) sharing.remotes)
                (after_count ∙ line_count ∙ sym count);
            under_way = λ link.
                let was = sharing.under_way link in
                let now = moved-under_way link was.0 was.1 in (now.0, now.2);
          }

    -- a step of a line, enabled or not
    abbrev pub Moves : Link → List Carried → Option StepOutcome → Type 0
    Moves link carried did =
        (now : List Carried)
        × (carried ++ put_carried link move.number (puts_of did)
        ≡ taken_carried link move.number move.before (takes_of did) ++ now)
        × AreUnderWay (array_after c move did) link now
        × IsSharing setting (array_after c move did)

    moves : (link : Link) (carried : List Carried) → AreUnderWay c link carried
        → (did : Option StepOutcome) → outcome setting move.before move.own ≡ did
        → Moves link carried did
    moves link carried under None did = (carried, append-nil carried, under, sharing)
    moves link carried under (Some o) did =
        let now = moved-under_way o did link carried under in
        (now.0, now.1, now.2, IsSharing-moved o did)

  -- what a step of the array is, if any of a line is meant
  abbrev pub StepsBy : Link → List Carried → Option LineMove → Type 0
  StepsBy link carried move =
      (now : List Carried)
      × (carried ++ option_map_or (put_by setting link) move []
      ≡ option_map_or (taken_by setting link) move [] ++ now)
      × AreUnderWay (unwrap_or (option_and_then (next_by setting c) move) c) link now
      × IsSharing setting (unwrap_or (option_and_then (next_by setting c) move) c)

  steps_by : (link : Link) (carried : List Carried) → AreUnderWay c link carried
      → (move : Option LineMove) → ((m : LineMove) → move ≡ Some m → IsMove c m)
      → StepsBy link carried move
  steps_by link carried under None is = (carried, append-nil carried, under, sharing)
  steps_by link carried under (Some move) is =
      moves move (is move refl) link carried under (outcome setting move.before move.own) refl

  -- A step of the array, enabled or not, with what it puts on the link and takes from it.
  pub step-carries : (s : LineStep) (link : Link) (carried : List Carried)
      → AreUnderWay c link carried → StepsBy link carried (move_of c s)
  step-carries s link carried under =
      steps_by link carried under (move_of c s) (λ move is. move_of-is c s move is)

  -- The array after it shares its links as it should.
  pub IsSharing-step : (s : LineStep) → IsSharing setting (after_line_step setting c s)
  IsSharing-step s =
      let was = sharing.under_way (Up 0) in
      (step-carries s (Up 0) was.0 was.1).3

-- ---- the start

-- what stands for an item past the end is all there is
replicate-default : {X : Type 0} (n i : ℕ) (x : X) → get_or (replicate n x) i x ≡ x
replicate-default zero i x = refl
replicate-default (suc n) zero x = refl
replicate-default (suc n) (suc i) x = replicate-default n i x

-- no packets are on any link at the start
start-packets : (n : ℕ) (link : Link) → packets_on link (replicate n no_packets) ≡ []
start-packets n (Up j) =
    ap (λ (pair : LinkPair). pair.up) (replicate-default n j no_packets)
start-packets n (Down j) =
    ap (λ (pair : LinkPair). pair.down) (replicate-default n j no_packets)

-- nor numbers
start-numbers : (n : ℕ) (link : Link) → shared_on link (replicate n no_entries) ≡ []
start-numbers n (Up j) =
    ap (λ (pair : SharedPair). pair.up) (replicate-default n j no_entries)
start-numbers n (Down j) =
    ap (λ (pair : SharedPair). pair.down) (replicate-default n j no_entries)

-- nothing is under way at the start
pub start-under_way : (setting : Setting) (n lines : ℕ) (link : Link)
    → AreUnderWay (array_start setting.protocol n lines) link []
start-under_way setting n lines link =
    let first = start setting.protocol n in
    let none = λ (line : Config). packets_on link line.links ≡ [] in
    record {
      numbers = start-numbers n link;
      packets = λ a line at.
          AllByRecursion-at none (replicate lines first) a line
          (AllByRecursion-replicate none lines first (start-packets n link)) at;
      lines = tt;
    }

pub IsSharing-start : (setting : Setting) (n lines : ℕ) → IsProper setting.protocol → 1 ≤ n
    → n ≤ 64 → 2 ≤ setting.slots → setting.slots ≤ 64
    → IsSharing setting (array_start setting.protocol n lines)
IsSharing-start setting n lines proper some few two most =
    let first = start setting.protocol n in
    let count : count_of first ≡ length (replicate n no_entries) =
    length-replicate n _ ∙ sym (length-replicate n no_entries) in
    record {
      shaped =
          AllByRecursion-replicate (IsShaped setting) lines first
          (IsShaped-start setting n proper some few two most);
      remotes =
          AllByRecursion-replicate
          (λ (line : Config). count_of line ≡ length (replicate n no_entries)) lines first count;
      under_way = λ link. ([], start-under_way setting n lines link);
    }

-- ---- many steps

module _ (setting : Setting) (proper : IsProper setting.protocol) where
  -- any steps keep it
  pub IsSharing-steps : (c : ArrayConfig) (steps : List LineStep) → IsSharing setting c
      → IsSharing setting (array_at_end setting c steps)
  IsSharing-steps c [] sharing = sharing
  IsSharing-steps c (s ∷ steps) sharing =
      IsSharing-steps (after_line_step setting c s) steps
      (IsSharing-step setting proper c sharing s)
