-- A step of an array, from a step of the machine of the line that is meant and what is noted of it.
use Rattle.std.proofs.Common.{◌≡◌, ℕ, ◌+◌, ◌<◌, ◌≤◌, Bool, true, false, ◌&&◌, not, nat_lt, List}
use Rattle.std.proofs.Common.{[], ◌∷◌, ◌++◌, length, map, set, get_or, Option, Some, None}
use Rattle.std.proofs.Common.{slice_get, IfSome, refl, sym, ap, ap₂, ◌∙◌, subst, arith, length-set}
use Rattle.std.proofs.Common.{length-append}
use Rattle.std.proofs.lemmas.Bool.{ltb-true}
use Rattle.std.proofs.lemmas.List.{length-map, map-set}
use Rattle.std.proofs.lemmas.Option.{same_Some, slice_get_read, slice_get-map}
use Rattle.std.specs.Option.{option_map, option_and_then}
use Rattle.rv_base.proofs.Lists.{AllByRecursion-read, AllByRecursion-set, some_map, some_when}
use Rattle.controller_table.specs.Sound.{Tabled}
use Rattle.proto_model.specs.Proper.{IsProper}
use Rattle.ordered_links.specs.Link.{Link, Up, Down}
use Rattle.ordered_links.specs.Lists.{LinkPair}
use Rattle.async_shape.specs.Setting.{Setting}
use Rattle.async_shape.specs.Config.{Config}
use Rattle.async_shape.specs.Site.{site, arrival_link}
use Rattle.async_shape.specs.Outcome.{Put}
use Rattle.async_shape.specs.Next.{StepOutcome, outcome, next, put_of, config_after}
use Rattle.async_shape.specs.declared.step.Step.{Step}
use Rattle.async_shape.specs.declared.step.Step.TheVariants as step
use Rattle.async_shape.proofs.StepInversion.{next-outcome}
use Rattle.async_machine.specs.Standing.{Standing, setting, setting_of}
use Rattle.line_array.specs.SharedLists.{SharedPair, shared_on, first_line, shared_put}
use Rattle.line_array.specs.SharedLists.{shared_left, shared_after}
use Rattle.line_array.specs.ArrayConfig.{ArrayConfig}
use Rattle.line_array.specs.ArrayNext.{LineMove, is_delivery, meant, move_at, move_of, next_by}
use Rattle.line_array.specs.ArrayNext.{next_array, array_moved}
use Rattle.line_array.specs.Carried.{Carried, AreUnderWay, is_link}
use Rattle.line_array.specs.InStep.{IsSharing}
use Rattle.line_array.specs.Noted.{Shared, link_of, link_if, remote_of, most_on}
use Rattle.line_array.specs.Standing.{IsArray, array_config, ring_config}
use Rattle.line_array.specs.declared.line_step.LineStep.{LineStep}
use Rattle.line_array.specs.declared.line_step.LineStep.TheVariants.{At}
use Rattle.line_array.specs.declared.line_step.LineStep.TheVariants as array_step
use Rattle.line_array.specs.declared.shared.SharedLink.{SharedLink}
use Rattle.line_array.proofs.InStepOf.{few-on}
use Rattle.line_array.proofs.OnLinks.{shared_on-same, shared_on-other, shared_on-within}
use Rattle.line_array.proofs.NotedStep.{is_link-apart}
use Rattle.line_array.proofs.PutLink.{takes-there}
use Rattle.line_array.proofs.Sharing.{IsMove, meant-move, put-fits, IsSharing-moved, array_after}
use Rattle.line_array.proofs.Sharing.{puts_of, takes_of}
use Rattle.line_array.proofs.StepsCarry.{array_with, IsFitting, link_put}

-- ---- the line that is meant

-- both hold
left-of : (a b : Bool) → (a && b) ≡ true → a ≡ true
left-of true b is = refl
left-of false b is = absurd (cc)

-- the first line on a link is there
first-within : (c : ArrayConfig) (link : Link) (carried : List Carried)
    → AreUnderWay c link carried → (a : ℕ) → first_line link c.shared ≡ Some a
    → a < length c.lines
first-within c link [] under a first =
    let never : slice_get {X = ℕ} [] 0 ≡ Some a =
    sym (ap (λ (ns : List ℕ). slice_get ns 0) under.numbers) ∙ first in
    absurd (cc)
first-within c link (one ∷ rest) under a first =
    let is : Some one.line ≡ Some a =
    sym (ap (λ (ns : List ℕ). slice_get ns 0) under.numbers) ∙ first in
    subst (λ (i : ℕ). i < length c.lines) (same_Some one.line a is) under.lines.0

-- The line that is meant is there.
pub meant-within : (setting : Setting) (c : ArrayConfig) → IsSharing setting c → (s : LineStep)
    (a : ℕ) (own : Step) → meant c s ≡ Some (a, own) → a < length c.lines
meant-within setting c sharing (At b s) a own means =
    let by =
    some_when (nat_lt b (length c.lines) && not (is_delivery s)) (b, s) (a, own) means in
    let within = ltb-true b (length c.lines) (left-of _ _ by.0) in
    subst (λ (i : ℕ). i < length c.lines) (ap (λ (pair : ℕ × Step). pair.0) by.1) within
meant-within setting c sharing (array_step.Up j) a own means =
    let by = some_map (λ (i : ℕ). (i, step.Up j)) (first_line (Up j) c.shared) (a, own) means in
    let under = sharing.under_way (Up j) in
    first-within c (Up j) under.0 under.1 a
    (by.1 ∙ ap (λ (i : ℕ). Some i) (ap (λ (pair : ℕ × Step). pair.0) by.2))
meant-within setting c sharing (array_step.Down j) a own means =
    let by =
    some_map (λ (i : ℕ). (i, step.Down j)) (first_line (Down j) c.shared) (a, own) means in
    let under = sharing.under_way (Down j) in
    first-within c (Down j) under.0 under.1 a
    (by.1 ∙ ap (λ (i : ℕ). Some i) (ap (λ (pair : ℕ × Step). pair.0) by.2))

-- ---- room on the shared links

-- what is left on a shared link from which nothing is taken
left-shared : (link : Link) (from : Option Link) (shared : List SharedPair)
    → ((l : Link) → from ≡ Some l → is_link link l ≡ false)
    → shared_on link (shared_left from shared) ≡ shared_on link shared
left-shared link None shared apart = refl
left-shared link (Some from) shared apart =
    shared_on-other from link _ shared (is_link-apart link from (apart from refl))

module _ (setting : Setting) (proper : IsProper setting.protocol) (c : ArrayConfig)
    (sharing : IsSharing setting c) (move : LineMove) (is : IsMove c move) (o : StepOutcome)
    (did : outcome setting move.before move.own ≡ Some o) where
  -- The number of the line has room where the line put a packet.
  put-noted : (put : Put) → o.put ≡ Some put
      → (remote_of put.on < length c.shared)
      × (length (shared_on put.on c.shared) < most_on (length c.lines) put.on)
  put-noted put puts =
      let fits = put-fits setting proper c sharing move is o did in
      let fit =
      subst (IsFitting move.before.links c.shared o.takes_from) puts fits in
      let d = array_after c move (Some o) in
      let few : length (shared_on put.on d.shared) ≤ most_on (length d.lines) put.on =
      few-on setting d (IsSharing-moved setting proper c sharing move is o did) put.on in
      let shared = shared_put move.number (Some put.on) c.shared in
      let numbers : shared_on put.on d.shared ≡ shared_on put.on c.shared ++ move.number ∷ [] =
      ap (λ (p : Option Put). shared_on put.on
      (shared_after move.number (link_put p) o.takes_from c.shared)) puts
      ∙ left-shared put.on o.takes_from shared fit.2
      ∙ shared_on-same put.on (shared_on put.on c.shared ++ move.number ∷ []) c.shared fit.1 in
      let count : length (shared_on put.on d.shared) ≡ length (shared_on put.on c.shared) + 1 =
      ap length numbers ∙ length-append (shared_on put.on c.shared) (move.number ∷ []) in
      let lines : most_on (length d.lines) put.on ≡ most_on (length c.lines) put.on =
      ap (λ (n : ℕ). most_on n put.on)
      (length-set c.lines move.number (config_after move.before o)) in
      (fit.1, omega (arith, few, count, lines))

  -- The remote of a delivery is there.
  take-noted : (l : Link) → arrival_link (site move.own) ≡ Some l → remote_of l < length c.shared
  take-noted l from = shared_on-within l c.shared move.number (is.first l from)

-- if it is one, it holds of it
if-some : {X : Type 0} (P : X → Type 0) (o : Option X) → ((x : X) → o ≡ Some x → P x)
    → IfSome o P
if-some P None holds = tt
if-some P (Some x) holds = holds x refl

-- ---- the array after it

-- The machine that is meant is there.
pub machine-within : (table : Tabled) (k : ℕ) (machines : List (Standing (List LinkPair)))
    (shared : Shared) → IsArray table k machines shared → (s : LineStep) (a : ℕ) (own : Step)
    → meant (array_config machines shared.pairs) s ≡ Some (a, own) → a < length machines
machine-within table k machines shared is s a own means =
    subst (λ (n : ℕ). a < n) (length-map machines ring_config)
    (meant-within (setting_of table k) (array_config machines shared.pairs) is.sharing s a own
    means)

module _ (table : Tabled) (k : ℕ) (machines : List (Standing (List LinkPair))) (shared : Shared)
    (is : IsArray table k machines shared) (s : LineStep) (a : ℕ) (own : Step)
    (means : meant (array_config machines shared.pairs) s ≡ Some (a, own))
    (old : Standing (List LinkPair)) (read : old ≡ get_or machines a old) where
  -- the array before it
  abbrev before : ArrayConfig
  before = array_config machines shared.pairs

  -- the machine that is meant is there
  within : a < length machines
  within = machine-within table k machines shared is s a own means

  -- it has the setting of the array
  pub setting-is : setting old ≡ setting_of table k
  setting-is =
      let alike =
      AllByRecursion-read (λ (m : Standing (List LinkPair)). (m.table ≡ table) × (m.slots ≡ k))
      machines a old is.alike within read in
      ap₂ setting_of alike.0 alike.1

  -- its line stands so
  there : slice_get before.lines a ≡ Some (ring_config old)
  there =
      slice_get-map ring_config machines a
      ∙ ap (option_map ring_config)
      (slice_get_read machines (length machines) a old refl within read)

  -- the step of the line
  abbrev move : LineMove
  move = record { number = a; before = ring_config old; own = own }

  -- it is one of the array
  move-is : IsMove before move
  move-is = meant-move before s a own (ring_config old) means there

  -- it is what the step of the array is
  moves : move_of before s ≡ Some move
  moves =
      ap (option_and_then (move_at before)) means
      ∙ ap (option_map (λ (line : Config). record { number = a; before = line; own = own })) there

  -- Where the step of the line isn't enabled, neither is that of the array.
  pub array-refused : next (setting old) (ring_config old) own ≡ None
      → next_array (setting_of table k) before s ≡ None
  array-refused refused =
      ap (option_and_then (next_by (setting_of table k) before)) moves
      ∙ ap (option_map (array_moved (setting_of table k) before move))
      (subst (λ (x : Setting). next x (ring_config old) own ≡ None) setting-is refused)

  module _ (new : Standing (List LinkPair)) (link : Option SharedLink)
      (did_here : next (setting old) (ring_config old) own ≡ Some (ring_config new))
      (noted_here : link_if link
      ≡ option_map (λ put. put.on) (put_of (setting old) (ring_config old) own)) where
    -- so is the step in the setting of the array
    did : next (setting_of table k) (ring_config old) own ≡ Some (ring_config new)
    did =
        subst (λ (x : Setting). next x (ring_config old) own ≡ Some (ring_config new)) setting-is
        did_here

    noted : link_if link
        ≡ option_map (λ put. put.on) (put_of (setting_of table k) (ring_config old) own)
    noted =
        subst (λ (x : Setting). link_if link
        ≡ option_map (λ put. put.on) (put_of x (ring_config old) own)) setting-is noted_here

    -- what the line did
    by : (o : StepOutcome) × (outcome (setting_of table k) (ring_config old) own ≡ Some o)
        × (ring_config new ≡ config_after (ring_config old) o)
    by = next-outcome (setting_of table k) (ring_config old) (ring_config new) own did

    -- what it put
    puts : link_if link ≡ link_put by.0.put
    puts =
        noted
        ∙ ap (λ (did : Option StepOutcome). option_map (λ put. put.on)
        (option_and_then (λ o. o.put) did)) by.1

    -- where it put it
    put-is : (l : SharedLink) → link ≡ Some l
        → (put : Put) × (by.0.put ≡ Some put) × (put.on ≡ link_of l)
    put-is l is_l =
        some_map (λ (put : Put). put.on) by.0.put (link_of l)
        (sym puts ∙ ap link_if is_l)

    -- there is room for the number of the line
    pub put-room_noted : IfSome link (λ l. (remote_of (link_of l) < length shared.pairs)
        × (length (shared_on (link_of l) shared.pairs) < most_on shared.lines (link_of l)))
    put-room_noted =
        if-some (λ (l : SharedLink). (remote_of (link_of l) < length shared.pairs)
        × (length (shared_on (link_of l) shared.pairs) < most_on shared.lines (link_of l))) link
        (λ l is_l.
        let put = put-is l is_l in
        let room =
        put-noted (setting_of table k) is.sound.proper before is.sharing move move-is by.0 by.1
        put.0 put.1 in
        let lines : most_on (length before.lines) put.0.on ≡ most_on shared.lines put.0.on =
        ap (λ (n : ℕ). most_on n put.0.on) (length-map machines ring_config ∙ sym is.room) in
        subst (λ (on : Link). (remote_of on < length shared.pairs)
        × (length (shared_on on shared.pairs) < most_on shared.lines on)) put.2
        (room.0, omega (arith, room.1, lines)))

    -- the link of a delivery is there
    pub take-room_noted : IfSome (arrival_link (site own)) (λ l.
        remote_of l < length shared.pairs)
    take-room_noted =
        if-some (λ (l : Link). remote_of l < length shared.pairs) (arrival_link (site own))
        (take-noted (setting_of table k) is.sound.proper before is.sharing move move-is by.0 by.1)

    module _ (now : Shared)
        (notes : now.pairs ≡ shared_after a (link_if link) (arrival_link (site own)) shared.pairs)
        (keeps : now.lines ≡ shared.lines)
        (kept : (new.table ≡ old.table) × (new.slots ≡ old.slots))
      where
        -- the machines after it
        abbrev after : ArrayConfig
        after = array_config (set machines a new) now.pairs

        -- what is noted is what the line did
        after-is : after ≡ array_after before move (Some by.0)
        after-is =
            let lines : map ring_config (set machines a new)
            ≡ set before.lines a (config_after (ring_config old) by.0) =
            map-set ring_config machines a new
            ∙ ap (λ (line : Config). set before.lines a line) by.2 in
            let pairs : now.pairs
            ≡ shared_after a (link_put by.0.put) by.0.takes_from shared.pairs =
            notes
            ∙ ap (λ (l : Option Link). shared_after a l (arrival_link (site own)) shared.pairs) puts
            ∙ ap (λ (from : Option Link). shared_after a (link_put by.0.put) from shared.pairs)
            (sym (takes-there (setting_of table k) (ring_config old) own by.0 by.1)) in
            ap₂ (λ (lines : List Config) (pairs : List SharedPair).
            record { lines = lines; shared = pairs }) lines pairs

        -- the step of the array leads there
        pub array-next : next_array (setting_of table k) before s ≡ Some after
        array-next =
            let d = config_after (ring_config old) by.0 in
            let is_next : next (setting_of table k) (ring_config old) own ≡ Some d =
            ap (option_map (config_after (ring_config old))) by.1 in
            let moved : array_moved (setting_of table k) before move d
            ≡ array_after before move (Some by.0) =
            ap (λ (did : Option StepOutcome). array_with before a d
            (shared_after a (link_put (puts_of did)) (takes_of did) shared.pairs)) by.1 in
            ap (option_and_then (next_by (setting_of table k) before)) moves
            ∙ ap (option_map (array_moved (setting_of table k) before move)) is_next
            ∙ ap (λ (c : ArrayConfig). Some c) (moved ∙ sym after-is)

        -- it is an array as before
        pub array-after : IsArray table k (set machines a new) now
        array-after =
            let count : length (set machines a new) ≡ length machines = length-set machines a new in
            let alike =
            AllByRecursion-read
            (λ (m : Standing (List LinkPair)). (m.table ≡ table) × (m.slots ≡ k)) machines a old
            is.alike within read in
            record {
              sound = is.sound;
              some_lines = subst (λ (n : ℕ). 1 ≤ n) (sym count) is.some_lines;
              few_lines = subst (λ (n : ℕ). n ≤ 16) (sym count) is.few_lines;
              room = keeps ∙ is.room ∙ sym count;
              alike =
                  AllByRecursion-set
                  (λ (m : Standing (List LinkPair)). (m.table ≡ table) × (m.slots ≡ k)) machines a
                  new is.alike (kept.0 ∙ alike.0, kept.1 ∙ alike.1);
              sharing =
                  subst (IsSharing (setting_of table k)) (sym after-is)
                  (IsSharing-moved (setting_of table k) is.sound.proper before is.sharing move
                  move-is by.0 by.1);
            }
