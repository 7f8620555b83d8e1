-- What a step leaves alone of the abstraction: the part of a remote whose record, links and debt
-- are as they were; and all of it, where the home and each remote stand where they stood.
use Rattle.std.proofs.Common.{◌≡◌, ◌≢◌, ℕ, ◌<◌, List, [], map, Option, Some, slice_get, slice_set}
use Rattle.std.proofs.Common.{slice_index_or, length, length-set, get_or-set_same, get_or-set_other}
use Rattle.std.proofs.Common.{is_some, refl, sym, ap, ap₂, subst, inl, inr, arith, ◌∙◌}
use Rattle.std.specs.List.{range_with_len}
use Rattle.std.proofs.lemmas.Bool.{cases_eq}
use Rattle.std.proofs.lemmas.List.FromFn.{length-map-range_with_len, get_or-map-range_with_len}
use Rattle.std.proofs.lemmas.List.FromFn.{fill_by_all}
use Rattle.std.proofs.lemmas.Option.{slice_get-get_or}
use Rattle.proto_model.specs.Numbered.{NumberedProtocol}
use Rattle.proto_model.specs.Guards.{part}
use Rattle.proto_model.specs.declared.numbered.Value.{Value}
use Rattle.proto_model.specs.declared.numbered.Body.{Body}
use Rattle.proto_model.specs.declared.rendezvous.Part.{Part}
use Rattle.proto_model.specs.declared.rendezvous.RvConfig.{RvConfig}
use Rattle.ordered_links.specs.Link.{Link}
use Rattle.ordered_links.specs.Lists.{LinkPair, links_at}
use Rattle.async_shape.specs.Setting.{Setting}
use Rattle.async_shape.specs.Config.{Config, count_of, owed_to}
use Rattle.async_shape.specs.Outcome.{HomeOutcome, RemoteOutcome}
use Rattle.async_shape.specs.Next.{config_after, home_moved, remote_moved}
use Rattle.async_shape.specs.View.{View, nobody, view_at}
use Rattle.async_shape.specs.Shape.{IsShaped}
use Rattle.async_shape.specs.declared.config.HomePlace.{HomePlace}
use Rattle.async_shape.specs.declared.config.HomePlace.TheVariants.{Idle, Waits}
use Rattle.async_shape.specs.declared.config.RemoteState.{RemoteState}
use Rattle.async_shape.proofs.LinksAfter.{IsPutAt, IsTakenAt, IsPutElsewhere, IsTakenElsewhere}
use Rattle.async_shape.proofs.LinksAfter.{put-elsewhere, taken-elsewhere, links_after-other}
use Rattle.async_shape.proofs.Frame.{remotes-other}
use Rattle.async_shape.proofs.RemoteMoves.{view_moved, remote_moved-own}
use Rattle.abstraction_map.specs.Abstraction.{Fate, fate_in, is_due, awaited_fate, home_fate}
use Rattle.abstraction_map.specs.Abstraction.{remote_part, home_part, part_in_view, abstraction}
use Rattle.abstraction_map.proofs.ByCase.{home_stands, remote_stands}
use Rattle.async_shape.proofs.ShapeParts.{links-there}

-- ---- the parts of all remotes

-- the part of each of n remotes
abbrev pub parts_of : ℕ → (ℕ → Part) → List Part
parts_of n part_of = map part_of (range_with_len 0 n)

-- what stands for the part of a remote past the last one
abbrev nowhere : Part
nowhere = part 0 []

-- there is a part for each remote
pub parts-count : (n : ℕ) (f : ℕ → Part) → length (parts_of n f) ≡ n
parts-count n f = length-map-range_with_len f 0 n

-- at the number of a remote stands its part
parts-read : (n : ℕ) (f : ℕ → Part) (j : ℕ) → j < n
    → slice_index_or (parts_of n f) j nowhere ≡ f j
parts-read n f j within = get_or-map-range_with_len f 0 n j j nowhere within (omega arith)

-- so it does where the place is looked up
pub parts-at : (n : ℕ) (f : ℕ → Part) (j : ℕ) → j < n → slice_get (parts_of n f) j ≡ Some (f j)
parts-at n f j within =
    let inside : j < length (parts_of n f) =
    subst (λ (k : ℕ). j < k) (sym (parts-count n f)) within in
    slice_get-get_or (parts_of n f) j nowhere inside
    ∙ ap (λ (p : Part). Some p) (parts-read n f j within)

-- equal parts are equal lists
pub parts-same : (n : ℕ) (f g : ℕ → Part) → ((q : ℕ) → g q ≡ f q) → parts_of n g ≡ parts_of n f
parts-same n f g same =
    fill_by_all f (parts_of n g) n nowhere (parts-count n g)
    (λ q within. parts-read n g q within ∙ same q)

-- The part of one remote changes.
pub parts-set : (n : ℕ) (f g : ℕ → Part) (j : ℕ) → j < n → ((q : ℕ) → q ≢ j → g q ≡ f q)
    → parts_of n g ≡ slice_set (parts_of n f) j (g j)
parts-set n f g j within others =
    let old = parts_of n f in
    let inside : j < length old = subst (λ (k : ℕ). j < k) (sym (parts-count n f)) within in
    sym (fill_by_all g (slice_set old j (g j)) n nowhere
    (length-set old j (g j) ∙ parts-count n f)
    (λ q there. elim (cases_eq q j) [
      | inl is ↦
          ap (λ (i : ℕ). slice_index_or (slice_set old j (g j)) i nowhere) is
          ∙ get_or-set_same old j (g j) nowhere inside ∙ ap g (sym is)
      | inr apart ↦
          get_or-set_other old j q (g j) nowhere apart ∙ parts-read n f q there
          ∙ sym (others q apart)
    ]))

-- ---- equal parts

module _ (protocol : NumberedProtocol) (c d : Config) where
  -- Equal parts of the home and of each remote are equal abstractions.
  pub abstraction-same : count_of d ≡ count_of c
      → home_stands protocol d ≡ home_stands protocol c
      → ((q : ℕ) → remote_stands protocol d q ≡ remote_stands protocol c q)
      → abstraction protocol d ≡ abstraction protocol c
  abstraction-same count home remotes =
      let all : parts_of (count_of d) (remote_stands protocol d)
      ≡ parts_of (count_of c) (remote_stands protocol c) =
      ap (λ (n : ℕ). parts_of n (remote_stands protocol d)) count
      ∙ parts-same (count_of c) (remote_stands protocol c) (remote_stands protocol d) remotes in
      let config : Part → List Part → RvConfig = λ h rs. record { home = h; remotes = rs } in
      ap₂ config home all

  -- Remote q looks the same: it stands where it stood, and has done with the home's request what it
  -- had done.
  pub record LooksSame (q : ℕ) : Type 0 where
    pub part : remote_stands protocol d q ≡ remote_stands protocol c q
    pub awaited : awaited_fate (view_at protocol d q) ≡ awaited_fate (view_at protocol c q)

  -- A home that stays where it is stands where it stood, where the remotes have done with its
  -- request what they had done.
  pub home_stands-kept : d.home.place ≡ c.home.place → d.home.vars ≡ c.home.vars
      → ((q : ℕ) → awaited_fate (view_at protocol d q) ≡ awaited_fate (view_at protocol c q))
      → home_stands protocol d ≡ home_stands protocol c
  home_stands-kept place vars awaited =
      ap₂
      (λ (p : HomePlace) (vs : List Value).
      home_part protocol.home vs (home_fate (view_at protocol d) p) p) place vars
      ∙ ap (λ (f : Fate). home_part protocol.home c.home.vars f c.home.place)
      (fate-kept c.home.place) where
        fate-kept : (p : HomePlace)
            → home_fate (view_at protocol d) p ≡ home_fate (view_at protocol c) p
        fate-kept (Idle state) = refl
        fate-kept (Waits waiting) = awaited waiting.on

  -- A stutter in which the home stays where it is.
  pub abstraction-kept : count_of d ≡ count_of c → d.home.place ≡ c.home.place
      → d.home.vars ≡ c.home.vars → ((q : ℕ) → LooksSame q)
      → abstraction protocol d ≡ abstraction protocol c
  abstraction-kept count place vars looks =
      abstraction-same count (home_stands-kept place vars (λ q. (looks q).awaited))
      (λ q. (looks q).part)

  -- What holds of remote j and of all others holds of all.
  pub looks-all : (j : ℕ) → LooksSame j → ((q : ℕ) → q ≢ j → LooksSame q) → (q : ℕ) → LooksSame q
  looks-all j here others q = elim (cases_eq q j) [
    | inl is ↦ subst LooksSame (sym is) here
    | inr apart ↦ others q apart
  ]

-- the part of a remote, by its record, its links and its debt
abbrev part_seen : Body → RemoteState → LinkPair → Option ℕ → Part
part_seen body remote pair owed =
    remote_part body remote.vars (fate_in pair.down (is_some owed)) remote.place

-- it is equal where these are
part_seen-same : (body : Body) (r s : RemoteState) (k l : LinkPair) (o p : Option ℕ)
    → r ≡ s → k ≡ l → o ≡ p → part_seen body r k o ≡ part_seen body s l p
part_seen-same body r s k l o p record_is pair_is owed_is =
    rw (record_is, pair_is, owed_is) refl

-- A remote whose record, links and debt are as they were looks the same.
pub LooksSame-untouched : (protocol : NumberedProtocol) (c d : Config) (q : ℕ)
    → slice_index_or d.remotes q nobody ≡ slice_index_or c.remotes q nobody
    → links_at d.links q ≡ links_at c.links q → owed_to d.home q ≡ owed_to c.home q
    → LooksSame protocol c d q
LooksSame-untouched protocol c d q record_is pair_is owed_is = record {
  part =
      part_seen-same protocol.remote (slice_index_or d.remotes q nobody)
      (slice_index_or c.remotes q nobody) (links_at d.links q) (links_at c.links q)
      (owed_to d.home q) (owed_to c.home q) record_is pair_is owed_is;
  awaited =
      ap₂ (λ (k : LinkPair) (r : RemoteState). fate_in k.up (is_due r.place)) pair_is record_is;
}

-- ---- a step at remote j

-- what a step leaves that leaves this at remote j and takes a packet from this link, if from any
abbrev pub after_remote : Config → Option Link → ℕ → RemoteOutcome → Config
after_remote c taken j o = config_after c (remote_moved c taken j o)

-- the view of remote j then
abbrev pub view_after : NumberedProtocol → Config → Option Link → ℕ → RemoteOutcome → View
view_after protocol c taken j o = view_moved (view_at protocol c j) o.remote o.put taken

-- what it leaves there, and puts and takes there
module _ (setting : Setting) (c : Config) (shaped : IsShaped setting c) (taken : Option Link)
    (j : ℕ) (within : j < count_of c) (o : RemoteOutcome) (put : IsPutAt j o.put)
    (takes : IsTakenAt j taken) where
  -- the protocol
  abbrev protocol : NumberedProtocol
  protocol = setting.protocol

  -- the view of j after it
  pub remote_step-view : view_at protocol (after_remote c taken j o) j
      ≡ view_after protocol c taken j o
  remote_step-view =
      remote_moved-own setting c taken j o within (links-there setting c shaped j within) put takes

  -- each other remote looks the same
  pub remote_step-others : (q : ℕ) → q ≢ j
      → LooksSame protocol c (after_remote c taken j o) q
  remote_step-others q apart =
      LooksSame-untouched protocol c (after_remote c taken j o) q
      (remotes-other c.remotes j q o.remote apart)
      (links_after-other o.put taken c.links q (put-elsewhere j q o.put apart put)
      (taken-elsewhere j q taken apart takes)) refl

  -- where j has done with the home's request what it had done
  module _ (awaited : awaited_fate (view_after protocol c taken j o)
      ≡ awaited_fate (view_at protocol c j)) where
    -- j has done so in the configuration after the step
    awaited-at : awaited_fate (view_at protocol (after_remote c taken j o) j)
        ≡ awaited_fate (view_at protocol c j)
    awaited-at = ap awaited_fate remote_step-view ∙ awaited

    -- The home stands where it stood.
    pub remote_step-home : home_stands protocol (after_remote c taken j o)
        ≡ home_stands protocol c
    remote_step-home =
        home_stands-kept protocol c (after_remote c taken j o) refl refl
        (λ q. elim (cases_eq q j) [
          | inl is ↦
              subst
              (λ (i : ℕ). awaited_fate (view_at protocol (after_remote c taken j o) i)
              ≡ awaited_fate (view_at protocol c i)) (sym is) awaited-at
          | inr apart ↦ (remote_step-others q apart).awaited
        ])

    -- A stutter, where besides j stands where it stood.
    pub remote_step-stutter : part_in_view protocol.remote (view_after protocol c taken j o)
        ≡ remote_stands protocol c j
        → abstraction protocol (after_remote c taken j o) ≡ abstraction protocol c
    remote_step-stutter part =
        let here : LooksSame protocol c (after_remote c taken j o) j = record {
          part = ap (part_in_view protocol.remote) remote_step-view ∙ part;
          awaited = awaited-at;
        } in
        abstraction-kept protocol c (after_remote c taken j o)
        (length-set c.remotes j o.remote) refl refl
        (looks-all protocol c (after_remote c taken j o) j here remote_step-others)

-- ---- a step of the home

-- what it leaves, where it takes a packet from this link, if from any
module _ (protocol : NumberedProtocol) (c : Config) (taken : Option Link) (o : HomeOutcome) where
  -- remote q looks the same where nothing changes of its links and its debt
  pub home_step-other : (q : ℕ) → owed_to o.home q ≡ owed_to c.home q → IsPutElsewhere q o.put
      → IsTakenElsewhere q taken → LooksSame protocol c (config_after c (home_moved c taken o)) q
  home_step-other q owed not_put not_taken =
      LooksSame-untouched protocol c (config_after c (home_moved c taken o)) q refl
      (links_after-other o.put taken c.links q not_put not_taken) owed
