-- What the home holds and where it stands once a packet of a remote has arrived, and what is then
-- to be shown of that remote.
use Rattle.std.proofs.Common.{◌≡◌, ◌≢◌, ℕ, ◌+◌, ◌<◌, ◌≤◌, false, List, [], ◌∷◌, ◌++◌, length, drop}
use Rattle.std.proofs.Common.{Option, Some, None, refl, subst, arith}
use Rattle.std.specs.Option.{option_map}
use Rattle.std.specs.List.{AllByRecursion}
use Rattle.rv_base.proofs.Lists.{AllByRecursion-push}
use Rattle.proto_model.specs.Numbered.{NumberedProtocol}
use Rattle.slot_reserve.specs.Requests.{first_of, last_of, displaced, HasNone}
use Rattle.slot_reserve.specs.declared.held.Held.{Held}
use Rattle.slot_reserve.proofs.HeldOfRemote.{has_none}
use Rattle.slot_reserve.proofs.OneOfEach.{OneOfEach-push}
use Rattle.slot_reserve.proofs.Displaced.{OneOfEach-displaced}
use Rattle.slot_reserve.proofs.HeldItems.{AllByRecursion-displaced}
use Rattle.slot_reserve.proofs.HeldItems.{length-push, length-displaced, list_any-push_new}
use Rattle.slot_reserve.proofs.AdmissionRoom.{HasRoom}
use Rattle.ordered_links.specs.Link.{Up}
use Rattle.ordered_links.specs.Lists.{links_at, first_packet}
use Rattle.ordered_links.specs.declared.packet.Packet.{Packet}
use Rattle.async_shape.specs.Setting.{Setting}
use Rattle.async_shape.specs.Config.{Config, count_of}
use Rattle.async_shape.specs.Requests.{is_waiting, completes}
use Rattle.async_shape.specs.Outcome.{HomeOutcome, at_home}
use Rattle.async_shape.specs.View.{View, held_request, view_at}
use Rattle.async_shape.specs.Phase.{IsInPhase, IsTypedMessage, IsTypedPacket, Case}
use Rattle.async_shape.specs.Shape.{AreHeld, IsHomePlace, IsWhole}
use Rattle.async_shape.specs.declared.config.HomeState.{HomeState}
use Rattle.async_shape.specs.declared.config.HomePlace.{HomePlace}
use Rattle.async_shape.specs.declared.config.HomePlace.TheVariants.{Idle, Waits}
use Rattle.async_shape.proofs.LinksAfter.{IsPutAt, pair_after}
use Rattle.async_shape.proofs.HomeMoves.{view_left, IsHomeWhole, LeavesAlone}
use Rattle.async_shape.proofs.Phases.{first-rest}

-- ---- one more request is held

-- what is held is right with one more request, of a remote of which nothing is held, where there is
-- room
pub AreHeld-push : (protocol : NumberedProtocol) (k n : ℕ) (held : List Held) (request : Held)
    → length held + 1 ≤ k → request.from < n → HasNone request.from held
    → IsTypedMessage protocol request.message request.value → AreHeld protocol k n held
    → AreHeld protocol k n (held ++ request ∷ [])
AreHeld-push protocol k n held request room within none typed are =
    let count = length-push held request in
    record {
      few = omega arith;
      senders = AllByRecursion-push (λ (r : Held). r.from < n) held request are.senders within;
      one_of_each = OneOfEach-push held request are.one_of_each none;
      typed =
          AllByRecursion-push (λ (r : Held). IsTypedMessage protocol r.message r.value) held request
          are.typed typed;
    }

-- so it is where that request takes the place of the last one
pub AreHeld-displaced : (protocol : NumberedProtocol) (k n : ℕ) (held : List Held)
    (last request : Held) → last_of held ≡ Some last → request.from < n
    → HasNone request.from held → IsTypedMessage protocol request.message request.value
    → AreHeld protocol k n held → AreHeld protocol k n (displaced held request)
AreHeld-displaced protocol k n held last request there within none typed are =
    let count = length-displaced held last request there in
    let few = are.few in
    record {
      few = omega arith;
      senders = AllByRecursion-displaced (λ (r : Held). r.from < n) held request are.senders within;
      one_of_each = OneOfEach-displaced held last request there are.one_of_each none;
      typed =
          AllByRecursion-displaced (λ (r : Held). IsTypedMessage protocol r.message r.value) held
          request are.typed typed;
    }

-- a view has no held request where none is found
pub option_none : (o : Option Held) → option_map held_request o ≡ None → o ≡ None
option_none None e = refl
option_none (Some held) e = absurd (cc)

-- ---- the home's place, where what it holds changes

-- an idle home looks at no held request
pub idle_place : (protocol : NumberedProtocol) (k n : ℕ) (home : HomeState) (old new : List Held)
    (place : HomePlace) → is_waiting place ≡ false → IsHomePlace protocol k n home old place
    → IsHomePlace protocol k n home new place
idle_place protocol k n home old new (Idle state) idle is = record { there = is.there }
idle_place protocol k n home old new (Waits waiting) idle is = absurd (cc)

-- a home keeps its place where it holds one more request, for which there was room
pub kept_place : (protocol : NumberedProtocol) (k n : ℕ) (home : HomeState) (held : List Held)
    (request : Held) (place : HomePlace)
    → HasRoom k (length held) (is_waiting place) (completes n protocol.home home request)
    → IsHomePlace protocol k n home held place
    → IsHomePlace protocol k n home (held ++ request ∷ []) place
kept_place protocol k n home held request (Idle state) room is = record { there = is.there }
kept_place protocol k n home held request (Waits waiting) room is =
    let count = length-push held request in
    let kept_back = room.kept_back refl in
    record {
      rule = is.rule;
      there = is.there;
      passes = is.passes;
      remote = is.remote;
      target = is.target;
      message = is.message;
      sends = is.sends;
      few_held = omega arith;
      progress = λ full.
          let last : length held + 2 ≡ k = omega arith in
          list_any-push_new (completes n protocol.home home) held request (room.progress refl last);
    }

module _ (setting : Setting) (c : Config) (j : ℕ) where
  -- the view of j where a packet of j has arrived, and the home leaves this
  abbrev pub left_view : HomeOutcome → View
  left_view o =
      view_left setting.protocol c o.home o.held j
      (pair_after o.put (Some (Up j)) (links_at c.links j))

  -- What is said of all where a packet of j has arrived: what the home puts, it puts on the link of
  -- j; the part for the whole holds; of the others all is as it was; and j is in a case again.
  pub record Keeps (o : HomeOutcome) : Type 0 where
    pub put : IsPutAt j o.put
    pub whole : IsHomeWhole setting (count_of c) o.home o.held
    pub alone : (q : ℕ) → q ≢ j → LeavesAlone setting.protocol c o.home o.held q
    pub again : Case setting (left_view o)

  -- j is in a case again where it is in a phase and what is left on its up link is typed
  pub again_by : (home : HomeState) (held : List Held) → Case setting (view_at setting.protocol c j)
      → AllByRecursion (IsTypedPacket setting.protocol) (drop 1 (view_at setting.protocol c j).up)
      → IsInPhase setting (left_view (at_home home held None))
      → Case setting (left_view (at_home home held None))
  again_by home held case typed in_phase = record {
    in_phase = in_phase;
    typed = record {
      place = case.typed.place;
      vars = case.typed.vars;
      slot = case.typed.slot;
      up = typed;
      down = case.typed.down;
    };
  }

  -- where the view has no held request, none is held of j
  pub none_held : (view_at setting.protocol c j).held ≡ None → HasNone j c.held
  none_held none = has_none j c.held (option_none (first_of j c.held) none)

-- a remote that is there is one of 64
pub below_64 : (setting : Setting) (c : Config) (j : ℕ) → IsWhole setting c → j < count_of c
    → j < 64
below_64 setting c j right within = let few = right.few_remotes in omega arith

-- the first packet that comes up, and what is left
module _ (setting : Setting) (c : Config) (j : ℕ)
    (case : Case setting (view_at setting.protocol c j))
    (arrived : Packet) (first : first_packet (view_at setting.protocol c j).up ≡ Some arrived) where
  -- the packet is the first of the link
  pub comes_up : (view_at setting.protocol c j).up
      ≡ arrived ∷ drop 1 (view_at setting.protocol c j).up
  comes_up = first-rest (view_at setting.protocol c j).up arrived first

  -- the packet and what follows it are typed
  pub typed_up : AllByRecursion (IsTypedPacket setting.protocol)
      (arrived ∷ drop 1 (view_at setting.protocol c j).up)
  typed_up = subst (AllByRecursion (IsTypedPacket setting.protocol)) comes_up case.typed.up
