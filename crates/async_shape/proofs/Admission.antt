-- A shaped configuration refuses a request that completes a guard only where the slots are full and
-- some held request completes one; and a request that is dropped or displaced completes none.
use Rattle.std.proofs.Common.{◌≡◌, inl, inr, ℕ, ◌+◌, ◌≤◌, ◌==◌, Bool, true, false, not, ◌&&◌}
use Rattle.std.proofs.Common.{List, length, Option, Some, None, is_some, refl, sym, ap, subst, ◌∙◌}
use Rattle.std.proofs.Common.{arith, if◌then◌else◌}
use Rattle.std.specs.Option.{option_map_or}
use Rattle.std.proofs.lemmas.Bool.{eq-eqb, and_from}
use Rattle.std.proofs.lemmas.Option.{same_Some, none-some}
use Rattle.rv_base.proofs.Lists.{some_map, some_and_then}
use Rattle.proto_model.specs.Numbered.{NumberedProtocol}
use Rattle.proto_model.specs.declared.numbered.Value.{Value}
use Rattle.slot_reserve.specs.Admission.{free, admits}
use Rattle.slot_reserve.specs.Requests.{first_of}
use Rattle.slot_reserve.specs.declared.held.Held.{Held}
use Rattle.ordered_links.specs.Link.{Up, Down}
use Rattle.ordered_links.specs.declared.packet.Packet.TheVariants as packet
use Rattle.ordered_links.proofs.PutsAndTakes.{remote_of}
use Rattle.async_shape.specs.Setting.{Setting}
use Rattle.async_shape.specs.Config.{Config, count_of}
use Rattle.async_shape.specs.Guards.{request_of}
use Rattle.async_shape.specs.Requests.{is_waiting, completes, some_completes}
use Rattle.async_shape.specs.Outcome.{Put, HomeOutcome, put_on}
use Rattle.async_shape.specs.HomeSteps.{request_from, up_request}
use Rattle.async_shape.specs.Next.{StepOutcome, arriving, config_after, outcome, next, put_of}
use Rattle.async_shape.specs.Next.{displaced_sender, is_enabled}
use Rattle.async_shape.specs.View.{view_at}
use Rattle.async_shape.specs.Phase.{RequestGoes}
use Rattle.async_shape.specs.Shape.{IsHomePlace, IsWhole, IsShaped}
use Rattle.async_shape.specs.Admitting.{AreUsefulHeld, IsAdmitting}
use Rattle.async_shape.specs.declared.config.HomeState.{HomeState}
use Rattle.async_shape.specs.declared.config.HomePlace.{HomePlace}
use Rattle.async_shape.specs.declared.config.HomePlace.TheVariants.{Idle, Waits}
use Rattle.async_shape.specs.declared.config.Request.{Request}
use Rattle.async_shape.specs.declared.step.Step.TheVariants as step
use Rattle.slot_reserve.proofs.DisplacedOwn.{last-elsewhere}
use Rattle.slot_reserve.proofs.HeldItems.{list_any-first_of}
use Rattle.slot_reserve.proofs.AdmissionRoom.{IsFull, admits-full}
use Rattle.async_shape.proofs.ArrivalInversion.{IsRefused, Fate}
use Rattle.async_shape.proofs.StepInversion.{HomeDrop-outcome, Up-outcome}
use Rattle.async_shape.proofs.Phases.{IsIn, same_request}
use Rattle.async_shape.proofs.RequestArrives.{arrives-by}
use Rattle.async_shape.proofs.ArrivedAtHome.{option_none}
use Rattle.async_shape.proofs.Bounds.{few-waiting}
use Rattle.async_shape.proofs.ShapeParts.{IsShaped-whole}

-- ---- what is known of some part of what a step does

-- what is there
some-there : {X : Type 0} (o : Option X) → is_some o ≡ true → (x : X) × (o ≡ Some x)
some-there None is = absurd (cc)
some-there (Some x) is = (x, refl)

-- a remote is told by a nack for it
same-remote : (i j : ℕ) → put_on (Down i) packet.Nack ≡ put_on (Down j) packet.Nack → i ≡ j
same-remote i j same =
    ap (λ (o : Option Put). option_map_or (λ (put : Put). remote_of put.on) o 0) same

-- ---- the slots are full

-- Where none of k slots is free, requests are held in all of them, but for the ack slot of a home
-- that waits.
full-held : (k held : ℕ) (waits : Bool) → held ≤ k → (waits ≡ true → held + 1 ≤ k)
    → IsFull k held waits → (if waits then held + 1 else held) ≡ k
full-held k held true few few_waiting full =
    let most = few_waiting refl in
    let least = full.waits refl in
    omega arith
full-held k held false few few_waiting full = let least = full.idle refl in omega arith

-- A request that completes a guard finds none free and displaces none: some held request completes
-- a guard. A home that waits gave the progress slot to such a one; and at an idle home the request
-- would have displaced another.
some-held : (k held : ℕ) (waits does some : Bool) → (if waits then held + 1 else held) ≡ k
    → (waits ≡ true → held + 1 ≡ k → some ≡ true) → does ≡ true
    → (not waits && (held == k && (does && not some))) ≡ false → some ≡ true
some-held k held true does some full progress completes displaces = progress refl full
some-held k held false does true full progress completes displaces = refl
some-held k held false does false full progress completes displaces =
    let others : (does && true) ≡ true = and_from does true completes refl in
    let all : (held == k && (does && true)) ≡ true =
    and_from (held == k) (does && true) (eq-eqb held k full) others in
    absurd (cc)

-- of a home that waits, by its place
progress-waiting : (protocol : NumberedProtocol) (k n : ℕ) (home : HomeState) (held : List Held)
    (place : HomePlace) → IsHomePlace protocol k n home held place → is_waiting place ≡ true
    → length held + 1 ≡ k → some_completes n protocol.home home held ≡ true
progress-waiting protocol k n home held (Idle state) is waits = absurd (cc)
progress-waiting protocol k n home held (Waits waiting) is waits = is.progress

module _ (setting : Setting) (c : Config) (shaped : IsShaped setting c) where
  -- the part for the whole
  whole : IsWhole setting c
  whole = IsShaped-whole setting c shaped

  -- this request completes a guard of the home
  abbrev does_complete : Held → Bool
  does_complete request = completes (count_of c) setting.protocol.home c.home request

  -- what becomes of a request that arrives
  abbrev FateOf : Held → Type 0
  FateOf request = Fate setting (count_of c) c.home c.held request

  -- what the home does where this request arrives
  abbrev dealt_with : Held → HomeOutcome
  dealt_with request = up_request setting (count_of c) c.home c.held request

  -- where no held request completes a guard, this one doesn't
  none-first_of : (j : ℕ) (request : Held) → first_of j c.held ≡ Some request
      → some_completes (count_of c) setting.protocol.home c.home c.held ≡ false
      → does_complete request ≡ false
  none-first_of j request first none = list_any-first_of does_complete j c.held request none first

  -- ---- a request that arrives is nacked

  -- one that is refused by the rules
  refused_useful : (request : Held)
      → IsRefused setting (count_of c) c.home c.held request → does_complete request ≡ true
      → AreUsefulHeld setting c
  refused_useful request refused does =
      let n = count_of c in
      let held = length c.held in
      let waits = is_waiting c.home.place in
      let none_free =
      admits-full setting.slots held waits
      (ap (admits (free setting.slots held waits)) (sym does) ∙ refused.not_admitted) in
      let full =
      full-held setting.slots held waits whole.held.few
      (few-waiting setting.protocol setting.slots n c.home c.held c.home.place whole.home)
      none_free in
      record {
        full = full;
        some =
            some-held setting.slots held waits (does_complete request)
            (some_completes n setting.protocol.home c.home c.held) full
            (progress-waiting setting.protocol setting.slots n c.home c.held c.home.place
            whole.home)
            does refused.no_displacement;
      }

  -- one of j, by what becomes of it
  nacked_useful : (j : ℕ) (q : Request)
      → IsIn setting (view_at setting.protocol c j) (RequestGoes q)
      → (dealt_with (request_from j q.message q.value)).put ≡ put_on (Down j) packet.Nack
      → does_complete (request_from j q.message q.value) ≡ true
      → FateOf (request_from j q.message q.value) → AreUsefulHeld setting c
  nacked_useful j q goes nacks does (inl kept) =
      absurd (none-some _ (sym (ap (λ (o : HomeOutcome). o.put) kept.outcome) ∙ nacks))
  nacked_useful j q goes nacks does (inr (inl displacing)) =
      let last = displacing.last in
      let same =
      same-remote last.from j
      (sym (ap (λ (o : HomeOutcome). o.put) displacing.outcome) ∙ nacks) in
      absurd
      (last-elsewhere j c.held last displacing.there whole.held.one_of_each
      (option_none (first_of j c.held) goes.has.held) same)
  nacked_useful j q goes nacks does (inr (inr refused)) =
      refused_useful (request_from j q.message q.value) refused does

  -- one that is the first on the up link of j
  arriving-useful : (j m : ℕ) (v : Value) → arriving c (Up j) ≡ Some (packet.Request m v)
      → put_of setting c (step.Up j) ≡ put_on (Down j) packet.Nack
      → does_complete (request_from j m v) ≡ true → AreUsefulHeld setting c
  arriving-useful j m v comes put does =
      let of =
      some_and_then (λ (o : StepOutcome). o.put) (outcome setting c (step.Up j))
      (record { on = Down j; packet = packet.Nack }) put in
      let at = Up-outcome setting c j of.0 of.1 in
      let is = at.1.is in
      let nacks : at.1.left.put ≡ put_on (Down j) packet.Nack =
      ap (λ (o : StepOutcome). o.put) (sym at.1.outcome) ∙ of.2 in
      let arrived : is.arrived ≡ packet.Request m v =
      same_Some is.arrived (packet.Request m v) (sym is.first ∙ comes) in
      elim (arrives-by setting c shaped j at.0 at.1.left is) [
        | inl answers ↦
            absurd
            (none-some _ (sym (ap (λ (o : HomeOutcome). o.put) answers.outcome) ∙ nacks))
        | inr requests ↦
            let same : requests.q ≡ request_of (m, v) =
            same_request requests.q (request_of (m, v)) (sym requests.arrives ∙ arrived) in
            nacked_useful j requests.q requests.goes
            (sym (ap (λ (o : HomeOutcome). o.put) requests.outcome) ∙ nacks)
            (subst (λ (r : Request). does_complete (request_from j r.message r.value) ≡ true)
            (sym same) does)
            requests.fate
      ]

  -- ---- a held request is dropped, or makes room

  -- one that may be dropped completes no guard
  dropped-useless : (j : ℕ) (request : Held) → first_of j c.held ≡ Some request
      → is_enabled setting c (step.HomeDrop j) ≡ true → does_complete request ≡ false
  dropped-useless j request first enabled =
      let after = some-there (next setting c (step.HomeDrop j)) enabled in
      let by = some_map (config_after c) (outcome setting c (step.HomeDrop j)) after.0 after.1 in
      let at = HomeDrop-outcome setting c j by.0 by.1 in
      none-first_of j request first at.1.is.none_completes

  -- where the request that arrives displaces one, no held request completes a guard
  displacing_none : (i : ℕ) (request : Held) → (dealt_with request).displaced_from ≡ Some i
      → FateOf request → some_completes (count_of c) setting.protocol.home c.home c.held ≡ false
  displacing_none i request displaces (inl kept) =
      absurd
      (none-some i (sym (ap (λ (o : HomeOutcome). o.displaced_from) kept.outcome) ∙ displaces))
  displacing_none i request displaces (inr (inl displacing)) = displacing.none_completes
  displacing_none i request displaces (inr (inr refused)) =
      absurd
      (none-some i (sym (ap (λ (o : HomeOutcome). o.displaced_from) refused.outcome) ∙ displaces))

  -- one that makes room completes no guard
  displaced-useless : (i j : ℕ) (request : Held) → first_of i c.held ≡ Some request
      → displaced_sender setting c (step.Up j) ≡ Some i → does_complete request ≡ false
  displaced-useless i j request first displaces =
      let of =
      some_and_then (λ (o : StepOutcome). o.displaced_from) (outcome setting c (step.Up j)) i
      displaces in
      let at = Up-outcome setting c j of.0 of.1 in
      let from : at.1.left.displaced_from ≡ Some i =
      ap (λ (o : StepOutcome). o.displaced_from) (sym at.1.outcome) ∙ of.2 in
      elim (arrives-by setting c shaped j at.0 at.1.left at.1.is) [
        | inl answers ↦
            absurd
            (none-some i
            (sym (ap (λ (o : HomeOutcome). o.displaced_from) answers.outcome) ∙ from))
        | inr requests ↦
            none-first_of i request first
            (displacing_none i (request_from j requests.q.message requests.q.value)
            (sym (ap (λ (o : HomeOutcome). o.displaced_from) requests.outcome) ∙ from)
            requests.fate)
      ]

-- what has the shape refuses by the rules
pub shaped-admitting : (setting : Setting) (c : Config) → IsShaped setting c
    → IsAdmitting setting c
shaped-admitting setting c shaped = record {
  arriving = arriving-useful setting c shaped;
  dropped = dropped-useless setting c shaped;
  displaced = displaced-useless setting c shaped;
}
