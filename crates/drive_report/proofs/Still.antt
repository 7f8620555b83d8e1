-- Where no step of a shaped configuration is enabled, no event takes place in what it stands for.
use Rattle.std.proofs.Common.{◌≡◌, ℕ, zero, suc, ◌<◌, true, false, List, [], ◌∷◌}
use Rattle.std.proofs.Common.{Some, None, slice_get, sym, ap, subst, ◌∙◌, refl}
use Rattle.std.proofs.lemmas.Bool.{eq-eqb, lt-ltb}
use Rattle.std.proofs.lemmas.Option.{none-some, same_Some, slice_get_within}
use Rattle.rv_base.proofs.Lists.{some_map}
use Rattle.proto_model.specs.Proper.{IsProper}
use Rattle.proto_model.specs.Guards.{part, guards_of, guard_at}
use Rattle.proto_model.specs.Values.{is_open, may_meet, sends}
use Rattle.proto_model.specs.ValueTypes.{message_in, message_out}
use Rattle.proto_model.specs.Rendezvous.{TakesTau, TauHomeStep, TauRemoteStep, UpStep}
use Rattle.proto_model.specs.Rendezvous.{DownStep}
use Rattle.proto_model.specs.declared.numbered.Side.TheVariants as side
use Rattle.proto_model.specs.declared.numbered.Value.{Value}
use Rattle.proto_model.specs.declared.numbered.RuleKind.{RuleKind}
use Rattle.proto_model.specs.declared.numbered.RuleKind.TheVariants as action
use Rattle.proto_model.specs.declared.numbered.Rule.{Rule}
use Rattle.proto_model.specs.declared.numbered.Body.{Body}
use Rattle.proto_model.specs.declared.rendezvous.Part.{Part}
use Rattle.proto_model.specs.declared.rendezvous.RvConfig.{RvConfig}
use Rattle.proto_model.specs.declared.rendezvous.Event.TheVariants as event
use Rattle.proto_model.proofs.ProperFacts.{active-only, message_out-output, remote_output-awaits}
use Rattle.controller_table.specs.declared.rows.Place.TheVariants.{Comm}
use Rattle.slot_reserve.specs.Requests.{first_of}
use Rattle.slot_reserve.proofs.HeldAfter.{first_of-sender}
use Rattle.slot_reserve.proofs.HeldItems.{list_any-first_of}
use Rattle.async_shape.specs.Setting.{Setting}
use Rattle.async_shape.specs.Config.{Config, count_of}
use Rattle.async_shape.specs.Requests.{completes_guard, completes}
use Rattle.async_shape.specs.Next.{is_enabled}
use Rattle.async_shape.specs.View.{held_request, view_at}
use Rattle.async_shape.specs.Phase.{RequestIsHeld, ReplyIsOwed}
use Rattle.async_shape.specs.Shape.{IsShaped}
use Rattle.async_shape.specs.declared.config.HomePlace.TheVariants.{Idle}
use Rattle.async_shape.specs.declared.config.Request.{Request}
use Rattle.async_shape.specs.declared.step.Step.TheVariants as step
use Rattle.async_shape.proofs.GuardsFound.{guards_of-at}
use Rattle.async_shape.proofs.Phases.{IsIn}
use Rattle.async_shape.proofs.ShapeParts.{IsShaped-case}
use Rattle.abstraction_map.specs.Abstraction.{abstraction}
use Rattle.abstraction_map.proofs.ByCase.{remote_stands, home-idle, part-idle}
use Rattle.abstraction_map.proofs.ByCase.{part-in_phase, waiting_part-granted}
use Rattle.abstraction_map.proofs.Frames.{parts_of, parts-count, parts-at}
use Rattle.abstraction_map.proofs.WaitingRemote.{waits-to_give}
use Rattle.drive_report.specs.Ready.{ready_list, IsStill}
use Rattle.drive_report.proofs.NoneReady.{NoneEnabled, none-enabled, guard-few}
use Rattle.drive_report.proofs.EnabledByKind.{HomeTau-enabled, RemoteTau-enabled}
use Rattle.drive_report.proofs.Doing.{given-there, active_guard-one, home_tau-does, completes-by}
use Rattle.drive_report.proofs.Doing.{remote_tau-does}
use Rattle.drive_report.proofs.StillRemotes.{StillPhase, StillRests, StillHeld, StillOwed}
use Rattle.drive_report.proofs.StillRemotes.{idle-state, remote-there, not-active, still-phase}
use Rattle.drive_report.proofs.StillHome.{still-idle, none-completes, not-owed, target-owed}

-- ---- guards

-- a state's one guard is the one that is found there
one-guard : (body : Body) (state g : ℕ) (only rule : Rule) → guards_of body state ≡ only ∷ []
    → guard_at body state g ≡ Some rule → only ≡ rule
one-guard body state g only rule one there =
    at g (ap (λ (rules : List Rule). slice_get rules g) (sym one) ∙ guards_of-at body state g
    ∙ there)
  where
    at : (i : ℕ) → slice_get (only ∷ []) i ≡ Some rule → only ≡ rule
    at zero is = same_Some only rule is
    at (suc i) is = absurd (cc)

-- a local step gives and takes nothing
tau-gives_none : (kind : RuleKind) (m : ℕ) → kind ≡ action.Tau → message_out kind ≡ Some m → ⊥
tau-gives_none kind m tau out = none-some m (sym (ap message_out tau) ∙ out)

tau-takes_none : (kind : RuleKind) (m : ℕ) → kind ≡ action.Tau → message_in kind ≡ Some m → ⊥
tau-takes_none kind m tau takes = none-some m (sym (ap message_in tau) ∙ takes)

-- no guard both gives and takes
gives-takes : (kind : RuleKind) (m p : ℕ) → message_out kind ≡ Some m → message_in kind ≡ Some p → ⊥
gives-takes action.Tau m p out takes = none-some m out
gives-takes (action.Input q n bound) m p out takes = none-some m out
gives-takes (action.Output q n sent) m p out takes = none-some p takes

module _ (setting : Setting) (proper : IsProper setting.protocol) (c : Config)
    (shaped : IsShaped setting c) (none : NoneEnabled setting c) where
  -- ---- what a remote may do there

  -- A remote that is in the abstraction is there, and stands as its view says.
  stands-there : (j : ℕ) (remote : Part)
      → slice_get (abstraction setting.protocol c).remotes j ≡ Some remote
      → (j < count_of c) × (remote_stands setting.protocol c j ≡ remote)
  stands-there j remote there =
      let n = count_of c in
      let stands = remote_stands setting.protocol c in
      let within : j < n =
      subst (λ (k : ℕ). j < k) (parts-count n stands)
      (slice_get_within (parts_of n stands) j remote there) in
      (within, same_Some (stands j) remote (sym (parts-at n stands j within) ∙ there))

  -- of a remote, and of a guard of the state in which it stands there
  module _ (j r : ℕ) (rule : Rule) (within : j < count_of c)
      (there : guard_at setting.protocol.remote (remote_stands setting.protocol c j).state r
      ≡ Some rule) where
    -- Where its request is held, the guard gives this request.
    held-offers : (q : Request) → IsIn setting (view_at setting.protocol c j) (RequestIsHeld q None)
        → message_out rule.kind ≡ Some q.message
    held-offers q is =
        let protocol = setting.protocol in
        let v = view_at protocol c j in
        let w =
        waits-to_give protocol v q proper (IsShaped-case setting c shaped j within).typed
        is.fits.0 in
        let at : guard_at protocol.remote w.guard.state r ≡ Some rule =
        subst (λ (p : Part). guard_at protocol.remote p.state r ≡ Some rule)
        (part-in_phase setting v (RequestIsHeld q None) w.guard is w.waits) there in
        let one =
        active-only protocol w.guard.state 0 w.rule proper w.first
        (message_out-output w.rule.kind q.message w.out) in
        subst (λ (x : Rule). message_out x.kind ≡ Some q.message)
        (one-guard protocol.remote w.guard.state r w.rule rule one.guards at) w.out

    -- Where a reply is owed to it, the guard takes this reply.
    owed-offers : (q : Request) (p : ℕ)
        → IsIn setting (view_at setting.protocol c j) (ReplyIsOwed q None p)
        → message_in rule.kind ≡ Some p
    owed-offers q p is =
        let protocol = setting.protocol in
        let v = view_at protocol c j in
        let w =
        waits-to_give protocol v q proper (IsShaped-case setting c shaped j within).typed
        is.fits.0 in
        let at : guard_at protocol.remote w.rule.next r ≡ Some rule =
        subst (λ (p : Part). guard_at protocol.remote p.state r ≡ Some rule)
        (part-in_phase setting v (ReplyIsOwed q None p) w.guard is w.waits
        ∙ waiting_part-granted protocol.remote v.remote.vars w.guard 0 w.rule w.there) there in
        let awaits =
        remote_output-awaits protocol setting.mode w.guard.state w.guard.guard w.rule q.message p
        proper is.fits.2 w.there w.out in
        subst (λ (x : Rule). message_in x.kind ≡ Some p)
        (one-guard protocol.remote w.rule.next r awaits.next rule awaits.one.guards at)
        awaits.free.input

    -- the state in which an idle remote stands, there too
    idle-stands : (state : ℕ) → (view_at setting.protocol c j).remote.place ≡ Comm state
        → guard_at setting.protocol.remote state r ≡ Some rule
    idle-stands state idle =
        subst (λ (p : Part). guard_at setting.protocol.remote p.state r ≡ Some rule)
        (part-idle setting.protocol.remote (view_at setting.protocol c j) state idle) there

    -- The guard is no open local step.
    no-tau : rule.kind ≡ action.Tau
        → is_open (remote_stands setting.protocol c j).vars rule ≡ true → ⊥
    no-tau tau passes = by (still-phase setting proper c none j within shaped)
      where
        by : StillPhase setting (view_at setting.protocol c j) → ⊥
        by (StillHeld q is) = tau-gives_none rule.kind q.message tau (held-offers q is)
        by (StillOwed q p is) = tau-takes_none rule.kind p tau (owed-offers q p is)
        by (StillRests is) =
            let protocol = setting.protocol in
            let v = view_at protocol c j in
            let at = idle-state v.remote.place is.fits in
            let here = idle-stands at.0 at.1 in
            let opens : is_open v.remote.vars rule ≡ true =
            subst (λ (p : Part). is_open p.vars rule ≡ true)
            (part-idle protocol.remote v at.0 at.1) passes in
            let enabled : is_enabled setting c (step.RemoteTau j r) ≡ true =
            RemoteTau-enabled setting c j v.remote (remote-there setting proper c none j within) r
            ∙ remote_tau-does setting j v.remote at.0 at.1 r rule here tau opens in
            let few =
            guard-few side.Remote protocol.messages protocol.remote at.0 r rule proper.remote
            here in
            let not = none.none (step.RemoteTau j r) (within, few) in
            cc

    -- Where the guard gives a message, a request for it is held.
    held-gives : (m : ℕ) → message_out rule.kind ≡ Some m
        → (q : Request) × (m ≡ q.message)
        × IsIn setting (view_at setting.protocol c j) (RequestIsHeld q None)
    held-gives m out = by (still-phase setting proper c none j within shaped)
      where
        by : StillPhase setting (view_at setting.protocol c j)
            → (q : Request) × (m ≡ q.message)
            × IsIn setting (view_at setting.protocol c j) (RequestIsHeld q None)
        by (StillHeld q is) = (q, same_Some m q.message (sym out ∙ held-offers q is), is)
        by (StillOwed q p is) = absurd (gives-takes rule.kind m p out (owed-offers q p is))
        by (StillRests is) =
            let v = view_at setting.protocol c j in
            let at = idle-state v.remote.place is.fits in
            let output = message_out-output rule.kind m out in
            let only =
            active-only setting.protocol at.0 r rule proper (idle-stands at.0 at.1) output in
            let active =
            active_guard-one (guards_of setting.protocol.remote at.0) rule only.guards output in
            absurd (none-some (record { number = 0; rule = rule })
            (sym (not-active setting proper c none j within at.0 at.1) ∙ active))

  -- ---- no event

  no-tau_home : (state g : ℕ) (next : RvConfig) → c.home.place ≡ Idle state
      → TauHomeStep setting.protocol (abstraction setting.protocol c) g next → ⊥
  no-tau_home state g next idle moved =
      let body = setting.protocol.home in
      let at : TakesTau body (part state c.home.vars) g moved.rule =
      subst (λ (p : Part). TakesTau body p g moved.rule) (home-idle setting.protocol c state idle)
      moved.takes in
      let enabled : is_enabled setting c (step.HomeTau g) ≡ true =
      HomeTau-enabled setting c g
      ∙ home_tau-does setting (count_of c) c.home c.held state idle g moved.rule at.there at.tau
      at.passes in
      let few =
      guard-few side.Home setting.protocol.messages body state g moved.rule proper.home at.there in
      let not = none.none (step.HomeTau g) few in
      cc

  no-tau_remote : (j g : ℕ) (next : RvConfig)
      → TauRemoteStep setting.protocol (abstraction setting.protocol c) j g next → ⊥
  no-tau_remote j g next moved =
      let at = stands-there j moved.remote moved.there in
      let takes : TakesTau setting.protocol.remote (remote_stands setting.protocol c j) g moved.rule
      =
      subst (λ (p : Part). TakesTau setting.protocol.remote p g moved.rule) (sym at.1)
      moved.takes in
      no-tau j g moved.rule at.0 takes.there takes.tau takes.passes

  no-up : (state j h r : ℕ) (next : RvConfig) → c.home.place ≡ Idle state
      → UpStep setting.protocol (abstraction setting.protocol c) j h r next → ⊥
  no-up state j h r next idle moved =
      let protocol = setting.protocol in
      let n = count_of c in
      let vars = c.home.vars in
      let input = moved.input in
      let at = stands-there j moved.remote moved.there in
      let gives =
      subst (λ (p : Part). guard_at protocol.remote p.state r ≡ Some moved.output) (sym at.1)
      moved.gives in
      let place = moved.meets.place in
      let of = held-gives j r moved.output at.0 gives place moved.meets.sent in
      let by = some_map held_request (first_of j c.held) of.0 of.2.has.held in
      let request = by.0 in
      let message : place ≡ request.message =
      of.1 ∙ sym (ap (λ (q : Request). q.message) by.2) in
      let home = home-idle protocol c state idle in
      let here : guard_at protocol.home state h ≡ Some input =
      subst (λ (p : Part). guard_at protocol.home p.state h ≡ Some input) home moved.takes in
      let passes : is_open vars input ≡ true =
      subst (λ (p : Part). is_open p.vars input ≡ true) home moved.passes in
      let target : may_meet vars input.kind j ≡ true =
      subst (λ (p : Part). may_meet p.vars input.kind j ≡ true) home moved.target in
      let sender : request.from ≡ j = first_of-sender j c.held request by.1 in
      let completing : completes_guard n vars request input ≡ true =
      rw (
        moved.meets.received,
        eq-eqb place request.message message,
        passes,
        sender,
        lt-ltb j n at.0,
        target,
      ) refl in
      let able : completes n protocol.home c.home request ≡ true =
      completes-by setting n c.home c.held state idle request h input here completing in
      let not : completes n protocol.home c.home request ≡ false =
      list_any-first_of (completes n protocol.home c.home) j c.held request
      (none-completes setting proper c shaped none state idle) by.1 in
      cc

  no-down : (state j h r : ℕ) (next : RvConfig) → c.home.place ≡ Idle state
      → DownStep setting.protocol (abstraction setting.protocol c) j h r next → ⊥
  no-down state j h r next idle moved =
      let protocol = setting.protocol in
      let vars = c.home.vars in
      let output = moved.output in
      let at = stands-there j moved.remote moved.there in
      let takes =
      subst (λ (p : Part). guard_at protocol.remote p.state r ≡ Some moved.input) (sym at.1)
      moved.takes in
      let place = moved.meets.place in
      let home = home-idle protocol c state idle in
      let here : guard_at protocol.home state h ≡ Some output =
      subst (λ (p : Part). guard_at protocol.home p.state h ≡ Some output) home moved.gives in
      let passes : is_open vars output ≡ true =
      subst (λ (p : Part). is_open p.vars output ≡ true) home moved.output_passes in
      let target : may_meet vars output.kind j ≡ true =
      subst (λ (p : Part). may_meet p.vars output.kind j ≡ true) home moved.target in
      let message : ℕ × Value = (place, sends vars output.kind moved.message.carries) in
      let gives =
      given-there protocol.messages vars output place moved.message moved.meets.sent
      moved.meets.there in
      let owed =
      target-owed setting proper c shaped none state idle h j output message at.0 here gives passes
      target in
      let same : owed.1 ≡ place =
      same_Some owed.1 place
      (sym (owed-offers j r moved.input at.0 takes owed.0 owed.1 owed.2) ∙ moved.meets.received) in
      not-owed setting proper c shaped none state idle h j output message at.0 here gives passes
      target (owed.2.has.owed ∙ ap (λ (m : ℕ). Some m) same)

  no-event : (state : ℕ) → c.home.place ≡ Idle state
      → IsStill setting.protocol (abstraction setting.protocol c)
  no-event state idle (event.TauHome g) next moved = no-tau_home state g next idle moved
  no-event state idle (event.TauRemote j g) next moved = no-tau_remote j g next moved
  no-event state idle (event.Up j h r) next moved = no-up state j h r next idle moved
  no-event state idle (event.Down j h r) next moved = no-down state j h r next idle moved

-- Where the ready list of a shaped configuration is empty, no event takes place in what it stands
-- for.
pub shaped-still : (setting : Setting) → IsProper setting.protocol → (c : Config)
    → IsShaped setting c → ready_list setting c ≡ []
    → IsStill setting.protocol (abstraction setting.protocol c)
shaped-still setting proper c shaped empty =
    let none = none-enabled setting c empty in
    let at = still-idle setting proper c shaped none in
    no-event setting proper c shaped none at.0 at.1
