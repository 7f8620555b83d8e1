-- A shaped configuration stands for a configuration of the rendezvous meaning: each process stands
-- in one of its states, with each variable of its type.
use Rattle.std.proofs.Common.{◌≡◌, ℕ, ◌<◌, ◌≤◌, ◌==◌, Option, Some, unwrap_or, slice_get, refl, sym}
use Rattle.std.proofs.Common.{ap, subst, arith, ◌∙◌}
use Rattle.std.proofs.lemmas.Option.{same_Some, slice_get_within}
use Rattle.rv_base.proofs.Lists.{AllByRecursion-from_at}
use Rattle.proto_model.specs.Numbered.{NumberedProtocol}
use Rattle.proto_model.specs.Proper.{IsProper}
use Rattle.proto_model.specs.Guards.{part}
use Rattle.proto_model.specs.Rendezvous.{IsPartOf, IsConfigOf}
use Rattle.proto_model.specs.declared.numbered.Value.{Value}
use Rattle.proto_model.specs.declared.numbered.Body.{Body}
use Rattle.proto_model.specs.declared.rendezvous.Part.{Part}
use Rattle.controller_table.specs.declared.rows.GuardId.{GuardId}
use Rattle.controller_table.specs.declared.rows.Place.{Place}
use Rattle.controller_table.specs.declared.rows.Place.TheVariants.{Comm, Trans, Due}
use Rattle.async_shape.specs.Setting.{Setting, reply_to}
use Rattle.async_shape.specs.Config.{Config, count_of}
use Rattle.async_shape.specs.Guards.{request_of, request_by, after_ack, after_reply}
use Rattle.async_shape.specs.View.{View, awaited_at, view_at}
use Rattle.async_shape.specs.Phase.{waits_at, IsRemotePlace, Case}
use Rattle.async_shape.specs.Shape.{IsIdleHome, IsWaitingHome, IsHomePlace, IsWhole, IsShaped}
use Rattle.async_shape.specs.declared.config.HomeState.{HomeState}
use Rattle.async_shape.specs.declared.config.HomePlace.{HomePlace}
use Rattle.async_shape.specs.declared.config.HomePlace.TheVariants.{Idle, Waits}
use Rattle.async_shape.specs.declared.config.Waiting.{Waiting}
use Rattle.async_shape.specs.declared.config.Request.{Request}
use Rattle.proto_model.proofs.ProperFacts.{home_guard, remote_guard, home_guard-gives}
use Rattle.proto_model.proofs.ProperFacts.{remote_guard-gives, message_out-output}
use Rattle.async_shape.proofs.ShapeParts.{IsShaped-whole, IsShaped-case}
use Rattle.async_shape.proofs.GuardsFound.{when_some}
use Rattle.async_shape.proofs.Places.{IsActiveGuard-there}
use Rattle.async_shape.proofs.Completed.{IsPart, request_by-some, home-acked, remote-acked}
use Rattle.async_shape.proofs.Completed.{home-replied, remote-replied}
use Rattle.abstraction_map.specs.Abstraction.{Fate, NotGranted, Granted, Replied, remote_fate}
use Rattle.abstraction_map.specs.Abstraction.{awaited_fate, waiting_part, part_in_view, abstraction}
use Rattle.abstraction_map.proofs.RepliesUnderWay.{remote-replied_to, home-replied_to}
use Rattle.abstraction_map.proofs.ByCase.{part-idle, part-due, part-waiting, home_stands}
use Rattle.abstraction_map.proofs.ByCase.{remote_stands, home-idle, home-waiting}
use Rattle.abstraction_map.proofs.Frames.{parts_of, parts-count, parts-at}

-- the part of a process that waits, where what it hears leads there
heard-part : (body : Body) (p after : Part) (heard : Option Part) → heard ≡ Some after
    → IsPart body after → IsPart body (unwrap_or heard p)
heard-part body p after heard is part =
    subst (IsPart body) (sym (ap (λ (o : Option Part). unwrap_or o p) is)) part

-- the reply of a message, as the request of it says
reply-asked : (setting : Setting) (q : Request) (message : ℕ × Value) (p : ℕ)
    → q ≡ request_of message → reply_to setting q.message ≡ Some p
    → reply_to setting message.0 ≡ Some p
reply-asked setting q message p is reply =
    ap (λ (r : Request). reply_to setting r.message) (sym is) ∙ reply

-- ---- a remote

module _ (setting : Setting) (proper : IsProper setting.protocol) (v : View)
    (case : Case setting v) where
  -- the body of a remote
  abbrev body : Body
  body = setting.protocol.remote

  -- where a remote stands that waits by this guard
  waiting-typed : (g : GuardId) (fate : Fate) → v.remote.place ≡ Trans g → remote_fate v ≡ fate
      → IsPart body (waiting_part body v.remote.vars g 0 fate)
  waiting-typed g NotGranted waits became =
      let protocol = setting.protocol in
      let by =
      IsActiveGuard-there protocol g (subst (IsRemotePlace protocol) waits case.typed.place) in
      record {
        within = (remote_guard protocol g.state g.guard by.0 proper by.1).within;
        kinds = case.typed.vars;
      }
  waiting-typed g Granted waits became =
      let protocol = setting.protocol in
      let by =
      IsActiveGuard-there protocol g (subst (IsRemotePlace protocol) waits case.typed.place) in
      let below : 0 < 64 = omega arith in
      let acked =
      remote-acked protocol proper g by.0 v.remote.vars 0 by.1 by.2 case.typed.vars below in
      heard-part body (part g.state v.remote.vars) acked.after (after_ack body v.remote.vars g 0)
      acked.acked acked.part
  waiting-typed g (Replied w) waits became =
      let protocol = setting.protocol in
      let replied = remote-replied_to setting v case w became in
      let q = replied.0 in
      let by =
      request_by-some protocol.messages body v.remote.vars g q
      (subst (λ (place : Place). waits_at protocol v.remote.vars place ≡ Some q) waits replied.1) in
      let sent =
      remote_guard-gives protocol g.state g.guard by.rule v.remote.vars proper by.message by.there
      case.typed.vars by.gives in
      let reply =
      reply-asked setting q by.message replied.2.p by.request replied.2.reply in
      let below : 0 < 64 = omega arith in
      let after =
      remote-replied setting proper g by.rule by.message.0 replied.2.p reply w replied.2.typed.value
      v.remote.vars 0 by.there sent.out case.typed.vars below in
      heard-part body (part g.state v.remote.vars) after.after
      (after_reply body v.remote.vars g 0 w) after.replied after.part

  -- a remote stands where its place says
  remote-typed : (place : Place) → v.remote.place ≡ place → IsPart body (part_in_view body v)
  remote-typed (Comm state) at =
      subst (IsPart body) (sym (part-idle body v state at))
      (record {
        within = subst (IsRemotePlace setting.protocol) at case.typed.place;
        kinds = case.typed.vars;
      })
  remote-typed (Due g) at =
      let protocol = setting.protocol in
      let by =
      IsActiveGuard-there protocol g (subst (IsRemotePlace protocol) at case.typed.place) in
      subst (IsPart body) (sym (part-due body v g at))
      (record {
        within = (remote_guard protocol g.state g.guard by.0 proper by.1).within;
        kinds = case.typed.vars;
      })
  remote-typed (Trans g) at =
      subst (IsPart body) (sym (part-waiting body v g (remote_fate v) at refl))
      (waiting-typed g (remote_fate v) at refl)

-- ---- the home

-- the request that the home waits to be answered is that of the guard by which it waits
asked-by : (protocol : NumberedProtocol) (home : HomeState) (waiting : Waiting) (r : Request)
    → home.place ≡ Waits waiting → awaited_at protocol home home.place waiting.on ≡ Some r
    → request_by protocol.messages protocol.home home.vars waiting.by ≡ Some r
asked-by protocol home waiting r waits awaits =
    let asks =
    subst (λ (place : HomePlace). awaited_at protocol home place waiting.on ≡ Some r) waits
    awaits in
    (when_some (waiting.on == waiting.on)
    (request_by protocol.messages protocol.home home.vars waiting.by) r asks).1

module _ (setting : Setting) (proper : IsProper setting.protocol) (c : Config)
    (shaped : IsShaped setting c) where
  -- the part for the whole
  whole : IsWhole setting c
  whole = IsShaped-whole setting c shaped

  -- the body of the home
  abbrev home_body : Body
  home_body = setting.protocol.home

  -- how the home waits, where it does
  waits-so : (waiting : Waiting) → c.home.place ≡ Waits waiting
      → IsWaitingHome setting.protocol setting.slots (count_of c) c.home c.held waiting
  waits-so waiting waits =
      subst (IsHomePlace setting.protocol setting.slots (count_of c) c.home c.held) waits whole.home

  -- a remote that is there is one of 64
  below-64 : (j : ℕ) → j < count_of c → j < 64
  below-64 j within = let few = whole.few_remotes in omega arith

  -- where a home stands that waits so, by what became of its request
  home_waiting-typed : (waiting : Waiting) (fate : Fate) → c.home.place ≡ Waits waiting
      → awaited_fate (view_at setting.protocol c waiting.on) ≡ fate
      → IsPart home_body
      (waiting_part home_body c.home.vars waiting.by waiting.on fate)
  home_waiting-typed waiting NotGranted waits became =
      let is = waits-so waiting waits in
      record {
        within =
            (home_guard setting.protocol waiting.by.state waiting.by.guard is.rule proper
            is.there).within;
        kinds = whole.home_vars;
      }
  home_waiting-typed waiting Granted waits became =
      let protocol = setting.protocol in
      let by = waiting.by in
      let is = waits-so waiting waits in
      let sent =
      home_guard-gives protocol by.state by.guard is.rule c.home.vars proper
      (is.message, waiting.sent) is.there whole.home_vars is.sends in
      let acked =
      home-acked protocol proper by is.rule c.home.vars waiting.on is.there
      (message_out-output is.rule.kind is.message sent.out) whole.home_vars
      (below-64 waiting.on is.remote) in
      heard-part home_body (part by.state c.home.vars) acked.after
      (after_ack home_body c.home.vars by waiting.on) acked.acked acked.part
  home_waiting-typed waiting (Replied w) waits became =
      let protocol = setting.protocol in
      let by = waiting.by in
      let is = waits-so waiting waits in
      let v = view_at protocol c waiting.on in
      let case = IsShaped-case setting c shaped waiting.on is.remote in
      let replied = home-replied_to setting v case w became in
      let r = replied.0 in
      let asks = asked-by protocol c.home waiting r waits replied.1 in
      let of = request_by-some protocol.messages home_body c.home.vars by r asks in
      let sent =
      home_guard-gives protocol by.state by.guard of.rule c.home.vars proper of.message of.there
      whole.home_vars of.gives in
      let reply = reply-asked setting r of.message replied.2.p of.request replied.2.reply in
      let after =
      home-replied setting proper by of.rule of.message.0 replied.2.p reply w replied.2.typed.value
      c.home.vars waiting.on of.there sent.out whole.home_vars (below-64 waiting.on is.remote) in
      heard-part home_body (part by.state c.home.vars) after.after
      (after_reply home_body c.home.vars by waiting.on w) after.replied after.part

  -- the home stands where its place says
  home-typed : (place : HomePlace) → c.home.place ≡ place
      → IsPart home_body (home_stands setting.protocol c)
  home-typed (Idle state) at =
      let is : IsIdleHome setting.protocol state =
      subst (IsHomePlace setting.protocol setting.slots (count_of c) c.home c.held) at whole.home in
      subst (IsPart home_body) (sym (home-idle setting.protocol c state at))
      (record { within = is.there; kinds = whole.home_vars })
  home-typed (Waits waiting) at =
      let fate = awaited_fate (view_at setting.protocol c waiting.on) in
      subst (IsPart home_body)
      (sym (home-waiting setting.protocol c waiting.on waiting fate at refl refl))
      (home_waiting-typed waiting fate at refl)

  -- ---- the whole

  -- where each remote stands
  abbrev stands : ℕ → Part
  stands = remote_stands setting.protocol c

  -- each remote stands where a remote can
  remotes-typed : (j : ℕ) (p : Part) → slice_get (parts_of (count_of c) stands) j ≡ Some p
      → IsPartOf setting.protocol.remote p
  remotes-typed j p at =
      let all = parts_of (count_of c) stands in
      let within : j < count_of c =
      subst (λ (n : ℕ). j < n) (parts-count (count_of c) stands) (slice_get_within all j p at) in
      let same : stands j ≡ p =
      same_Some (stands j) p (sym (parts-at (count_of c) stands j within) ∙ at) in
      let v = view_at setting.protocol c j in
      let is =
      remote-typed setting proper v (IsShaped-case setting c shaped j within) v.remote.place refl in
      subst (IsPartOf setting.protocol.remote) same
      (record { state = is.within; vars = is.kinds })

  -- The abstraction is a configuration of the protocol.
  pub shaped-config : IsConfigOf setting.protocol (abstraction setting.protocol c)
  shaped-config =
      let all = parts_of (count_of c) stands in
      let count = sym (parts-count (count_of c) stands) in
      let is = home-typed c.home.place refl in
      record {
        home = record { state = is.within; vars = is.kinds };
        remotes =
            AllByRecursion-from_at (IsPartOf setting.protocol.remote) all remotes-typed;
        some_remotes = subst (λ (n : ℕ). 1 ≤ n) count whole.some_remotes;
        few_remotes = subst (λ (n : ℕ). n ≤ 64) count whole.few_remotes;
      }
