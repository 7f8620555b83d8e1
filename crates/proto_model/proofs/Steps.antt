-- The rendezvous step is the computed one: an event leads from a configuration to at most one
-- other.
use Rattle.std.proofs.Common.{◌≡◌, ℕ, Bool, true, false, ◌&&◌, ◌==◌, cond, List, Option, Some, None}
use Rattle.std.proofs.Common.{slice_get, slice_set, refl, sym, ap, subst, ◌∙◌}
use Rattle.std.specs.Option.{option_map, option_map_or, option_and_then}
use Rattle.std.proofs.lemmas.Bool.{and_parts, and_from, eqb-true, eq-eqb}
use Rattle.rv_base.proofs.Lists.{some_map, some_and_then}
use Rattle.proto_model.specs.Numbered.{NumberedProtocol}
use Rattle.proto_model.specs.Values.{is_open, may_meet, sends}
use Rattle.proto_model.specs.ValueTypes.{message_in, message_out}
use Rattle.proto_model.specs.Guards.{guard_at, after_guard}
use Rattle.proto_model.specs.Rendezvous.{TakesTau, TauHomeStep, TauRemoteStep, Meets, UpStep}
use Rattle.proto_model.specs.Rendezvous.{DownStep, RvStep}
use Rattle.proto_model.specs.RendezvousNext.{is_tau, part_after_tau, tau_part, given, accepts}
use Rattle.proto_model.specs.RendezvousNext.{Parts, up_given, up_by, up_parts, down_given, down_by}
use Rattle.proto_model.specs.RendezvousNext.{down_parts, with_parts, rv_next}
use Rattle.proto_model.specs.declared.numbered.Value.{Value}
use Rattle.proto_model.specs.declared.numbered.Value.TheVariants as value
use Rattle.proto_model.specs.declared.numbered.RuleKind.{RuleKind}
use Rattle.proto_model.specs.declared.numbered.RuleKind.TheVariants as action
use Rattle.proto_model.specs.declared.numbered.Rule.{Rule}
use Rattle.proto_model.specs.declared.numbered.MessageInfo.{MessageInfo}
use Rattle.proto_model.specs.declared.numbered.Body.{Body}
use Rattle.proto_model.specs.declared.rendezvous.Part.{Part}
use Rattle.proto_model.specs.declared.rendezvous.RvConfig.{RvConfig}
use Rattle.proto_model.specs.declared.rendezvous.Event.{Event}
use Rattle.proto_model.specs.declared.rendezvous.Event.TheVariants as event

-- values that may be none

and_then-some : {A B : Type 0} (f : A → Option B) (o : Option A) (x : A) (r : Option B) → o ≡ Some x
    → f x ≡ r → option_and_then f o ≡ r
and_then-some f o x r e is = ap (option_and_then f) e ∙ is

map-some : {A B : Type 0} (f : A → B) (o : Option A) (x : A) → o ≡ Some x
    → option_map f o ≡ Some (f x)
map-some f o x e = ap (option_map f) e

pub when-true : {A : Type 0} (b : Bool) (x y : Option A) → b ≡ true → cond b x y ≡ x
when-true b x y e = ap (λ (t : Bool). cond t x y) e

some_when : {A : Type 0} (b : Bool) (o : Option A) (y : A) → cond b o None ≡ Some y
    → (b ≡ true) × (o ≡ Some y)
some_when true o y e = (refl, e)
some_when false o y e = absurd (cc)

-- kinds of guards

-- a local step is a tau
pub tau_is : (kind : RuleKind) → is_tau kind ≡ true → kind ≡ action.Tau
tau_is action.Tau e = refl
tau_is (action.Input p m bound) e = absurd (cc)
tau_is (action.Output p m sent) e = absurd (cc)

-- a number that is there and equal is that number
pub some_place : (o : Option ℕ) (place : ℕ) → option_map_or (λ m. m == place) o false ≡ true
    → o ≡ Some place
some_place None place e = absurd (cc)
some_place (Some m) place e = ap (λ (n : ℕ). Some n) (eqb-true m place e)

is_some_place : (o : Option ℕ) (place : ℕ) → o ≡ Some place
    → option_map_or (λ m. m == place) o false ≡ true
is_some_place o place e =
    ap (λ (q : Option ℕ). option_map_or (λ m. m == place) q false) e ∙ eq-eqb place place refl

-- configurations

same_config : (h i : Part) (rs qs : List Part) → h ≡ i → rs ≡ qs
    → ◌≡◌ {A = RvConfig} (record { home = h; remotes = rs }) (record { home = i; remotes = qs })
same_config h i rs qs e f = cc

same_parts : (h i r q : Part) → h ≡ i → r ≡ q → ◌≡◌ {A = Parts} (h, r) (i, q)
same_parts h i r q e f = cc

-- a local step

tau_part-step : (body : Body) (part : Part) (g : ℕ) (rule : Rule) → TakesTau body part g rule
    → tau_part body part g ≡ Some (after_guard body part.vars rule rule.next 0 value.Unit)
tau_part-step body part g rule takes =
    and_then-some (part_after_tau body part) (guard_at body part.state g) rule
    (Some (after_guard body part.vars rule rule.next 0 value.Unit)) takes.there
    (when-true (is_tau rule.kind && is_open part.vars rule)
    (Some (after_guard body part.vars rule rule.next 0 value.Unit)) None
    (and_from (is_tau rule.kind) (is_open part.vars rule) (ap is_tau takes.tau) takes.passes))

TakesTau-next : (body : Body) (part : Part) (g : ℕ) (after : Part)
    → tau_part body part g ≡ Some after
    → (rule : Rule) × TakesTau body part g rule
    × (after_guard body part.vars rule rule.next 0 value.Unit ≡ after)
TakesTau-next body part g after e =
    let by = some_and_then (part_after_tau body part) (guard_at body part.state g) after e in
    let passes =
    some_when (is_tau by.0.kind && is_open part.vars by.0)
    (Some (after_guard body part.vars by.0 by.0.next 0 value.Unit)) after by.2 in
    let both = and_parts (is_tau by.0.kind) (is_open part.vars by.0) passes.0 in
    let same : after_guard body part.vars by.0 by.0.next 0 value.Unit ≡ after = cc in
    (by.0, record { there = by.1; tau = tau_is by.0.kind both.0; passes = both.1 }, same)

-- a message is given

given-meets : (messages : List MessageInfo) (vars : List Value) (output input : Rule)
    (message : MessageInfo) (meets : Meets messages output input message)
    → given messages vars output.kind ≡ Some (meets.place, sends vars output.kind message.carries)
given-meets messages vars output input message meets =
    and_then-some
    (λ place. option_map (λ m. (place, sends vars output.kind m.carries))
    (slice_get messages place))
    (message_out output.kind) meets.place
    (Some (meets.place, sends vars output.kind message.carries)) meets.sent
    (map-some (λ m. (meets.place, sends vars output.kind m.carries))
    (slice_get messages meets.place) message meets.there)

given-some : (messages : List MessageInfo) (vars : List Value) (kind : RuleKind) (offer : ℕ × Value)
    → given messages vars kind ≡ Some offer
    → (message : MessageInfo) × (message_out kind ≡ Some offer.0)
    × (slice_get messages offer.0 ≡ Some message) × (sends vars kind message.carries ≡ offer.1)
given-some messages vars kind offer e =
    let out =
    some_and_then
    (λ place. option_map (λ m. (place, sends vars kind m.carries)) (slice_get messages place))
    (message_out kind) offer e in
    let there =
    some_map (λ m. (out.0, sends vars kind m.carries)) (slice_get messages out.0) offer out.2 in
    let place : out.0 ≡ offer.0 = ap (λ (o : ℕ × Value). o.0) there.2 in
    let worth : sends vars kind there.0.carries ≡ offer.1 = ap (λ (o : ℕ × Value). o.1) there.2 in (
      there.0,
      out.1 ∙ ap (λ (n : ℕ). Some n) place,
      subst
          (λ (n : ℕ). slice_get messages n ≡ Some there.0) place there.1,
      worth,
    )

accepts-meets : (messages : List MessageInfo) (vars : List Value) (output input : Rule)
    (message : MessageInfo) (meets : Meets messages output input message)
    → is_open vars input ≡ true → accepts vars input meets.place ≡ true
accepts-meets messages vars output input message meets passes =
    and_from (option_map_or (λ m. m == meets.place) (message_in input.kind) false)
    (is_open vars input) (is_some_place (message_in input.kind) meets.place meets.received) passes

accepts-parts : (vars : List Value) (input : Rule) (place : ℕ) → accepts vars input place ≡ true
    → (message_in input.kind ≡ Some place) × (is_open vars input ≡ true)
accepts-parts vars input place e =
    let both =
    and_parts (option_map_or (λ m. m == place) (message_in input.kind) false)
    (is_open vars input) e in
    (some_place (message_in input.kind) place both.0, both.1)

-- the four kinds of event: each step is computed, and what is computed is a step

next-TauHome : (protocol : NumberedProtocol) (old new : RvConfig) (g : ℕ)
    → TauHomeStep protocol old g new → rv_next protocol old (event.TauHome g) ≡ Some new
next-TauHome protocol old new g step =
    map-some (λ home. record { home = home; remotes = old.remotes })
    (tau_part protocol.home old.home g)
    (after_guard protocol.home old.home.vars step.rule step.rule.next 0 value.Unit)
    (tau_part-step protocol.home old.home g step.rule step.takes)
    ∙ ap (λ (c : RvConfig). Some c)
    (same_config (after_guard protocol.home old.home.vars step.rule step.rule.next 0 value.Unit)
    new.home old.remotes new.remotes (sym step.home) (sym step.remotes))

TauHome-next : (protocol : NumberedProtocol) (old new : RvConfig) (g : ℕ)
    → rv_next protocol old (event.TauHome g) ≡ Some new → TauHomeStep protocol old g new
TauHome-next protocol old new g e =
    let by =
    some_map (λ home. record { home = home; remotes = old.remotes })
    (tau_part protocol.home old.home g) new e in
    let tau = TakesTau-next protocol.home old.home g by.0 by.1 in
    record {
      rule = tau.0;
      takes = tau.1;
      home = sym (tau.2 ∙ ap (λ (c : RvConfig). c.home) by.2);
      remotes = sym (ap (λ (c : RvConfig). c.remotes) by.2);
    }

next-TauRemote : (protocol : NumberedProtocol) (old new : RvConfig) (j g : ℕ)
    → TauRemoteStep protocol old j g new → rv_next protocol old (event.TauRemote j g) ≡ Some new
next-TauRemote protocol old new j g step =
    let after =
    after_guard protocol.remote step.remote.vars step.rule step.rule.next 0 value.Unit in
    and_then-some
    (λ remote. option_map (λ part. with_parts old j (old.home, part))
    (tau_part protocol.remote remote g))
    (slice_get old.remotes j) step.remote (Some new) step.there
    (map-some (λ part. with_parts old j (old.home, part)) (tau_part protocol.remote step.remote g)
    after (tau_part-step protocol.remote step.remote g step.rule step.takes)
    ∙ ap (λ (c : RvConfig). Some c)
    (same_config old.home new.home (slice_set old.remotes j after) new.remotes (sym step.home)
    (sym step.remotes)))

TauRemote-next : (protocol : NumberedProtocol) (old new : RvConfig) (j g : ℕ)
    → rv_next protocol old (event.TauRemote j g) ≡ Some new → TauRemoteStep protocol old j g new
TauRemote-next protocol old new j g e =
    let there =
    some_and_then
    (λ remote. option_map (λ part. with_parts old j (old.home, part))
    (tau_part protocol.remote remote g))
    (slice_get old.remotes j) new e in
    let by =
    some_map (λ part. with_parts old j (old.home, part))
    (tau_part protocol.remote there.0 g) new there.2 in
    let tau = TakesTau-next protocol.remote there.0 g by.0 by.1 in
    record {
      remote = there.0;
      rule = tau.0;
      there = there.1;
      takes = tau.1;
      home = sym (ap (λ (c : RvConfig). c.home) by.2);
      remotes = sym
          (ap (λ (part : Part). slice_set old.remotes j part) tau.2
          ∙ ap (λ (c : RvConfig). c.remotes) by.2);
    }

-- the configuration with the two that moved is the new one
with_parts-new : (old new : RvConfig) (j : ℕ) (home remote : Part) → new.home ≡ home
    → new.remotes ≡ slice_set old.remotes j remote → with_parts old j (home, remote) ≡ new
with_parts-new old new j home remote e f =
    same_config home new.home (slice_set old.remotes j remote) new.remotes (sym e) (sym f)

-- the new configuration is the one with the two that moved
from_parts : (old new : RvConfig) (j : ℕ) (home remote : Part) (moved : Parts)
    → ◌≡◌ {A = Option Parts} (Some (home, remote)) (Some moved) → with_parts old j moved ≡ new
    → (new.home ≡ home) × (new.remotes ≡ slice_set old.remotes j remote)
from_parts old new j home remote moved e f =
    let same : ◌≡◌ {A = Parts} (home, remote) moved = cc in
    let new_is = ap (with_parts old j) same ∙ f in
    (sym (ap (λ (c : RvConfig). c.home) new_is), sym (ap (λ (c : RvConfig). c.remotes) new_is))

next-Up : (protocol : NumberedProtocol) (old new : RvConfig) (j h r : ℕ)
    → UpStep protocol old j h r new → rv_next protocol old (event.Up j h r) ≡ Some new
next-Up protocol old new j h r step =
    let home =
    after_guard protocol.home old.home.vars step.input step.input.next j
    (sends step.remote.vars step.output.kind step.message.carries) in
    let remote =
    after_guard protocol.remote step.remote.vars step.output step.output.next 0 value.Unit in
    let offer : ℕ × Value =
    (step.meets.place, sends step.remote.vars step.output.kind step.message.carries) in
    let moved = with_parts-new old new j home remote step.home step.remotes in
    let accepted =
    and_from (accepts old.home.vars step.input step.meets.place)
    (may_meet old.home.vars step.input.kind j)
    (accepts-meets protocol.messages old.home.vars step.output step.input step.message step.meets
    step.passes) step.target in
    and_then-some (λ (p : Part). option_map (with_parts old j) (up_parts protocol old.home p j h r))
    (slice_get old.remotes j) step.remote (Some new) step.there
    (ap (option_map (with_parts old j))
    (and_then-some (λ output. option_and_then (up_by protocol old.home step.remote j output)
    (guard_at protocol.home old.home.state h)) (guard_at protocol.remote step.remote.state r)
    step.output (Some (home, remote)) step.gives
    (and_then-some (up_by protocol old.home step.remote j step.output)
    (guard_at protocol.home old.home.state h) step.input (Some (home, remote)) step.takes
    (and_then-some (up_given protocol old.home step.remote j step.output step.input)
    (given protocol.messages step.remote.vars step.output.kind) offer (Some (home, remote))
    (given-meets protocol.messages step.remote.vars step.output step.input step.message
    step.meets)
    (when-true (accepts old.home.vars step.input step.meets.place && may_meet old.home.vars
    step.input.kind j) (Some (home, remote)) None accepted))))
    ∙ ap (λ (c : RvConfig). Some c) moved)

Up-next : (protocol : NumberedProtocol) (old new : RvConfig) (j h r : ℕ)
    → rv_next protocol old (event.Up j h r) ≡ Some new → UpStep protocol old j h r new
Up-next protocol old new j h r e =
    let there =
    some_and_then (λ (p : Part). option_map (with_parts old j) (up_parts protocol old.home p j h r))
    (slice_get old.remotes j) new e in
    let p = there.0 in
    let moved = some_map (with_parts old j) (up_parts protocol old.home p j h r) new there.2 in
    let gives =
    some_and_then
    (λ output. option_and_then (up_by protocol old.home p j output)
    (guard_at protocol.home old.home.state h))
    (guard_at protocol.remote p.state r) moved.0 moved.1 in
    let output = gives.0 in
    let takes =
    some_and_then (up_by protocol old.home p j output)
    (guard_at protocol.home old.home.state h) moved.0 gives.2 in
    let input = takes.0 in
    let offer =
    some_and_then (up_given protocol old.home p j output input)
    (given protocol.messages p.vars output.kind) moved.0 takes.2 in
    let message = given-some protocol.messages p.vars output.kind offer.0 offer.1 in
    let home = after_guard protocol.home old.home.vars input input.next j offer.0.1 in
    let remote = after_guard protocol.remote p.vars output output.next 0 value.Unit in
    let passes =
    some_when (accepts old.home.vars input offer.0.0 && may_meet old.home.vars input.kind j)
    (Some (home, remote)) moved.0 offer.2 in
    let both =
    and_parts (accepts old.home.vars input offer.0.0)
    (may_meet old.home.vars input.kind j) passes.0 in
    let accepted = accepts-parts old.home.vars input offer.0.0 both.0 in
    let stand = from_parts old new j home remote moved.0 passes.1 moved.2 in
    record {
      remote = p;
      output = output;
      input = input;
      message = message.0;
      there = there.1;
      gives = gives.1;
      takes = takes.1;
      meets = record
          { place = offer.0.0; sent = message.1; received = accepted.0; there = message.2 };
      passes = accepted.1;
      target = both.1;
      home = stand.0
          ∙ ap (after_guard protocol.home old.home.vars input input.next j) (sym message.3);
      remotes = stand.1;
    }

next-Down : (protocol : NumberedProtocol) (old new : RvConfig) (j h r : ℕ)
    → DownStep protocol old j h r new → rv_next protocol old (event.Down j h r) ≡ Some new
next-Down protocol old new j h r step =
    let home = after_guard protocol.home old.home.vars step.output step.output.next j value.Unit in
    let worth = sends old.home.vars step.output.kind step.message.carries in
    let remote = after_guard protocol.remote step.remote.vars step.input step.input.next 0 worth in
    let offer : ℕ × Value = (step.meets.place, worth) in
    let moved = with_parts-new old new j home remote step.home step.remotes in
    let open_target =
    and_from (is_open old.home.vars step.output)
    (may_meet old.home.vars step.output.kind j) step.output_passes step.target in
    and_then-some
    (λ (p : Part). option_map (with_parts old j) (down_parts protocol old.home p j h r))
    (slice_get old.remotes j) step.remote (Some new) step.there
    (ap (option_map (with_parts old j))
    (and_then-some (λ output. option_and_then (down_by protocol old.home step.remote j output)
    (guard_at protocol.remote step.remote.state r)) (guard_at protocol.home old.home.state h)
    step.output (Some (home, remote)) step.gives
    (and_then-some (down_by protocol old.home step.remote j step.output)
    (guard_at protocol.remote step.remote.state r) step.input (Some (home, remote)) step.takes
    (when-true (is_open old.home.vars step.output && may_meet old.home.vars step.output.kind j)
    (option_and_then (down_given protocol old.home step.remote j step.output step.input)
    (given protocol.messages old.home.vars step.output.kind)) None open_target
    ∙ and_then-some (down_given protocol old.home step.remote j step.output step.input)
    (given protocol.messages old.home.vars step.output.kind) offer (Some (home, remote))
    (given-meets protocol.messages old.home.vars step.output step.input step.message step.meets)
    (when-true (accepts step.remote.vars step.input step.meets.place) (Some (home, remote)) None
    (accepts-meets protocol.messages step.remote.vars step.output step.input step.message
    step.meets step.input_passes)))))
    ∙ ap (λ (c : RvConfig). Some c) moved)

Down-next : (protocol : NumberedProtocol) (old new : RvConfig) (j h r : ℕ)
    → rv_next protocol old (event.Down j h r) ≡ Some new → DownStep protocol old j h r new
Down-next protocol old new j h r e =
    let there =
    some_and_then
    (λ (p : Part). option_map (with_parts old j) (down_parts protocol old.home p j h r))
    (slice_get old.remotes j) new e in
    let p = there.0 in
    let moved = some_map (with_parts old j) (down_parts protocol old.home p j h r) new there.2 in
    let gives =
    some_and_then
    (λ output. option_and_then (down_by protocol old.home p j output)
    (guard_at protocol.remote p.state r))
    (guard_at protocol.home old.home.state h) moved.0 moved.1 in
    let output = gives.0 in
    let takes =
    some_and_then (down_by protocol old.home p j output)
    (guard_at protocol.remote p.state r) moved.0 gives.2 in
    let input = takes.0 in
    let passes =
    some_when (is_open old.home.vars output && may_meet old.home.vars output.kind j)
    (option_and_then (down_given protocol old.home p j output input)
    (given protocol.messages old.home.vars output.kind)) moved.0 takes.2 in
    let both =
    and_parts (is_open old.home.vars output) (may_meet old.home.vars output.kind j) passes.0 in
    let offer =
    some_and_then (down_given protocol old.home p j output input)
    (given protocol.messages old.home.vars output.kind) moved.0 passes.1 in
    let message = given-some protocol.messages old.home.vars output.kind offer.0 offer.1 in
    let home = after_guard protocol.home old.home.vars output output.next j value.Unit in
    let remote = after_guard protocol.remote p.vars input input.next 0 offer.0.1 in
    let accepting =
    some_when (accepts p.vars input offer.0.0) (Some (home, remote)) moved.0 offer.2 in
    let accepted = accepts-parts p.vars input offer.0.0 accepting.0 in
    let stand = from_parts old new j home remote moved.0 accepting.1 moved.2 in
    record {
      remote = p;
      output = output;
      input = input;
      message = message.0;
      there = there.1;
      gives = gives.1;
      takes = takes.1;
      meets = record
          { place = offer.0.0; sent = message.1; received = accepted.0; there = message.2 };
      output_passes = both.0;
      target = both.1;
      input_passes = accepted.1;
      home = stand.0;
      remotes = stand.1
          ∙ ap
          (λ (v : Value). slice_set old.remotes j
          (after_guard protocol.remote p.vars input input.next 0 v))
          (sym message.3);
    }

-- where a step leads is what is computed
pub rv_next-step : (protocol : NumberedProtocol) (old : RvConfig) (what : Event) (new : RvConfig)
    → RvStep protocol old what new → rv_next protocol old what ≡ Some new
rv_next-step protocol old (event.TauHome g) new step = next-TauHome protocol old new g step
rv_next-step protocol old (event.TauRemote j g) new step = next-TauRemote protocol old new j g step
rv_next-step protocol old (event.Up j h r) new step = next-Up protocol old new j h r step
rv_next-step protocol old (event.Down j h r) new step = next-Down protocol old new j h r step

-- what is computed is where a step leads
pub RvStep-next : (protocol : NumberedProtocol) (old : RvConfig) (what : Event) (new : RvConfig)
    → rv_next protocol old what ≡ Some new → RvStep protocol old what new
RvStep-next protocol old (event.TauHome g) new e = TauHome-next protocol old new g e
RvStep-next protocol old (event.TauRemote j g) new e = TauRemote-next protocol old new j g e
RvStep-next protocol old (event.Up j h r) new e = Up-next protocol old new j h r e
RvStep-next protocol old (event.Down j h r) new e = Down-next protocol old new j h r e

-- an event leads to one configuration at most
pub RvStep-only : (protocol : NumberedProtocol) (old : RvConfig) (what : Event)
    (new other : RvConfig)
    → RvStep protocol old what new → RvStep protocol old what other → new ≡ other
RvStep-only protocol old what new other step again =
    let e = rv_next-step protocol old what new step in
    let f = rv_next-step protocol old what other again in
    cc
