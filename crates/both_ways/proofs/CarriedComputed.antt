-- Whether an event is carried is computed.
use Rattle.std.proofs.Common.{◌≡◌, ℕ, Bool, true, Option, Some, None, is_some}
use Rattle.std.proofs.Common.{slice_get, refl, sym, ap, ◌∙◌}
use Rattle.std.specs.Option.{option_map_or}
use Rattle.std.proofs.lemmas.Bool.{and_parts, and_from}
use Rattle.proto_model.specs.Numbered.{NumberedProtocol}
use Rattle.proto_model.specs.Guards.{guards_of}
use Rattle.proto_model.specs.RendezvousNext.{rv_next}
use Rattle.proto_model.specs.declared.rendezvous.Part.{Part}
use Rattle.proto_model.specs.declared.rendezvous.RvConfig.{RvConfig}
use Rattle.proto_model.specs.declared.rendezvous.Event.{Event}
use Rattle.proto_model.specs.declared.rendezvous.Event.TheVariants as event
use Rattle.proto_model.proofs.Steps.{rv_next-step, RvStep-next}
use Rattle.both_ways.specs.Carried.{none_before, home_takes, remote_takes}
use Rattle.both_ways.specs.Carried.{up_message, down_message, AreCompleted, Carried}
use Rattle.both_ways.specs.Carried.{are_completed, carried}
use Rattle.both_ways.proofs.NoneBefore.{none_before-is, NoneBefore-is}

-- what is there, if anything, passes the test
each-some : {X : Type 0} (test : X → Bool) (o : Option X) (x : X)
    → option_map_or test o true ≡ true → o ≡ Some x → test x ≡ true
each-some test None x e is = absurd (cc)
each-some test (Some y) x e is = let same : y ≡ x = cc in ap test (sym same) ∙ e

some-each : {X : Type 0} (test : X → Bool) (o : Option X)
    → ((x : X) → o ≡ Some x → test x ≡ true) → option_map_or test o true ≡ true
some-each test None each = refl
some-each test (Some x) each = each x refl

-- what is there
is_there : {X : Type 0} (o : Option X) → is_some o ≡ true → (x : X) × (o ≡ Some x)
is_there None e = absurd (cc)
is_there (Some x) e = (x, refl)

module _ (protocol : NumberedProtocol) (c : RvConfig) where
  completed-is : (e : Event) → are_completed protocol c e ≡ true → AreCompleted protocol c e
  completed-is (event.TauHome g) is = tt
  completed-is (event.TauRemote j g) is = tt
  completed-is (event.Up j h r) is = λ m gives.
      let rules = guards_of protocol.home c.home.state in
      none_before-is (home_takes c.home j m) rules h
      (each-some (λ (m : ℕ). none_before (home_takes c.home j m) rules h)
      (up_message protocol c j r) m is gives)
  completed-is (event.Down j h r) is = λ m remote gives there.
      let test : ℕ → Part → Bool =
      λ m remote.
      none_before (remote_takes remote m) (guards_of protocol.remote remote.state) r in
      none_before-is (remote_takes remote m) (guards_of protocol.remote remote.state) r
      (each-some (test m) (slice_get c.remotes j) remote
      (each-some (λ (m : ℕ). option_map_or (test m) (slice_get c.remotes j) true)
      (down_message protocol c h) m is gives)
      there)

  is-completed : (e : Event) → AreCompleted protocol c e → are_completed protocol c e ≡ true
  is-completed (event.TauHome g) is = refl
  is-completed (event.TauRemote j g) is = refl
  is-completed (event.Up j h r) is =
      let rules = guards_of protocol.home c.home.state in
      some-each (λ (m : ℕ). none_before (home_takes c.home j m) rules h)
      (up_message protocol c j r)
      (λ m gives. NoneBefore-is (home_takes c.home j m) rules h (is m gives))
  is-completed (event.Down j h r) is =
      let test : ℕ → Part → Bool =
      λ m remote.
      none_before (remote_takes remote m) (guards_of protocol.remote remote.state) r in
      some-each (λ (m : ℕ). option_map_or (test m) (slice_get c.remotes j) true)
      (down_message protocol c h)
      (λ m gives.
      some-each (test m) (slice_get c.remotes j)
      (λ remote there.
      NoneBefore-is (remote_takes remote m) (guards_of protocol.remote remote.state) r
      (is m remote gives there)))

  pub carried-is : (e : Event) → carried protocol c e ≡ true → Carried protocol c e
  carried-is e is =
      let both = and_parts (is_some (rv_next protocol c e)) (are_completed protocol c e) is in
      let there = is_there (rv_next protocol c e) both.0 in
      record {
        next = there.0;
        step = RvStep-next protocol c e there.0 there.1;
        completed = completed-is e both.1;
      }

  pub is-carried : (e : Event) → Carried protocol c e → carried protocol c e ≡ true
  is-carried e is =
      and_from (is_some (rv_next protocol c e)) (are_completed protocol c e)
      (ap is_some (rv_next-step protocol c e is.next is.step)) (is-completed e is.completed)
