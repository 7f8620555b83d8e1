-- What an event leaves, by whether it was taken.
use Rattle.std.proofs.Common.{◌≡◌, Bool, true, false, refl, sym, subst}
use Rattle.std.specs.Bool.{OnTrue}
use Rattle.proto_model.specs.Numbered.{NumberedProtocol}
use Rattle.proto_model.specs.Proper.{IsProper}
use Rattle.proto_model.specs.Rendezvous.{RvStep, IsConfigOf}
use Rattle.proto_model.specs.RendezvousNext.{rv_next}
use Rattle.proto_model.specs.declared.rendezvous.RvConfig.{RvConfig}
use Rattle.proto_model.specs.declared.rendezvous.Event.{Event}
use Rattle.proto_model.proofs.Steps.{rv_next-step, RvStep-next}
use Rattle.proto_model.proofs.KeptConfig.{IsConfigOf-step}
use Rattle.rendezvous_meaning.specs.Stepped.{Stepped}

-- a taken event is a rendezvous step
pub RvStep-taken : (protocol : NumberedProtocol) (old new : RvConfig) (what : Event) (taken : Bool)
    → Stepped taken old new (rv_next protocol old what)
    → OnTrue taken (RvStep protocol old what new)
RvStep-taken protocol old new what true stepped = RvStep-next protocol old what new stepped
RvStep-taken protocol old new what false stepped = tt

-- where there is a step, it is taken, and leads to the configuration that is left
pub taken-RvStep : (protocol : NumberedProtocol) (old new : RvConfig) (what : Event) (taken : Bool)
    → Stepped taken old new (rv_next protocol old what) → (next : RvConfig)
    → RvStep protocol old what next → (taken ≡ true) × (new ≡ next)
taken-RvStep protocol old new what true stepped next step =
    let there = rv_next-step protocol old what next step in
    (refl, cc)
taken-RvStep protocol old new what false stepped next step =
    let there = rv_next-step protocol old what next step in
    let nowhere = stepped.0 in
    absurd (cc)

-- whatever is left is a configuration of the protocol
pub IsConfigOf-taken : (protocol : NumberedProtocol) (old new : RvConfig) (what : Event)
    (taken : Bool) → IsProper protocol → IsConfigOf protocol old
    → Stepped taken old new (rv_next protocol old what) → IsConfigOf protocol new
IsConfigOf-taken protocol old new what true proper stands stepped = IsConfigOf-step protocol old
    what new proper stands (RvStep-next protocol old what new stepped)
IsConfigOf-taken protocol old new what false proper stands stepped = subst (IsConfigOf protocol)
    (sym stepped.1) stands
