-- A step that is played: which block tells of it, what it does to the machine that takes it, and
-- what it leaves of what the machine stands for.
use Rattle.std.specs.Prelude.{◌≡◌, List, [], Option}
use Rattle.proto_model.specs.declared.rendezvous.RvConfig.{RvConfig}
use Rattle.controller_table.specs.Sound.{protocol_of}
use Rattle.ordered_links.specs.Link.{Link}
use Rattle.ordered_links.specs.Lists.{LinkPair}
use Rattle.ordered_links.specs.declared.packet.Packet.{Packet}
use Rattle.async_shape.specs.Next.{next, put_of, take_of}
use Rattle.async_shape.specs.declared.step.Step.{Step}
use Rattle.async_machine.specs.Effects.{ChangedBy, IsStep}
use Rattle.async_machine.specs.Standing.{Standing, setting, config}
use Rattle.async_machine.specs.declared.stepped.Stepped.{Stepped}
use Rattle.abstraction_map.specs.Abstraction.{abstraction}
use Rattle.abstraction_map.specs.declared.told.Told.{Told}
use Rattle.abstraction_map.specs.declared.told.Told.TheVariants.{Refused, Stutter, Is}
use Rattle.run_replay.specs.RunTrace.{Running}

-- This holds, unless an event is told.
abbrev pub UnlessEvent : Told → Type 0 → Type 0
UnlessEvent Refused fact = fact
UnlessEvent Stutter fact = fact
UnlessEvent (Is e) fact = Unit {0}

-- a machine over links of the type L, whose packets are these lists
module _ {L : Type 0} (lists : L → List LinkPair) where
  -- its controllers where they stand, with no claims
  abbrev pub unclaimed : Standing L → Running
  unclaimed machine =
      record { claims = []; setting = setting machine; config = config lists machine }

  -- the rendezvous configuration for which its own stands
  abbrev pub stands_for : Standing L → RvConfig
  stands_for machine = abstraction (protocol_of machine.table) (config lists machine)

  -- A machine that took a step stands where it leads, and one that refused it, which it does where
  -- no configuration is next, stands as before.
  abbrev pub Leads : Step → Stepped → Standing L → Standing L → Type 0
  Leads s stepped old new =
      IsStep stepped (config lists old) (config lists new)
      (next (setting old) (config lists old) s)

  -- Where these are the effects of a put and of a take on the links: the machine took the step or
  -- refused it, with its table and its slots, and the links changed by what the step puts and
  -- takes.
  pub record IsTaken (put_effect : L → Link → Packet → L → Type 0)
      (take_effect : L → Link → Option Packet → L → Type 0) (old : Standing L) (s : Step)
      (new : Standing L) : Type 0 where
    pub stepped : Stepped
    pub leads : Leads s stepped old new
    pub table : new.table ≡ old.table
    pub slots : new.slots ≡ old.slots
    pub effect :
        ChangedBy put_effect take_effect stepped old.links
        (put_of (setting old) (config lists old) s)
        (take_of (setting old) (config lists old) s) new.links
