-- What a step does to the links beside their lists, by the links' own effects.
use Rattle.std.specs.Prelude.{◌≡◌, Option, Some, None}
use Rattle.ordered_links.specs.Link.{Link}
use Rattle.ordered_links.specs.declared.packet.Packet.{Packet}
use Rattle.async_shape.specs.Outcome.{Put}
use Rattle.async_machine.specs.declared.stepped.Stepped.{Stepped}
use Rattle.async_machine.specs.declared.stepped.Stepped.TheVariants.{Moved, Refused}

-- The put, if there is one, was made with this effect, on links of the type L; else they stay.
abbrev pub DidPut : {L : Type 0} → (L → Link → Packet → L → Type 0) → L → Option Put → L → Type 0
DidPut put_effect old None new = new ≡ old
DidPut put_effect old (Some put) new = put_effect old put.on put.packet new

-- A packet was taken from this link, if one is named, with this effect; else the links stay.
abbrev pub DidTake : {L : Type 0} → (L → Link → Option Packet → L → Type 0) → L → Option Link → L
    → Type 0
DidTake take_effect old None new = new ≡ old
DidTake {L} take_effect old (Some link) new =
    (answer : Option Packet) × take_effect old link answer new

-- This put, if it is one, was made, and then a packet was taken from this link, if one is named.
abbrev pub Changed : {L : Type 0} → (L → Link → Packet → L → Type 0)
    → (L → Link → Option Packet → L → Type 0) → L → Option Put → Option Link → L → Type 0
Changed {L} put_effect take_effect old put takes_from new =
    (between : L) × DidPut put_effect old put between × DidTake take_effect between takes_from new

-- A step that moved put and took so; one that was refused left the links as they were.
abbrev pub ChangedBy : {L : Type 0} → (L → Link → Packet → L → Type 0)
    → (L → Link → Option Packet → L → Type 0) → Stepped → L → Option Put → Option Link → L
    → Type 0
ChangedBy put_effect take_effect Moved old put takes_from new =
    Changed put_effect take_effect old put takes_from new
ChangedBy put_effect take_effect Refused old put takes_from new = new ≡ old

-- A step that moved has a next value, and leads to it; one that was refused has none, and nothing
-- changed.
abbrev pub IsStep : {C : Type 0} → Stepped → C → C → Option C → Type 0
IsStep Moved old new next = next ≡ Some new
IsStep Refused old new next = (next ≡ None) × (new ≡ old)
