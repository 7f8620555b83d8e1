-- Guards as the code has them, and what is put on a link.
use Rattle.std.specs.Prelude.{ℕ, ◌<◌, List, length, Option, None}
use Rattle.proto_model.specs.declared.numbered.Rule.{Rule}
use Rattle.ordered_links.specs.Link.{Up, Down}
use Rattle.ordered_links.specs.Lists.{LinkPair, packets_on}
use Rattle.async_shape.specs.Guards.{Chosen}
use Rattle.async_shape.specs.Outcome.{Put, put_on}
use Rattle.async_machine.specs.declared.sending.Sends.{Sends}
use Rattle.async_machine.specs.declared.sending.Sends.TheVariants as sends

-- ---- guards as the code has them

-- the guard that goes to this state: a bare one, with what the rows tell of it
abbrev pub going : Rule → ℕ → Rule
going rule next =
    record { kind = rule.kind; conds = rule.conds; assigns = rule.assigns; next = next }

-- the guard with this number in its state, which goes to this state
abbrev pub chosen : ℕ → Rule → ℕ → Chosen
chosen number rule next = record { number = number; rule = going rule next }

-- ---- what is put on a link

-- the put that this is, if it is one
abbrev pub put_said : Sends → Option Put
put_said sends.Nothing = None
put_said (sends.Up j packet) = put_on (Up j) packet
put_said (sends.Down j packet) = put_on (Down j) packet

-- there is such a link, and room for the packet on it: for 2 packets on an up link, and for 3 on a
-- down link
abbrev pub HasRoom : List LinkPair → Sends → Type 0
HasRoom links sends.Nothing = Unit {0}
HasRoom links (sends.Up j packet) = (j < length links) × (length (packets_on (Up j) links) < 2)
HasRoom links (sends.Down j packet) = (j < length links) × (length (packets_on (Down j) links) < 3)
