-- The links of each remote where the home takes a packet from an up link and puts at most a nack:
-- what became of a request is as it was.
use Rattle.std.proofs.Common.{◌≡◌, ℕ, ◌<◌, Bool, List, ◌∷◌, length, Option, Some, None, refl, sym}
use Rattle.std.proofs.Common.{ap, subst, inl, inr, ◌∙◌}
use Rattle.std.proofs.lemmas.Bool.{cases_eq}
use Rattle.ordered_links.specs.Link.{Up, Down}
use Rattle.ordered_links.specs.Lists.{LinkPair, links_at}
use Rattle.ordered_links.specs.declared.packet.Packet.{Packet}
use Rattle.ordered_links.specs.declared.packet.Packet.TheVariants as packet
use Rattle.async_shape.specs.Outcome.{Put, put_on}
use Rattle.async_shape.specs.Next.{links_put, links_left}
use Rattle.async_shape.specs.Phase.{as_packet}
use Rattle.async_shape.specs.declared.config.Request.{Request}
use Rattle.async_shape.proofs.LinksAfter.{links_after-own, links_after-other}
use Rattle.abstraction_map.specs.Abstraction.{fate_in}
use Rattle.abstraction_map.proofs.Fates.{fate_in-put_nack, fate_in-take_request}

-- A take from an up link leaves what is on the down links.
pub take_up-down : (links : List LinkPair) (j q : ℕ) → j < length links
    → (links_at (links_left (Some (Up j)) links) q).down ≡ (links_at links q).down
take_up-down links j q there = elim (cases_eq q j) [
  | inl is ↦
      subst
      (λ (i : ℕ). (links_at (links_left (Some (Up j)) links) i).down ≡ (links_at links i).down)
      (sym is)
      (ap (λ (pair : LinkPair). pair.down)
      (links_after-own None (Some (Up j)) links j tt refl there))
  | inr apart ↦
      ap (λ (pair : LinkPair). pair.down) (links_after-other None (Some (Up j)) links q tt apart)
]

-- A take of a request from an up link changes nothing of what became of a request.
pub take_up-fate : (links : List LinkPair) (j q : ℕ) (r : Request) (rest : List Packet)
    (granted : Bool) → j < length links → (links_at links j).up ≡ as_packet r ∷ rest
    → fate_in (links_at (links_left (Some (Up j)) links) q).up granted
    ≡ fate_in (links_at links q).up granted
take_up-fate links j q r rest granted there comes = elim (cases_eq q j) [
  | inl is ↦
      subst
      (λ (i : ℕ).
      fate_in (links_at (links_left (Some (Up j)) links) i).up granted
      ≡ fate_in (links_at links i).up granted) (sym is)
      (ap (λ (pair : LinkPair). fate_in pair.up granted)
      (links_after-own None (Some (Up j)) links j tt refl there)
      ∙ fate_in-take_request (links_at links j).up rest r granted comes)
  | inr apart ↦
      ap (λ (pair : LinkPair). fate_in pair.up granted)
      (links_after-other None (Some (Up j)) links q tt apart)
]

-- What is put, if anything, changes nothing of the up link of remote q, and nothing of what became
-- of a request by its down link.
pub record PutsNoAnswer (links : List LinkPair) (put : Option Put) (q : ℕ) : Type 0 where
  pub up : (links_at (links_put put links) q).up ≡ (links_at links q).up
  pub down : (granted : Bool)
      → fate_in (links_at (links_put put links) q).down granted
      ≡ fate_in (links_at links q).down granted

-- Where nothing is put, nothing changes.
pub put_nothing : (links : List LinkPair) (q : ℕ) → PutsNoAnswer links None q
put_nothing links q = record { up = refl; down = λ granted. refl }

-- A nack for remote x is no answer that changes what became of a request.
pub put_nack : (links : List LinkPair) (x q : ℕ) → x < length links
    → PutsNoAnswer links (put_on (Down x) packet.Nack) q
put_nack links x q there =
    let put = put_on (Down x) packet.Nack in
    elim (cases_eq q x) [
      | inl is ↦
          let own = links_after-own put None links x refl tt there in
          subst (PutsNoAnswer links put) (sym is) (record {
            up = ap (λ (pair : LinkPair). pair.up) own;
            down = λ granted.
                ap (λ (pair : LinkPair). fate_in pair.down granted) own
                ∙ fate_in-put_nack (links_at links x).down granted;
          })
      | inr apart ↦
          let other = links_after-other put None links q apart tt in
          record {
            up = ap (λ (pair : LinkPair). pair.up) other;
            down = λ granted. ap (λ (pair : LinkPair). fate_in pair.down granted) other;
          }
    ]
