-- What the next packet on a link says of the fate.
use Rattle.std.proofs.Common.{◌≡◌, ℕ, zero, suc, ◌+◌, Bool, List, [], ◌∷◌, drop}
use Rattle.std.proofs.Common.{Some, None, slice_get, add-one, refl, sym, ap, ◌∙◌}
use Rattle.std.proofs.lemmas.Option.{same_Some}
use Rattle.ordered_links.specs.declared.packet.Packet.{Packet}
use Rattle.abstraction_map.specs.Abstraction.{Fate, fate_in, granted_if}

-- What is left of a list begins with what stands there.
drop-there : {A : Type 0} (xs : List A) (place : ℕ) (x : A) → slice_get xs place ≡ Some x
    → drop place xs ≡ x ∷ drop (suc place) xs
drop-there [] place x is = absurd (cc)
drop-there (y ∷ xs) zero x is = rw (same_Some y x is) refl
drop-there (y ∷ xs) (suc place) x is = drop-there xs place x is

-- Nothing is left of a list where nothing stands.
drop-past : {A : Type 0} (xs : List A) (place : ℕ) → slice_get xs place ≡ None → drop place xs ≡ []
drop-past [] zero is = refl
drop-past [] (suc place) is = refl
drop-past (y ∷ xs) zero is = absurd (cc)
drop-past (y ∷ xs) (suc place) is = drop-past xs place is

-- of these packets, of which those from this place on decide this fate
module _ (packets : List Packet) (place : ℕ) (granted : Bool) (fate : Fate)
    (decide : fate_in (drop place packets) granted ≡ fate) where
  -- So do the packet there and those behind it.
  pub fate-there : (p q : Packet) → Some p ≡ slice_get packets place → p ≡ q
      → fate_in (q ∷ drop (place + 1) packets) granted ≡ fate
  fate-there p q there is =
      let from = drop-there packets place q (sym there ∙ ap (λ (r : Packet). Some r) is) in
      rw add-one (sym (ap (λ (rest : List Packet). fate_in rest granted) from)) ∙ decide

  -- Behind the last packet it is as was granted otherwise.
  pub fate-past : None ≡ slice_get packets place → granted_if granted ≡ fate
  fate-past past =
      sym (ap (λ (rest : List Packet). fate_in rest granted) (drop-past packets place (sym past)))
      ∙ decide
