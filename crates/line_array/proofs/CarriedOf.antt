-- The packets of each line among those that are carried, after a put and a take.
use Rattle.std.proofs.Common.{◌≡◌, ◌≢◌, ℕ, suc, Bool, true, false, ◌==◌, if◌then◌else◌, List, []}
use Rattle.std.proofs.Common.{◌∷◌, ◌++◌, map, length, filter, Option, Some, None, refl, sym, ap}
use Rattle.std.proofs.Common.{◌∙◌, append-nil}
use Rattle.std.proofs.lemmas.Bool.{eq-eqb, ne_eqb}
use Rattle.std.proofs.lemmas.List.{map-append}
use Rattle.std.proofs.lemmas.List.Elements.{filter-append}
use Rattle.ordered_links.specs.Link.{Link}
use Rattle.ordered_links.specs.declared.packet.Packet.{Packet}
use Rattle.line_array.specs.Carried.{Carried, packets_of, numbers_of, carried_on, is_link}
use Rattle.line_array.specs.InStep.{entries_of}

-- this packet, of line a
abbrev pub one_of : ℕ → Packet → Carried
one_of a packet = record { line = a; packet = packet }

-- the numbers of two lists, one behind the other
pub numbers_of-append : (xs ys : List Carried)
    → numbers_of (xs ++ ys) ≡ numbers_of xs ++ numbers_of ys
numbers_of-append xs ys = map-append (λ (one : Carried). one.line) xs ys

-- the packets of a line
packets_of-append : (a : ℕ) (xs ys : List Carried)
    → packets_of a (xs ++ ys) ≡ packets_of a xs ++ packets_of a ys
packets_of-append a xs ys =
    let own : Carried → Bool = λ one. one.line == a in
    ap (map (λ (one : Carried). one.packet)) (filter-append own xs ys)
    ∙ map-append (λ (one : Carried). one.packet) (filter own xs) (filter own ys)

-- the first one, of line a
pub packets_of-first : (a : ℕ) (packet : Packet) (rest : List Carried)
    → packets_of a (one_of a packet ∷ rest) ≡ packet ∷ packets_of a rest
packets_of-first a packet rest = let same : (a == a) ≡ true = eq-eqb a a refl in rw same refl

-- the first one, of another line
pub packets_of-other : (a b : ℕ) (packet : Packet) (rest : List Carried) → b ≢ a
    → packets_of b (one_of a packet ∷ rest) ≡ packets_of b rest
packets_of-other a b packet rest apart =
    let other : (a == b) ≡ false = ne_eqb a b (λ same. apart (sym same)) in rw other refl

-- one more of line a
pub packets_of-put : (a : ℕ) (packet : Packet) (xs : List Carried)
    → packets_of a (xs ++ one_of a packet ∷ []) ≡ packets_of a xs ++ packet ∷ []
packets_of-put a packet xs =
    packets_of-append a xs (one_of a packet ∷ [])
    ∙ ap (λ (ps : List Packet). packets_of a xs ++ ps) (packets_of-first a packet [])

-- one more of another line
pub packets_of-put_other : (a b : ℕ) (packet : Packet) (xs : List Carried) → b ≢ a
    → packets_of b (xs ++ one_of a packet ∷ []) ≡ packets_of b xs
packets_of-put_other a b packet xs apart =
    packets_of-append b xs (one_of a packet ∷ [])
    ∙ ap (λ (ps : List Packet). packets_of b xs ++ ps) (packets_of-other a b packet [] apart)
    ∙ append-nil (packets_of b xs)

-- what isn't on this link isn't carried on it
pub carried_on-other : (link : Link) (a : ℕ) (on : Link) (packet : Option Packet)
    → is_link on link ≡ false → carried_on link a on packet ≡ []
carried_on-other link a on None apart = refl
carried_on-other link a on (Some packet) apart = rw apart refl

-- There are as many entries of a line as packets of it.
pub entries_of-numbers : (a : ℕ) (xs : List Carried)
    → entries_of a (numbers_of xs) ≡ length (packets_of a xs)
entries_of-numbers a [] = refl
entries_of-numbers a (one ∷ xs) =
    by (entries_of-numbers a xs) (one.line == a)
  where
    by : entries_of a (numbers_of xs) ≡ length (packets_of a xs) → (own : Bool)
        → length (if own then one.line ∷ filter (λ b. b == a) (numbers_of xs)
        else filter (λ b. b == a) (numbers_of xs))
        ≡ length (map (λ (one : Carried). one.packet)
        (if own then one ∷ filter (λ (one : Carried). one.line == a) xs
        else filter (λ (one : Carried). one.line == a) xs))
    by rest true = ap (λ (n : ℕ). suc n) rest
    by rest false = rest
