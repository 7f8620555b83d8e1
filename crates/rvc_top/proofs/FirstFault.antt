-- The first fault of a protocol is at one of its items.
use Rattle.std.proofs.Common.{◌≡◌, ℕ, ◌+◌, ◌<◌, ◌≤◌, List, [], ◌∷◌, length, Some, ap, arith}
use Rattle.proto_model.specs.Faults.{faults_from, faults, first, first_fault, item_codes}
use Rattle.proto_model.specs.declared.protocol.Protocol.{Protocol}

first-is : (a b : ℕ × ℕ) (more_a more_b : List (ℕ × ℕ)) → a ∷ more_a ≡ b ∷ more_b → a ≡ b
first-is a b more_a more_b e = cc

-- the first fault is at one of the items
pub first-within : (n : ℕ) (items : List (List ℕ)) (i code : ℕ) (more : List (ℕ × ℕ))
    → faults_from n items ≡ (i, code) ∷ more → (n ≤ i) × (i < n + length items)
first-within n [] i code more e = absurd cc
first-within n ([] ∷ items) i code more e = let h = first-within (n + 1) items i code more e in
    (omega (arith, h.0), omega (arith, h.1))
first-within n ((c ∷ cs) ∷ items) i code more e =
    let same : n ≡ i = ap (λ (f : ℕ × ℕ). f.0) (first-is (n, c) (i, code) _ more e) in
    (omega arith, omega arith)

first-some : (fs : List (ℕ × ℕ)) (f : ℕ × ℕ) → first fs ≡ Some f → (more : List (ℕ × ℕ))
    × (fs ≡ f ∷ more)
first-some [] f e = absurd cc
first-some (g ∷ fs) f e = (fs, cc)

pub first_fault-within : (p : Protocol) (i code : ℕ) → first_fault p ≡ Some (i, code)
    → i < length (item_codes p)
first_fault-within p i code e =
    let some = first-some (faults p) (i, code) e in
    let within = first-within 0 (item_codes p) i code some.0 some.1 in
    omega (arith, within.1)
