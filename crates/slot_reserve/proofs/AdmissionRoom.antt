-- What room there was for a request that got a slot, and that there was none for one that didn't.
use Rattle.std.proofs.Common.{arith, ◌≡◌, ◌⊎◌, inl, inr, ℕ, ◌+◌, ◌-◌, ◌≤◌, ◌==◌, ◌&&◌, ◌||◌, Bool}
use Rattle.std.proofs.Common.{true, false, nat_le, refl}
use Rattle.std.proofs.lemmas.Bool.{eqb-true, leb-true, or_parts}
use Rattle.std.proofs.lemmas.Bool.Decides.{nat_tests}
use Rattle.slot_reserve.specs.Admission.{free, admits}

-- Of so many slots, in which so many requests are held, one is free; while the home waits, one
-- besides the ack slot, and where that is the progress slot, the request completes a guard.
pub record HasRoom (size held : ℕ) (waiting completes : Bool) : Type 0 where
  pub room : held + 1 ≤ size
  pub kept_back : waiting ≡ true → held + 2 ≤ size
  pub progress : waiting ≡ true → held + 2 ≡ size → completes ≡ true

-- No slot is free; while the home waits, none besides the ack slot.
pub record IsFull (size held : ℕ) (waiting : Bool) : Type 0 where
  pub idle : waiting ≡ false → size ≤ held
  pub waits : waiting ≡ true → size ≤ held + 1

admits_by : (slots : ℕ) (completes more one : Bool)
    → nat_le 2 slots ≡ more → (slots == 1) ≡ one → (more || (one && completes)) ≡ true
    → (2 ≤ slots) ⊎ ((slots ≡ 1) × (completes ≡ true))
admits_by slots completes true one two is_one e = inl (leb-true 2 slots two)
admits_by slots completes false true two is_one e = inr (eqb-true slots 1 is_one, e)
admits_by slots completes false false two is_one e = absurd (cc)

pub admits-slots : (slots : ℕ) (completes : Bool) → admits slots completes ≡ true
    → (2 ≤ slots) ⊎ ((slots ≡ 1) × (completes ≡ true))
admits-slots slots completes e =
    admits_by slots completes (nat_le 2 slots) (slots == 1) refl refl e

admits-some : (slots : ℕ) (completes : Bool) → admits slots completes ≡ true → 1 ≤ slots
admits-some slots completes e = elim (admits-slots slots completes e) [
  | inl h ↦ omega arith
  | inr h ↦ let one : slots ≡ 1 = h.0 in omega arith
]

pub admits-room : (size held : ℕ) (waiting completes : Bool)
    → admits (free size held waiting) completes ≡ true → HasRoom size held waiting completes
admits-room size held true completes e = elim (admits-slots (size - 1 - held) completes e) [
  | inl h ↦ record {
    room = omega arith;
    kept_back = λ _. omega arith;
    progress = λ _ last. absurd (omega arith);
  }
  | inr h ↦
      let one : size - 1 - held ≡ 1 = h.0 in
      record {
        room = omega arith;
        kept_back = λ _. omega arith;
        progress = λ _ _. h.1;
      }
]
admits-room size held false completes e =
    let some : 1 ≤ size - held = admits-some (size - held) completes e in
    record {
      room = omega arith;
      kept_back = λ waits. absurd (cc);
      progress = λ waits last. absurd (cc);
    }

few_by : (slots : ℕ) (one : Bool) → (slots == 1) ≡ one → nat_le 2 slots ≡ false
    → (one && true) ≡ false → slots ≡ 0
few_by slots true is_one few not_one = absurd (cc)
few_by slots false is_one few not_one = grind (arith, nat_tests)

none_free : (slots : ℕ) → admits slots true ≡ false → slots ≡ 0
none_free slots e =
    let parts = or_parts (nat_le 2 slots) ((slots == 1) && true) e in
    few_by slots (slots == 1) refl parts.0 parts.1

-- a request that completes a guard gets no slot only where there is none
pub admits-full : (size held : ℕ) (waiting : Bool)
    → admits (free size held waiting) true ≡ false → IsFull size held waiting
admits-full size held true e =
    let none : size - 1 - held ≡ 0 = none_free (size - 1 - held) e in
    record { idle = λ idle. absurd (cc); waits = λ _. omega arith }
admits-full size held false e =
    let none : size - held ≡ 0 = none_free (size - held) e in
    record { idle = λ _. omega arith; waits = λ waits. absurd (cc) }
