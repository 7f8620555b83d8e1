-- What a call that appends a text leaves.
use Rattle.std.specs.Prelude.{◌≡◌, ℕ, List, ◌++◌, Result, Ok, Err}

-- The vector is as before followed by the text, or, after want of memory, by a front of it.
abbrev pub Appends : {E : Type 0} → List ℕ → Result (Unit {0}) E → List ℕ → List ℕ → Type 0
Appends text (Ok _) old new = new ≡ old ++ text
Appends text (Err _) old new =
    (front : List ℕ) × (rest : List ℕ) × (text ≡ front ++ rest) × (new ≡ old ++ front)
