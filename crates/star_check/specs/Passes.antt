-- What a pass over items answers.
use Rattle.std.specs.Prelude.{◌≡◌, ℕ, ◌+◌, List, length, Some, None, Result, Ok, Err}
use Rattle.proto_model.specs.Faults.{faults_from, first}
use Rattle.star_check.specs.declared.fault.Fault.{Fault}

-- Of items that count from n: none has a fault, and the number behind them is answered; or the
-- first fault is answered.
abbrev pub Passes : Result ℕ Fault → ℕ → List (List ℕ) → Type 0
Passes (Ok next) n items = (None ≡ first (faults_from n items)) × (next ≡ n + length items)
Passes (Err f) n items = Some (f.item, f.code) ≡ first (faults_from n items)

-- of all items of a protocol: none has a fault, or the first fault is answered
abbrev pub Finds : Result (Unit {0}) Fault → List (List ℕ) → Type 0
Finds (Ok _) items = None ≡ first (faults_from 0 items)
Finds (Err f) items = Some (f.item, f.code) ≡ first (faults_from 0 items)
