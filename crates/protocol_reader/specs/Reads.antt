-- What a function that reads ensures: what its rule reads, unless memory runs out.
use Rattle.std.specs.Prelude.{◌≡◌, Result, Ok, Err}
use Rattle.protocol_reader.specs.declared.error.ReadError.{ReadError}
use Rattle.protocol_reader.specs.declared.error.ReadError.TheVariants.{TooLong, Syntax, NoMemory}
use Rattle.protocol_reader.specs.Reading.{At, Outcome}

-- a fault of syntax is where the rule stops
abbrev pub Fails : {A : Type 0} → Outcome A → ReadError → Type 0
Fails outcome TooLong = ⊥
Fails outcome (Syntax line) = outcome ≡ Err line
Fails outcome NoMemory = Unit {0}

-- what was read is what the rule reads, and reading stands where the rule then does; a fault is
-- where the rule stops
abbrev pub Reads : {A : Type 0} → Outcome A → Result A ReadError → At → Type 0
Reads outcome (Ok a) new = outcome ≡ Ok (a, new)
Reads outcome (Err e) new = Fails outcome e
