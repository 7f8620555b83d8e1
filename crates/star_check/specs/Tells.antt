-- What an error of `check` tells.
use Rattle.std.specs.Prelude.{◌≡◌, ℕ, Option, Some, Result, Ok, Err}
use Rattle.proto_model.specs.Faults.{IsWellFormed, first_fault}
use Rattle.proto_model.specs.Numbered.{CheckedProtocol, numbered}
use Rattle.proto_model.specs.declared.protocol.Protocol.{Protocol}
use Rattle.star_check.specs.declared.checked.CheckError.{CheckError}
use Rattle.star_check.specs.declared.checked.CheckError.TheVariants.{Refused, NoMemory}

-- a refusal tells the first fault, its item and its code; want of memory tells nothing
abbrev pub Tells : CheckError → Option (ℕ × ℕ) → Type 0
Tells (Refused f) first = first ≡ Some (f.item, f.code)
Tells NoMemory first = Unit {0}

-- what `check` answers: the numbered form of a well-formed protocol, or an error that tells its
-- fault
abbrev pub Checks : Result CheckedProtocol CheckError → Protocol → Type 0
Checks (Ok checked) p = IsWellFormed p × (checked ≡ numbered p)
Checks (Err error) p = Tells error (first_fault p)
