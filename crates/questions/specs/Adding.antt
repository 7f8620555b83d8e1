-- What the reader of conditions does.
use Rattle.std.specs.Prelude.{◌≡◌, Bool, true, false, List, [], ◌∷◌, ◌++◌, Option, Some, None}
use Rattle.proto_model.specs.declared.numbered.RuleAtom.{RuleAtom}

-- The condition, if there is one, was added.
abbrev pub AddsCond : List RuleAtom → List RuleAtom → Option RuleAtom → Bool → Type 0
AddsCond old new found true = (cond : RuleAtom) × (found ≡ Some cond) × (new ≡ old ++ cond ∷ [])
AddsCond old new found false = (found ≡ None) × (new ≡ old)
