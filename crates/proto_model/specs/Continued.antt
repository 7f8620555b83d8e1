-- Texts that are appended one after the other.
use Rattle.std.specs.Prelude.{◌++◌, Result}
use Rattle.rv_base.specs.Appended.{Appends}
use Rattle.proto_model.specs.Tokens.{Text}

-- A call appends this text, unless memory ran out before: behind any start it stands behind
-- whatever text stood there. After want of memory a front of it all stands there.
abbrev pub Continues : {E : Type 0} → Text → Result (Unit {0}) E → Text → Result (Unit {0}) E
    → Text → Type 0
Continues text so_far old result new =
    (start before : Text) → Appends before so_far start old
    → Appends (before ++ text) result start new
