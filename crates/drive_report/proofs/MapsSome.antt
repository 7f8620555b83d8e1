-- Whether something is made of an answer.
use Rattle.std.proofs.Common.{◌≡◌, Option, Some, None, is_some, refl}
use Rattle.std.specs.Option.{option_map}

-- Something is made of an answer exactly where there is one.
pub is_some-map : {A B : Type 0} (make : A → B) (o : Option A)
    → is_some (option_map make o) ≡ is_some o
is_some-map make None = refl
is_some-map make (Some x) = refl
