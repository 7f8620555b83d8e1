-- The list of the held requests, and what leaves it.
use Rattle.std.specs.Prelude.{◌≢◌, ℕ, ◌-◌, ◌==◌, Bool, if◌then◌else◌, List, [], ◌∷◌, ◌++◌, length}
use Rattle.std.specs.Prelude.{take, slice_get, Option}
use Rattle.std.specs.List.{find, AllByRecursion}
use Rattle.slot_reserve.specs.declared.held.Held.{Held}

-- This remote sent the request.
abbrev pub is_sent_by : ℕ → Held → Bool
is_sent_by from request = request.from == from

-- The first request of this remote, if it has one.
abbrev pub first_of : ℕ → List Held → Option Held
first_of from held = find (is_sent_by from) held

-- This remote has no request among these.
abbrev pub HasNone : ℕ → List Held → Type 0
HasNone from held = AllByRecursion (λ request. request.from ≢ from) held

-- No two of the requests are of one remote.
abbrev pub OneOfEach : List Held → Type 0
OneOfEach [] = Unit {0}
OneOfEach (request ∷ held) = HasNone request.from held × OneOfEach held

-- The requests without the first one of this remote, the others in their order; all of them where
-- it has none.
abbrev pub without_first : ℕ → List Held → List Held
without_first from [] = []
without_first from (request ∷ held) =
    if is_sent_by from request then held else request ∷ without_first from held

-- The last of the requests, if there is one.
abbrev pub last_of : List Held → Option Held
last_of held = slice_get held (length held - 1)

-- The requests after the last one has made room for another one, which stands last.
abbrev pub displaced : List Held → Held → List Held
displaced held request = take (length held - 1) held ++ request ∷ []
