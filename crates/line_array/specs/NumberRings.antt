-- The rings of line numbers of a remote, and the lists that they stand for.
use Rattle.std.specs.Prelude.{◌≡◌, ℕ, ◌*◌, List, []}
use Rattle.std.specs.List.{AllByRecursion}
use Rattle.circular_buffer.specs.Buffer.{buffer}
use Rattle.line_array.specs.SharedLists.{SharedPair}
use Rattle.line_array.specs.declared.shared.NumberRings.{NumberRings}

-- the numbers on the two rings of a remote
abbrev pub pair_of : NumberRings → SharedPair
pair_of rings = record { up = rings.up.items; down = rings.down.items }

-- rings for so many lines, with nothing on them
abbrev pub empty_rings : ℕ → NumberRings
empty_rings lines = record { up = buffer [] (2 * lines); down = buffer [] (3 * lines) }

-- each up ring has room for 2 numbers of each line, and each down ring for 3
abbrev pub HaveRoom : ℕ → List NumberRings → Type 0
HaveRoom lines all =
    AllByRecursion (λ (rings : NumberRings).
    (rings.up.capacity ≡ 2 * lines) × (rings.down.capacity ≡ 3 * lines)) all
