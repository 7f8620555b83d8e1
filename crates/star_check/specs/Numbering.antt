-- A map from names to places.
use Rattle.std.specs.Prelude.{◌≡◌, ℕ, List}
use Rattle.std.specs.Borrow.{Bor}
use Rattle.std.specs.Str.{bytes_eq}
use Rattle.indexmap.specs.IndexMap.{IndexMap, get_by}
use Rattle.proto_model.specs.Tokens.{Text}
use Rattle.proto_model.specs.Names.{place_of}

-- the map gives each name the place of its first declaration
abbrev pub IsNumbering : {S : Type 0} → IndexMap (Bor Text) ℕ S → List Text → Type 0
IsNumbering places names =
    (name : Text) → get_by (λ key. bytes_eq name key.now) places ≡ place_of name names
