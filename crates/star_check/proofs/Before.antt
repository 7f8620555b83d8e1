-- A name is declared before a place exactly where the place of its first declaration is before it.
use Rattle.std.proofs.Common.{◌≡◌, ℕ, zero, suc, ◌+◌, ◌≤◌, Bool, true, false, cond, List, [], ◌∷◌}
use Rattle.std.proofs.Common.{take, refl, arith, Some, is_some}
use Rattle.std.specs.Prelude.{nat_lt}
use Rattle.std.specs.Option.{option_map_or}
use Rattle.std.specs.List.{position_from}
use Rattle.std.specs.Str.{bytes_eq}
use Rattle.proto_model.specs.Tokens.{Text}
use Rattle.proto_model.specs.Names.{place_of, is_declared}

not_before : (test : Text → Bool) (n m : ℕ) (names : List Text) → m ≤ n
    → false ≡ option_map_or (λ k. nat_lt k m) (position_from test n names) false
not_before test n m [] h = refl
not_before test n m (name ∷ names) h = by (test name)
    (not_before test (n + 1) m names (omega arith))
  where
    late : false ≡ nat_lt n m
    late = grind arith

    by : (b : Bool) → false ≡ option_map_or (λ k. nat_lt k m) (position_from test (n + 1) names)
        false → false ≡ option_map_or (λ k. nat_lt k m)
        (cond b (Some n) (position_from test (n + 1) names)) false
    by true rest = late
    by false rest = rest

position_before : (test : Text → Bool) (n i m : ℕ) (names : List Text) → m ≡ n + i
    → is_some (position_from test n (take i names)) ≡ option_map_or (λ k. nat_lt k m)
    (position_from test n names) false
position_before test n i m [] e = none i
  where
    none : (i : ℕ) → is_some (position_from test n (take i [])) ≡ false
    none zero = refl
    none (suc i) = refl
position_before test n zero m (name ∷ names) e = not_before test n m (name ∷ names) (omega arith)
position_before test n (suc i) m (name ∷ names) e = by (test name)
    (position_before test (n + 1) i m names (omega arith))
  where
    early : true ≡ nat_lt n m
    early = grind arith

    by : (b : Bool) → is_some (position_from test (n + 1) (take i names)) ≡ option_map_or
        (λ k. nat_lt k m) (position_from test (n + 1) names) false
        → is_some (cond b (Some n) (position_from test (n + 1) (take i names))) ≡ option_map_or
        (λ k. nat_lt k m) (cond b (Some n) (position_from test (n + 1) names)) false
    by true rest = early
    by false rest = rest

pub declared_before : (name : Text) (place : ℕ) (names : List Text)
    → is_declared name (take place names) ≡ option_map_or (λ k. nat_lt k place)
    (place_of name names) false
declared_before name place names = position_before (bytes_eq name) 0 place place names (omega arith)
