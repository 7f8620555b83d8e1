-- The places of the array behind the used ones hold Unit.
use Rattle.std.proofs.Common.{◌≡◌, ℕ, ◌+◌, ◌-◌, ◌<◌, List, drop, set, replicate, sym, ap, ◌∙◌}
use Rattle.std.proofs.Common.{arith, length-set}
use Rattle.std.proofs.lemmas.List.{drop-drop, drop-set-lt, drop-replicate}
use Rattle.proto_model.specs.Filled.{IsFilled}
use Rattle.proto_model.specs.declared.numbered.Value.{Value}
use Rattle.proto_model.specs.declared.numbered.Value.TheVariants as value

-- one place more is used
pub IsFilled-push : (n : ℕ) (xs : List Value) (v : Value) → n < 16 → IsFilled n xs
    → IsFilled (n + 1) (set xs n v)
IsFilled-push n xs v room filled =
    let behind : n < n + 1 = omega arith in
    let left : 16 - n - 1 ≡ 16 - (n + 1) = omega arith in
    record {
      fits = omega arith;
      room = length-set xs n v ∙ filled.room;
      rest =
          drop-set-lt (n + 1) xs n v behind
          ∙ sym (drop-drop 1 n xs)
          ∙ ap (drop 1) filled.rest
          ∙ drop-replicate 1 (16 - n) value.Unit
          ∙ ap (λ (m : ℕ). replicate m value.Unit) left;
    }
