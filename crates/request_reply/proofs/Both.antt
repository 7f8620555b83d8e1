-- Two tests that both pass.
use Rattle.std.proofs.Common.{◌≡◌, ◌&&◌, Bool, true, false, refl}

pub first_passes : (a b : Bool) → (a && b) ≡ true → a ≡ true
first_passes true b both = refl
first_passes false b both = both

pub second_passes : (a b : Bool) → (a && b) ≡ true → b ≡ true
second_passes true b both = both
second_passes false b both = absurd (cc)
