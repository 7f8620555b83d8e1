-- What claims say of the states in which the remotes stand, and which claim is broken.
use Rattle.std.specs.Prelude.{◌≡◌, ◌≢◌, ◌≤◌, ℕ, Bool, ◌==◌, nat_le, not, ◌||◌, if◌then◌else◌, List}
use Rattle.std.specs.Prelude.{Option, Some, map, take, slice_get, count_by, position}
use Rattle.std.specs.List.{AllByRecursion}
use Rattle.proto_model.specs.NumberSets.{has_number}
use Rattle.proto_model.specs.declared.numbered.NumberedClaim.{NumberedClaim}
use Rattle.proto_model.specs.declared.numbered.NumberedClaim.TheVariants as claim
use Rattle.proto_model.specs.declared.rendezvous.RvConfig.{RvConfig}

-- The states in which the remotes of a configuration stand, in the order of the remotes.
abbrev pub remote_states : RvConfig → List ℕ
remote_states config = map (λ part. part.state) config.remotes

-- How many of these states are in the set. A state in which several remotes stand counts for each.
abbrev pub count_in : ℕ → List ℕ → ℕ
count_in set states = count_by (λ state. has_number set state) states

-- How many of these states are x.
abbrev pub count_at : ℕ → List ℕ → ℕ
count_at x states = count_by (λ state. state == x) states

-- No two different remotes stand the one in x and the other in y: at most one stands in x, where y
-- is x, and else none in x or none in y.
abbrev pub is_apart : ℕ → ℕ → List ℕ → Bool
is_apart x y states =
    if x == y then nat_le (count_at x states) 1
    else (count_at x states == 0 || count_at y states == 0)

-- Whether the claim holds of remotes that stand in these states.
abbrev pub holds : NumberedClaim → List ℕ → Bool
holds (claim.AtMost most set) states = nat_le (count_in set states) most
holds (claim.Apart x y) states = is_apart x y states

-- The number of the first claim, counted from 0, that doesn't hold of remotes that stand in these
-- states. There is none where all hold.
abbrev pub broken : List NumberedClaim → List ℕ → Option ℕ
broken claims states = position (λ c. not (holds c states)) claims

-- What a claim says, remote by remote. At most so many stand in a state of the set; or no two
-- different ones stand the one in x and the other in y.
abbrev pub Holds : NumberedClaim → List ℕ → Type 0
Holds (claim.AtMost most set) states = count_in set states ≤ most
Holds (claim.Apart x y) states =
    (i j : ℕ) → i ≢ j → slice_get states i ≡ Some x → slice_get states j ≡ Some y → ⊥

-- Each claim holds.
abbrev pub AllHold : List NumberedClaim → List ℕ → Type 0
AllHold claims states = AllByRecursion (λ c. Holds c states) claims

-- The claim with this number, counted from 0, doesn't hold, and each claim before it does.
pub record IsFirstBroken (claims : List NumberedClaim) (states : List ℕ) (number : ℕ) : Type 0 where
  pub broken_claim : NumberedClaim
  pub there : slice_get claims number ≡ Some broken_claim
  pub fails : Holds broken_claim states → ⊥
  pub before : AllHold (take number claims) states
