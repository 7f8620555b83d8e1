-- A claim without codes gives a proper claim.
use Rattle.std.proofs.Common.{◌≡◌, ℕ, ◌<◌, ◌≤◌, true, false, not, List, [], map, length, arith}
use Rattle.std.specs.Prelude.{nat_lt, nat_le}
use Rattle.std.proofs.lemmas.Bool.{and_parts, or_parts, not-false}
use Rattle.proto_model.specs.Names.{is_declared, state_names}
use Rattle.proto_model.specs.Known.{knows_claim}
use Rattle.proto_model.specs.Faults.{too_many, unknown, bad_number, claim_codes, is_claim_too_many}
use Rattle.proto_model.specs.Faults.{is_large_claim}
use Rattle.proto_model.specs.Numbered.{numbered_claim}
use Rattle.proto_model.specs.Proper.{IsProperClaim}
use Rattle.proto_model.specs.declared.protocol.State.{State}
use Rattle.proto_model.specs.declared.protocol.Claim.{Claim}
use Rattle.proto_model.specs.declared.protocol.Claim.TheVariants as claim
use Rattle.star_check.proofs.Clean.{test_fails, last_test_fails}
use Rattle.star_check.proofs.InRange.{place_in_range}
use Rattle.star_check.proofs.ProperRules.{below}
use Rattle.star_check.proofs.StateSets.{are_states}

-- what a claim without codes has
pub record IsCleanClaim (states : List State) (place : ℕ) (c : Claim) : Type 0 where
  pub few : is_claim_too_many place c ≡ false
  pub known : knows_claim states c ≡ true
  pub fits : is_large_claim c ≡ false

pub claim_clean : (states : List State) (place : ℕ) (c : Claim) → claim_codes states place c ≡ []
    → IsCleanClaim states place c
claim_clean states place c e =
    let first = test_fails (is_claim_too_many place c) too_many _ e in
    let names = test_fails (not (knows_claim states c)) unknown _ first.1 in
    record {
      few = first.0;
      known = not-false (knows_claim states c) names.0;
      fits = last_test_fails (is_large_claim c) bad_number names.1;
    }

pub claim_below : (place : ℕ) (c : Claim) → is_claim_too_many place c ≡ false → place < 16
claim_below place (claim.AtMost most names) few =
    below 16 place (or_parts (nat_le 16 place) _ few).0
claim_below place (claim.Apart x y) few = below 16 place few

small : (most : ℕ) → nat_lt 64 most ≡ false → most ≤ 64
small most e = grind arith

pub proper_claim : {B : Type 0} (form : State → B) (states : List State) (place : ℕ) (c : Claim)
    → IsCleanClaim states place c
    → IsProperClaim (length (map form states)) (numbered_claim states c)
proper_claim form states place (claim.AtMost most names) clean =
    (small most clean.fits, are_states states form names clean.known)
proper_claim form states place (claim.Apart x y) clean =
    let both =
    and_parts (is_declared x (state_names states)) (is_declared y (state_names states))
    clean.known in (
      place_in_range (λ t. t.name) form states x both.0,
      place_in_range (λ t. t.name) form states y both.1,
    )
