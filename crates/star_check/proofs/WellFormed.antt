-- A well-formed protocol is proper in numbered form, and so are its claims.
use Rattle.std.proofs.Common.{◌≡◌, ℕ, ◌≤◌, false, [], ◌∷◌, ◌++◌, length, map, Some, zero-add}
use Rattle.std.specs.Prelude.{slice_get}
use Rattle.std.proofs.lemmas.List.{length-map}
use Rattle.rv_base.specs.Lists.{map_from}
use Rattle.rv_base.proofs.Lists.{AllByRecursion-front, AllByRecursion-back, AllByRecursion-map}
use Rattle.proto_model.specs.Names.{message_names}
use Rattle.proto_model.specs.Faults.{IsWellFormed, item_codes, name_codes, message_codes}
use Rattle.proto_model.specs.Faults.{declaration_codes, process_codes, scope_of, claim_codes}
use Rattle.proto_model.specs.Faults.{is_bad_carry, bad_number}
use Rattle.proto_model.specs.Numbered.{numbered, numbered_protocol, numbered_message}
use Rattle.proto_model.specs.Numbered.{numbered_state, numbered_claim}
use Rattle.proto_model.specs.Proper.{IsProper, IsProperCarry, IsShortName, IsProperClaim}
use Rattle.proto_model.specs.Proper.{IsProperChecked}
use Rattle.proto_model.specs.declared.protocol.Carry.{Carry}
use Rattle.proto_model.specs.declared.protocol.Carry.TheVariants as carry
use Rattle.proto_model.specs.declared.protocol.Message.{Message}
use Rattle.proto_model.specs.declared.protocol.Claim.{Claim}
use Rattle.proto_model.specs.declared.protocol.Protocol.{Protocol}
use Rattle.proto_model.specs.declared.numbered.Side.TheVariants as side
use Rattle.star_check.proofs.Clean.{IsEmpty, clean, codes_at, last_test_fails}
use Rattle.star_check.proofs.Clean.{parts_empty, few}
use Rattle.star_check.proofs.ProperRules.{declaration_below, short_name, short_declared}
use Rattle.star_check.proofs.ProperBodies.{bound, CleanProcess, clean_process, proper_body}
use Rattle.star_check.proofs.ProperClaims.{IsCleanClaim, claim_clean, claim_below, proper_claim}

proper_carry : (c : Carry) → is_bad_carry c ≡ false → IsProperCarry c
proper_carry carry.Nothing e = tt
proper_carry (carry.Int n) e = bound n e
proper_carry carry.Node e = tt
proper_carry carry.Set e = tt

-- the messages, the processes and the claims of a well-formed protocol have no code
pub record CleanParts (p : Protocol) : Type 0 where
  pub header : name_codes p.name ≡ []
  pub messages : (k : ℕ) (m : Message) → slice_get p.messages k ≡ Some m
      → message_codes p.messages k m ≡ []
  pub home : CleanProcess side.Home p.messages p.home
  pub remote : CleanProcess side.Remote p.messages p.remote
  pub claims : (k : ℕ) (c : Claim) → slice_get p.claims k ≡ Some c
      → IsCleanClaim p.remote.states k c

pub clean_parts : (p : Protocol) → IsWellFormed p → CleanParts p
clean_parts p well_formed =
    let all = clean 0 (item_codes p) well_formed in
    let home = process_codes (scope_of side.Home p.messages p.home) p.home.start in
    let remote = process_codes (scope_of side.Remote p.messages p.remote) p.remote.start in
    let messages = map_from (message_codes p.messages) 0 p.messages in
    let claims = map_from (claim_codes p.remote.states) 0 p.claims in
    let behind = home ++ [] ∷ (remote ++ claims) in
    let processes = (AllByRecursion-back IsEmpty messages ([] ∷ behind) all.1).1 in
    let last = (AllByRecursion-back IsEmpty home ([] ∷ (remote ++ claims)) processes).1 in
    record {
      header = all.0;
      messages = λ k m e. rw zero-add at
          (codes_at (message_codes p.messages) 0 p.messages
          (AllByRecursion-front IsEmpty messages ([] ∷ behind) all.1) k m e);
      home = clean_process side.Home p.messages p.home
          (AllByRecursion-front IsEmpty home ([] ∷ (remote ++ claims)) processes);
      remote = clean_process side.Remote p.messages p.remote
          (AllByRecursion-front IsEmpty remote claims last);
      claims = λ k c e. claim_clean p.remote.states k c (rw zero-add at
          (codes_at (claim_codes p.remote.states) 0 p.claims
          (AllByRecursion-back IsEmpty remote claims last) k c e));
    }

pub few_messages : (p : Protocol) → CleanParts p → length p.messages ≤ 64
few_messages p clean =
    few 64 p.messages
    (λ k m e. declaration_below 64 (message_names p.messages) k m.name _ (clean.messages k m e))

pub well_formed-proper : (p : Protocol) → IsWellFormed p → IsProper (numbered_protocol p)
well_formed-proper p well_formed =
    let clean = clean_parts p well_formed in
    let name = short_declared 64 (message_names p.messages) in
    record {
      short_name = short_name p.name (clean.header);
      short_names = AllByRecursion-map (λ m. IsShortName m.name) numbered_message p.messages
          (λ k m e. name k m.name _ (clean.messages k m e));
      few_messages = rw (length-map p.messages numbered_message) (few_messages p clean);
      messages = AllByRecursion-map (λ m. IsProperCarry m.carries) numbered_message p.messages
          (λ k m e. proper_carry m.carries
          (last_test_fails _ bad_number
          (parts_empty (declaration_codes 64 (message_names p.messages) k m.name) _
          (clean.messages k m e)).1));
      home = proper_body side.Home p.messages p.home clean.home;
      remote = proper_body side.Remote p.messages p.remote clean.remote;
    }

pub well_formed-proper_checked : (p : Protocol) → IsWellFormed p → IsProperChecked (numbered p)
well_formed-proper_checked p well_formed =
    let clean = clean_parts p well_formed in
    let form = numbered_state p.messages p.remote.vars p.remote.states in
    let few_claims : length p.claims ≤ 16 =
    few 16 p.claims (λ k c e. claim_below k c (clean.claims k c e).few) in
    record {
      protocol = well_formed-proper p well_formed;
      few_claims = rw (length-map p.claims (numbered_claim p.remote.states)) few_claims;
      claims = AllByRecursion-map (IsProperClaim (length (map form p.remote.states)))
          (numbered_claim p.remote.states) p.claims
          (λ k c e. proper_claim form p.remote.states k c (clean.claims k c e));
    }
