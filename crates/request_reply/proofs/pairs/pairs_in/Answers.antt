-- In mode plain no message has a reply.
use Rattle.std.proofs.Common.{◌≡◌, ◌∙◌, ℕ, zero, suc, ◌+◌, length, replicate, Bool, true, false}
use Rattle.std.proofs.Common.{cond, map, Option, None, refl, sym, ap, subst}
use Rattle.std.specs.List.{range_with_len}
use Rattle.proto_model.specs.Numbered.{NumberedProtocol}
use Rattle.proto_model.specs.Pairs.{goes_up, goes_down}
use Rattle.proto_model.specs.declared.mode.Mode.TheVariants.{Plain}
use Rattle.request_reply.specs.Pairs.{ArePairs}
use Rattle.request_reply.specs.declared.pairs.Pairs.{Pairs}
use Rattle.request_reply.proofs.pairs.pairs_in.Goals as goal

none_either : (b : Bool) → cond {A = Option ℕ} b None None ≡ None
none_either true = refl
none_either false = refl

none_each : (way : ℕ → Bool) (a n : ℕ)
    → map (λ m. cond {A = Option ℕ} (way m) None None) (range_with_len a n) ≡ replicate n None
none_each way a zero = refl
none_each way a (suc n) = rw (none_either (way a), none_each way (a + 1) n) refl

plain_pairs : (protocol : NumberedProtocol) (n : ℕ) (pairs : Pairs) → n ≡ length protocol.messages
    → pairs.up ≡ replicate n None → pairs.down ≡ replicate n None → ArePairs protocol Plain pairs
plain_pairs protocol n pairs count up down = record {
  up = up
      ∙ (ap (λ k. replicate k None) count
      ∙ sym (none_each (goes_up protocol) 0 (length protocol.messages)));
  down = down
      ∙ (ap (λ k. replicate k None) count
      ∙ sym (none_each (goes_down protocol) 0 (length protocol.messages)));
}

pub returns-in_ok-no_pairs-in-Plain-2 : goal.returns-in_ok-no_pairs-in-Plain-2
returns-in_ok-no_pairs-in-Plain-2 c =
    let pairs : Pairs =
    record { up = c.in_ok-no_pairs-in-Plain.field-0; down = c.in_ok-no_pairs-in-Plain-2.field-0 } in
    subst (λ mode. ArePairs c.args.checked.now.protocol mode pairs) (sym c.in-Plain.is)
    (plain_pairs c.args.checked.now.protocol (length c.messages-count.result.now) pairs
    (ap length c.messages-count.ensures.value)
    c.in_ok-no_pairs-in-Plain.ensures c.in_ok-no_pairs-in-Plain-2.ensures)
