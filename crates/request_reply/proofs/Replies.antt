-- What is known of the reply of a message.
use Rattle.std.proofs.Common.{◌≡◌, ◌≢◌, ◌∙◌, ℕ, ◌<◌, ◌&&◌, Bool, true, false, cond, List, [], ◌∷◌}
use Rattle.std.proofs.Common.{length, map, zip, Option, Some, None, refl, sym, ap, arith, zero-add}
use Rattle.std.specs.List.{range_with_len}
use Rattle.std.proofs.Math.Bool.{and-false}
use Rattle.std.proofs.lemmas.Bool.{eqb-true}
use Rattle.std.proofs.lemmas.Bool.Decides.{nat_tests}
use Rattle.proto_model.specs.Numbered.{NumberedProtocol}
use Rattle.proto_model.specs.Pairs.{goes_up, goes_down, is_pair, paired_with, reply_of, replies_of}
use Rattle.proto_model.specs.declared.mode.Mode.{Mode}
use Rattle.proto_model.specs.declared.mode.Mode.TheVariants.{Plain, Lean}
use Rattle.request_reply.specs.Pairs.{ArePairs, either, replies_in}
use Rattle.request_reply.specs.declared.pairs.Pairs.{Pairs}
use Rattle.request_reply.specs.declared.candidates.Candidate.{Candidate}
use Rattle.request_reply.specs.declared.candidates.Candidate.TheVariants.{Unseen, Reply, Never}
use Rattle.request_reply.proofs.Both.{first_passes, second_passes}
use Rattle.request_reply.proofs.Meant.{is_reply}
use Rattle.request_reply.proofs.Found.{find_none, find_only, find_passes}
use Rattle.request_reply.proofs.Paired.{up_left, down_left, up_pair, down_pair, up_place}
use Rattle.request_reply.proofs.Paired.{down_place}

-- no second reply is left
one_left : (p n : ℕ) (left : Candidate) → is_reply p left ≡ true → n ≢ p → is_reply n left ≡ false
one_left p n Unseen is other = refl
one_left p n (Reply r) is other = let same : r ≡ p = eqb-true r p is in grind (arith, nat_tests)
one_left p n Never is other = refl

-- p is a message, and m is paired with no other
record IsOneReply (protocol : NumberedProtocol) (m p : ℕ) : Type 0 where
  within : p < length protocol.messages
  only : (n : ℕ) → n ≢ p → is_pair protocol m n ≡ false

-- where a pair is a reply that is left and goes the right way
alone : (protocol : NumberedProtocol) (m p : ℕ) (right_way : ℕ → Bool) (left : Candidate)
    → ((n : ℕ) → is_pair protocol m n ≡ (right_way n && is_reply n left))
    → ((n : ℕ) → right_way n ≡ true → n < length protocol.messages)
    → is_pair protocol m p ≡ true → IsOneReply protocol m p
alone protocol m p right_way left same place pair =
    let both : (right_way p && is_reply p left) ≡ true = sym (same p) ∙ pair in
    record {
      within = place p (first_passes (right_way p) (is_reply p left) both);
      only = λ n other. same n
          ∙ (ap (λ b. right_way n && b)
          (one_left p n left (second_passes (right_way p) (is_reply p left) both) other)
          ∙ and-false (right_way n));
    }

reply_alone : (protocol : NumberedProtocol) (m p : ℕ) (up down : Bool) → goes_up protocol m ≡ up
    → goes_down protocol m ≡ down
    → is_pair protocol m p ≡ true → IsOneReply protocol m p
reply_alone protocol m p true down is_up is_down pair =
    alone protocol m p (goes_down protocol) (up_left protocol m) (λ n. up_pair protocol m n is_up)
    (down_place protocol) pair
reply_alone protocol m p false true is_up is_down pair =
    alone protocol m p (goes_up protocol) (down_left protocol m)
    (λ n. down_pair protocol m n is_down) (up_place protocol) pair
reply_alone protocol m p false false is_up is_down pair =
    let none : is_pair protocol m p ≡ false = rw (is_up, is_down) refl in absurd (cc)

pub is_pair-paired_with : (protocol : NumberedProtocol) (m p : ℕ) → is_pair protocol m p ≡ true
    → paired_with protocol m ≡ Some p
is_pair-paired_with protocol m p pair =
    let alone = reply_alone protocol m p (goes_up protocol m) (goes_down protocol m) refl refl
    pair in
    find_only (is_pair protocol m) p pair alone.only 0 (length protocol.messages) (omega arith)
    (rw (zero-add (length protocol.messages)) alone.within)

pub reply_of-is_pair : (protocol : NumberedProtocol) (mode : Mode) (m p : ℕ)
    → reply_of protocol mode m ≡ Some p → is_pair protocol m p ≡ true
reply_of-is_pair protocol Plain m p is = absurd (cc)
reply_of-is_pair protocol Lean m p is = find_passes (is_pair protocol m) p
    (range_with_len 0 (length protocol.messages)) is

pub reply_of-up : (protocol : NumberedProtocol) (mode : Mode) (m p : ℕ)
    → reply_of protocol mode m ≡ Some p → goes_up protocol m ≡ true → goes_down protocol p ≡ true
reply_of-up protocol mode m p is up =
    first_passes (goes_down protocol p) (is_reply p (up_left protocol m))
    (sym (up_pair protocol m p up) ∙ reply_of-is_pair protocol mode m p is)

pub reply_of-down : (protocol : NumberedProtocol) (mode : Mode) (m p : ℕ)
    → reply_of protocol mode m ≡ Some p → goes_down protocol m ≡ true → goes_up protocol p ≡ true
reply_of-down protocol mode m p is down =
    first_passes (goes_up protocol p) (is_reply p (down_left protocol m))
    (sym (down_pair protocol m p down) ∙ reply_of-is_pair protocol mode m p is)

-- the reply of a message that goes neither way
no_way : (protocol : NumberedProtocol) (mode : Mode) (m : ℕ) → goes_up protocol m ≡ false
    → goes_down protocol m ≡ false
    → reply_of protocol mode m ≡ None
no_way protocol Plain m not_up not_down = refl
no_way protocol Lean m not_up not_down =
    find_none (is_pair protocol m) (λ p. rw (not_up, not_down) refl)
    (range_with_len 0 (length protocol.messages))

-- the reply of a message by its direction
either_way : (up down : Bool) (reply : Option ℕ) → (up ≡ false → down ≡ false → reply ≡ None)
    → either (cond up reply None, cond down reply None) ≡ reply
either_way true true None none = refl
either_way true false None none = refl
either_way true down (Some p) none = refl
either_way false true reply none = refl
either_way false false reply none = sym (none refl refl)

zip-maps : (f g h : ℕ → Option ℕ) → ((m : ℕ) → either (f m, g m) ≡ h m) → (xs : List ℕ)
    → map either (zip (map f xs) (map g xs)) ≡ map h xs
zip-maps f g h same [] = refl
zip-maps f g h same (x ∷ xs) = rw (same x, zip-maps f g h same xs) refl

pub replies_in-replies_of : (protocol : NumberedProtocol) (mode : Mode) (pairs : Pairs)
    → ArePairs protocol mode pairs → replies_in pairs ≡ replies_of protocol mode
replies_in-replies_of protocol mode pairs are =
    rw (are.up, are.down)
    (zip-maps (λ m. cond (goes_up protocol m) (reply_of protocol mode m) None)
    (λ m. cond (goes_down protocol m) (reply_of protocol mode m) None)
    (reply_of protocol mode)
    (λ m. either_way (goes_up protocol m) (goes_down protocol m) (reply_of protocol mode m)
    (no_way protocol mode m))
    (range_with_len 0 (length protocol.messages)))
