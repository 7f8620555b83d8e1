-- The reply that is left of a message is the one with which it is paired.
use Rattle.std.proofs.Common.{◌≡◌, ◌≢◌, ℕ, ◌+◌, ◌<◌, ◌==◌, ◌&&◌, not, ◌∙◌, Bool, true, false, cond}
use Rattle.std.proofs.Common.{length, Option, Some, None, slice_get, refl, sym, ap, arith, zero-add}
use Rattle.std.specs.Option.{option_map_or}
use Rattle.std.specs.List.{find, range_with_len}
use Rattle.std.proofs.Math.Bool.{and-false, or-false}
use Rattle.std.proofs.lemmas.Bool.Decides.{nat_tests}
use Rattle.std.proofs.lemmas.Option.{slice_get_within}
use Rattle.proto_model.specs.Numbered.{NumberedProtocol}
use Rattle.proto_model.specs.Pairs.{goes_up, goes_down, all_rules, gives_message, takes_message}
use Rattle.proto_model.specs.Pairs.{goes_to_only, awaits, awaits_answer, some_and_each, is_pair}
use Rattle.proto_model.specs.Pairs.{paired_with}
use Rattle.proto_model.specs.Proper.{IsProper}
use Rattle.proto_model.specs.declared.numbered.MessageInfo.{MessageInfo}
use Rattle.request_reply.specs.Candidates.{candidate, agreed, only_reply}
use Rattle.request_reply.specs.declared.look.Look.TheVariants.{RemoteOutputs, HomeOutputs}
use Rattle.request_reply.specs.declared.look.Look.TheVariants.{RemoteInputs}
use Rattle.request_reply.specs.declared.candidates.Candidate.{Candidate}
use Rattle.request_reply.specs.declared.candidates.Candidate.TheVariants.{Unseen, Reply, Never}
use Rattle.request_reply.proofs.Both.{first_passes}
use Rattle.request_reply.proofs.Leads.{goes_to_only-awaited, goes_to_only-message_out}
use Rattle.request_reply.proofs.Leads.{awaits_answer-awaited_from_target}
use Rattle.request_reply.proofs.Meant.{is_reply, leads_to, is_reply-after_rules, is_reply-agreed}
use Rattle.request_reply.proofs.Meant.{some_and_each-same}
use Rattle.request_reply.proofs.Directed.{up_request, down_request}
use Rattle.request_reply.proofs.Found.{find_same, find_none, find_only}

module _ (protocol : NumberedProtocol) where
  -- what all remote outputs of q lead to
  remote_outputs : (q p : ℕ)
      → some_and_each (gives_message q) (goes_to_only protocol.remote (awaits p))
      (all_rules protocol.remote)
      ≡ is_reply p (candidate RemoteOutputs protocol.remote q)
  remote_outputs q p =
      some_and_each-same (gives_message q) (goes_to_only protocol.remote (awaits p))
      (leads_to RemoteOutputs protocol.remote p)
      (goes_to_only-awaited protocol.remote p) (all_rules protocol.remote)
      ∙ sym (is_reply-after_rules RemoteOutputs protocol.remote q p (all_rules protocol.remote))

  home_outputs : (m p : ℕ) → some_and_each (gives_message m) (awaits_answer protocol p)
      (all_rules protocol.home)
      ≡ is_reply p (candidate HomeOutputs protocol.home m)
  home_outputs m p =
      some_and_each-same (gives_message m) (awaits_answer protocol p)
      (leads_to HomeOutputs protocol.home p)
      (awaits_answer-awaited_from_target protocol p) (all_rules protocol.home)
      ∙ sym (is_reply-after_rules HomeOutputs protocol.home m p (all_rules protocol.home))

  remote_inputs : (m p : ℕ)
      → some_and_each (takes_message m) (goes_to_only protocol.remote (gives_message p))
      (all_rules protocol.remote)
      ≡ is_reply p (candidate RemoteInputs protocol.remote m)
  remote_inputs m p =
      some_and_each-same (takes_message m) (goes_to_only protocol.remote (gives_message p))
      (leads_to RemoteInputs protocol.remote p)
      (goes_to_only-message_out protocol.remote p) (all_rules protocol.remote)
      ∙ sym (is_reply-after_rules RemoteInputs protocol.remote m p (all_rules protocol.remote))

  -- what is left of the replies of an up message, and of a down message
  abbrev pub up_left : ℕ → Candidate
  up_left q = candidate RemoteOutputs protocol.remote q

  abbrev pub down_left : ℕ → Candidate
  down_left m = agreed (candidate HomeOutputs protocol.home m)
      (candidate RemoteInputs protocol.remote m)

  down_both : (m p : ℕ)
      → (some_and_each (gives_message m) (awaits_answer protocol p) (all_rules protocol.home)
      && some_and_each (takes_message m) (goes_to_only protocol.remote (gives_message p))
      (all_rules protocol.remote))
      ≡ is_reply p (down_left m)
  down_both m p =
      ap (λ b. b && some_and_each (takes_message m) (goes_to_only protocol.remote (gives_message p))
      (all_rules protocol.remote)) (home_outputs m p)
      ∙ (ap (λ b. is_reply p (candidate HomeOutputs protocol.home m) && b) (remote_inputs m p)
      ∙ sym (is_reply-agreed p (candidate HomeOutputs protocol.home m)
      (candidate RemoteInputs protocol.remote m)))

  -- no message goes both ways
  one_way : (o : Option MessageInfo) → option_map_or (λ info. info.up) o false ≡ true
      → option_map_or (λ info. not info.up) o false ≡ false
  one_way None up = refl
  one_way (Some info) up = ap not up

  other_way : (o : Option MessageInfo) → option_map_or (λ info. not info.up) o false ≡ true
      → option_map_or (λ info. info.up) o false ≡ false
  other_way None down = refl
  other_way (Some info) down = turned info.up down where
    turned : (b : Bool) → not b ≡ true → b ≡ false
    turned true is = absurd (cc)
    turned false is = refl

  pub up_pair : (q p : ℕ) → goes_up protocol q ≡ true
      → is_pair protocol q p ≡ (goes_down protocol p && is_reply p (up_left q))
  up_pair q p up =
      rw (up, one_way (slice_get protocol.messages q) up)
      (or-false (goes_down protocol p && some_and_each (gives_message q)
      (goes_to_only protocol.remote (awaits p)) (all_rules protocol.remote))
      ∙ ap (λ b. goes_down protocol p && b) (remote_outputs q p))

  pub down_pair : (m p : ℕ) → goes_down protocol m ≡ true
      → is_pair protocol m p ≡ (goes_up protocol p && is_reply p (down_left m))
  down_pair m p down =
      rw (other_way (slice_get protocol.messages m) down, down)
      (ap (λ b. goes_up protocol p && b) (down_both m p))

  -- what goes some way is one of the messages
  some_place : (p : ℕ) (o : Option MessageInfo) (test : MessageInfo → Bool)
      → slice_get protocol.messages p ≡ o
      → option_map_or test o false ≡ true → p < length protocol.messages
  some_place p None test at is = absurd (cc)
  some_place p (Some info) test at is = slice_get_within protocol.messages p info at

  pub up_place : (p : ℕ) → goes_up protocol p ≡ true → p < length protocol.messages
  up_place p up = some_place p (slice_get protocol.messages p) (λ info. info.up) refl up

  pub down_place : (p : ℕ) → goes_down protocol p ≡ true → p < length protocol.messages
  down_place p down = some_place p (slice_get protocol.messages p) (λ info. not info.up) refl down

  -- the one place where a reply is left, and which goes the right way, is found
  found : (right_way : ℕ → Bool) (n : ℕ) (left : Candidate)
      → ((p : ℕ) → is_reply p left ≡ true → right_way p ≡ true)
      → ((p : ℕ) → right_way p ≡ true → p < n)
      → find (λ p. right_way p && is_reply p left) (range_with_len 0 n) ≡ only_reply left
  found right_way n Unseen right within = find_none (λ p. right_way p && false)
      (λ p. and-false (right_way p)) (range_with_len 0 n)
  found right_way n Never right within = find_none (λ p. right_way p && false)
      (λ p. and-false (right_way p)) (range_with_len 0 n)
  found right_way n (Reply r) right within =
      let same : (r == r) ≡ true = grind (arith, nat_tests) in
      let way : right_way r ≡ true = right r same in
      let here : (right_way r && (r == r)) ≡ true = rw (way, same) refl in
      let before : r < 0 + n = rw (zero-add n) (within r way) in
      let other : (p : ℕ) → p ≢ r → (r == p) ≡ false = λ p ne. grind (arith, nat_tests) in
      find_only (λ p. right_way p && (r == p)) r here
      (λ p ne. rw (other p ne) (and-false (right_way p))) 0 n (omega arith) before

  -- the directions of a message and of a reply that is left
  pub up_directions : IsProper protocol → (q p : ℕ) → is_reply p (up_left q) ≡ true
      → (goes_up protocol q ≡ true) × (goes_down protocol p ≡ true)
  up_directions proper q p is = up_request protocol proper q p
      (sym (is_reply-after_rules RemoteOutputs protocol.remote q p (all_rules protocol.remote))
      ∙ is)

  pub down_directions : IsProper protocol → (m p : ℕ) → is_reply p (down_left m) ≡ true
      → (goes_down protocol m ≡ true) × (goes_up protocol p ≡ true)
  down_directions proper m p is = down_request protocol proper m p
      (sym (is_reply-after_rules HomeOutputs protocol.home m p (all_rules protocol.home))
      ∙ first_passes (is_reply p (candidate HomeOutputs protocol.home m))
      (is_reply p (candidate RemoteInputs protocol.remote m))
      (sym (is_reply-agreed p (candidate HomeOutputs protocol.home m)
      (candidate RemoteInputs protocol.remote m)) ∙ is))

  pub paired_up : IsProper protocol → (q : ℕ) → goes_up protocol q ≡ true
      → paired_with protocol q ≡ only_reply (up_left q)
  paired_up proper q up =
      find_same (is_pair protocol q) (λ p. goes_down protocol p && is_reply p (up_left q))
      (λ p. up_pair q p up) (range_with_len 0 (length protocol.messages))
      ∙ found (goes_down protocol) (length protocol.messages) (up_left q)
      (λ p is. (up_directions proper q p is).1) down_place

  pub paired_down : IsProper protocol → (m : ℕ) → goes_down protocol m ≡ true
      → paired_with protocol m ≡ only_reply (down_left m)
  paired_down proper m down =
      find_same (is_pair protocol m) (λ p. goes_up protocol p && is_reply p (down_left m))
      (λ p. down_pair m p down) (range_with_len 0 (length protocol.messages))
      ∙ found (goes_up protocol) (length protocol.messages) (down_left m)
      (λ p is. (down_directions proper m p is).1) up_place

  -- a message that goes the other way has no reply left
  this_way : (way : Bool) (paired : Option ℕ) (left : Candidate)
      → (way ≡ true → paired ≡ only_reply left)
      → ((p : ℕ) → is_reply p left ≡ true → way ≡ true) → cond way paired None ≡ only_reply left
  this_way true paired left is only = is refl
  this_way false paired Unseen is only = refl
  this_way false paired Never is only = refl
  this_way false paired (Reply p) is only = let no : false ≡ true = only p
      (grind (arith, nat_tests)) in absurd (cc)

  pub up_reply : IsProper protocol → (q : ℕ) → cond (goes_up protocol q) (paired_with protocol q)
      None ≡ only_reply (up_left q)
  up_reply proper q = this_way (goes_up protocol q) (paired_with protocol q) (up_left q)
      (paired_up proper q) (λ p is. (up_directions proper q p is).0)

  pub down_reply : IsProper protocol → (m : ℕ)
      → cond (goes_down protocol m) (paired_with protocol m) None ≡ only_reply (down_left m)
  down_reply proper m = this_way (goes_down protocol m) (paired_with protocol m) (down_left m)
      (paired_down proper m) (λ p is. (down_directions proper m p is).0)
