-- The reply of a message, found among the replies of all messages; and that it is the reply of some
-- message of the other direction.
use Rattle.std.proofs.Common.{◌≡◌, ℕ, zero, suc, ◌<◌, ◌≤◌, inl, inr, Bool, true, false, not}
use Rattle.std.proofs.Common.{◌==◌, List, [], ◌∷◌, length, Option, Some, None, slice_get}
use Rattle.std.proofs.Common.{refl, sym, ap, ◌∙◌, arith}
use Rattle.std.specs.Option.{option_map_or, option_and_then}
use Rattle.std.specs.List.{find, range_with_len, zip}
use Rattle.std.proofs.lemmas.Bool.{and_from, cases_lt, eq-eqb}
use Rattle.std.proofs.lemmas.List.FromFn.{get_or-map-range_with_len, length-map-range_with_len}
use Rattle.std.proofs.lemmas.Map.Keys.{any_passes_from_place}
use Rattle.std.proofs.lemmas.Option.{same_Some, slice_get-get_or, slice_get_past, slice_get_within}
use Rattle.proto_model.specs.Numbered.{NumberedProtocol}
use Rattle.proto_model.specs.Pairs.{goes_up, goes_down, is_pair, reply_of, replies_of}
use Rattle.proto_model.specs.declared.mode.Mode.{Mode}
use Rattle.proto_model.specs.declared.mode.Mode.TheVariants.{Plain, Lean}
use Rattle.proto_model.specs.declared.numbered.MessageInfo.{MessageInfo}
use Rattle.controller_table.specs.Rows.{reply_at, answers_up, answers_down}
use Rattle.controller_table.specs.Rows.{is_reply_down, is_reply_up}

-- the pair of what stands at one place of two lists
zip-at : {A B : Type 0} (xs : List A) (ys : List B) (i : ℕ) (x : A) (y : B)
    → slice_get xs i ≡ Some x → slice_get ys i ≡ Some y → slice_get (zip xs ys) i ≡ Some (x, y)
zip-at [] ys i x y first second = absurd (cc)
zip-at (a ∷ xs) [] i x y first second = absurd (cc)
zip-at (a ∷ xs) (b ∷ ys) zero x y first second =
    let left : a ≡ x = same_Some a x first in
    let right : b ≡ y = same_Some b y second in
    cc
zip-at (a ∷ xs) (b ∷ ys) (suc i) x y first second = zip-at xs ys i x y first second

-- what passes a test is there
test-there : {X : Type 0} (test : X → Bool) (o : Option X) → option_map_or test o false ≡ true
    → (x : X) × (o ≡ Some x) × (test x ≡ true)
test-there test None e = absurd (cc)
test-there test (Some x) e = (x, refl, e)

-- nothing is found by a test that nothing passes
find-nothing : (test : ℕ → Bool) → ((n : ℕ) → test n ≡ false) → (xs : List ℕ)
    → find test xs ≡ None
find-nothing test none [] = refl
find-nothing test none (x ∷ xs) = rw (none x) (find-nothing test none xs)

-- no message past the last one has a reply
past-reply : (protocol : NumberedProtocol) (mode : Mode) (m : ℕ) → length protocol.messages ≤ m
    → reply_of protocol mode m ≡ None
past-reply protocol Plain m past = refl
past-reply protocol Lean m past =
    let nothing = slice_get_past protocol.messages m past in
    find-nothing (is_pair protocol m) (λ p. rw nothing refl)
    (range_with_len 0 (length protocol.messages))

module _ (protocol : NumberedProtocol) (mode : Mode) where
  -- the replies of all messages
  abbrev replies : List (Option ℕ)
  replies = replies_of protocol mode

  -- there are as many as messages
  replies-count : length replies ≡ length protocol.messages
  replies-count =
      length-map-range_with_len (reply_of protocol mode) 0 (length protocol.messages)

  -- at the place of a message stands its reply
  replies-at : (m : ℕ) → m < length protocol.messages
      → slice_get replies m ≡ Some (reply_of protocol mode m)
  replies-at m there =
      let count = replies-count in
      let within : m < length replies = omega (arith, count) in
      slice_get-get_or replies m None within
      ∙ ap (λ (r : Option ℕ). Some r)
      (get_or-map-range_with_len (reply_of protocol mode) 0 (length protocol.messages) m m None
      there (omega arith))

  -- among the replies of all messages, the one at a message's place is that message's
  pub reply_at-is : (m : ℕ) → reply_at replies m ≡ reply_of protocol mode m
  reply_at-is m = elim (cases_lt m (length protocol.messages)) [
    | inl there ↦ ap (option_and_then (λ (r : Option ℕ). r)) (replies-at m there)
    | inr beyond ↦
        let count = replies-count in
        let past : length replies ≤ m = omega (arith, count) in
        ap (option_and_then (λ (r : Option ℕ). r)) (slice_get_past replies m past)
        ∙ sym (past-reply protocol mode m beyond)
  ]

  -- a message stands beside its reply
  reply-pair : (m p : ℕ) (info : MessageInfo) → slice_get protocol.messages m ≡ Some info
      → reply_of protocol mode m ≡ Some p
      → slice_get (zip protocol.messages replies) m ≡ Some (info, Some p)
  reply-pair m p info there reply =
      let within = slice_get_within protocol.messages m info there in
      zip-at protocol.messages replies m info (Some p) there
      (replies-at m within ∙ ap (λ (r : Option ℕ). Some r) reply)

  -- the reply of an up message is the reply of some up message
  pub is_reply_down-some : (m p : ℕ) → goes_up protocol m ≡ true
      → reply_of protocol mode m ≡ Some p → is_reply_down protocol.messages replies p ≡ true
  is_reply_down-some m p up reply =
      let of = test-there (λ (i : MessageInfo). i.up) (slice_get protocol.messages m) up in
      any_passes_from_place (answers_up p) (zip protocol.messages replies) m (of.0, Some p)
      (reply-pair m p of.0 of.1 reply) (and_from of.0.up (p == p) of.2 (eq-eqb p p refl))

  -- the reply of a down message is the reply of some down message
  pub is_reply_up-some : (m p : ℕ) → goes_down protocol m ≡ true
      → reply_of protocol mode m ≡ Some p → is_reply_up protocol.messages replies p ≡ true
  is_reply_up-some m p down reply =
      let of = test-there (λ (i : MessageInfo). not i.up) (slice_get protocol.messages m) down in
      any_passes_from_place (answers_down p) (zip protocol.messages replies) m (of.0, Some p)
      (reply-pair m p of.0 of.1 reply) (and_from (not of.0.up) (p == p) of.2 (eq-eqb p p refl))
