-- Texts of lists, written one after the other: what one more adds, and lists written whole.
use Rattle.std.proofs.Common.{◌≡◌, ◌≤◌, ◌<◌, ◌==◌, ◌&&◌, ◌+◌, ℕ, zero, suc, Bool, true, false, List}
use Rattle.std.proofs.Common.{[], ◌∷◌, ◌++◌, length, take, map, get_or, Option, Some, None, arith}
use Rattle.std.proofs.Common.{is_none}
use Rattle.std.proofs.Common.{slice_get, refl, sym, ap, ◌∙◌, append_assoc, append-nil}
use Rattle.std.proofs.lemmas.Bool.{eqb-true}
use Rattle.std.proofs.lemmas.List.{map_more}
use Rattle.std.proofs.lemmas.Option.{slice_get-get_or}
use Rattle.std.specs.Option.{option_and_then}
use Rattle.rv_base.specs.Lists.{flat_from}
use Rattle.rv_base.proofs.Lists.{flat_from-one_more}
use Rattle.proto_model.specs.Tokens.{Text}
use Rattle.proto_model.specs.Texts.{separator}
use Rattle.proto_model.specs.declared.numbered.MessageInfo.{MessageInfo}
use Rattle.ordered_links.specs.declared.packet.Packet.{Packet}
use Rattle.async_shape.specs.Config.{owed_to}
use Rattle.async_shape.specs.declared.config.HomeState.{HomeState}
use Rattle.run_replay.specs.StateLines.{debt_texts, packet_text}
use Rattle.run_replay.specs.Listed.{joined, is_nil, further, packet_texts, AreAll}

-- Texts behind texts.
joined-append : (xs ys : List Text) → joined (xs ++ ys) ≡ joined xs ++ further (is_nil xs) ys
joined-append [] [] = refl
joined-append [] (y ∷ ys) = refl
joined-append (x ∷ []) [] = sym (append-nil x)
joined-append (x ∷ []) (y ∷ ys) = refl
joined-append (x ∷ z ∷ xs) ys =
    ap (λ (text : Text). x ++ (44 ∷ text)) (joined-append (z ∷ xs) ys)
    ∙ sym (append_assoc x (44 ∷ joined (z ∷ xs)) (further false ys))

-- There are none where there are none of either.
is_nil-append : (xs ys : List Text) → is_nil (xs ++ ys) ≡ (is_nil xs && is_nil ys)
is_nil-append [] ys = refl
is_nil-append (x ∷ xs) ys = refl

-- No successor is zero, as the test says.
not-zero : (n : ℕ) (is : Bool) → (suc n == 0) ≡ is → is ≡ false
not-zero n true is = absurd (omega (arith, eqb-true (suc n) 0 is))
not-zero n false is = refl

-- The first texts of a list are none at its start alone.
is_nil-first : {X : Type 0} (give : X → Text) (xs : List X) (i : ℕ) → i < length xs
    → is_nil (map give (take i xs)) ≡ (i == 0)
is_nil-first give [] i within = absurd (omega arith)
is_nil-first give (x ∷ xs) zero within = refl
is_nil-first give (x ∷ xs) (suc i) within = sym (not-zero i (suc i == 0) refl)

-- One more item of a list adds what it gives.
pub listed-one_more : {X : Type 0} (give : X → Text) (xs : List X) (i : ℕ) (d : X) → i < length xs
    → joined (map give (take i xs)) ++ (separator (i == 0) ++ give (get_or xs i d))
    ≡ joined (map give (take (i + 1) xs))
listed-one_more give xs i d within =
    let text = give (get_or xs i d) in
    let before = map give (take i xs) in
    sym (ap joined (map_more give xs i d within)
    ∙ joined-append before (text ∷ [])
    ∙ ap (λ (first : Bool). joined before ++ (separator first ++ text))
    (is_nil-first give xs i within))

-- ---- the debts of the home

module _ (messages : List MessageInfo) (home : HomeState) where
  -- the debts to the first i remotes
  abbrev pub debts_below : ℕ → List Text
  debts_below i = flat_from (debt_texts messages) 0 (take i home.owed)

  -- One more remote adds its debt, if there is one.
  debts-more : (i : ℕ) → i < length home.owed
      → debts_below (i + 1) ≡ debts_below i ++ debt_texts messages i (owed_to home i)
  debts-more i within =
      let owed : get_or home.owed i None ≡ owed_to home i =
      sym (ap (option_and_then (λ (debt : Option ℕ). debt))
      (slice_get-get_or home.owed i None within)) in
      flat_from-one_more (debt_texts messages) home.owed i None within
      ∙ ap (λ (o : Option ℕ). debts_below i ++ debt_texts messages i o) owed

  -- One more remote's debt is listed, if there is one.
  pub debt-listed : (i : ℕ) (first : Bool) → i < length home.owed → first ≡ is_nil (debts_below i)
      → joined (debts_below i) ++ further first (debt_texts messages i (owed_to home i))
      ≡ joined (debts_below (i + 1))
  debt-listed i first within begins =
      let texts = debt_texts messages i (owed_to home i) in
      let before = debts_below i in
      sym (ap joined (debts-more i within) ∙ joined-append before texts
      ∙ ap (λ (b : Bool). joined before ++ further b texts) (sym begins))

  -- No debt is none to list.
  is_none-listed : (i : ℕ) (owed : Option ℕ) → is_none owed ≡ is_nil (debt_texts messages i owed)
  is_none-listed i None = refl
  is_none-listed i (Some p) = refl

  -- The next debt is the first of the list where no debt is listed before it.
  pub debt-begins : (i : ℕ) (first next : Bool) → i < length home.owed
      → first ≡ is_nil (debts_below i)
      → next ≡ (first && is_none (owed_to home i)) → next ≡ is_nil (debts_below (i + 1))
  debt-begins i first next within begins is =
      is
      ∙ ap (λ (b : Bool). first && b) (is_none-listed i (owed_to home i))
      ∙ ap (λ (b : Bool). b && is_nil (debt_texts messages i (owed_to home i))) begins
      ∙ sym (is_nil-append (debts_below i) (debt_texts messages i (owed_to home i)))
      ∙ sym (ap is_nil (debts-more i within))

-- ---- the packets on a link

module _ (messages : List MessageInfo) where
  -- Up to three packets, one after the other.
  three-listed : (packets : List Packet) (rest : Text) → length packets ≤ 3
      → further true (packet_texts messages (slice_get packets 0))
      ++ (further false (packet_texts messages (slice_get packets 1))
      ++ (further false (packet_texts messages (slice_get packets 2)) ++ rest))
      ≡ joined (map (packet_text messages) packets) ++ rest
  three-listed [] rest few = refl
  three-listed (a ∷ []) rest few = refl
  three-listed (a ∷ b ∷ []) rest few =
      let text = packet_text messages in
      sym (append_assoc (text a) (44 ∷ text b) rest)
  three-listed (a ∷ b ∷ c ∷ []) rest few =
      let text = packet_text messages in
      sym (append_assoc (text a) (44 ∷ (text b ++ (44 ∷ text c))) rest
      ∙ ap (λ (t : Text). text a ++ (44 ∷ t)) (append_assoc (text b) (44 ∷ text c) rest))
  three-listed (a ∷ b ∷ c ∷ d ∷ packets) rest few = absurd (omega (arith, few))

  -- The packets on a link are written in brackets.
  pub packets-listed : (packets : List Packet) (first second third : Option Packet)
      → AreAll packets first second third
      → 91 ∷ (further true (packet_texts messages first)
      ++ (further false (packet_texts messages second)
      ++ (further false (packet_texts messages third) ++ 93 ∷ [])))
      ≡ 91 ∷ (joined (map (packet_text messages) packets) ++ 93 ∷ [])
  packets-listed packets first second third all =
      ap (λ (t : Text). 91 ∷ t)
      (rw (all.at_0, all.at_1, all.at_2) (three-listed packets (93 ∷ []) all.few))
