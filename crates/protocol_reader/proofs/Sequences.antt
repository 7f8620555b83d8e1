-- Rules put together so that what stops the whole is plain to see.
use Rattle.std.proofs.Common.{◌≡◌, ◌≢◌, ℕ, Bool, true, false, not, cond, ◌&&◌, List, [], ◌∷◌}
use Rattle.std.proofs.Common.{◌++◌, refl, sym, ap, ◌∙◌, inl, inr}
use Rattle.std.specs.Prelude.{◌⊎◌, is_some}
use Rattle.std.specs.List.{list_all, flat_map, AllByRecursion}
use Rattle.std.specs.Str.{bytes_eq}
use Rattle.std.specs.Fmt.{decimal}
use Rattle.std.proofs.lemmas.Slice.Eq.{bytes_eq-Decides}
use Rattle.std.proofs.lemmas.Bool.{cases_Bool, and_parts}
use Rattle.proto_model.specs.Tokens.{Text, Token, part, begins_name, IsName, IsNumber}
use Rattle.protocol_reader.specs.Reading.{Reader, both, token, is_among, is_name, is_number}
use Rattle.protocol_reader.proofs.Tokens.{name_is}
use Rattle.protocol_reader.proofs.Numbers.{number_in-decimal, word_no_number}
use Rattle.protocol_reader.proofs.Rule.{IsRule, restop, both_rule, both_tokens, BothOk, Follows}
use Rattle.protocol_reader.proofs.Rule.{is_none, and_both}
use Rattle.protocol_reader.proofs.Choices.{free, Anything, no_tokens, the_token, token_rule}
use Rattle.protocol_reader.proofs.Choices.{choice_tokens, ChoiceOk, Differs}
use Rattle.protocol_reader.proofs.Repeated.{Begins, many_stops, last_all}
use Rattle.protocol_reader.proofs.Words.{name_tokens, number_tokens, either_tokens, EitherOk}

-- ---- texts

abbrev pub is_filled : Text → Bool
is_filled [] = false
is_filled (_ ∷ _) = true

pub filled : (t : Text) → is_filled t ≡ true → t ≢ []
filled [] e = absurd cc
filled (b ∷ t) e = λ h. absurd cc

-- what holds of each of some words holds of a text that is one of them
pub among_all : (words : List Text) (f : Text → Bool) → list_all f words ≡ true → (t : Text)
    → is_among words t ≡ true → f t ≡ true
among_all [] f all t e = absurd cc
among_all (w ∷ words) f all t e =
    let parts = and_parts (f w) (list_all f words) all in
    elim (cases_Bool (bytes_eq t w)) [
      | inl so ↦ ap f ((bytes_eq-Decides t w).0 so) ∙ parts.0
      | inr so ↦ among_all words f parts.1 t (rw so at e)
    ]

-- ---- the first token of what stands behind

pub record FirstAmong {B : Type 0} (words : List Text) (Q : B → Type 0)
    (g : B → List Token) : Type 0 where
  pub first : (b : B) (t : Token) (ts : List Token) → Q b → g b ≡ t ∷ ts
      → is_among words t.text ≡ true

pub follows_free : {A B : Type 0} (P : A → Type 0) (Q : B → Type 0) (g : B → List Token)
    → Follows P free Q g
follows_free P Q g = record { stop = λ x y t ts ok ok2 e. refl }

pub follows_among : {A B : Type 0} {P : A → Type 0} {s : A → Text → Bool} {Q : B → Type 0}
    {g : B → List Token} (words : List Text)
    → FirstAmong words Q g → ((x : A) → P x → list_all (s x) words ≡ true) → Follows P s Q g
follows_among {s = s} words first all =
    record {
      stop =
          λ x y t ts ok ok2 e. among_all words (s x) (all x ok) t.text (first.first y t ts ok2 e);
    }

pub same_first : (v : Token) (vs : List Token) (t : Token) (ts : List Token) → v ∷ vs ≡ t ∷ ts
    → v ≡ t
same_first v vs t ts e = cc

pub first_token : {B : Type 0} (v : Token) (words : List Text) (Q : B → Type 0)
    (rest : B → List Token) → is_among words v.text ≡ true → FirstAmong words Q (λ b. v ∷ rest b)
first_token v words Q rest e =
    record {
      first = λ b t ts ok h.
          ap (λ (u : Token). is_among words u.text) (sym (same_first v (rest b) t ts h)) ∙ e;
    }

first_of_many : {A : Type 0} (words : List Text) (tokens : A → List Token) (P : A → Type 0)
    (s : A → Text → Bool) → Begins (is_among words) tokens P s
    → (xs : List A) (t : Token) (ts : List Token) → AllByRecursion P xs
    → flat_map tokens xs ≡ t ∷ ts → is_among words t.text ≡ true
first_of_many words tokens P s begins [] t ts ok e = absurd cc
first_of_many words tokens P s begins (x ∷ xs) t ts ok e =
    let first : begins.first x ∷ (begins.rest x ++ flat_map tokens xs) ≡ t ∷ ts =
    ap (λ (us : List Token). us ++ flat_map tokens xs) (sym (begins.parts x ok.0)) ∙ e in
    ap (λ (u : Token). is_among words u.text) (sym (same_first (begins.first x) _ t ts first))
    ∙ begins.first_comes x ok.0

-- any number of things begin with one of their words
pub first_many : {A : Type 0} {tokens : A → List Token} {P : A → Type 0} {s : A → Text → Bool}
    (words : List Text) → Begins (is_among words) tokens P s
    → FirstAmong words (AllByRecursion P) (flat_map tokens)
first_many {tokens = tokens} {P = P} {s = s} words begins =
    record { first = first_of_many words tokens P s begins }

-- things that any text stops stop before a text with which none comes
pub many_stop : {A : Type 0} (comes : Text → Bool) (t : Text) → not (comes t) ≡ true
    → (xs : List A) → many_stops comes free xs t ≡ true
many_stop comes t e xs = and_both _ _ e (last_all free t (λ x. refl) xs)

-- ---- sequences

no_stop : (a b : Bool) → (a && cond b true true) ≡ a
no_stop true true = refl
no_stop true false = refl
no_stop false b = refl

no_part : (a c b : Bool) → b ≡ false → (a && cond b c true) ≡ a
no_part true c b e = rw e refl
no_part false c b e = refl

-- nothing of the one's stop is left behind a part that any text stops
pub both_free : {A B : Type 0} {p : Reader A} {q : Reader B} {f : A → List Token}
    {g : B → List Token} {P : A → Type 0} {Q : B → Type 0} {r : B → Text → Bool}
    → IsRule p f P free → IsRule q g Q r
    → IsRule (both p q) (both_tokens f g) (BothOk P Q) (λ x t. r x.1 t)
both_free {g = g} {P = P} {Q = Q} {r = r} one other =
    restop (both_rule one other (follows_free P Q g))
    (λ x t ok. no_stop (r x.1 t) (is_none (g x.1)))

-- nor in front of a part that is never empty
pub both_filled : {A B : Type 0} {p : Reader A} {q : Reader B} {f : A → List Token}
    {g : B → List Token} {P : A → Type 0} {Q : B → Type 0} {s : A → Text → Bool}
    {r : B → Text → Bool}
    → IsRule p f P s → IsRule q g Q r → Follows P s Q g → ((y : B) → Q y → is_none (g y) ≡ false)
    → IsRule (both p q) (both_tokens f g) (BothOk P Q) (λ x t. r x.1 t)
both_filled {g = g} {s = s} {r = r} one other follows filled_part =
    restop (both_rule one other follows)
    (λ x t ok. no_part (r x.1 t) (s x.0 t) (is_none (g x.1)) (filled_part x.1 ok.1))

-- a token behind a part that it stops
pub then_token : {A : Type 0} {p : Reader A} {f : A → List Token} {P : A → Type 0}
    {s : A → Text → Bool} (t : Token)
    → IsRule p f P s → t.text ≢ [] → ((x : A) → P x → s x t.text ≡ true)
    → IsRule (both p (token t)) (both_tokens f (the_token t)) (BothOk P Anything) free
then_token {s = s} t one some stops =
    both_filled one (token_rule t some)
    (record {
      stop =
          λ x y u us ok ok2 e. ap (λ (v : Token). s x v.text) (sym (same_first t [] u us e))
          ∙ stops x ok;
    }) (λ y ok. refl)

-- ---- what a second choice doesn't begin with

differs_first : (v : Token) (vs : List Token) (t u : Token) (us : List Token) → v ∷ vs ≡ u ∷ us
    → bytes_eq v.text t.text ≡ false → bytes_eq u.text t.text ≡ false
differs_first v vs t u us e d =
    ap (λ (w : Token). bytes_eq w.text t.text) (sym (same_first v vs u us e)) ∙ d

differs_either : {A B : Type 0} (t v : Token) (P : A → Type 0) (Q : B → Type 0) (f : A → List Token)
    (g : B → List Token)
    → bytes_eq v.text t.text ≡ false → Differs t Q g → (b : A ⊎ B) (u : Token) (us : List Token)
    → ChoiceOk P Q b → choice_tokens v f g b ≡ u ∷ us → bytes_eq u.text t.text ≡ false
differs_either t v P Q f g d other (inl a) u us ok e = differs_first v (f a) t u us e d
differs_either t v P Q f g d other (inr b) u us ok e = other.apart b u us ok e

no_name : (n t : Text) → IsName n → is_name t ≡ false → bytes_eq n t ≡ false
no_name n t ok isnt =
    elim (cases_Bool (bytes_eq n t)) [
      | inl so ↦ absurd (let e = (bytes_eq-Decides n t).0 so in let h = name_is n ok in
          let k : is_name t ≡ true = ap is_name (sym e) ∙ h in cc)
      | inr so ↦ so
    ]

no_number : (n : ℕ) (t : Text) → IsNumber n → begins_name t ≡ true → bytes_eq (decimal n) t ≡ false
no_number n t ok begins =
    elim (cases_Bool (bytes_eq (decimal n) t)) [
      | inl so ↦ absurd (
          let e = (bytes_eq-Decides (decimal n) t).0 so in
          let k : is_number t ≡ true = ap is_number (sym e) ∙ ap is_some (number_in-decimal n ok) in
          let no = word_no_number t begins in
          cc)
      | inr so ↦ so
    ]

either_differs : (t : Token) → begins_name t.text ≡ true → is_name t.text ≡ false
    → (b : ℕ ⊎ Text) (u : Token) (us : List Token) → EitherOk b → either_tokens b ≡ u ∷ us
    → bytes_eq u.text t.text ≡ false
either_differs t begins name_not (inl n) u us ok e =
    differs_first (part (decimal n)) [] t u us e (no_number n t.text ok begins)
either_differs t begins name_not (inr n) u us ok e =
    differs_first (part n) [] t u us e (no_name n t.text ok name_not)

pub differs_nothing : (t : Token) → Differs t Anything no_tokens
differs_nothing t = record { apart = λ b u us ok e. absurd cc }

pub differs_token : (t v : Token) → bytes_eq v.text t.text ≡ false
    → Differs t Anything (the_token v)
differs_token t v d = record { apart = λ b u us ok e. differs_first v [] t u us e d }

-- what begins with another token
pub differs_begun : {B : Type 0} (t v : Token) (Q : B → Type 0) (rest : B → List Token)
    → bytes_eq v.text t.text ≡ false → Differs t Q (λ b. v ∷ rest b)
differs_begun t v Q rest d = record { apart = λ b u us ok e. differs_first v (rest b) t u us e d }

pub differs_choice : {A B : Type 0} {P : A → Type 0} {Q : B → Type 0} {f : A → List Token}
    {g : B → List Token} (t v : Token)
    → bytes_eq v.text t.text ≡ false → Differs t Q g
    → Differs t (ChoiceOk P Q) (choice_tokens v f g)
differs_choice {P = P} {Q = Q} {f = f} {g = g} t v d other =
    record { apart = differs_either t v P Q f g d other }

pub differs_name : (t : Token) → is_name t.text ≡ false → Differs t IsName name_tokens
differs_name t isnt =
    record { apart = λ n u us ok e. differs_first (part n) [] t u us e (no_name n t.text ok isnt) }

pub differs_number : (t : Token) → begins_name t.text ≡ true → Differs t IsNumber number_tokens
differs_number t begins =
    record {
      apart = λ n u us ok e.
          differs_first (part (decimal n)) [] t u us e (no_number n t.text ok begins);
    }

pub differs_either_word : (t : Token) → begins_name t.text ≡ true → is_name t.text ≡ false
    → Differs t EitherOk either_tokens
differs_either_word t begins name_not = record { apart = either_differs t begins name_not }
