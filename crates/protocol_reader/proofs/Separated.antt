-- Things with a word in front of the first and another between two of them, or none: this keeps
-- what a rule owes.
use Rattle.std.proofs.Common.{◌≡◌, Bool, true, false, not, cond, ◌&&◌, List, [], ◌∷◌, ◌++◌, refl}
use Rattle.std.proofs.Common.{inl, inr}
use Rattle.std.specs.Prelude.{◌⊎◌}
use Rattle.std.specs.List.{flat_map, AllByRecursion}
use Rattle.std.specs.Str.{bytes_eq}
use Rattle.proto_model.specs.Tokens.{Text, Token, part}
use Rattle.protocol_reader.specs.Reading.{Reader, both, choice, mapped, word, nothing, many_at}
use Rattle.protocol_reader.specs.Reading.{second_of, list_of, is_among}
use Rattle.protocol_reader.proofs.Rule.{IsRule, both_rule, both_stops, and_both}
use Rattle.protocol_reader.proofs.Choices.{nothing_rule, token_rule, mapped_rule, choice_rule}
use Rattle.protocol_reader.proofs.Repeated.{Begins, many_rule, many_stops, last_all}
use Rattle.protocol_reader.proofs.Sequences.{is_filled, filled, among_all, follows_among}
use Rattle.protocol_reader.proofs.Sequences.{first_many, both_free, differs_nothing}

-- a thing with the word in front
abbrev pub led_by : {A : Type 0} → Text → (A → List Token) → A → List Token
led_by w tokens a = part w ∷ tokens a

pub led_by_rule : {A : Type 0} {p : Reader A} {tokens : A → List Token} {P : A → Type 0}
    {s : A → Text → Bool} (w : Text) → is_filled w ≡ true
    → IsRule p tokens P s → IsRule (mapped second_of (both (word w) p)) (led_by w tokens) P s
led_by_rule w some rule =
    mapped_rule (both_free (token_rule (part w) (filled w some)) rule)
    second_of (λ a. (tt, a))
    (λ a. refl)
    (λ x. refl)
    (λ a. refl)
    (λ a ok. (tt, ok))
    (λ a ok. ok.1)
    (λ a t. refl)

one_of : (w : Text) → bytes_eq w w ≡ true → is_among (w ∷ []) w ≡ true
one_of w same = rw same refl

all_of : (b : Bool) → b ≡ true → (b && true) ≡ true
all_of b e = rw e refl

-- the word between two things stops the one before it
pub between : {A : Type 0} {tokens : A → List Token} {P : A → Type 0} {s : A → Text → Bool}
    (w : Text) → bytes_eq w w ≡ true → ((a : A) → s a w ≡ true)
    → Begins (is_among (w ∷ [])) (led_by w tokens) P s
between {tokens = tokens} {s = s} w same stops = record {
  first = λ a. part w;
  rest = λ a. tokens a;
  parts = λ a ok. refl;
  first_comes = λ a ok. one_of w same;
  stops = λ a t ok e. among_all (w ∷ []) (s a) (all_of (s a w) (stops a)) t e;
}

abbrev pub separated_tokens : {A : Type 0} → Text → Text → (A → List Token) → List A → List Token
separated_tokens o w tokens [] = []
separated_tokens o w tokens (a ∷ more) = part o ∷ (tokens a ++ flat_map (led_by w tokens) more)

abbrev pub separated_stops : {A : Type 0} → Text → Text → (A → List Token) → (A → Text → Bool)
    → List A → Text → Bool
separated_stops o w tokens s [] t = not (bytes_eq t o)
separated_stops o w tokens s (a ∷ more) t =
    both_stops s (flat_map (led_by w tokens)) (many_stops (is_among (w ∷ [])) s) (a, more) t

abbrev list_parts : {A : Type 0} → List A → (A × List A) ⊎ Unit {0}
list_parts [] = inr tt
list_parts (a ∷ more) = inl (a, more)

pub separated_rule : {A : Type 0} {p q : Reader A} {tokens : A → List Token} {P : A → Type 0}
    {s : A → Text → Bool} (o w : Text) → is_filled o ≡ true → bytes_eq w w ≡ true
    → IsRule p tokens P s → IsRule q (led_by w tokens) P s → ((a : A) → s a w ≡ true)
    → IsRule (mapped list_of (choice (part o) (both p (many_at (is_among (w ∷ [])) q)) nothing))
    (separated_tokens o w tokens) (AllByRecursion P) (separated_stops o w tokens s)
separated_rule {tokens = tokens} {P = P} {s = s} o w some same one other stops =
    let begins : Begins (is_among (w ∷ [])) (led_by w tokens) P s = between w same stops in
    mapped_rule
    (choice_rule (part o) (filled o some)
    (both_rule one (many_rule (is_among (w ∷ [])) other begins)
    (follows_among (w ∷ []) (first_many (w ∷ []) begins) (λ a ok. all_of (s a w) (stops a))))
    nothing_rule (differs_nothing (part o)))
    list_of list_parts
    (elim [ [] ↦ refl | a ∷ more ↦ refl ])
    (elim [ inl x ↦ refl | inr u ↦ refl ])
    (elim [ [] ↦ refl | a ∷ more ↦ refl ])
    (elim [ [] ↦ λ ok. ok | a ∷ more ↦ λ ok. ok ])
    (elim [ [] ↦ λ ok. ok | a ∷ more ↦ λ ok. ok ])
    (elim [ [] ↦ λ t. refl | a ∷ more ↦ λ t. refl ])

stops_both : (m c b : Bool) → m ≡ true → c ≡ true → (m && cond b c true) ≡ true
stops_both m c true e f = rw (e, f) refl
stops_both m c false e f = rw e refl

-- a text that is neither word and stops each thing stops them all
pub separated_stop : {A : Type 0} (o w : Text) (tokens : A → List Token) (s : A → Text → Bool)
    (t : Text) → ((a : A) → s a t ≡ true) → not (is_among (w ∷ []) t) ≡ true
    → not (bytes_eq t o) ≡ true
    → (xs : List A) → separated_stops o w tokens s xs t ≡ true
separated_stop o w tokens s t each f g [] = g
separated_stop o w tokens s t each f g (a ∷ more) =
    stops_both _ _ _ (and_both _ _ f (last_all s t each more)) (each a)
