-- Single tokens, a choice by the next token, and another form of a value: each keeps what a rule
-- owes.
use Rattle.std.proofs.Common.{◌≡◌, ◌≢◌, ℕ, Bool, true, false, not, cond, ◌&&◌, List, [], ◌∷◌, Ok}
use Rattle.std.proofs.Common.{Err, refl, sym, ap, subst, ◌∙◌, inl, inr}
use Rattle.std.specs.Prelude.{◌⊎◌}
use Rattle.std.specs.Str.{bytes_eq}
use Rattle.std.proofs.lemmas.Bool.{cases_Bool, and_parts, not-true}
use Rattle.proto_model.specs.Tokens.{Text, Token}
use Rattle.protocol_reader.specs.Reading.{At, Outcome, Reader, and_then, pure, mapped, choice}
use Rattle.protocol_reader.specs.Reading.{token, nothing, text_at, line_at, after, sees}
use Rattle.protocol_reader.proofs.Tokens.{sees_other, token_seen, token_not_seen}
use Rattle.protocol_reader.proofs.Taking.{Took, sees_by_text, sees_alike, took_alike}
use Rattle.protocol_reader.proofs.Rule.{Takes, Stuck, IsRule, and_both, done}
use Rattle.protocol_reader.proofs.Rule.{done_is, takes_done, failed_is, not_failed, not_done}
use Rattle.protocol_reader.proofs.Rule.{via_bind, fail_bind, is_none}

-- any text stops it
abbrev pub free : {A : Type 0} → A → Text → Bool
free x t = true

abbrev pub Anything : {A : Type 0} → A → Type 0
Anything x = Unit {0}

-- ---- nothing, and one token

abbrev pub no_tokens : Unit {0} → List Token
no_tokens u = []

pub nothing_rule : IsRule nothing no_tokens Anything free
nothing_rule = record {
  takes = λ at new x e. let same = done_is tt x at new e in
      record { ok = tt; took = same.1; stop = refl };
  again = λ at new x ok took stop. ap (done tt) took;
  stuck = λ at n e. not_failed tt at n e;
  some = tt;
  some_ok = tt;
}

abbrev pub the_token : Token → Unit {0} → List Token
the_token t u = t ∷ []

token_takes : (t : Token) (at new : At) (x : Unit {0}) → token t at ≡ Ok (x, new)
    → Takes (the_token t) Anything free at x new
token_takes t at new x e =
    elim (cases_Bool (sees t.text at)) [
      | inl so ↦ let same = done_is tt x (after t at) new (sym (token_seen t at so) ∙ e) in
          record { ok = tt; took = (so, same.1); stop = refl }
      | inr so ↦ not_done (x, new) (line_at at) (sym (token_not_seen t at so) ∙ e)
    ]

token_again : (t : Token) (at new : At) (x : Unit {0}) → Took at (the_token t x) new
    → token t at ≡ Ok (x, new)
token_again t at new x took = token_seen t at took.0 ∙ ap (done tt) took.1

token_stuck : (t : Token) → t.text ≢ [] → (at : At) (n : ℕ) → token t at ≡ Err n
    → Stuck (token t) (the_token t) Anything at n
token_stuck t some at n e =
    elim (cases_Bool (sees t.text at)) [
      | inl so ↦ not_failed tt (after t at) n (sym (token_seen t at so) ∙ e)
      | inr so ↦ record {
        before = [];
        mid = at;
        took = refl;
        is_line = sym (failed_is {A = Unit {0}} (line_at at) n (sym (token_not_seen t at so) ∙ e));
        value = tt;
        more = t ∷ [];
        ok = tt;
        completes = refl;
        again = λ a m took like. (
          line_at a,
          token_not_seen t a (ap (sees t.text) took ∙ sees_alike t.text at m some like ∙ so),
        );
      }
    ]

pub token_rule : (t : Token) → t.text ≢ [] → IsRule (token t) (the_token t) Anything free
token_rule t some = record {
  takes = token_takes t;
  again = λ at new x ok took stop. token_again t at new x took;
  stuck = token_stuck t some;
  some = tt;
  some_ok = tt;
}

-- ---- another form of a value

-- The parts of an allowed value make it again, and what is made of allowed parts is allowed and has
-- these parts. What is not allowed need not be made of any.
pub made_rule : {A B : Type 0} {p : Reader A} {tokens : A → List Token} {P : A → Type 0}
    {s : A → Text → Bool} {tokens2 : B → List Token} {P2 : B → Type 0} {s2 : B → Text → Bool}
    → IsRule p tokens P s
    → (make : A → B) (parts : B → A)
    → ((b : B) → P2 b → make (parts b) ≡ b) → ((a : A) → parts (make a) ≡ a)
    → ((b : B) → P2 b → tokens2 b ≡ tokens (parts b)) → ((b : B) → P2 b → P (parts b))
    → ((a : A) → P a → P2 (make a)) → ((b : B) (t : Text) → s2 b t ≡ s (parts b) t)
    → IsRule (mapped make p) tokens2 P2 s2
made_rule {A = A} {B = B} {p = p} {tokens = tokens} {P = P} {s = s} {tokens2 = tokens2} {P2 = P2}
    {s2 = s2} rule make parts whole part spelled into onto stopped = record {
      takes = λ at new x e.
          via_bind (p at) _ _ e (λ a mid e1 e2.
          let t = rule.takes at mid a e1 in
          let ok = onto a t.ok in
          let same : tokens2 (make a) ≡ tokens a = spelled (make a) ok ∙ ap tokens (part a) in
          takes_done (make a) x at mid new e2 (record {
            ok = ok;
            took = subst (λ (ts : List Token). Took at ts mid) (sym same) t.took;
            stop = stopped (make a) (text_at mid)
                ∙ ap (λ (c : A). s c (text_at mid)) (part a) ∙ t.stop;
          }));
      again = λ at new b ok took stop.
          let h = rule.again at new (parts b) (into b ok)
          (subst (λ (ts : List Token). Took at ts new) (spelled b ok) took)
          (sym (stopped b (text_at new)) ∙ stop) in
          ap (λ (o : Outcome A). and_then o (λ a. pure (make a))) h
          ∙ ap (λ (c : B). done c new) (whole b ok);
      stuck = λ at n e.
          fail_bind (p at) _ n e
          (λ e1.
          let st = rule.stuck at n e1 in
          let ok = onto st.value st.ok in
          record {
            before = st.before;
            mid = st.mid;
            took = st.took;
            is_line = st.is_line;
            value = make st.value;
            more = st.more;
            ok = ok;
            completes = spelled (make st.value) ok ∙ ap tokens (part st.value) ∙ st.completes;
            again = λ a m took like. let h = st.again a m took like in
                (h.0, ap (λ (o : Outcome A). and_then o (λ a. pure (make a))) h.1);
          })
          (λ a mid e1 e2. not_failed (make a) mid n e2);
      some = make rule.some;
      some_ok = onto rule.some rule.some_ok;
    }

-- each value is made of its parts
pub mapped_rule : {A B : Type 0} {p : Reader A} {tokens : A → List Token} {P : A → Type 0}
    {s : A → Text → Bool} {tokens2 : B → List Token} {P2 : B → Type 0} {s2 : B → Text → Bool}
    → IsRule p tokens P s
    → (make : A → B) (parts : B → A)
    → ((b : B) → make (parts b) ≡ b) → ((a : A) → parts (make a) ≡ a)
    → ((b : B) → tokens2 b ≡ tokens (parts b)) → ((b : B) → P2 b → P (parts b))
    → ((b : B) → P (parts b) → P2 b) → ((b : B) (t : Text) → s2 b t ≡ s (parts b) t)
    → IsRule (mapped make p) tokens2 P2 s2
mapped_rule {P = P} rule make parts whole part spelled into onto stopped =
    made_rule rule make parts (λ b ok. whole b) part (λ b ok. spelled b) into
    (λ a ok. onto (make a) (subst P (sym (part a)) ok)) stopped

-- ---- a choice by the next token

abbrev pub choice_tokens : {A B : Type 0} → Token → (A → List Token) → (B → List Token) → A ⊎ B
    → List Token
choice_tokens t f g (inl a) = t ∷ f a
choice_tokens t f g (inr b) = g b

abbrev pub ChoiceOk : {A B : Type 0} → (A → Type 0) → (B → Type 0) → A ⊎ B → Type 0
ChoiceOk P Q (inl a) = P a
ChoiceOk P Q (inr b) = Q b

abbrev pub choice_stops : {A B : Type 0} → Token → (A → Text → Bool) → (B → List Token)
    → (B → Text → Bool) → A ⊎ B → Text → Bool
choice_stops t s g r (inl a) u = s a u
choice_stops t s g r (inr b) u = r b u && cond (is_none (g b)) (not (bytes_eq u t.text)) true

-- the second doesn't begin with the token
pub record Differs {B : Type 0} (t : Token) (Q : B → Type 0) (g : B → List Token) : Type 0 where
  pub apart : (b : B) (u : Token) (us : List Token) → Q b → g b ≡ u ∷ us
      → bytes_eq u.text t.text ≡ false

choice_seen : {A B : Type 0} (t : Token) (p : Reader A) (q : Reader B) (at : At)
    → sees t.text at ≡ true → choice t p q at ≡ mapped inl p (after t at)
choice_seen t p q at so = rw so refl

choice_not_seen : {A B : Type 0} (t : Token) (p : Reader A) (q : Reader B) (at : At)
    → sees t.text at ≡ false → choice t p q at ≡ mapped inr q at
choice_not_seen t p q at so = rw so refl

other_here : (t : Token) (at : At) → t.text ≢ [] → sees t.text at ≡ false
    → not (bytes_eq (text_at at) t.text) ≡ true
other_here t at some so = ap not (sym (sees_by_text t.text at some) ∙ so)

-- nothing was taken, so the token that wasn't there isn't there now
stop_other : (t : Token) (ts : List Token) (at new : At) → t.text ≢ [] → Took at ts new
    → sees t.text at ≡ false → cond (is_none ts) (not (bytes_eq (text_at new) t.text)) true ≡ true
stop_other t [] at new some took so =
    ap (λ (a : At). not (bytes_eq (text_at a) t.text)) (sym took) ∙ other_here t at some so
stop_other t (u ∷ ts) at new some took so = refl

-- the token isn't there, where the second's tokens stand
not_there : (t : Token) (ts : List Token) (at new : At) → t.text ≢ [] → Took at ts new
    → ((u : Token) (us : List Token) → ts ≡ u ∷ us → bytes_eq u.text t.text ≡ false)
    → cond (is_none ts) (not (bytes_eq (text_at new) t.text)) true ≡ true → sees t.text at ≡ false
not_there t [] at new some took first last =
    sees_by_text t.text at some ∙ ap (λ (a : At). bytes_eq (text_at a) t.text) took
    ∙ not-true _ last
not_there t (u ∷ ts) at new some took first last =
    sees_other u.text t.text at took.0 (first u ts refl)

choice_takes : {A B : Type 0} (t : Token) (p : Reader A) (q : Reader B) (f : A → List Token)
    (g : B → List Token) (P : A → Type 0) (Q : B → Type 0) (s : A → Text → Bool)
    (r : B → Text → Bool)
    → t.text ≢ [] → IsRule p f P s → IsRule q g Q r → (at new : At) (x : A ⊎ B)
    → choice t p q at ≡ Ok (x, new)
    → Takes (choice_tokens t f g) (ChoiceOk P Q) (choice_stops t s g r) at x new
choice_takes t p q f g P Q s r some one other at new x e =
    elim (cases_Bool (sees t.text at)) [
      | inl so ↦ via_bind (p (after t at)) _ _ (sym (choice_seen t p q at so) ∙ e) (λ a mid e1 e2.
          let k = one.takes (after t at) mid a e1 in
          takes_done (inl a) x at mid new e2
          (record { ok = k.ok; took = (so, k.took); stop = k.stop }))
      | inr so ↦ via_bind (q at) _ _ (sym (choice_not_seen t p q at so) ∙ e) (λ b mid e1 e2.
          let k = other.takes at mid b e1 in
          takes_done (inr b) x at mid new e2 (record {
            ok = k.ok;
            took = k.took;
            stop = and_both _ _ k.stop (stop_other t (g b) at mid some k.took so);
          }))
    ]

choice_again : {A B : Type 0} (t : Token) (p : Reader A) (q : Reader B) (f : A → List Token)
    (g : B → List Token) (P : A → Type 0) (Q : B → Type 0) (s : A → Text → Bool)
    (r : B → Text → Bool)
    → t.text ≢ [] → IsRule p f P s → IsRule q g Q r → Differs t Q g → (at new : At) (x : A ⊎ B)
    → ChoiceOk P Q x → Took at (choice_tokens t f g x) new
    → choice_stops t s g r x (text_at new) ≡ true → choice t p q at ≡ Ok (x, new)
choice_again t p q f g P Q s r some one other differs at new (inl a) ok took stop =
    choice_seen t p q at took.0 ∙ rw (one.again (after t at) new a ok took.1 stop) refl
choice_again t p q f g P Q s r some one other differs at new (inr b) ok took stop =
    let stops = and_parts (r b (text_at new)) _ stop in
    choice_not_seen t p q at
    (not_there t (g b) at new some took (λ u us e. differs.apart b u us ok e) stops.1)
    ∙ rw (other.again at new b ok took stops.0) refl

choice_stuck : {A B : Type 0} (t : Token) (p : Reader A) (q : Reader B) (f : A → List Token)
    (g : B → List Token) (P : A → Type 0) (Q : B → Type 0) (s : A → Text → Bool)
    (r : B → Text → Bool)
    → t.text ≢ [] → IsRule p f P s → IsRule q g Q r → (at : At) (n : ℕ) → choice t p q at ≡ Err n
    → Stuck (choice t p q) (choice_tokens t f g) (ChoiceOk P Q) at n
choice_stuck t p q f g P Q s r some one other at n e =
    elim (cases_Bool (sees t.text at)) [
      | inl so ↦ fail_bind (p (after t at)) _ n (sym (choice_seen t p q at so) ∙ e)
          (λ e1. let st = one.stuck (after t at) n e1 in record {
            before = t ∷ st.before;
            mid = st.mid;
            took = (so, st.took);
            is_line = st.is_line;
            value = inl st.value;
            more = st.more;
            ok = st.ok;
            completes = ap (λ (ts : List Token). t ∷ ts) st.completes;
            again = λ a m took like. let h = st.again (after t a) m took.1 like in
                (h.0, choice_seen t p q a took.0 ∙ rw (h.1) refl);
          })
          (λ a mid e1 e2. not_failed (inl a) mid n e2)
      | inr so ↦ fail_bind (q at) _ n (sym (choice_not_seen t p q at so) ∙ e)
          (λ e1. let st = other.stuck at n e1 in record {
            before = st.before;
            mid = st.mid;
            took = st.took;
            is_line = st.is_line;
            value = inr st.value;
            more = st.more;
            ok = st.ok;
            completes = st.completes;
            again = λ a m took like.
                let h = st.again a m took like in
                let near = took_alike st.before at st.mid a m st.took took like in (
                  h.0,
                  choice_not_seen t p q a (sees_alike t.text at a some near ∙ so)
                      ∙ rw (h.1) refl,
                );
          })
          (λ b mid e1 e2. not_failed (inr b) mid n e2)
    ]

pub choice_rule : {A B : Type 0} {p : Reader A} {q : Reader B} {f : A → List Token}
    {g : B → List Token} {P : A → Type 0} {Q : B → Type 0} {s : A → Text → Bool}
    {r : B → Text → Bool} (t : Token)
    → t.text ≢ [] → IsRule p f P s → IsRule q g Q r → Differs t Q g
    → IsRule (choice t p q) (choice_tokens t f g) (ChoiceOk P Q) (choice_stops t s g r)
choice_rule {p = p} {q = q} {f = f} {g = g} {P = P} {Q = Q} {s = s} {r = r} t some one other
    differs = record {
      takes = choice_takes t p q f g P Q s r some one other;
      again = choice_again t p q f g P Q s r some one other differs;
      stuck = choice_stuck t p q f g P Q s r some one other;
      some = inl one.some;
      some_ok = one.some_ok;
    }
