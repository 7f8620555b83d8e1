-- What a rule of the grammar owes: what it reads is spelled so, what is spelled so it reads, and
-- where it stops the tokens read so far can be completed, but not with the text that comes next.
use Rattle.std.proofs.Common.{◌≡◌, ℕ, Bool, true, false, cond, ◌&&◌, List, [], ◌∷◌, ◌++◌, Ok, Err}
use Rattle.std.proofs.Common.{refl, sym, ap, subst, ◌∙◌, append_assoc}
use Rattle.std.proofs.lemmas.Bool.{and_parts}
use Rattle.proto_model.specs.Tokens.{Text, Token}
use Rattle.protocol_reader.specs.Reading.{At, Outcome, Reader, and_then, both, text_at, line_at}
use Rattle.protocol_reader.proofs.Tokens.{sees_is}
use Rattle.protocol_reader.proofs.Taking.{Took, took_then, took_split, Alike, took_alike}

-- the rule took the tokens of an allowed value, and what comes next doesn't go on with it
pub record Takes {A : Type 0} (tokens : A → List Token) (IsOk : A → Type 0)
    (stops : A → Text → Bool) (at : At) (x : A) (new : At) : Type 0 where
  pub ok : IsOk x
  pub took : Took at (tokens x) new
  pub stop : stops x (text_at new) ≡ true

-- where a rule stops
pub record Stuck {A : Type 0} (p : Reader A) (tokens : A → List Token) (IsOk : A → Type 0) (at : At)
    (line : ℕ) : Type 0 where
  pub before : List Token
  pub mid : At
  pub took : Took at before mid
  pub is_line : line ≡ line_at mid
  -- the tokens before are the front of an allowed value's
  pub value : A
  pub more : List Token
  pub ok : IsOk value
  pub completes : tokens value ≡ before ++ more
  -- and whoever takes these tokens and then sees this text stops too
  pub again : (a m : At) → Took a before m → Alike mid m → (n : ℕ) × (p a ≡ Err n)

-- Reading p and spelling by these tokens belong together. After a value the rule goes on with some
-- texts; the others stop it.
pub record IsRule {A : Type 0} (p : Reader A) (tokens : A → List Token) (IsOk : A → Type 0)
    (stops : A → Text → Bool) : Type 0 where
  pub takes : (at new : At) (x : A) → p at ≡ Ok (x, new) → Takes tokens IsOk stops at x new
  pub again : (at new : At) (x : A) → IsOk x → Took at (tokens x) new → stops x (text_at new) ≡ true
      → p at ≡ Ok (x, new)
  pub stuck : (at : At) (n : ℕ) → p at ≡ Err n → Stuck p tokens IsOk at n
  pub some : A
  pub some_ok : IsOk some

-- ---- answers of readers

abbrev pub done : {A : Type 0} → A → At → Outcome A
done a at = Ok (a, at)

abbrev pub failed : {A : Type 0} → ℕ → Outcome A
failed n = Err n

abbrev done_pair : {A : Type 0} → A × At → Outcome A
done_pair x = Ok x

pair_is : {A : Type 0} (x y : A × At) → done_pair x ≡ done_pair y → x ≡ y
pair_is x y e = cc

pub done_is : {A : Type 0} (a b : A) (at new : At) → done a at ≡ done b new → (a ≡ b) × (at ≡ new)
done_is {A = A} a b at new e =
    let p = pair_is (a, at) (b, new) e in
    (ap (λ (x : A × At). x.0) p, ap (λ (x : A × At). x.1) p)

pub failed_is : {A : Type 0} (m n : ℕ) → failed {A = A} m ≡ failed n → m ≡ n
failed_is m n e = cc

pub not_failed : {A X : Type 0} (a : A) (at : At) (n : ℕ) → done a at ≡ failed n → X
not_failed a at n e = absurd cc

pub not_done : {A X : Type 0} (x : A × At) (n : ℕ) → failed n ≡ done_pair x → X
not_done x n e = absurd cc

-- what is read is what reading gives in the end
pub takes_done : {A : Type 0} {tokens : A → List Token} {P : A → Type 0} {s : A → Text → Bool}
    (a x : A) (at mid new : At)
    → done a mid ≡ done x new → Takes tokens P s at a mid → Takes tokens P s at x new
takes_done {A = A} {tokens = tokens} {P = P} {s = s} a x at mid new e t =
    let same = done_is a x mid new e in
    let there : Takes tokens P s at x mid = subst (λ (y : A). Takes tokens P s at y mid) same.0 t in
    subst (λ (z : At). Takes tokens P s at x z) same.1 there

-- what a reader that went on to the end read first
pub via_bind : {A B C : Type 0} (o : Outcome A) (f : A → Reader B) (y : B × At)
    → and_then o f ≡ Ok y
    → ((a : A) (mid : At) → o ≡ Ok (a, mid) → f a mid ≡ Ok y → C) → C
via_bind (Ok x) f y e k = k x.0 x.1 refl e
via_bind (Err n) f y e k = not_done y n e

-- where a reader that stopped did so
pub fail_bind : {A B C : Type 0} (o : Outcome A) (f : A → Reader B) (n : ℕ) → and_then o f ≡ Err n
    → (o ≡ Err n → C) → ((a : A) (mid : At) → o ≡ Ok (a, mid) → f a mid ≡ Err n → C) → C
fail_bind (Ok x) f n e k j = j x.0 x.1 refl e
fail_bind {B = B} (Err m) f n e k j = k (ap failed (failed_is {A = B} m n e))

-- ---- another description of the same

pub restop : {A : Type 0} {p : Reader A} {tokens : A → List Token} {IsOk : A → Type 0}
    {s r : A → Text → Bool}
    → IsRule p tokens IsOk s → ((x : A) (t : Text) → IsOk x → s x t ≡ r x t)
    → IsRule p tokens IsOk r
restop rule same = record {
  takes = λ at new x e. let t = rule.takes at new x e in
      record { ok = t.ok; took = t.took; stop = sym (same x (text_at new) t.ok) ∙ t.stop };
  again = λ at new x ok took stop. rule.again at new x ok took (same x (text_at new) ok ∙ stop);
  stuck = rule.stuck;
  some = rule.some;
  some_ok = rule.some_ok;
}

-- ---- one and then the other

abbrev pub both_tokens : {A B : Type 0} → (A → List Token) → (B → List Token) → A × B → List Token
both_tokens f g x = f x.0 ++ g x.1

abbrev pub BothOk : {A B : Type 0} → (A → Type 0) → (B → Type 0) → A × B → Type 0
BothOk P Q x = P x.0 × Q x.1

abbrev pub is_none : List Token → Bool
is_none [] = true
is_none (_ ∷ _) = false

abbrev pub both_stops : {A B : Type 0} → (A → Text → Bool) → (B → List Token) → (B → Text → Bool)
    → A × B → Text → Bool
both_stops s g r x t = r x.1 t && cond (is_none (g x.1)) (s x.0 t) true

-- the first token of the other doesn't go on with the one
pub record Follows {A B : Type 0} (P : A → Type 0) (s : A → Text → Bool) (Q : B → Type 0)
    (g : B → List Token) : Type 0 where
  pub stop : (x : A) (y : B) (t : Token) (ts : List Token) → P x → Q y → g y ≡ t ∷ ts
      → s x t.text ≡ true

-- what comes next stops the one where the other stands there
stop_before : (ts : List Token) (s : Text → Bool) (mid new : At) → Took mid ts new
    → ((t : Token) (us : List Token) → ts ≡ t ∷ us → s t.text ≡ true)
    → cond (is_none ts) (s (text_at new)) true ≡ true → s (text_at mid) ≡ true
stop_before [] s mid new took first last = ap (λ (a : At). s (text_at a)) took ∙ last
stop_before (t ∷ ts) s mid new took first last = ap s (sees_is t.text mid took.0) ∙ first t ts refl

-- and the other way round: it stopped the one, so it does where the other took nothing
stop_after : (ts : List Token) (s : Text → Bool) (mid new : At) → Took mid ts new
    → s (text_at mid) ≡ true → cond (is_none ts) (s (text_at new)) true ≡ true
stop_after [] s mid new took e = ap (λ (a : At). s (text_at a)) (sym took) ∙ e
stop_after (t ∷ ts) s mid new took e = refl

pub and_both : (a b : Bool) → a ≡ true → b ≡ true → (a && b) ≡ true
and_both a b e f = rw (e, f) refl

both_takes : {A B : Type 0} (p : Reader A) (q : Reader B) (f : A → List Token) (g : B → List Token)
    (P : A → Type 0) (Q : B → Type 0) (s : A → Text → Bool) (r : B → Text → Bool)
    → IsRule p f P s → IsRule q g Q r → (at new : At) (x : A × B) → both p q at ≡ Ok (x, new)
    → Takes (both_tokens f g) (BothOk P Q) (both_stops s g r) at x new
both_takes p q f g P Q s r one other at new x e =
    via_bind (p at) _ _ e (λ a mid e1 e2.
    via_bind (q mid) _ _ e2 (λ b end e3 e4.
    let t = one.takes at mid a e1 in
    let u = other.takes mid end b e3 in
    takes_done (a, b) x at end new e4 (record {
      ok = (t.ok, u.ok);
      took = took_then (f a) (g b) at mid end t.took u.took;
      stop = and_both _ _ u.stop (stop_after (g b) (s a) mid end u.took t.stop);
    })))

both_again : {A B : Type 0} (p : Reader A) (q : Reader B) (f : A → List Token) (g : B → List Token)
    (P : A → Type 0) (Q : B → Type 0) (s : A → Text → Bool) (r : B → Text → Bool)
    → IsRule p f P s → IsRule q g Q r → Follows P s Q g → (at new : At) (x : A × B) → BothOk P Q x
    → Took at (both_tokens f g x) new → both_stops s g r x (text_at new) ≡ true
    → both p q at ≡ Ok (x, new)
both_again p q f g P Q s r one other follows at new x ok took stop =
    let parts = took_split (f x.0) (g x.1) at new took in
    let stops = and_parts (r x.1 (text_at new)) _ stop in
    let first =
    stop_before (g x.1) (s x.0) parts.0 new parts.2
    (λ t us e. follows.stop x.0 x.1 t us ok.0 ok.1 e) stops.1 in
    rw (
      one.again at parts.0 x.0 ok.0 parts.1 first,
      other.again parts.0 new x.1 ok.1 parts.2 stops.0,
    ) refl

both_stuck : {A B : Type 0} (p : Reader A) (q : Reader B) (f : A → List Token) (g : B → List Token)
    (P : A → Type 0) (Q : B → Type 0) (s : A → Text → Bool) (r : B → Text → Bool)
    → IsRule p f P s → IsRule q g Q r → (at : At) (n : ℕ) → both p q at ≡ Err n
    → Stuck (both p q) (both_tokens f g) (BothOk P Q) at n
both_stuck p q f g P Q s r one other at n e =
    fail_bind (p at) _ n e
    (λ e1. let st = one.stuck at n e1 in record {
      before = st.before;
      mid = st.mid;
      took = st.took;
      is_line = st.is_line;
      value = (st.value, other.some);
      more = st.more ++ g other.some;
      ok = (st.ok, other.some_ok);
      completes =
          ap (λ (ts : List Token). ts ++ g other.some) st.completes
          ∙ append_assoc st.before st.more (g other.some);
      again = λ a m took like. let h = st.again a m took like in (h.0, rw (h.1) refl);
    })
    (λ a mid e1 e2.
    fail_bind (q mid) _ n e2
    (λ e3.
    let t = one.takes at mid a e1 in
    let st = other.stuck mid n e3 in
    record {
      before = f a ++ st.before;
      mid = st.mid;
      took = took_then (f a) st.before at mid st.mid t.took st.took;
      is_line = st.is_line;
      value = (a, st.value);
      more = st.more;
      ok = (t.ok, st.ok);
      completes =
          ap (λ (ts : List Token). f a ++ ts) st.completes
          ∙ sym (append_assoc (f a) st.before st.more);
      again = λ b m took like.
          let parts = took_split (f a) st.before b m took in
          let near = took_alike st.before mid st.mid parts.0 m st.took parts.2 like in
          let first = one.again b parts.0 a t.ok parts.1 (ap (s a) near ∙ t.stop) in
          let h = st.again parts.0 m parts.2 like in
          (h.0, rw (first, h.1) refl);
    })
    (λ b end e3 e4. not_failed (a, b) end n e4))

pub both_rule : {A B : Type 0} {p : Reader A} {q : Reader B} {f : A → List Token}
    {g : B → List Token} {P : A → Type 0} {Q : B → Type 0} {s : A → Text → Bool}
    {r : B → Text → Bool}
    → IsRule p f P s → IsRule q g Q r → Follows P s Q g
    → IsRule (both p q) (both_tokens f g) (BothOk P Q) (both_stops s g r)
both_rule {p = p} {q = q} {f = f} {g = g} {P = P} {Q = Q} {s = s} {r = r} one other follows =
    record {
      takes = both_takes p q f g P Q s r one other;
      again = both_again p q f g P Q s r one other follows;
      stuck = both_stuck p q f g P Q s r one other;
      some = (one.some, other.some);
      some_ok = (one.some_ok, other.some_ok);
    }
