-- Any number of things, as long as a further one comes: this keeps what a rule owes.
use Rattle.std.proofs.Common.{◌≡◌, ℕ, zero, suc, ◌+◌, ◌<◌, ◌≤◌, Bool, true, false, not, ◌&&◌, List}
use Rattle.std.proofs.Common.{[], ◌∷◌, ◌++◌, length, Ok, Err, refl, sym, ap, subst, ◌∙◌, inl, inr}
use Rattle.std.proofs.Common.{arith, append_assoc, append-nil, length-append}
use Rattle.std.specs.List.{flat_map, AllByRecursion}
use Rattle.std.proofs.lemmas.Bool.{cases_Bool, and_parts, not-true}
use Rattle.proto_model.specs.Tokens.{Text, Token}
use Rattle.protocol_reader.specs.Reading.{At, Outcome, Reader, and_then, pure, many, many_at}
use Rattle.protocol_reader.specs.Reading.{text_at, line_at}
use Rattle.protocol_reader.proofs.Tokens.{sees_is}
use Rattle.protocol_reader.proofs.Taking.{Took, took_then, took_split, took_shorter, Alike}
use Rattle.protocol_reader.proofs.Taking.{took_alike}
use Rattle.protocol_reader.proofs.Rule.{Takes, IsRule, and_both, done}
use Rattle.protocol_reader.proofs.Rule.{takes_done, not_failed, via_bind, fail_bind}

-- ---- what a list of things owes

-- what comes next doesn't go on with the last thing
abbrev pub last_stops : {A : Type 0} → (A → Text → Bool) → List A → Text → Bool
last_stops s [] t = true
last_stops s (x ∷ []) t = s x t
last_stops s (x ∷ y ∷ xs) t = last_stops s (y ∷ xs) t

abbrev pub many_stops : {A : Type 0} → (Text → Bool) → (A → Text → Bool) → List A → Text → Bool
many_stops comes s xs t = not (comes t) && last_stops s xs t

-- with the first text of each thing one comes, and before such a text a thing stops
pub record Begins {A : Type 0} (comes : Text → Bool) (tokens : A → List Token) (P : A → Type 0)
    (s : A → Text → Bool) : Type 0 where
  pub first : A → Token
  pub rest : A → List Token
  pub parts : (x : A) → P x → tokens x ≡ first x ∷ rest x
  pub first_comes : (x : A) → P x → comes (first x).text ≡ true
  pub stops : (x : A) (t : Text) → P x → comes t ≡ true → s x t ≡ true

-- ---- steps

abbrev paired : {A B : Type 0} → A → B → Reader (A × B)
paired a b = pure (a, b)

abbrev in_front : {A : Type 0} → A × List A → Reader (List A)
in_front p = pure (p.0 ∷ p.1)

cons_ok : {A : Type 0} (x : A) (o : Outcome (List A))
    → and_then (and_then o (paired x)) in_front ≡ and_then o (λ xs. pure (x ∷ xs))
cons_ok x (Ok y) = refl
cons_ok x (Err n) = refl

cons_step : {A : Type 0} (o : Outcome A) (q : Reader (List A))
    → and_then (and_then o (λ a mid. and_then (q mid) (paired a))) in_front
    ≡ and_then o (λ x mid. and_then (q mid) (λ xs. pure (x ∷ xs)))
cons_step (Ok y) q = cons_ok y.0 (q y.1)
cons_step (Err n) q = refl

many_more : {A : Type 0} (comes : Text → Bool) (p : Reader A) (n : ℕ) (at : At)
    → comes (text_at at) ≡ true
    → many comes p (suc n) at
    ≡ and_then (p at) (λ x mid. and_then (many comes p n mid) (λ xs. pure (x ∷ xs)))
unfolding many
many_more comes p n at so = rw so (cons_step (p at) (many comes p n))

many_none : {A : Type 0} (comes : Text → Bool) (p : Reader A) (n : ℕ) (at : At)
    → comes (text_at at) ≡ false → many comes p n at ≡ Ok ([], at)
unfolding many
many_none comes p zero at so = refl
many_none comes p (suc n) at so = rw so refl

many_zero : {A : Type 0} (comes : Text → Bool) (p : Reader A) (at : At)
    → many comes p zero at ≡ Ok ([], at)
unfolding many
many_zero comes p at = refl

-- one thing takes a token at least
pub takes_some : {A : Type 0} (comes : Text → Bool) (tokens : A → List Token) (P : A → Type 0)
    (s : A → Text → Bool) → Begins comes tokens P s
    → (x : A) → P x → 0 < length (tokens x)
takes_some comes tokens P s begins x ok = let e = ap length (begins.parts x ok) in omega arith

-- where a thing's tokens stand, one comes
seen : {A : Type 0} (comes : Text → Bool) (tokens : A → List Token) (P : A → Type 0)
    (s : A → Text → Bool) → Begins comes tokens P s
    → (x : A) (at mid : At) → P x → Took at (tokens x) mid → comes (text_at at) ≡ true
seen comes tokens P s begins x at mid ok took =
    let here : Took at (begins.first x ∷ begins.rest x) mid =
    subst (λ (ts : List Token). Took at ts mid) (begins.parts x ok) took in
    ap comes (sees_is (begins.first x).text at here.0) ∙ begins.first_comes x ok

-- ---- what is read is spelled so

last_more : {A : Type 0} (s : A → Text → Bool) (x : A) (xs : List A) (t : Text)
    → (xs ≡ [] → s x t ≡ true) → last_stops s xs t ≡ true → last_stops s (x ∷ xs) t ≡ true
last_more s x [] t first last = first refl
last_more s x (y ∷ xs) t first last = last

abbrev Many : {A : Type 0} → (Text → Bool) → (A → List Token) → (A → Type 0)
    → (A → Text → Bool) → At → List A → At → Type 0
Many comes tokens P s = Takes (flat_map tokens) (AllByRecursion P) (many_stops comes s)

took_none : {A : Type 0} (tokens : A → List Token) (xs : List A) (at new : At) → xs ≡ []
    → Took at (flat_map tokens xs) new → at ≡ new
took_none tokens [] at new e took = took
took_none tokens (x ∷ xs) at new e took = absurd cc

empty_takes : {A : Type 0} (comes : Text → Bool) (tokens : A → List Token) (P : A → Type 0)
    (s : A → Text → Bool) (xs : List A) (at new : At)
    → comes (text_at at) ≡ false → done [] at ≡ done xs new
    → Many comes tokens P s at xs new
empty_takes comes tokens P s xs at new so e =
    takes_done [] xs at at new e
    (record { ok = tt; took = refl; stop = and_both _ _ (ap not so) refl })

many_takes : {A : Type 0} (comes : Text → Bool) (p : Reader A) (tokens : A → List Token)
    (P : A → Type 0) (s : A → Text → Bool)
    → IsRule p tokens P s → Begins comes tokens P s
    → (n : ℕ) (at new : At) (xs : List A) → length at.lexemes < n → many comes p n at ≡ Ok (xs, new)
    → Many comes tokens P s at xs new
many_takes comes p tokens P s rule begins zero at new xs enough e = absurd (omega arith)
many_takes comes p tokens P s rule begins (suc n) at new xs enough e =
    elim (cases_Bool (comes (text_at at))) [
      | inr so ↦
          empty_takes comes tokens P s xs at new so (sym (many_none comes p (suc n) at so) ∙ e)
      | inl so ↦ via_bind (p at) _ _ (sym (many_more comes p n at so) ∙ e) (λ x mid e1 e2.
          via_bind (many comes p n mid) _ _ e2 (λ ys end e3 e4.
          let t = rule.takes at mid x e1 in
          let some = takes_some comes tokens P s begins x t.ok in
          let less = took_shorter (tokens x) at mid t.took in
          let u = many_takes comes p tokens P s rule begins n mid end ys (omega arith) e3 in
          let stops = and_parts (not (comes (text_at end))) _ u.stop in
          let last = λ (none : ys ≡ []).
          ap (λ (a : At). s x (text_at a)) (sym (took_none tokens ys mid end none u.took))
          ∙ t.stop in
          takes_done (x ∷ ys) xs at end new e4 (record {
            ok = (t.ok, u.ok);
            took = took_then (tokens x) (flat_map tokens ys) at mid end t.took u.took;
            stop = and_both _ _ stops.0 (last_more s x ys (text_at end) last stops.1);
          })))
    ]

-- ---- what is spelled so is read

-- the last thing's stop, and those of the others before the next word
stop_first : {A : Type 0} (comes : Text → Bool) (tokens : A → List Token) (P : A → Type 0)
    (s : A → Text → Bool) → Begins comes tokens P s
    → (x : A) (xs : List A) (mid new : At) → P x → AllByRecursion P xs
    → Took mid (flat_map tokens xs) new → last_stops s (x ∷ xs) (text_at new) ≡ true
    → s x (text_at mid) ≡ true
stop_first comes tokens P s begins x [] mid new ok all took last =
    ap (λ (a : At). s x (text_at a)) took ∙ last
stop_first comes tokens P s begins x (y ∷ xs) mid new ok all took last =
    let parts = took_split (tokens y) (flat_map tokens xs) mid new took in
    begins.stops x (text_at mid) ok (seen comes tokens P s begins y mid parts.0 all.0 parts.1)

last_less : {A : Type 0} (s : A → Text → Bool) (x : A) (xs : List A) (t : Text)
    → last_stops s (x ∷ xs) t ≡ true → last_stops s xs t ≡ true
last_less s x [] t e = refl
last_less s x (y ∷ xs) t e = e

many_again : {A : Type 0} (comes : Text → Bool) (p : Reader A) (tokens : A → List Token)
    (P : A → Type 0) (s : A → Text → Bool)
    → IsRule p tokens P s → Begins comes tokens P s
    → (n : ℕ) (at new : At) (xs : List A) → length xs ≤ n → AllByRecursion P xs
    → Took at (flat_map tokens xs) new → many_stops comes s xs (text_at new) ≡ true
    → many comes p n at ≡ Ok (xs, new)
many_again comes p tokens P s rule begins n at new [] enough ok took stop =
    let stops = and_parts (not (comes (text_at new))) _ stop in
    many_none comes p n at (ap (λ (a : At). comes (text_at a)) took ∙ not-true _ stops.0)
    ∙ ap (done []) took
many_again comes p tokens P s rule begins zero at new (x ∷ xs) enough ok took stop =
    absurd (omega arith)
many_again comes p tokens P s rule begins (suc n) at new (x ∷ xs) enough ok took stop =
    let parts = took_split (tokens x) (flat_map tokens xs) at new took in
    let stops = and_parts (not (comes (text_at new))) _ stop in
    let one =
    rule.again at parts.0 x ok.0 parts.1
    (stop_first comes tokens P s begins x xs parts.0 new ok.0 ok.1 parts.2 stops.1) in
    let others =
    many_again comes p tokens P s rule begins n parts.0 new xs (omega arith) ok.1 parts.2
    (and_both _ _ stops.0 (last_less s x xs (text_at new) stops.1)) in
    many_more comes p n at (seen comes tokens P s begins x at parts.0 ok.0 parts.1)
    ∙ rw (one, others) refl

-- ---- where it stops

-- a bound that is larger than the tokens taken is never met
pub record StuckWithin {A : Type 0} (comes : Text → Bool) (p : Reader A) (tokens : A → List Token)
    (P : A → Type 0) (at : At) (line : ℕ) : Type 0 where
  pub before : List Token
  pub mid : At
  pub took : Took at before mid
  pub is_line : line ≡ line_at mid
  pub value : List A
  pub more : List Token
  pub ok : AllByRecursion P value
  pub completes : flat_map tokens value ≡ before ++ more
  pub again : (a m : At) (k : ℕ) → Took a before m → Alike mid m → length before < k
      → (n : ℕ) × (many comes p k a ≡ Err n)

-- a bound that is larger than some number isn't 0
by_more : (Q : ℕ → Type 0) (k : ℕ) → 0 < k → ((j : ℕ) → k ≡ suc j → Q (suc j)) → Q k
by_more Q zero some f = absurd (omega arith)
by_more Q (suc j) some f = f j refl

many_stuck : {A : Type 0} (comes : Text → Bool) (p : Reader A) (tokens : A → List Token)
    (P : A → Type 0) (s : A → Text → Bool)
    → IsRule p tokens P s → Begins comes tokens P s
    → (n : ℕ) (at : At) (line : ℕ) → many comes p n at ≡ Err line
    → StuckWithin comes p tokens P at line
many_stuck {A = A} comes p tokens P s rule begins zero at line e =
    let none : List A = [] in
    not_failed none at line (sym (many_zero comes p at) ∙ e)
many_stuck {A = A} comes p tokens P s rule begins (suc n) at line e =
    let none : List A = [] in
    elim (cases_Bool (comes (text_at at))) [
      | inr so ↦ not_failed none at line (sym (many_none comes p (suc n) at so) ∙ e)
      | inl so ↦ fail_bind (p at) _ line (sym (many_more comes p n at so) ∙ e)
          (λ e1. let st = rule.stuck at line e1 in record {
            before = st.before;
            mid = st.mid;
            took = st.took;
            is_line = st.is_line;
            value = st.value ∷ [];
            more = st.more;
            ok = (st.ok, tt);
            completes = append-nil (tokens st.value) ∙ st.completes;
            again = λ a m k took like enough.
                by_more (λ i. (l : ℕ) × (many comes p i a ≡ Err l)) k (omega arith) (λ j is.
                let near = took_alike st.before at st.mid a m st.took took like in
                let h = st.again a m took like in
                (h.0, many_more comes p j a (ap comes near ∙ so) ∙ rw (h.1) refl));
          })
          (λ x mid e1 e2.
          fail_bind (many comes p n mid) _ line e2
          (λ e3.
          let t = rule.takes at mid x e1 in
          let some = takes_some comes tokens P s begins x t.ok in
          let st = many_stuck comes p tokens P s rule begins n mid line e3 in
          record {
            before = tokens x ++ st.before;
            mid = st.mid;
            took = took_then (tokens x) st.before at mid st.mid t.took st.took;
            is_line = st.is_line;
            value = x ∷ st.value;
            more = st.more;
            ok = (t.ok, st.ok);
            completes =
                ap (λ (ts : List Token). tokens x ++ ts) st.completes
                ∙ sym (append_assoc (tokens x) st.before st.more);
            again = λ a m k took like enough.
                by_more (λ i. (l : ℕ) × (many comes p i a ≡ Err l)) k (omega arith) (λ j is.
                let parts = took_split (tokens x) st.before a m took in
                let near = took_alike st.before mid st.mid parts.0 m st.took parts.2 like in
                let one = rule.again a parts.0 x t.ok parts.1 (ap (s x) near ∙ t.stop) in
                let len = length-append (tokens x) st.before in
                let h = st.again parts.0 m j parts.2 like (omega arith) in (
                  h.0,
                  many_more comes p j a (seen comes tokens P s begins x a parts.0 t.ok parts.1)
                      ∙ rw (one, h.1) refl,
                ));
          })
          (λ ys end e3 e4. not_failed (x ∷ ys) end line e4))
    ]

-- ---- the rule

at_least : {A : Type 0} (comes : Text → Bool) (tokens : A → List Token) (P : A → Type 0)
    (s : A → Text → Bool) → Begins comes tokens P s
    → (xs : List A) → AllByRecursion P xs → length xs ≤ length (flat_map tokens xs)
at_least comes tokens P s begins [] ok = omega arith
at_least comes tokens P s begins (x ∷ xs) ok =
    let some = takes_some comes tokens P s begins x ok.0 in
    let others = at_least comes tokens P s begins xs ok.1 in
    let len = length-append (tokens x) (flat_map tokens xs) in
    omega arith

many_at_is : {A : Type 0} (comes : Text → Bool) (p : Reader A) (at : At)
    → many_at comes p at ≡ many comes p (length at.lexemes + 1) at
unfolding many_at
many_at_is comes p at = refl

pub many_rule : {A : Type 0} {p : Reader A} {tokens : A → List Token} {P : A → Type 0}
    {s : A → Text → Bool} (comes : Text → Bool)
    → IsRule p tokens P s → Begins comes tokens P s
    → IsRule (many_at comes p) (flat_map tokens) (AllByRecursion P) (many_stops comes s)
many_rule {p = p} {tokens = tokens} {P = P} {s = s} comes rule begins = record {
  takes = λ at new xs e. many_takes comes p tokens P s rule begins (length at.lexemes + 1) at new xs
      (omega arith) (sym (many_at_is comes p at) ∙ e);
  again = λ at new xs ok took stop.
      let most = at_least comes tokens P s begins xs ok in
      let less = took_shorter (flat_map tokens xs) at new took in
      many_at_is comes p at
      ∙ many_again comes p tokens P s rule begins (length at.lexemes + 1) at new xs
      (omega arith) ok took stop;
  stuck = λ at n e.
      let st =
      many_stuck comes p tokens P s rule begins (length at.lexemes + 1) at n
      (sym (many_at_is comes p at) ∙ e) in
      record {
        before = st.before;
        mid = st.mid;
        took = st.took;
        is_line = st.is_line;
        value = st.value;
        more = st.more;
        ok = st.ok;
        completes = st.completes;
        again = λ a m took like.
            let less = took_shorter st.before a m took in
            let h = st.again a m (length a.lexemes + 1) took like (omega arith) in
            (h.0, many_at_is comes p a ∙ h.1);
      };
  some = [];
  some_ok = tt;
}

-- things of which each stops before this text
pub last_all : {A : Type 0} (s : A → Text → Bool) (t : Text) → ((x : A) → s x t ≡ true)
    → (xs : List A) → last_stops s xs t ≡ true
last_all s t each [] = refl
last_all s t each (x ∷ []) = each x
last_all s t each (x ∷ y ∷ xs) = last_all s t each (y ∷ xs)
