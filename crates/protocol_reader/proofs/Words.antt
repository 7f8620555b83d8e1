-- Names and numbers: each is a rule.
use Rattle.std.proofs.Common.{◌≡◌, ℕ, true, false, List, [], ◌∷◌, Some, Ok, Err, refl, sym}
use Rattle.std.proofs.Common.{ap, subst}
use Rattle.std.proofs.Common.{◌∙◌, inl, inr, arith, codes}
use Rattle.std.specs.Prelude.{◌⊎◌, is_some}
use Rattle.std.specs.Fmt.{decimal}
use Rattle.std.proofs.lemmas.Bool.{cases_Bool}
use Rattle.proto_model.specs.Tokens.{Text, Token, part, IsName, IsNumber, is_word, is_reserved}
use Rattle.proto_model.specs.Grammar.{number_token}
use Rattle.protocol_reader.specs.Reading.{At, mapped, name, is_name, number, number_in, is_number}
use Rattle.protocol_reader.specs.Reading.{number_or_name, text_at, line_at, after, sees}
use Rattle.protocol_reader.proofs.Tokens.{sees_is, sees_same, name_seen, no_name_seen, is_name_is}
use Rattle.protocol_reader.proofs.Tokens.{name_is, name_some}
use Rattle.protocol_reader.proofs.Numbers.{number_in-Some, number_in-decimal, number_or_none}
use Rattle.protocol_reader.proofs.Numbers.{is_number-Some}
use Rattle.protocol_reader.proofs.Numbers.{word_no_number, number_some, number_seen, no_number_seen}
use Rattle.protocol_reader.proofs.Taking.{Took, Alike, took_alike}
use Rattle.protocol_reader.proofs.Rule.{Takes, Stuck, IsRule, done, takes_done, failed_is}
use Rattle.protocol_reader.proofs.Rule.{not_failed, not_done}
use Rattle.protocol_reader.proofs.Rule.{via_bind, fail_bind}
use Rattle.protocol_reader.proofs.Choices.{free}

-- ---- names

abbrev pub name_tokens : Text → List Token
name_tokens text = part text ∷ []

pub name_took : (n : Text) (at : At) → IsName n → sees n at ≡ true
    → name at ≡ Ok (n, after (part n) at)
name_took n at is s =
    let e = sees_is n at s in
    name_seen at (ap is_name e ∙ name_is n is) ∙ ap (λ (t : Text). done t (after (part t) at)) e

some_name : IsName (codes "a")
unfolding is_word is_reserved
some_name = record { each = (refl, tt); first = refl; free = refl }

name_takes : (at new : At) (x : Text) → name at ≡ Ok (x, new)
    → Takes name_tokens IsName free at x new
name_takes at new x e =
    elim (cases_Bool (is_name (text_at at))) [
      | inl so ↦ let is = is_name_is (text_at at) so in
          let seen = sees_same (text_at at) at refl (name_some (text_at at) is) in
          takes_done (text_at at) x at (after (part (text_at at)) at) new
          (sym (name_seen at so) ∙ e)
          (record { ok = is; took = (seen, refl); stop = refl })
      | inr so ↦ not_done (x, new) (line_at at) (sym (no_name_seen at so) ∙ e)
    ]

same_text : (at mid a m : At) → at ≡ mid → a ≡ m → Alike mid m → text_at a ≡ text_at at
same_text at mid a m e f like = ap text_at f ∙ like ∙ ap text_at (sym e)

name_stuck : (at : At) (n : ℕ) → name at ≡ Err n → Stuck name name_tokens IsName at n
name_stuck at n e =
    elim (cases_Bool (is_name (text_at at))) [
      | inl so ↦
          not_failed (text_at at) (after (part (text_at at)) at) n (sym (name_seen at so) ∙ e)
      | inr so ↦ record {
        before = [];
        mid = at;
        took = refl;
        is_line = sym (failed_is {A = Text} (line_at at) n (sym (no_name_seen at so) ∙ e));
        value = codes "a";
        more = part (codes "a") ∷ [];
        ok = some_name;
        completes = refl;
        again = λ a m took like.
            (line_at a, no_name_seen a (ap is_name (same_text at at a m refl took like) ∙ so));
      }
    ]

pub name_rule : IsRule name name_tokens IsName free
name_rule = record {
  takes = name_takes;
  again = λ at new x ok took stop. name_took x at ok took.0 ∙ ap (done x) took.1;
  stuck = name_stuck;
  some = codes "a";
  some_ok = some_name;
}

-- ---- numbers

abbrev pub number_tokens : ℕ → List Token
number_tokens n = number_token n ∷ []

number_takes_one : (at : At) (n : ℕ) → number_in (text_at at) ≡ Some n
    → Takes number_tokens IsNumber free at n (after (part (text_at at)) at)
number_takes_one at n so =
    let read = number_in-Some (text_at at) n so in
    let seen = sees_same (text_at at) at refl (number_some (text_at at) n so) in
    record {
      ok = read.1;
      took = subst
          (λ (t : Text). (sees t at ≡ true) × (after (part t) at ≡ after (part (text_at at)) at))
          read.0 (seen, refl);
      stop = refl;
    }

number_takes_rule : (at new : At) (x : ℕ) → number at ≡ Ok (x, new)
    → Takes number_tokens IsNumber free at x new
number_takes_rule at new x e =
    elim (number_or_none (text_at at)) [
      | inl some ↦ takes_done some.0 x at (after (part (text_at at)) at) new
          (sym (number_seen at some.0 some.1) ∙ e)
          (number_takes_one at some.0 some.1)
      | inr none ↦ not_done (x, new) (line_at at) (sym (no_number_seen at none) ∙ e)
    ]

pub number_took : (n : ℕ) (at : At) → IsNumber n → sees (decimal n) at ≡ true
    → number at ≡ Ok (n, after (number_token n) at)
number_took n at is s =
    let e = sees_is (decimal n) at s in
    number_seen at n (ap number_in e ∙ number_in-decimal n is)
    ∙ ap (λ (t : Text). done n (after (part t) at)) e

number_stuck : (at : At) (n : ℕ) → number at ≡ Err n → Stuck number number_tokens IsNumber at n
number_stuck at n e =
    elim (number_or_none (text_at at)) [
      | inl some ↦ not_failed some.0 (after (part (text_at at)) at) n
          (sym (number_seen at some.0 some.1) ∙ e)
      | inr none ↦ record {
        before = [];
        mid = at;
        took = refl;
        is_line = sym (failed_is {A = ℕ} (line_at at) n (sym (no_number_seen at none) ∙ e));
        value = 0;
        more = number_token 0 ∷ [];
        ok = omega arith;
        completes = refl;
        again = λ a m took like. (
          line_at a,
          no_number_seen a (ap number_in (same_text at at a m refl took like) ∙ none),
        );
      }
    ]

pub number_rule : IsRule number number_tokens IsNumber free
number_rule = record {
  takes = number_takes_rule;
  again = λ at new x ok took stop. number_took x at ok took.0 ∙ ap (done x) took.1;
  stuck = number_stuck;
  some = 0;
  some_ok = omega arith;
}

-- ---- a number or a name

abbrev pub either_tokens : ℕ ⊎ Text → List Token
either_tokens (inl n) = number_tokens n
either_tokens (inr t) = name_tokens t

abbrev pub EitherOk : ℕ ⊎ Text → Type 0
EitherOk (inl n) = IsNumber n
EitherOk (inr t) = IsName t

either_number : (at : At) → is_number (text_at at) ≡ true → number_or_name at ≡ mapped inl number at
unfolding number_or_name
either_number at so = rw so refl

either_name : (at : At) → is_number (text_at at) ≡ false → number_or_name at ≡ mapped inr name at
unfolding number_or_name
either_name at so = rw so refl

either_takes : (at new : At) (x : ℕ ⊎ Text) → number_or_name at ≡ Ok (x, new)
    → Takes either_tokens EitherOk free at x new
either_takes at new x e =
    elim (cases_Bool (is_number (text_at at))) [
      | inl so ↦ via_bind (number at) _ _ (sym (either_number at so) ∙ e) (λ n mid e1 e2.
          let k = number_rule.takes at mid n e1 in
          takes_done (inl n) x at mid new e2 (record { ok = k.ok; took = k.took; stop = refl }))
      | inr so ↦ via_bind (name at) _ _ (sym (either_name at so) ∙ e) (λ n mid e1 e2.
          let k = name_rule.takes at mid n e1 in
          takes_done (inr n) x at mid new e2 (record { ok = k.ok; took = k.took; stop = refl }))
    ]

either_again : (at new : At) (x : ℕ ⊎ Text) → EitherOk x → Took at (either_tokens x) new
    → number_or_name at ≡ Ok (x, new)
either_again at new (inl n) ok took =
    either_number at
    (ap is_number (sees_is (decimal n) at took.0) ∙ ap is_some (number_in-decimal n ok))
    ∙ rw (number_rule.again at new n ok took refl) refl
either_again at new (inr t) ok took =
    either_name at (ap is_number (sees_is t at took.0) ∙ word_no_number t ok.first)
    ∙ rw (name_rule.again at new t ok took refl) refl

either_stuck : (at : At) (n : ℕ) → number_or_name at ≡ Err n
    → Stuck number_or_name either_tokens EitherOk at n
either_stuck at n e =
    elim (cases_Bool (is_number (text_at at))) [
      | inl so ↦ let some = is_number-Some (text_at at) so in
          not_failed (inl some.0) (after (part (text_at at)) at) n
          (rw (number_seen at some.0 some.1) at (sym (either_number at so) ∙ e))
      | inr so ↦ fail_bind (name at) _ n (sym (either_name at so) ∙ e)
          (λ e1. let st = name_rule.stuck at n e1 in record {
            before = st.before;
            mid = st.mid;
            took = st.took;
            is_line = st.is_line;
            value = inr st.value;
            more = st.more;
            ok = st.ok;
            completes = st.completes;
            again = λ a m took like.
                let near = took_alike st.before at st.mid a m st.took took like in
                let h = st.again a m took like in
                (h.0, either_name a (ap is_number near ∙ so) ∙ rw (h.1) refl);
          })
          (λ x mid e1 e2. not_failed (inr x) mid n e2)
    ]

pub either_rule : IsRule number_or_name either_tokens EitherOk free
either_rule = record {
  takes = either_takes;
  again = λ at new x ok took stop. either_again at new x ok took;
  stuck = either_stuck;
  some = inl 0;
  some_ok = omega arith;
}
