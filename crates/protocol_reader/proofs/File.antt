-- A file that is read spells the protocol and no other, and one that is refused has its fault at
-- that line.
use Rattle.std.proofs.Common.{◌≡◌, ◌≢◌, ℕ, true, cond, List, [], ◌∷◌, ◌++◌, Ok, Err, refl, sym, ap}
use Rattle.std.proofs.Common.{subst, ◌∙◌, inl, inr, append_assoc, append-nil}
use Rattle.std.specs.Prelude.{◌⊎◌}
use Rattle.std.proofs.lemmas.Bool.{cases_Bool}
use Rattle.proto_model.specs.Tokens.{Text, Token, spellings}
use Rattle.proto_model.specs.Laid.{Laid}
use Rattle.proto_model.specs.Lexemes.{Lexeme, lexemes}
use Rattle.proto_model.specs.Grammar.{tokens_of}
use Rattle.proto_model.specs.Sayable.{IsSayable}
use Rattle.proto_model.specs.Spelled.{Spells, texts, item_lines, IsFaultLine}
use Rattle.proto_model.specs.declared.protocol.Protocol.{Protocol}
use Rattle.proto_model.proofs.LaidOutSpells.{spellings-append}
use Rattle.protocol_reader.specs.Reading.{At, Outcome, first_of_all, is_end, text_at, line_at}
use Rattle.protocol_reader.specs.Reading.{at_end, protocol, file}
use Rattle.protocol_reader.proofs.LexemeTexts.{AllLexemes}
use Rattle.protocol_reader.proofs.TokensAreLexemes.{protocol_lexemes}
use Rattle.protocol_reader.proofs.CutIsLaid.{lexemes_laid}
use Rattle.protocol_reader.proofs.LaidIsCut.{laid_cut}
use Rattle.protocol_reader.proofs.Taking.{Took}
use Rattle.protocol_reader.proofs.TakenTexts.{took_front, took_texts, texts_took, took_lines}
use Rattle.protocol_reader.proofs.Rule.{done, done_is, failed, failed_is, not_failed}
use Rattle.protocol_reader.proofs.Rule.{not_done, via_bind, fail_bind}
use Rattle.protocol_reader.proofs.ProtocolRule.{protocol_rule, protocol_stops, protocol_end}

-- where reading a file begins
abbrev pub start_of : Text → At
start_of bytes = record { lexemes = lexemes bytes; lines = [] }

-- ---- the end of the file

ending : (ls : List Lexeme) → is_end ls ≡ true → (t : Text) × (texts ls ≡ t ∷ [])
ending [] e = absurd cc
ending (l ∷ []) e = (l.text, refl)
ending (l ∷ m ∷ ls) e = absurd cc

is_ending : (ls : List Lexeme) (t : Text) → texts ls ≡ t ∷ [] → is_end ls ≡ true
is_ending [] t e = absurd cc
is_ending (l ∷ []) t e = refl
is_ending (l ∷ m ∷ ls) t e = absurd (let h : m.text ∷ texts ls ≡ [] = cc in cc)

-- ---- the next text

first_text : (ls : List Lexeme) (t : Text) (ts : List Text) → texts ls ≡ t ∷ ts
    → (first_of_all ls).text ≡ t
first_text [] t ts e = absurd cc
first_text (l ∷ ls) t ts e = cc

text_first : (at : At) (t : Text) (ts : List Text) → texts at.lexemes ≡ t ∷ ts → text_at at ≡ t
unfolding text_at
text_first at t ts e = first_text at.lexemes t ts e

no_text : (ls : List Lexeme) → texts ls ≡ [] → (first_of_all ls).text ≡ []
no_text [] e = refl
no_text (l ∷ ls) e = absurd cc

text_none : (at : At) → texts at.lexemes ≡ [] → text_at at ≡ []
unfolding text_at
text_none at e = no_text at.lexemes e

-- at the end of a file a protocol stops
end_stops : (p : Protocol) (at : At) → text_at at ≡ [] → protocol_stops p (text_at at) ≡ true
end_stops p at e = ap (protocol_stops p) e ∙ protocol_end p

-- ---- what is left

-- lists with one more at the end
same_fronts : (xs ys : List Text) (x y : Text) → xs ++ x ∷ [] ≡ ys ++ y ∷ [] → xs ≡ ys
same_fronts [] [] x y e = refl
same_fronts [] (b ∷ []) x y e = absurd (let h : [] ≡ y ∷ [] = cc in cc)
same_fronts [] (b ∷ c ∷ ys) x y e = absurd (let h : [] ≡ c ∷ (ys ++ y ∷ []) = cc in cc)
same_fronts (a ∷ []) [] x y e = absurd (let h : x ∷ [] ≡ [] = cc in cc)
same_fronts (a ∷ c ∷ xs) [] x y e = absurd (let h : c ∷ (xs ++ x ∷ []) ≡ [] = cc in cc)
same_fronts (a ∷ xs) (b ∷ ys) x y e =
    let h : a ≡ b = cc in
    let k : xs ++ x ∷ [] ≡ ys ++ y ∷ [] = cc in
    let r = same_fronts xs ys x y k in
    cc

-- a token is not empty, so the end is not among tokens
lexemes_front : (xs ys : List Text) → AllLexemes (xs ++ ys) → AllLexemes xs
lexemes_front [] ys all = tt
lexemes_front (x ∷ xs) ys all = (all.0, lexemes_front xs ys all.1)

no_end : (xs tokens : List Text) → AllLexemes xs → xs ≡ tokens ++ [] ∷ [] → ⊥
no_end [] [] all e = cc
no_end [] (t ∷ tokens) all e = cc
no_end ([] ∷ xs) tokens all e = all.0
no_end ((b ∷ x) ∷ xs) [] all e = let h : b ∷ x ≡ [] = cc in cc
no_end ((b ∷ x) ∷ xs) (t ∷ tokens) all e =
    no_end xs tokens all.1 (let h : xs ≡ tokens ++ [] ∷ [] = cc in h)

-- behind the tokens of a protocol, or some of them, something of the file is left
some_left : (bytes : Text) (ts : List Token) (at : At) → Took (start_of bytes) ts at
    → AllLexemes (spellings ts) → at.lexemes ≢ []
some_left bytes ts at took all = λ none.
    let l = lexemes_laid bytes in
    no_end (spellings ts) l.0 all
    (sym (append-nil (spellings ts))
    ∙ ap (λ (ls : List Lexeme). spellings ts ++ texts ls) (sym none)
    ∙ sym (took_texts ts (start_of bytes) at took) ∙ l.1)

next_left : (ls : List Lexeme) → ls ≢ []
    → (here : Lexeme) × (rest : List Lexeme) × (ls ≡ here ∷ rest)
next_left [] some = absurd (some refl)
next_left (l ∷ ls) some = (l, ls, refl)

-- ---- what is read

ended : (at new : At) (q p : Protocol)
    → cond (at_end at) (Ok (q, at)) (Err (line_at at)) ≡ done p new
    → (at_end at ≡ true) × (q ≡ p) × (at ≡ new)
ended at new q p e =
    elim (cases_Bool (at_end at)) [
      | inl so ↦ let r = done_is q p at new (rw so at e) in (so, r.0, r.1)
      | inr so ↦ not_done (p, new) (line_at at) (rw so at e)
    ]

pub file_takes : (bytes : Text) (p : Protocol) (new : At) → file (start_of bytes) ≡ Ok (p, new)
    → Spells bytes p × (new.lines ≡ item_lines bytes p)
unfolding file at_end
file_takes bytes p new e =
    via_bind _ _ _ e (λ q mid e1 e2.
    let r = ended mid new q p e2 in
    let t = protocol_rule.takes (start_of bytes) mid q e1 in
    let l = lexemes_laid bytes in
    let last = ending mid.lexemes r.0 in
    let whole : l.0 ++ [] ∷ [] ≡ spellings (tokens_of q) ++ last.0 ∷ [] =
    sym l.1 ∙ took_texts (tokens_of q) (start_of bytes) mid t.took
    ∙ ap (λ (u : List Text). spellings (tokens_of q) ++ u) last.1 in
    let same = same_fronts l.0 (spellings (tokens_of q)) [] last.0 whole in
    let spells : Spells bytes q =
    record { sayable = t.ok; laid = subst (λ (u : List Text). Laid bytes u) same l.2 } in
    let lines : new.lines ≡ item_lines bytes q =
    ap (λ (a : At). a.lines) (sym r.2) ∙ took_lines (tokens_of q) (start_of bytes) mid t.took in
    subst (λ (x : Protocol). Spells bytes x × (new.lines ≡ item_lines bytes x)) r.1 (spells, lines))

pub file_again : (bytes : Text) (p : Protocol) → Spells bytes p
    → (new : At) × (file (start_of bytes) ≡ Ok (p, new))
unfolding file at_end
file_again bytes p s =
    let whole = laid_cut bytes (spellings (tokens_of p)) (protocol_lexemes p s.sayable) s.laid in
    let t = texts_took (tokens_of p) (start_of bytes) ([] ∷ []) whole in
    let ends = is_ending t.0.lexemes [] t.2 in
    let stop = end_stops p t.0 (text_first t.0 [] [] t.2) in
    (t.0, rw (protocol_rule.again (start_of bytes) t.0 p s.sayable t.1 stop, ends) refl)

pub spelled_once : (bytes : Text) (p q : Protocol) → Spells bytes p → Spells bytes q → p ≡ q
spelled_once bytes p q s t =
    let a = file_again bytes p s in
    let b = file_again bytes q t in
    (done_is p q a.0 b.0 (sym a.1 ∙ b.1)).0

-- ---- what is refused

-- lexemes with these texts
abbrev written : List Text → List Lexeme
written [] = []
written (t ∷ ts) = record { text = t; line = 0 } ∷ written ts

texts_written : (ts : List Text) → texts (written ts) ≡ ts
texts_written [] = refl
texts_written (t ∷ ts) = ap (λ (u : List Text). t ∷ u) (texts_written ts)

abbrev place : List Text → At
place ts = record { lexemes = written ts; lines = [] }

-- the tokens of a protocol are read again
read_again : (p : Protocol) → IsSayable p
    → (new : At) × (protocol (place (spellings (tokens_of p))) ≡ Ok (p, new))
    × (texts new.lexemes ≡ [])
read_again p ok =
    let t = texts_took (tokens_of p) (place (spellings (tokens_of p))) []
    (texts_written (spellings (tokens_of p)) ∙ sym (append-nil (spellings (tokens_of p)))) in
    let stop = end_stops p t.0 (text_none t.0 t.2) in
    (t.0, protocol_rule.again (place (spellings (tokens_of p))) t.0 p ok t.1 stop, t.2)

-- a front of them can be taken, and then stands the next one
front_again : (ts : List Token) (p : Protocol) (here : Text) (more : List Text)
    → spellings (tokens_of p) ≡ (spellings ts ++ here ∷ []) ++ more
    → (new : At) × Took (place (spellings (tokens_of p))) ts new × (texts new.lexemes ≡ here ∷ more)
front_again ts p here more e =
    texts_took ts (place (spellings (tokens_of p))) (here ∷ more)
    (texts_written (spellings (tokens_of p)) ∙ e ∙ append_assoc (spellings ts) (here ∷ []) more)

line_first : (at : At) (here : Lexeme) (rest : List Lexeme) → at.lexemes ≡ here ∷ rest
    → line_at at ≡ here.line
unfolding line_at
line_first at here rest e = ap (λ (ls : List Lexeme). (first_of_all ls).line) e

none_spelled : (bytes : Text) (line : ℕ) → file (start_of bytes) ≡ Err line → (p : Protocol)
    → Spells bytes p → ⊥
none_spelled bytes line e p s = let a = file_again bytes p s in not_failed p a.0 line (sym a.1 ∙ e)

-- the rule of the protocol stops
stuck_within : (bytes : Text) (line : ℕ) → file (start_of bytes) ≡ Err line
    → protocol (start_of bytes) ≡ Err line → IsFaultLine bytes line
stuck_within bytes line whole e =
    let st = protocol_rule.stuck (start_of bytes) line e in
    let whole_value : spellings (tokens_of st.value) ≡ spellings st.before ++ spellings st.more =
    ap spellings st.completes ∙ spellings-append st.before st.more in
    let all : AllLexemes (spellings st.before) =
    lexemes_front (spellings st.before) (spellings st.more)
    (subst AllLexemes whole_value (protocol_lexemes st.value st.ok)) in
    let left = next_left st.mid.lexemes (some_left bytes st.before st.mid st.took all) in
    let f = took_front st.before (start_of bytes) st.mid st.took in
    let here_text : text_at st.mid ≡ left.0.text =
    text_first st.mid left.0.text (texts left.1) (ap texts left.2) in
    let mid_line : line_at st.mid ≡ left.0.line = line_first st.mid left.0 left.1 left.2 in
    let at_line : line ≡ left.0.line = st.is_line ∙ mid_line in
    record {
      spells_none = none_spelled bytes line whole;
      front = f.front;
      here = left.0;
      rest = left.1;
      cut = f.parts ∙ ap (λ (u : List Lexeme). f.front ++ u) left.2;
      before = (
        st.value,
        spellings st.more,
        st.ok,
        whole_value
            ∙ ap (λ (u : List Text). u ++ spellings st.more) (sym f.are),
      );
      with_it = λ v.
          let e2 : spellings (tokens_of v.0) ≡ (spellings st.before ++ left.0.text ∷ []) ++ v.1 =
          v.3 ∙ ap (λ (u : List Text). (u ++ left.0.text ∷ []) ++ v.1) f.are in
          let good = read_again v.0 v.2 in
          let m = front_again st.before v.0 left.0.text v.1 e2 in
          let bad =
          st.again (place (spellings (tokens_of v.0))) m.0 m.1
          (text_first m.0 left.0.text v.1 m.2 ∙ sym here_text) in
          not_failed v.0 good.0 bad.0 (sym good.1 ∙ bad.1);
      is_line = at_line;
    }

-- the protocol is whole, and something stands behind it
stuck_behind : (bytes : Text) (line : ℕ) (p : Protocol) (mid : At)
    → file (start_of bytes) ≡ Err line → protocol (start_of bytes) ≡ Ok (p, mid)
    → line ≡ line_at mid → IsFaultLine bytes line
stuck_behind bytes line p mid whole e is_line =
    let t = protocol_rule.takes (start_of bytes) mid p e in
    let left =
    next_left mid.lexemes
    (some_left bytes (tokens_of p) mid t.took (protocol_lexemes p t.ok)) in
    let f = took_front (tokens_of p) (start_of bytes) mid t.took in
    let here_text : text_at mid ≡ left.0.text =
    text_first mid left.0.text (texts left.1) (ap texts left.2) in
    record {
      spells_none = none_spelled bytes line whole;
      front = f.front;
      here = left.0;
      rest = left.1;
      cut = f.parts ∙ ap (λ (u : List Lexeme). f.front ++ u) left.2;
      before = (
        p,
        [],
        t.ok,
        sym (append-nil (spellings (tokens_of p)))
            ∙ ap (λ (u : List Text). u ++ []) (sym f.are),
      );
      with_it = λ v.
          let e2 : spellings (tokens_of v.0) ≡ (spellings (tokens_of p) ++ left.0.text ∷ [])
          ++ v.1 = v.3 ∙ ap (λ (u : List Text). (u ++ left.0.text ∷ []) ++ v.1) f.are in
          let good = read_again v.0 v.2 in
          let m = front_again (tokens_of p) v.0 left.0.text v.1 e2 in
          let stop =
          ap (protocol_stops p) (text_first m.0 left.0.text v.1 m.2 ∙ sym here_text) ∙ t.stop in
          let other = protocol_rule.again (place (spellings (tokens_of v.0))) m.0 p t.ok m.1 stop in
          let same = done_is v.0 p good.0 m.0 (sym good.1 ∙ other) in
          let none : [] ≡ left.0.text ∷ v.1 =
          sym good.2 ∙ ap (λ (a : At). texts a.lexemes) same.1 ∙ m.2 in
          cc;
      is_line = is_line ∙ line_first mid left.0 left.1 left.2;
    }

not_ended : (at : At) (p : Protocol) (line : ℕ)
    → cond (at_end at) (Ok (p, at)) (Err (line_at at)) ≡ failed line → line ≡ line_at at
not_ended at p line e =
    elim (cases_Bool (at_end at)) [
      | inl so ↦ not_failed p at line (rw so at e)
      | inr so ↦ sym (failed_is {A = Protocol} (line_at at) line (rw so at e))
    ]

pub file_stuck : (bytes : Text) (line : ℕ) → file (start_of bytes) ≡ Err line
    → IsFaultLine bytes line
unfolding file
file_stuck bytes line e =
    fail_bind (protocol (start_of bytes)) _ line e
    (λ e1. stuck_within bytes line e e1)
    (λ p mid e1 e2. stuck_behind bytes line p mid e e1 (not_ended mid p line e2))

-- each file spells a protocol or has a fault
decide : (bytes : Text) (o : Outcome Protocol) → file (start_of bytes) ≡ o
    → ((p : Protocol) × Spells bytes p) ⊎ ((line : ℕ) × IsFaultLine bytes line)
decide bytes (Ok x) e = inl (x.0, (file_takes bytes x.0 x.1 e).0)
decide bytes (Err line) e = inr (line, file_stuck bytes line e)

pub every_file : (bytes : Text)
    → ((p : Protocol) × Spells bytes p) ⊎ ((line : ℕ) × IsFaultLine bytes line)
every_file bytes = decide bytes (file (start_of bytes)) refl
