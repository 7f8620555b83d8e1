-- What a writer's calls leave, as marks.
use Rattle.std.proofs.Common.{◌≡◌, Bool, true, List, [], ◌∷◌, ◌++◌}
use Rattle.std.proofs.Common.{refl, sym, ap, subst, ◌∙◌, append_assoc, append-nil}
use Rattle.std.proofs.lemmas.List.{map-append}
use Rattle.std.proofs.lemmas.Grind.{flat_map-append, take_at_read}
use Rattle.rv_base.specs.Appended.{Appends}
use Rattle.proto_model.specs.Tokens.{Text, Token}
use Rattle.proto_model.specs.Marks.{Mark, Word, mark_text, is_tight_behind, laid, tight_after}
use Rattle.proto_model.specs.Marks.{words, Puts, Stands, Lays}
use Rattle.proto_model.specs.declared.layout.writer.Writer.{Writer}

-- bytes are put, and then more of them
pub Puts-append : (x y : Text) (a b c : Writer) → Puts x a b → Puts y b c → Puts (x ++ y) a c
Puts-append x y a b c p q = record {
  text = λ start before h.
      subst (λ (text : Text). Appends text c.result start c.text.items) (append_assoc before x y)
      (q.text start (before ++ x) (p.text start before h));
  tight = q.tight ∙ p.tight;
}

laid-push : (tight : Bool) (ms : List Mark) (m : Mark)
    → laid tight (ms ++ m ∷ []) ≡ laid tight ms ++ mark_text (tight_after tight ms) m
unfolding laid tight_after
laid-push tight [] m = append-nil (mark_text tight m)
laid-push tight (n ∷ ms) m =
    ap (λ (text : Text). mark_text tight n ++ text) (laid-push (is_tight_behind n) ms m)
    ∙ sym (append_assoc (mark_text tight n) (laid (is_tight_behind n) ms)
    (mark_text (tight_after (is_tight_behind n) ms) m))

tight_after-push : (tight : Bool) (ms : List Mark) (m : Mark)
    → tight_after tight (ms ++ m ∷ []) ≡ is_tight_behind m
unfolding tight_after
tight_after-push tight [] m = refl
tight_after-push tight (n ∷ ms) m = tight_after-push (is_tight_behind n) ms m

-- a mark is laid where its text is put
pub Lays-mark : (m : Mark) (a b : Writer) → Puts (mark_text a.tight m) a b
    → Lays (m ∷ []) a (record b { tight = is_tight_behind m })
Lays-mark m a b p = λ start before stands.
    let grows : laid true before ++ mark_text a.tight m ≡ laid true (before ++ m ∷ []) =
    ap (λ (tight : Bool). laid true before ++ mark_text tight m) stands.tight
    ∙ sym (laid-push true before m) in
    record {
      text = subst (λ (text : Text). Appends text b.result start b.text.items) grows
          (p.text start (laid true before) stands.text);
      tight = sym (tight_after-push true before m);
    }

-- marks are laid, and then more of them
pub Lays-append : (xs ys : List Mark) (a b c : Writer) → Lays xs a b → Lays ys b c
    → Lays (xs ++ ys) a c
Lays-append xs ys a b c p q = λ start before stands.
    subst (λ (marks : List Mark). Stands start marks c) (append_assoc before xs ys)
    (q start (before ++ xs) (p start before stands))

pub words-append : (ts us : List Token) → words (ts ++ us) ≡ words ts ++ words us
words-append [] us = refl
words-append (t ∷ ts) us = ap (λ (marks : List Mark). Word t.text ∷ marks) (words-append ts us)

-- what the proof of a rule of the grammar needs besides its calls
pub ruleset layout =
    (append_assoc, append-nil, words-append, map-append, flat_map-append, take_at_read)
