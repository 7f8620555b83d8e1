-- One more word of the rows is written.
use Rattle.std.proofs.Common.{◌≡◌, ℕ, ◌+◌, ◌<◌, List, [], ◌∷◌, ◌++◌, length, take, get_or, Result}
use Rattle.std.proofs.Common.{Ok}
use Rattle.std.proofs.Common.{sym, ap, subst, ◌∙◌, append-nil}
use Rattle.std.proofs.lemmas.Grind.{flat_map-append}
use Rattle.std.proofs.lemmas.List.{take_more}
use Rattle.rv_base.specs.Appended.{Appends}
use Rattle.proto_model.specs.Tokens.{Text}
use Rattle.proto_model.specs.Continued.{Continues}
use Rattle.proto_model.proofs.Continuing.{Continues-append, whole}
use Rattle.controller_table.specs.declared.rows.Row.{Row}
use Rattle.control_store.specs.RowWord.{row_word}
use Rattle.control_store.specs.Image.{words_of}
use Rattle.control_store.proofs.Parts.{front}

words-one_more : (rows : List Row) (i : ℕ) (d : Row) → i < length rows
    → words_of (take i rows) ++ row_word (get_or rows i d) ≡ words_of (take (i + 1) rows)
words-one_more rows i d within =
    let row : Row = get_or rows i d in
    ap (λ (w : Text). words_of (take i rows) ++ w) (sym (append-nil (row_word row)))
    ∙ sym (flat_map-append row_word (take i rows) (row ∷ []))
    ∙ ap words_of (sym (take_more rows i d within))

pub word-written : {E : Type 0} (rows : List Row) (i : ℕ) (d : Row) (word : Text)
    (r s t : Result (Unit {0}) E) (a b c : Text) → i < length rows
    → word ≡ row_word (get_or rows i d)
    → Continues (words_of (take i rows)) r a s b → Continues word s b t c
    → Continues (words_of (take (i + 1) rows)) r a t c
word-written rows i d word r s t a b c within is before more =
    subst (λ (text : Text). Continues text r a t c)
    (ap (λ (w : Text). words_of (take i rows) ++ w) is ∙ words-one_more rows i d within)
    (Continues-append (words_of (take i rows)) word r s t a b c before more)

-- Five texts are appended, one after the other.
pub five-written : {E : Type 0} (p q r s t : Text) (u v w x y : Result (Unit {0}) E)
    (a b c d e f : Text) → Continues p (Ok tt) a u b → Continues q u b v c → Continues r v c w d
    → Continues s w d x e → Continues t x e y f → Appends (p ++ (q ++ (r ++ (s ++ t)))) y a f
five-written p q r s t u v w x y a b c d e f first second third fourth fifth =
    let last = Continues-append s t w x y d e f fourth fifth in
    let more = Continues-append r (s ++ t) v w y c d f third last in
    let most = Continues-append q (r ++ (s ++ t)) u v y b c f second more in
    whole (p ++ (q ++ (r ++ (s ++ t)))) y a f
    (Continues-append p (q ++ (r ++ (s ++ t))) (Ok tt) u y a b f first most)

-- the same of a head whose numbers are these
pub head-written : {E : Type 0} (m n t h i r s : ℕ) (y : Result (Unit {0}) E) (a f : Text)
    → m ≡ n → h ≡ i → r ≡ s → Appends (front m t h r) y a f → Appends (front n t i s) y a f
head-written m n t h i r s y a f em eh er is =
    subst (λ (k : ℕ). Appends (front n t i k) y a f) er
    (subst (λ (k : ℕ). Appends (front n t k r) y a f) eh
    (subst (λ (k : ℕ). Appends (front k t h r) y a f) em is))
