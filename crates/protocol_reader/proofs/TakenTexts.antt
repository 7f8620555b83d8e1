-- The texts and lines of the lexemes that are taken as tokens.
use Rattle.std.proofs.Common.{◌≡◌, ℕ, Bool, true, false, cond, List, [], ◌∷◌, ◌++◌, refl, sym, ap}
use Rattle.std.proofs.Common.{◌∙◌, append_assoc, append-nil}
use Rattle.std.proofs.lemmas.Slice.Eq.{bytes_eq-Decides}
use Rattle.proto_model.specs.Tokens.{Text, Token, spellings}
use Rattle.proto_model.specs.Lexemes.{Lexeme}
use Rattle.proto_model.specs.Spelled.{texts, marked_lines}
use Rattle.protocol_reader.specs.Reading.{At, first_of_all, is_first, behind, line_at, after, sees}
use Rattle.protocol_reader.proofs.Taking.{Took}

-- ---- what is taken stands in front

-- the lexemes in front have the texts of these tokens
pub record StandsInFront (ts : List Token) (ls rest : List Lexeme) : Type 0 where
  pub front : List Lexeme
  pub parts : ls ≡ front ++ rest
  pub are : texts front ≡ spellings ts

first_taken : (t : Token) (ts : List Token) (ls rest : List Lexeme) → is_first t.text ls ≡ true
    → StandsInFront ts (behind ls) rest → StandsInFront (t ∷ ts) ls rest
first_taken t ts [] rest e f = absurd cc
first_taken t ts (l ∷ ls) rest e f =
    let same = (bytes_eq-Decides l.text t.text).0 e in
    record {
      front = l ∷ f.front;
      parts = ap (λ (u : List Lexeme). l ∷ u) f.parts;
      are = ap (λ (u : List Text). l.text ∷ u) f.are ∙ ap (λ (u : Text). u ∷ spellings ts) same;
    }

pub took_front : (ts : List Token) (at new : At) → Took at ts new
    → StandsInFront ts at.lexemes new.lexemes
unfolding sees after
took_front [] at new took =
    record { front = []; parts = ap (λ (a : At). a.lexemes) took; are = refl }
took_front (t ∷ ts) at new took =
    first_taken t ts at.lexemes new.lexemes took.0 (took_front ts (after t at) new took.1)

texts_then : (xs ys : List Lexeme) → texts (xs ++ ys) ≡ texts xs ++ texts ys
texts_then [] ys = refl
texts_then (x ∷ xs) ys = ap (λ (u : List Text). x.text ∷ u) (texts_then xs ys)

pub took_texts : (ts : List Token) (at new : At) → Took at ts new
    → texts at.lexemes ≡ spellings ts ++ texts new.lexemes
took_texts ts at new took =
    let f = took_front ts at new took in
    ap texts f.parts ∙ texts_then f.front new.lexemes
    ∙ ap (λ (u : List Text). u ++ texts new.lexemes) f.are

-- ---- what stands in front can be taken

first_text : (t : Text) (ts : List Text) (ls : List Lexeme) → texts ls ≡ t ∷ ts
    → (is_first t ls ≡ true) × (texts (behind ls) ≡ ts)
first_text t ts [] e = absurd cc
first_text t ts (l ∷ ls) e =
    let h : l.text ≡ t = cc in
    let k : texts ls ≡ ts = cc in
    ((bytes_eq-Decides l.text t).1 h, k)

pub texts_took : (ts : List Token) (at : At) (rest : List Text)
    → texts at.lexemes ≡ spellings ts ++ rest
    → (new : At) × Took at ts new × (texts new.lexemes ≡ rest)
unfolding sees after
texts_took [] at rest e = (at, refl, e)
texts_took (t ∷ ts) at rest e =
    let p = first_text t.text (spellings ts ++ rest) at.lexemes e in
    let r = texts_took ts (after t at) rest p.1 in
    (r.0, (p.0, r.1), r.2)

-- ---- the lines that are kept

by_mark : (b : Bool) (before : List ℕ) (line : ℕ) (rest : List ℕ)
    → cond b (before ++ line ∷ []) before ++ rest ≡ before ++ cond b (line ∷ rest) rest
by_mark true before line rest = append_assoc before (line ∷ []) rest
by_mark false before line rest = refl

first_line : (t : Token) (ts : List Token) (ls : List Lexeme) (before : List ℕ)
    → is_first t.text ls ≡ true
    → cond t.begins (before ++ (first_of_all ls).line ∷ []) before ++ marked_lines ts (behind ls)
    ≡ before ++ marked_lines (t ∷ ts) ls
first_line t ts [] before e = absurd cc
first_line t ts (l ∷ ls) before e = by_mark t.begins before l.line (marked_lines ts ls)

pub took_lines : (ts : List Token) (at new : At) → Took at ts new
    → new.lines ≡ at.lines ++ marked_lines ts at.lexemes
unfolding sees after line_at
took_lines [] at new took = ap (λ (a : At). a.lines) (sym took) ∙ sym (append-nil at.lines)
took_lines (t ∷ ts) at new took =
    took_lines ts (after t at) new took.1 ∙ first_line t ts at.lexemes at.lines took.0
