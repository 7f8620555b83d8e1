-- Tokens taken one after the other, from one place of the reader to another.
use Rattle.std.proofs.Common.{◌≡◌, ◌≢◌, ◌+◌, true, List, [], ◌∷◌, ◌++◌, length, refl, sym, ap}
use Rattle.std.proofs.Common.{subst, ◌∙◌, arith}
use Rattle.std.specs.Str.{bytes_eq}
use Rattle.proto_model.specs.Tokens.{Text, Token}
use Rattle.proto_model.specs.Lexemes.{Lexeme}
use Rattle.protocol_reader.specs.Reading.{At, first_of_all, is_first, text_at, after, sees}
use Rattle.protocol_reader.proofs.Tokens.{sees_is, after_shorter}

-- from one place to the other stand these tokens
abbrev pub Took : At → List Token → At → Type 0
Took at [] new = at ≡ new
Took at (t ∷ ts) new = (sees t.text at ≡ true) × Took (after t at) ts new

pub took_then : (xs ys : List Token) (at mid new : At) → Took at xs mid → Took mid ys new
    → Took at (xs ++ ys) new
took_then [] ys at mid new p q = subst (λ (a : At). Took a ys new) (sym p) q
took_then (x ∷ xs) ys at mid new p q = (p.0, took_then xs ys (after x at) mid new p.1 q)

pub took_split : (xs ys : List Token) (at new : At) → Took at (xs ++ ys) new
    → (mid : At) × Took at xs mid × Took mid ys new
took_split [] ys at new p = (at, refl, p)
took_split (x ∷ xs) ys at new p =
    let r = took_split xs ys (after x at) new p.1 in
    (r.0, (p.0, r.1), r.2)

pub took_shorter : (ts : List Token) (at new : At) → Took at ts new
    → length new.lexemes + length ts ≡ length at.lexemes
took_shorter [] at new p = ap (λ (a : At). length a.lexemes + 0) (sym p) ∙ omega arith
took_shorter (t ∷ ts) at new p =
    let h = took_shorter ts (after t at) new p.1 in
    let k = after_shorter t at p.0 in
    omega arith

-- the same text comes next
abbrev pub Alike : At → At → Type 0
Alike a b = text_at b ≡ text_at a

first_by_text : (text : Text) (ls : List Lexeme) → text ≢ []
    → is_first text ls ≡ bytes_eq (first_of_all ls).text text
first_by_text [] ls some = absurd (some refl)
first_by_text (b ∷ text) [] some = refl
first_by_text (b ∷ text) (l ∷ ls) some = refl

pub sees_by_text : (text : Text) (at : At) → text ≢ [] → sees text at ≡ bytes_eq (text_at at) text
unfolding sees text_at
sees_by_text text at some = first_by_text text at.lexemes some

pub sees_alike : (text : Text) (a b : At) → text ≢ [] → Alike a b → sees text b ≡ sees text a
sees_alike text a b some e =
    sees_by_text text b some ∙ ap (λ t. bytes_eq t text) e ∙ sym (sees_by_text text a some)

-- after the same tokens, and before the same text, the same came first
pub took_alike : (ts : List Token) (at mid a m : At) → Took at ts mid → Took a ts m → Alike mid m
    → Alike at a
took_alike [] at mid a m p q e = ap text_at q ∙ e ∙ ap text_at (sym p)
took_alike (t ∷ ts) at mid a m p q e = sees_is t.text a q.0 ∙ sym (sees_is t.text at p.0)
