-- A file has at most one line of a syntax fault.
use Rattle.std.proofs.Common.{◌≡◌, ℕ, List, [], ◌∷◌, ◌++◌, append_assoc, subst, sym, ◌∙◌, ap}
use Rattle.proto_model.specs.Tokens.{Text}
use Rattle.proto_model.specs.Lexemes.{Lexeme}
use Rattle.proto_model.specs.Spelled.{IsViable, IsFaultLine, texts}

-- the first tokens of viable tokens are viable
pub viable-front : (tokens more : List Text) → IsViable (tokens ++ more) → IsViable tokens
viable-front tokens more v = (v.0, more ++ v.1, v.2, v.3 ∙ append_assoc tokens more v.1)

-- A list is cut at one place alone where what stands in front of the cut has a property that each
-- front of it shares, and with the item at the cut has it no more.
one-cut : (xs ys : List Lexeme) (P : List Text → Type 0)
    → ((front more : List Text) → P (front ++ more) → P front)
    → (x y : Lexeme) (after_x after_y : List Lexeme) → xs ++ x ∷ after_x ≡ ys ++ y ∷ after_y
    → P (texts xs) → (P (texts xs ++ x.text ∷ []) → ⊥) → P (texts ys)
    → (P (texts ys ++ y.text ∷ []) → ⊥) → x ≡ y
one-cut [] [] P closed x y after_x after_y e px nx py ny = cc
one-cut [] (z ∷ ys) P closed x y after_x after_y e px nx py ny =
    let same : z ≡ x = cc in
    absurd (nx
    (closed (x.text ∷ []) (texts ys) (subst (λ (l : Lexeme). P (l.text ∷ texts ys)) same py)))
one-cut (z ∷ xs) [] P closed x y after_x after_y e px nx py ny =
    let same : z ≡ y = cc in
    absurd (ny
    (closed (y.text ∷ []) (texts xs) (subst (λ (l : Lexeme). P (l.text ∷ texts xs)) same px)))
one-cut (z ∷ xs) (w ∷ ys) P closed x y after_x after_y e px nx py ny =
    let same : w ≡ z = cc in
    let tail : xs ++ x ∷ after_x ≡ ys ++ y ∷ after_y = cc in
    one-cut xs ys (λ front. P (z.text ∷ front))
    (λ front more. closed (z.text ∷ front) more) x y after_x after_y tail px nx
    (subst (λ (l : Lexeme). P (l.text ∷ texts ys)) same py)
    (subst (λ (l : Lexeme). P (l.text ∷ (texts ys ++ y.text ∷ [])) → ⊥) same ny)

-- two fault lines of a file are one
pub one-fault-line : (bytes : Text) (a b : ℕ) → IsFaultLine bytes a → IsFaultLine bytes b → a ≡ b
one-fault-line bytes a b f g =
    let same =
    one-cut f.front g.front IsViable viable-front f.here g.here f.rest g.rest
    (sym f.cut ∙ g.cut) f.before f.with_it g.before g.with_it in
    f.is_line ∙ (ap (λ (l : Lexeme). l.line) same ∙ sym g.is_line)
