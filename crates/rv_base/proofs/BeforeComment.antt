-- A line up to its comment, byte by byte.
use Rattle.std.proofs.Common.{◌≡◌, ℕ, ◌+◌, ◌<◌, List, [], ◌∷◌, ◌++◌, length, take, drop, get_or}
use Rattle.std.proofs.Common.{false, refl, sym, ◌∙◌, ap, append_assoc, drop-cons, add-one}
use Rattle.std.proofs.lemmas.List.{take_more}
use Rattle.rv_base.specs.Words.{opens_comment, before_comment}

pub before_comment-cons : (b : ℕ) (bs : List ℕ) → opens_comment (b ∷ bs) ≡ false
    → before_comment (b ∷ bs) ≡ b ∷ before_comment bs
before_comment-cons b bs none = rw none refl

-- where no comment begins at a place, the byte there stands before the comment
pub before_comment-more : (line : List ℕ) (place : ℕ) → place < length line
    → opens_comment (drop place line) ≡ false
    → take place line ++ before_comment (drop place line) ≡ take (place + 1) line ++ before_comment
    (drop (place + 1) line)
before_comment-more line place within none =
    let b = get_or line place 0 in
    let rest = drop (place + 1) line in
    let here : drop place line ≡ b ∷ rest = rw add-one (drop-cons line place 0 within) in
    let first = before_comment-cons b rest (sym (ap opens_comment here) ∙ none) in
    ap (λ bytes. take place line ++ before_comment bytes) here
    ∙ (ap (λ bytes. take place line ++ bytes) first
    ∙ (sym (append_assoc (take place line) (b ∷ []) (before_comment rest))
    ∙ ap (λ front. front ++ before_comment rest) (sym (take_more line place 0 within))))
