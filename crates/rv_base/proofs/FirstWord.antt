-- The words of a line, byte by byte.
use Rattle.std.proofs.Common.{◌≡◌, ℕ, ◌+◌, ◌<◌, ◌≤◌, Bool, true, false, ◌||◌, List, [], ◌∷◌, ◌++◌}
use Rattle.std.proofs.Common.{length, take, drop, get_or, cond, refl, sym, ◌∙◌, ap, append-nil}
use Rattle.std.proofs.Common.{append_assoc, drop-cons, arith, add-one}
use Rattle.std.specs.Prelude.{filter}
use Rattle.std.proofs.lemmas.List.Elements.{filter-append}
use Rattle.std.proofs.lemmas.Grind.{common_steps}
use Rattle.std.proofs.lemmas.List.{take_more, drop_all, length-take}
use Rattle.std.proofs.lemmas.List.Splits.{slice_split-cons_yes, slice_split-cons_no}
use Rattle.std.specs.List.{slice_split, onto_first}
use Rattle.rv_base.specs.Words.{is_blank, opens_blank, opens_comment, ends_word, before_comment}
use Rattle.rv_base.specs.Words.{has_bytes, words}
use Rattle.rv_base.proofs.BeforeComment.{before_comment-cons}

blank-no_comment : (b : ℕ) (bs : List ℕ) → is_blank b ≡ true → opens_comment (b ∷ bs) ≡ false
blank-no_comment b bs blank = grind (arith, common_steps)

-- A blank at the front of a line changes no word.
pub words-blank : (b : ℕ) (bs : List ℕ) → is_blank b ≡ true → words (b ∷ bs) ≡ words bs
words-blank b bs blank =
    ap (λ text. filter has_bytes (slice_split is_blank text))
    (before_comment-cons b bs (blank-no_comment b bs blank))
    ∙ ap (filter has_bytes) (slice_split-cons_yes is_blank b (before_comment bs) blank)

pub words-blank_at : (line : List ℕ) (place : ℕ) → place < length line
    → is_blank (get_or line place 0) ≡ true
    → words (drop place line) ≡ words (drop (place + 1) line)
words-blank_at line place within blank =
    let here : drop place line ≡ get_or line place 0 ∷ drop (place + 1) line =
    rw add-one (drop-cons line place 0 within) in
    ap words here ∙ words-blank (get_or line place 0) (drop (place + 1) line) blank

-- These bytes stand before the first of the pieces.
abbrev onto : List ℕ → List (List ℕ) → List (List ℕ)
onto front [] = front ∷ []
onto front (piece ∷ pieces) = (front ++ piece) ∷ pieces

onto-onto_first : (front : List ℕ) (b : ℕ) (pieces : List (List ℕ))
    → onto front (onto_first b pieces) ≡ onto (front ++ b ∷ []) pieces
onto-onto_first front b [] = refl
onto-onto_first front b (piece ∷ pieces) =
    ap (λ first. first ∷ pieces) (sym (append_assoc front (b ∷ []) piece))

onto-nothing : (pieces : List (List ℕ)) → filter has_bytes (onto [] pieces) ≡ filter has_bytes
    pieces
onto-nothing [] = refl
onto-nothing (piece ∷ pieces) = refl

-- The words where bytes of a word stand before the rest of a line.
abbrev pub words_onto : List ℕ → List ℕ → List (List ℕ)
words_onto front rest = filter has_bytes (onto front (slice_split is_blank (before_comment rest)))

pub words_onto-nothing : (line : List ℕ) → words line ≡ words_onto [] line
words_onto-nothing line = sym (onto-nothing (slice_split is_blank (before_comment line)))

no-blank : (bytes : List ℕ) → ends_word bytes ≡ false
    → (opens_blank bytes ≡ false) × (opens_comment bytes ≡ false)
no-blank bytes goes_on = either (opens_blank bytes) (opens_comment bytes) goes_on where
  either : (blank comment : Bool) → (blank || comment) ≡ false → (blank ≡ false) × (comment ≡ false)
  either true comment e = absurd (cc)
  either false comment e = (refl, e)

words_onto-cons : (front : List ℕ) (b : ℕ) (bs : List ℕ) → ends_word (b ∷ bs) ≡ false
    → words_onto front (b ∷ bs) ≡ words_onto (front ++ b ∷ []) bs
words_onto-cons front b bs goes_on =
    let neither = no-blank (b ∷ bs) goes_on in
    let text = before_comment bs in
    ap (λ before. filter has_bytes (onto front (slice_split is_blank before)))
    (before_comment-cons b bs neither.1)
    ∙ ap (λ pieces. filter has_bytes (onto front pieces))
    (slice_split-cons_no is_blank b text neither.0)
    ∙ ap (filter has_bytes) (onto-onto_first front b (slice_split is_blank text))

pub words_onto-more : (line : List ℕ) (place : ℕ) → place < length line
    → ends_word (drop place line) ≡ false
    → words_onto (take place line) (drop place line)
    ≡ words_onto (take (place + 1) line) (drop (place + 1) line)
words_onto-more line place within goes_on =
    let b = get_or line place 0 in
    let rest = drop (place + 1) line in
    let here : drop place line ≡ b ∷ rest = rw add-one (drop-cons line place 0 within) in
    ap (words_onto (take place line)) here
    ∙ words_onto-cons (take place line) b rest (sym (ap ends_word here) ∙ goes_on)
    ∙ ap (λ front. words_onto front rest) (sym (take_more line place 0 within))

-- Where a word ends, the bytes before the rest are the first piece.
words_onto-blank : (front : List ℕ) (b : ℕ) (bs : List ℕ) → is_blank b ≡ true
    → words_onto front (b ∷ bs) ≡ filter has_bytes (front ∷ []) ++ words (b ∷ bs)
words_onto-blank front b bs blank =
    let text = before_comment bs in
    let pieces = slice_split is_blank text in
    ap (λ before. filter has_bytes (onto front (slice_split is_blank before)))
    (before_comment-cons b bs (blank-no_comment b bs blank))
    ∙ ap (λ all. filter has_bytes (onto front all)) (slice_split-cons_yes is_blank b text blank)
    ∙ ap (λ first. filter has_bytes (first ∷ pieces)) (append-nil front)
    ∙ filter-append has_bytes (front ∷ []) pieces
    ∙ ap (λ others. filter has_bytes (front ∷ []) ++ others) (sym (words-blank b bs blank))

no-words : (line : List ℕ) → before_comment line ≡ [] → words line ≡ []
no-words line none = ap (λ text. filter has_bytes (slice_split is_blank text)) none

words_onto-none : (front rest : List ℕ) → before_comment rest ≡ []
    → words_onto front rest ≡ filter has_bytes (front ∷ []) ++ words rest
words_onto-none front rest none =
    ap (λ text. filter has_bytes (onto front (slice_split is_blank text))) none
    ∙ ap (λ first. filter has_bytes (first ∷ [])) (append-nil front)
    ∙ sym (append-nil (filter has_bytes (front ∷ [])))
    ∙ ap (λ others. filter has_bytes (front ∷ []) ++ others) (sym (no-words rest none))

before_comment-opens : (line : List ℕ) → opens_comment line ≡ true → before_comment line ≡ []
before_comment-opens [] opens = refl
before_comment-opens (b ∷ bs) opens = rw opens refl

words_onto-by : (front rest : List ℕ) (blank comment : Bool) → opens_blank rest ≡ blank
    → opens_comment rest ≡ comment → (blank || comment) ≡ true
    → words_onto front rest ≡ filter has_bytes (front ∷ []) ++ words rest
words_onto-by front [] blank comment b c ends = words_onto-none front [] refl
words_onto-by front (x ∷ xs) true comment b c ends = words_onto-blank front x xs b
words_onto-by front (x ∷ xs) false true b c ends =
    words_onto-none front (x ∷ xs) (before_comment-opens (x ∷ xs) c)
words_onto-by front (x ∷ xs) false false b c ends = absurd (cc)

kept : (front : List ℕ) → 0 < length front → filter has_bytes (front ∷ []) ≡ front ∷ []
kept front some =
    let has : has_bytes front ≡ true = grind (arith, common_steps) in
    ap (λ b. cond b (front ∷ []) []) has

-- A word ends behind these first bytes of the line.
pub words-first : (line : List ℕ) (end : ℕ)
    → words line ≡ words_onto (take end line) (drop end line) → 0 < end → end ≤ length line
    → ends_word (drop end line) ≡ true → words line ≡ take end line ∷ words (drop end line)
words-first line end so_far some within ends =
    let rest = drop end line in
    let many : 0 < length (take end line) = omega (arith, length-take end line, some, within) in
    so_far ∙ words_onto-by (take end line) rest (opens_blank rest) (opens_comment rest) refl refl
    ends
    ∙ ap (λ front. front ++ words rest) (kept (take end line) many)

-- The word ends where the line does.
pub words-last : (line : List ℕ)
    → words line ≡ words_onto (take (length line) line) (drop (length line) line) → 0 < length line
    → words line ≡ take (length line) line ∷ words (drop (length line) line)
words-last line so_far some =
    let front = take (length line) line in
    let rest = drop (length line) line in
    let none : rest ≡ [] = drop_all (length line) line (omega arith) in
    let many : 0 < length front = omega (arith, length-take (length line) line, some) in
    so_far ∙ words_onto-none front rest (ap before_comment none)
    ∙ ap (λ first. first ++ words rest) (kept front many)

pub words-empty : (line : List ℕ) → length line ≡ 0 → words line ≡ []
words-empty [] empty = refl
words-empty (b ∷ bs) empty = absurd (omega (arith, empty))

pub words-none : (line : List ℕ) → opens_blank line ≡ false → ends_word line ≡ true
    → words line ≡ []
words-none line no_blank ends =
    let opens : opens_comment line ≡ true = sym (ap (λ b. b || opens_comment line) no_blank)
    ∙ ends in
    no-words line (before_comment-opens line opens)
