-- What the code takes from the front of some bytes is what `cut` skips or cuts there.
use Rattle.std.proofs.Common.{◌≡◌, ℕ, suc, ◌+◌, Bool, true, false, not, eqb, cond, [], ◌∷◌, length}
use Rattle.std.proofs.Common.{get_or, take, drop, min, max, refl, sym, ap, ◌∙◌, inl, inr, arith}
use Rattle.std.proofs.Math.Numerals.{one-add}
use Rattle.std.specs.List.{prefix_len}
use Rattle.std.proofs.lemmas.Bool.{cases_Bool, eqb-true, or_parts}
use Rattle.std.proofs.lemmas.List.{take-append-drop}
use Rattle.std.proofs.lemmas.List.Sums.{prefix_len-le-length}
use Rattle.proto_model.specs.Tokens.{Text, is_word, is_space, begins_word, AllWord}
use Rattle.proto_model.specs.Lexemes.{line_after, begins_comment, cut}
use Rattle.protocol_reader.specs.Front.{begins_gap, lexemes_from}
use Rattle.proto_model.proofs.LaidOutSpells.{line_feed_is_space}
use Rattle.protocol_reader.proofs.Cutting.{comment_slashes, cut_end}
use Rattle.protocol_reader.proofs.Cutting.{cut_within_comment, cut_space, cut_comment, cut_other}
use Rattle.protocol_reader.proofs.Cutting.{cut_word}

-- ---- gaps

abbrev pub before_lf : ℕ → Bool
before_lf b = not (eqb b 10)

-- Within a comment the bytes in front of the LF are skipped. The LF itself is white space.
pub rest_of_comment : (line : ℕ) (bs : Text)
    → cut true line bs ≡ cut false line (drop (prefix_len before_lf bs) bs)
rest_of_comment line [] = cut_end true line ∙ sym (cut_end false line)
rest_of_comment line (b ∷ bs) =
    elim (cases_Bool (eqb b 10)) [
      | inl lf ↦ let is_lf : b ≡ 10 = eqb-true b 10 lf in
          let space : is_space b ≡ true = ap is_space is_lf ∙ line_feed_is_space in
          rw lf (cut_within_comment line b bs
          ∙ ap (λ (c : Bool). cut (not c) (line_after b line) bs) lf
          ∙ sym (cut_space line b bs space))
      | inr other ↦ rw (other, one-add)
          (cut_within_comment line b bs
          ∙ ap (λ (c : Bool). cut (not c) (cond c (line + 1) line) bs) other
          ∙ rest_of_comment line bs)
    ]

pub comment_passed : (line : ℕ) (bs : Text) → begins_comment bs ≡ true
    → cut false line bs ≡ cut false line (drop (prefix_len before_lf bs) bs)
comment_passed line [] c = absurd cc
comment_passed line (b ∷ bs) c =
    let no_lf : eqb b 10 ≡ false = ap (λ (x : ℕ). eqb x 10) (comment_slashes b bs c).1 in
    rw (no_lf, one-add) (cut_comment line b bs c ∙ rest_of_comment line bs)

pub space_passed : (line : ℕ) (bs : Text) → begins_gap bs ≡ true → begins_comment bs ≡ false
    → cut false line bs ≡ cut false (line_after (get_or bs 0 0) line) (drop 1 bs)
space_passed line [] gap no_comment = absurd cc
space_passed line (b ∷ bs) gap no_comment =
    elim (cases_Bool (is_space b)) [
      | inl s ↦ cut_space line b bs s
      | inr n ↦ absurd (let comment = rw n at gap in cc)
    ]

-- ---- lexemes

-- the letters, digits and _ in front, and what is behind them
word_in_front : (bs : Text)
    → AllWord (take (prefix_len is_word bs) bs)
    × (begins_word (drop (prefix_len is_word bs) bs) ≡ false)
word_in_front [] = (tt, refl)
word_in_front (b ∷ bs) =
    elim (cases_Bool (is_word b)) [
      | inl w ↦ let more = word_in_front bs in rw (w, one-add) ((w, more.0), more.1)
      | inr n ↦ rw n (tt, n)
    ]

-- a word, another byte alone, or the end of the file
abbrev pub lexeme_size : Text → ℕ
lexeme_size bs = min (max (prefix_len is_word bs) 1) (length bs)

size_of_word : (b : ℕ) (bs : Text) → is_word b ≡ true
    → lexeme_size (b ∷ bs) ≡ suc (prefix_len is_word bs)
size_of_word b bs w = let within = prefix_len-le-length is_word bs in rw w (omega arith)

size_of_other : (b : ℕ) (bs : Text) → is_word b ≡ false → lexeme_size (b ∷ bs) ≡ 1
size_of_other b bs n = rw n (omega arith)

pub lexeme_in_front : (line : ℕ) (bs : Text) → begins_gap bs ≡ false
    → cut false line bs ≡ lexemes_from (take (lexeme_size bs) bs) line (drop (lexeme_size bs) bs)
lexeme_in_front line [] no_gap = cut_end false line
lexeme_in_front line (b ∷ bs) no_gap =
    elim (cases_Bool (is_word b)) [
      | inl w ↦ let size = prefix_len is_word bs in
          let parts = word_in_front bs in
          rw (size_of_word b bs w)
          (ap (λ (x : Text). cut false line (b ∷ x)) (sym (take-append-drop size bs))
          ∙ cut_word line b (take size bs) (drop size bs) w parts.0 parts.1)
      | inr n ↦ let neither = or_parts (is_space b) (begins_comment (b ∷ bs)) no_gap in
          rw (size_of_other b bs n) (cut_other line b bs neither.0 neither.1 n)
    ]
