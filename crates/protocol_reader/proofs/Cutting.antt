-- One step of cutting bytes into lexemes: one equation for each kind of byte that can stand in
-- front.
use Rattle.std.proofs.Common.{◌≡◌, ◌≢◌, ℕ, Bool, true, false, not, eqb, [], ◌∷◌, ◌++◌, refl, ap}
use Rattle.std.proofs.Common.{◌∙◌, inl, inr}
use Rattle.std.specs.Prelude.{◌⊎◌}
use Rattle.std.proofs.lemmas.Bool.{cases_Bool, eqb-true, ne_eqb, and_parts}
use Rattle.proto_model.specs.Tokens.{Text, is_word, is_space, begins_word, AllWord}
use Rattle.proto_model.specs.Lexemes.{line_after, begins_comment, in_front, cut}

-- ---- which kinds of byte exclude each other

is_one_of_four : (b : ℕ) → is_space b ≡ true → (b ≡ 32) ⊎ ((b ≡ 9) ⊎ ((b ≡ 13) ⊎ (b ≡ 10)))
unfolding is_space
is_one_of_four b s =
    elim (cases_Bool (eqb b 32)) [
      | inl e ↦ inl (eqb-true b 32 e)
      | inr n32 ↦ elim (cases_Bool (eqb b 9)) [
        | inl e ↦ inr (inl (eqb-true b 9 e))
        | inr n9 ↦ elim (cases_Bool (eqb b 13)) [
          | inl e ↦ inr (inr (inl (eqb-true b 13 e)))
          | inr n13 ↦ inr (inr (inr (eqb-true b 10 (rw (n32, n9, n13) at s))))
        ]
      ]
    ]

-- white space is no byte of a word
pub space_no_word : (b : ℕ) → is_space b ≡ true → is_word b ≡ false
unfolding is_word
space_no_word b s =
    elim (is_one_of_four b s) [
      | inl e ↦ rw e refl
      | inr more ↦ elim more [
        | inl e ↦ rw e refl
        | inr two ↦ elim two [ inl e ↦ rw e refl | inr e ↦ rw e refl ]
      ]
    ]

pub word_no_space : (b : ℕ) → is_word b ≡ true → is_space b ≡ false
word_no_space b w =
    elim (cases_Bool (is_space b)) [ inl s ↦ absurd (let n = space_no_word b s in cc) | inr n ↦ n ]

pub slash_no_word : is_word 47 ≡ false
unfolding is_word
slash_no_word = refl

slash_no_space : is_space 47 ≡ false
unfolding is_space
slash_no_space = refl

-- a comment begins with two slashes
pub comment_slashes : (b : ℕ) (bs : Text) → begins_comment (b ∷ bs) ≡ true
    → (more : Text) × (b ≡ 47) × (bs ≡ 47 ∷ more)
comment_slashes b [] e = absurd cc
comment_slashes b (c ∷ bs) e =
    let both = and_parts (eqb b 47) (eqb c 47) e in
    let second : c ∷ bs ≡ 47 ∷ bs = ap (λ (x : ℕ). x ∷ bs) (eqb-true c 47 both.1) in
    (bs, eqb-true b 47 both.0, second)

comment_no_space : (b : ℕ) (bs : Text) → begins_comment (b ∷ bs) ≡ true → is_space b ≡ false
comment_no_space b bs c = ap is_space (comment_slashes b bs c).1 ∙ slash_no_space

-- a byte that is no slash begins no comment
pub no_slash_no_comment : (b : ℕ) (bs : Text) → b ≢ 47 → begins_comment (b ∷ bs) ≡ false
no_slash_no_comment b [] n = refl
no_slash_no_comment b (c ∷ bs) n = rw (ne_eqb b 47 n) refl

word_no_comment : (b : ℕ) (bs : Text) → is_word b ≡ true → begins_comment (b ∷ bs) ≡ false
word_no_comment b bs w =
    no_slash_no_comment b bs
    (λ (e : b ≡ 47). let n = slash_no_word in let same = ap is_word e in cc)

-- ---- the equations of `cut`

pub cut_end : (in_comment : Bool) (line : ℕ)
    → cut in_comment line [] ≡ record { text = []; line = line } ∷ []
unfolding cut
cut_end in_comment line = refl

pub cut_within_comment : (line b : ℕ) (bs : Text)
    → cut true line (b ∷ bs) ≡ cut (not (eqb b 10)) (line_after b line) bs
unfolding cut
cut_within_comment line b bs = refl

pub cut_space : (line b : ℕ) (bs : Text) → is_space b ≡ true
    → cut false line (b ∷ bs) ≡ cut false (line_after b line) bs
unfolding cut
cut_space line b bs s = rw s refl

-- behind the first slash of // one is within the comment
pub cut_comment : (line b : ℕ) (bs : Text) → begins_comment (b ∷ bs) ≡ true
    → cut false line (b ∷ bs) ≡ cut true line bs
unfolding cut
cut_comment line b bs c = rw (comment_no_space b bs c, c) refl

-- a letter, digit or _ in front of another
pub cut_word_byte : (line b : ℕ) (bs : Text) → is_word b ≡ true → begins_word bs ≡ true
    → cut false line (b ∷ bs) ≡ in_front b (cut false line bs)
unfolding cut
cut_word_byte line b bs w more = rw (word_no_space b w, word_no_comment b bs w, w, more) refl

-- the last one of a word
pub cut_word_end : (line b : ℕ) (bs : Text) → is_word b ≡ true → begins_word bs ≡ false
    → cut false line (b ∷ bs) ≡ record { text = b ∷ []; line = line } ∷ cut false line bs
unfolding cut
cut_word_end line b bs w ends = rw (word_no_space b w, word_no_comment b bs w, w, ends) refl

-- any other byte
pub cut_other : (line b : ℕ) (bs : Text) → is_space b ≡ false → begins_comment (b ∷ bs) ≡ false
    → is_word b ≡ false
    → cut false line (b ∷ bs) ≡ record { text = b ∷ []; line = line } ∷ cut false line bs
unfolding cut
cut_other line b bs s c w = rw (s, c, w) refl

-- ---- the five cases

-- what stands in front of bytes outside of a comment
pub data FirstByte (b : ℕ) (bs : Text) : Type 0 where
  IsSpace : is_space b ≡ true → FirstByte b bs
  OpensComment : begins_comment (b ∷ bs) ≡ true → FirstByte b bs
  GoesOn : is_word b ≡ true → begins_word bs ≡ true → FirstByte b bs
  EndsWord : is_word b ≡ true → begins_word bs ≡ false → FirstByte b bs
  StandsAlone : is_space b ≡ false → begins_comment (b ∷ bs) ≡ false → is_word b ≡ false
      → FirstByte b bs

pub first_byte : (b : ℕ) (bs : Text) → FirstByte b bs
first_byte b bs =
    elim (cases_Bool (is_word b)) [
      | inl w ↦ elim (cases_Bool (begins_word bs)) [
        | inl more ↦ GoesOn w more
        | inr ends ↦ EndsWord w ends
      ]
      | inr w ↦ elim (cases_Bool (is_space b)) [
        | inl s ↦ IsSpace s
        | inr s ↦ elim (cases_Bool (begins_comment (b ∷ bs))) [
          | inl c ↦ OpensComment c
          | inr c ↦ StandsAlone s c w
        ]
      ]
    ]

-- ---- a whole word

pub cut_word : (line b : ℕ) (word rest : Text) → is_word b ≡ true → AllWord word
    → begins_word rest ≡ false
    → cut false line (b ∷ (word ++ rest)) ≡ record { text = b ∷ word; line = line }
    ∷ cut false line rest
cut_word line b [] rest w all ends = cut_word_end line b rest w ends
cut_word line b (c ∷ word) rest w all ends =
    cut_word_byte line b (c ∷ (word ++ rest)) w all.0
    ∙ ap (in_front b) (cut_word line c word rest all.0 all.1 ends)
