-- Which texts a file can spell as one lexeme wherever they are laid.
use Rattle.std.proofs.Common.{◌≡◌, ◌≢◌, ℕ, Bool, true, false, not, ◌&&◌, ◌||◌, eqb, List, [], ◌∷◌}
use Rattle.std.proofs.Common.{refl, inl, inr}
use Rattle.std.specs.Prelude.{◌⊎◌}
use Rattle.std.specs.List.{list_all}
use Rattle.std.proofs.lemmas.Bool.{cases_Bool, and_parts, not-true, eqb-false}
use Rattle.proto_model.specs.Tokens.{Text, is_word, is_space, begins_word, AllWord, IsName}
use Rattle.protocol_reader.proofs.Tokens.{all_word}

-- A run of letters, digits and _, or one other byte that is no white space and no slash: a slash
-- begins a comment where another is laid behind it.
abbrev pub IsLexeme : Text → Type 0
IsLexeme [] = ⊥
IsLexeme (b ∷ bs) =
    ((is_word b ≡ true) × AllWord bs) ⊎
    ((is_word b ≡ false) × (is_space b ≡ false) × (b ≢ 47) × (bs ≡ []))

abbrev pub AllLexemes : List Text → Type 0
AllLexemes [] = Unit {0}
AllLexemes (t ∷ ts) = IsLexeme t × AllLexemes ts

pub word_lexeme : (t : Text) → begins_word t ≡ true → list_all is_word t ≡ true → IsLexeme t
word_lexeme [] begins each = absurd cc
word_lexeme (b ∷ bs) begins each = inl (all_word (b ∷ bs) each)

pub name_lexeme : (t : Text) → IsName t → IsLexeme t
name_lexeme [] name = absurd (let first = name.first in cc)
name_lexeme (b ∷ bs) name = inl name.each

-- the test that tells such texts
abbrev pub is_lexeme : Text → Bool
is_lexeme [] = false
is_lexeme (b ∷ []) = is_word b || (not (is_space b) && not (eqb b 47))
is_lexeme (b ∷ c ∷ bs) = list_all is_word (b ∷ c ∷ bs)

symbol_lexeme : (b : ℕ) → is_word b ≡ false → (not (is_space b) && not (eqb b 47)) ≡ true
    → IsLexeme (b ∷ [])
symbol_lexeme b other e =
    let parts = and_parts (not (is_space b)) (not (eqb b 47)) e in
    inr (other, not-true (is_space b) parts.0, eqb-false b 47 (not-true (eqb b 47) parts.1), refl)

pub lexeme_is : (t : Text) → is_lexeme t ≡ true → IsLexeme t
lexeme_is [] e = absurd cc
lexeme_is (b ∷ []) e =
    elim (cases_Bool (is_word b)) [
      | inl word ↦ inl (word, tt)
      | inr other ↦ symbol_lexeme b other (rw other at e)
    ]
lexeme_is (b ∷ c ∷ bs) e = inl (all_word (b ∷ c ∷ bs) e)
