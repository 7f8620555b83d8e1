-- One token at the place where reading stands: whether it comes next, and what is left behind it.
use Rattle.std.proofs.Common.{◌≡◌, ◌≢◌, ◌+◌, ◌<◌, true, false, not, ◌&&◌, List, [], ◌∷◌, length, Ok}
use Rattle.std.proofs.Common.{Err, refl, sym, ap, ◌∙◌, arith}
use Rattle.std.specs.List.{list_all}
use Rattle.std.specs.Str.{bytes_eq}
use Rattle.std.proofs.lemmas.Bool.{and_parts, not-true}
use Rattle.std.proofs.lemmas.Slice.Eq.{bytes_eq-Decides}
use Rattle.proto_model.specs.Tokens.{Text, is_word, begins_name, AllWord, is_reserved, IsName}
use Rattle.proto_model.specs.Tokens.{Token, item, part}
use Rattle.proto_model.specs.Lexemes.{Lexeme}
use Rattle.protocol_reader.specs.Reading.{At, first_of_all, text_at, line_at, behind, after}
use Rattle.protocol_reader.specs.Reading.{is_first, sees, token, is_name, name}

-- ---- what is seen

first_is : (text : Text) (ls : List Lexeme) → is_first text ls ≡ true
    → (first_of_all ls).text ≡ text
first_is text [] e = absurd cc
first_is text (l ∷ ls) e = (bytes_eq-Decides l.text text).0 e

-- what is seen is the text of the next lexeme
pub sees_is : (text : Text) (at : At) → sees text at ≡ true → text_at at ≡ text
unfolding sees text_at
sees_is text at e = first_is text at.lexemes e

first_same : (text : Text) (ls : List Lexeme) → (first_of_all ls).text ≡ text → text ≢ []
    → is_first text ls ≡ true
first_same text [] e some = absurd (some (sym e))
first_same text (l ∷ ls) e some = (bytes_eq-Decides l.text text).1 e

-- and the text of the next lexeme is seen
pub sees_same : (text : Text) (at : At) → text_at at ≡ text → text ≢ [] → sees text at ≡ true
unfolding sees text_at
sees_same text at e some = first_same text at.lexemes e some

first_other : (text other : Text) (ls : List Lexeme) → is_first text ls ≡ true
    → bytes_eq text other ≡ false → is_first other ls ≡ false
first_other text other [] e differ = refl
first_other text other (l ∷ ls) e differ =
    ap (λ (t : Text). bytes_eq t other) (first_is text (l ∷ ls) e) ∙ differ

-- where one text is seen, no other is
pub sees_other : (text other : Text) (at : At) → sees text at ≡ true → bytes_eq text other ≡ false
    → sees other at ≡ false
unfolding sees
sees_other text other at e differ = first_other text other at.lexemes e differ

-- where a text is seen, the next lexeme is not that of the end of the file
pub sees_some : (text : Text) (at : At) → text ≢ [] → sees text at ≡ true → text_at at ≢ []
sees_some text at some e = λ (end : text_at at ≡ []). some (sym (sees_is text at e) ∙ end)

-- ---- what is left

behind_shorter : (text : Text) (ls : List Lexeme) → is_first text ls ≡ true
    → length (behind ls) + 1 ≡ length ls
behind_shorter text [] e = absurd cc
behind_shorter text (l ∷ ls) e = omega arith

-- a token that is passed is one lexeme
pub after_shorter : (t : Token) (at : At) → sees t.text at ≡ true
    → length (after t at).lexemes + 1 ≡ length at.lexemes
unfolding sees after
after_shorter t at e = behind_shorter t.text at.lexemes e

pub left_more : (text : Text) (at : At) → sees text at ≡ true → 0 < length at.lexemes
unfolding sees
left_more text at e = let shorter = behind_shorter text at.lexemes e in omega arith

-- which text is passed makes no difference to the place behind it
pub after_part : (text : Text) (at : At) → after (part []) at ≡ after (part text) at
unfolding after
after_part text at = refl

-- once the line of an item is kept, passing its first lexeme is passing its first token
pub after_item : (text : Text) (at marked : At) → marked.lexemes ≡ at.lexemes
    → marked.lines ≡ (after (item []) at).lines
    → after (part []) marked ≡ after (item text) at
unfolding after
after_item text at marked same kept = rw (same, kept) refl

-- ---- a token that is asked for

pub token_seen : (t : Token) (at : At) → sees t.text at ≡ true → token t at ≡ Ok (tt, after t at)
unfolding token
token_seen t at e = rw e refl

pub token_not_seen : (t : Token) (at : At) → sees t.text at ≡ false → token t at ≡ Err (line_at at)
unfolding token
token_not_seen t at e = rw e refl

-- ---- a name that is asked for

pub name_seen : (at : At) → is_name (text_at at) ≡ true
    → name at ≡ Ok (text_at at, after (part (text_at at)) at)
unfolding name
name_seen at e = rw e refl

pub no_name_seen : (at : At) → is_name (text_at at) ≡ false → name at ≡ Err (line_at at)
unfolding name
no_name_seen at e = rw e refl

pub all_word : (text : Text) → list_all is_word text ≡ true → AllWord text
all_word [] e = tt
all_word (b ∷ text) e =
    let parts = and_parts (is_word b) (list_all is_word text) e in
    (parts.0, all_word text parts.1)

pub word_all : (text : Text) → AllWord text → list_all is_word text ≡ true
word_all [] all = refl
word_all (b ∷ text) all = rw (all.0) (word_all text all.1)

-- the test tells names
pub is_name_is : (text : Text) → is_name text ≡ true → IsName text
unfolding is_name
is_name_is text e =
    let free = and_parts (begins_name text && list_all is_word text) (not (is_reserved text)) e in
    let word = and_parts (begins_name text) (list_all is_word text) free.0 in
    record {
      each = all_word text word.1;
      first = word.0;
      free =
          not-true (is_reserved text) free.1;
    }

pub name_is : (text : Text) → IsName text → is_name text ≡ true
unfolding is_name
name_is text n = let each = word_all text n.each in rw (n.first, each, n.free) refl

pub name_some : (text : Text) → IsName text → text ≢ []
name_some [] n = absurd (let first = n.first in cc)
name_some (b ∷ text) n = λ e. absurd cc
