-- The bytes of a protocol file, and its tokens.
use Rattle.std.specs.Prelude.{◌≡◌, ◌<◌, ℕ, Bool, true, false, ◌&&◌, ◌||◌, ◌==◌, nat_le, List, []}
use Rattle.std.specs.Prelude.{◌∷◌, codes}
use Rattle.std.specs.List.{list_any}
use Rattle.std.specs.Str.{bytes_eq}

-- a list of bytes
abbrev pub Text : Type 0
Text = List ℕ

-- 0 to 9
abbrev pub is_digit : ℕ → Bool
is_digit b = nat_le 48 b && nat_le b 57

-- a to z and A to Z
abbrev pub is_letter : ℕ → Bool
is_letter b = (nat_le 97 b && nat_le b 122) || (nat_le 65 b && nat_le b 90)

-- a letter, a digit or _
unfoldable pub is_word : ℕ → Bool
is_word b = is_letter b || is_digit b || b == 95

-- white space: space, tab, CR and LF
unfoldable pub is_space : ℕ → Bool
is_space b = b == 32 || b == 9 || b == 13 || b == 10

-- the text begins with a letter, a digit or _
abbrev pub begins_word : Text → Bool
begins_word [] = false
begins_word (b ∷ _) = is_word b

-- the text begins with a letter or _
abbrev pub begins_name : Text → Bool
begins_name [] = false
begins_name (b ∷ _) = is_letter b || b == 95

-- each byte is a letter, a digit or _
abbrev pub AllWord : Text → Type 0
AllWord [] = Unit {0}
AllWord (b ∷ bs) = (is_word b ≡ true) × AllWord bs

-- the words that are no names, whatever the version of the file
abbrev pub reserved : List Text
reserved =
    codes "protocol" ∷ codes "version" ∷ codes "message" ∷ codes "up" ∷ codes "down"
    ∷ codes "int" ∷ codes "node" ∷ codes "set" ∷ codes "home" ∷ codes "remote"
    ∷ codes "var" ∷ codes "start" ∷ codes "state" ∷ codes "tau" ∷ codes "from" ∷ codes "to"
    ∷ codes "any" ∷ codes "in" ∷ codes "notin" ∷ codes "eq" ∷ codes "ne" ∷ codes "lt" ∷ codes "le"
    ∷ codes "and" ∷ codes "when" ∷ codes "do" ∷ codes "goto" ∷ codes "none" ∷ codes "empty"
    ∷ codes "claim" ∷ codes "atmost" ∷ codes "not" ∷ codes "with" ∷ []

-- the text is a reserved word
unfoldable pub is_reserved : Text → Bool
is_reserved text = list_any (bytes_eq text) reserved

-- a letter or _ and then any number of letters, digits and _, and no reserved word
pub record IsName (text : Text) : Type 0 where
  pub each : AllWord text
  pub first : begins_name text ≡ true
  pub free : is_reserved text ≡ false

-- a number that a file can write: its decimal text without leading zeros has at most five digits
abbrev pub IsNumber : ℕ → Type 0
IsNumber n = n < 100000

-- A token is its spelling. It is marked where it is the first token of an item: the header, a
-- message, the word home or remote, a variable, a start, a state, a guard or a claim.
pub record Token : Type 0 where
  pub text : Text
  pub begins : Bool

-- the first token of an item
abbrev pub item : Text → Token
item text = record { text = text; begins = true }

-- any other token
abbrev pub part : Text → Token
part text = record { text = text; begins = false }

-- the spelling of each token
abbrev pub spellings : List Token → List Text
spellings [] = []
spellings (t ∷ ts) = t.text ∷ spellings ts
