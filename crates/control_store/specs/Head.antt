-- The head of an image, as it is read.
use Rattle.std.specs.Prelude.{◌≡◌, ℕ, zero, suc, ◌+◌, ◌*◌, ◌≤◌, ◌++◌, length, Option, Some, None}
use Rattle.std.specs.Prelude.{take, drop}
use Rattle.proto_model.specs.Tokens.{Text}
use Rattle.proto_model.specs.declared.mode.Mode.{Mode}
use Rattle.proto_model.specs.declared.mode.Mode.TheVariants.{Plain, Lean}
use Rattle.control_store.specs.Image.{head_bytes}
use Rattle.control_store.specs.declared.heads.Head.{Head}

-- The bytes begin with a head that tells this mode, this length of a text and these numbers of
-- rows. The text has at most 65,536 bytes, and the bytes behind the head are as many as the text
-- and 16 for each row.
pub record Begins (bytes : Text) (head : Head) : Type 0 where
  pub rest : Text
  pub whole : bytes ≡ head_bytes head.mode head.text head.home head.remote ++ rest
  pub short_text : head.text ≤ 65536
  pub fits : length rest ≡ head.text + 16 * (head.home + head.remote)

-- The bytes begin with this head; or they begin with none.
abbrev pub IsHeadOf : Text → Option Head → Type 0
IsHeadOf bytes (Some head) = Begins bytes head
IsHeadOf bytes None = (head : Head) → Begins bytes head → ⊥

-- the mode with this number, if there is one
abbrev pub mode_with : ℕ → Option Mode
mode_with zero = Some Plain
mode_with (suc zero) = Some Lean
mode_with (suc (suc n)) = None

-- the text behind the head
abbrev pub text_behind : Head → Text → Text
text_behind head bytes = take head.text (drop 40 bytes)

-- the words behind the head and the text
abbrev pub words_behind : Head → Text → Text
words_behind head bytes = drop (40 + head.text) bytes
