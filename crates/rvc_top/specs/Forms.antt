-- The forms in which commands take a file.
use Rattle.std.specs.Prelude.{◌≡◌, ◌⊎◌, ℕ, ◌<◌, ◌≤◌, List, length, Some, slice_get}
use Rattle.proto_model.specs.Tokens.{Text}
use Rattle.proto_model.specs.Spelled.{Spells, IsFaultLine, item_lines}
use Rattle.proto_model.specs.Faults.{first_fault, IsWellFormed}
use Rattle.proto_model.specs.Numbered.{CheckedProtocol, numbered}
use Rattle.proto_model.specs.declared.protocol.Protocol.{Protocol}
use Rattle.rv_base.specs.Whole.{file_limit}
use Rattle.rvc_top.specs.Texts.{too_long_text, fault_text}

-- A form in which a command takes a file: it reads so many bytes, and one more where there are
-- more; it refuses the file with a text, as one with more bytes than that, or takes it for a value
-- that the file holds.
pub record FileForm (Value : Type 0) : Type 1 where
  pub limit : ℕ
  pub Refuses : Text → Text → Type 0
  pub Holds : Text → Value → Type 0

-- A file is refused with a text or holds a value.
abbrev pub RefusesOrHolds : {Value : Type 0} → FileForm Value → Text → Type 0
RefusesOrHolds {Value} form file =
    ((text : Text) × form.Refuses file text) ⊎ ((value : Value) × form.Holds file value)

-- What a form of files owes: each file is refused or holds a value, and not both, and there is one
-- text and one value.
pub record IsForm {Value : Type 0} (form : FileForm Value) : Type 0 where
  pub decides : (file : Text) → RefusesOrHolds form file
  pub not_both : (file text : Text) (value : Value) → form.Holds file value → form.Refuses file text
      → ⊥
  pub refused_once : (file t u : Text) → form.Refuses file t → form.Refuses file u → t ≡ u
  pub held_once : (file : Text) (a b : Value) → form.Holds file a → form.Holds file b → a ≡ b

-- ---- a file that spells a protocol

-- The file is refused with this text. It has more than 65,536 bytes; or it has no more and spells
-- no protocol, and the text tells the line of its syntax fault, with code 1.
abbrev pub RefusesUnspelled : Text → Text → Type 0
RefusesUnspelled file text =
    ((file_limit < length file) × (text ≡ too_long_text))
    ⊎ ((line : ℕ) × (length file ≤ file_limit) × IsFaultLine file line × (text ≡ fault_text line 1))

-- The file has at most 65,536 bytes and spells this protocol.
abbrev pub HoldsSpelled : Text → Protocol → Type 0
HoldsSpelled file p = (length file ≤ file_limit) × Spells file p

-- A file that is to spell a protocol.
abbrev pub spelled_form : FileForm Protocol
spelled_form = record { limit = file_limit; Refuses = RefusesUnspelled; Holds = HoldsSpelled }

-- ---- a file that spells a well-formed protocol

-- The protocol has a fault, the items of the file begin on these lines, and the text tells the line
-- of the first faulty item and its least code.
abbrev pub Faulty : Protocol → List ℕ → Text → Type 0
Faulty p lines text =
    (item : ℕ) × (code : ℕ) × (line : ℕ) × (first_fault p ≡ Some (item, code))
    × (slice_get lines item ≡ Some line) × (text ≡ fault_text line code)

-- The file has at most 65,536 bytes and spells a protocol with a fault, which the text tells.
abbrev pub RefusesFaulty : Text → Text → Type 0
RefusesFaulty file text =
    (p : Protocol) × (length file ≤ file_limit) × Spells file p × Faulty p (item_lines file p) text

-- The file is refused with this text: it is too long, or spells no protocol, or one with a fault.
abbrev pub RefusesUnchecked : Text → Text → Type 0
RefusesUnchecked file text = RefusesUnspelled file text ⊎ RefusesFaulty file text

-- The file has at most 65,536 bytes and spells a well-formed protocol, and this is its numbered
-- form.
abbrev pub HoldsProtocol : Text → CheckedProtocol → Type 0
HoldsProtocol file protocol =
    (p : Protocol) × (length file ≤ file_limit) × Spells file p × IsWellFormed p
    × (protocol ≡ numbered p)

-- A file that is to spell a well-formed protocol.
abbrev pub checked_form : FileForm CheckedProtocol
checked_form = record { limit = file_limit; Refuses = RefusesUnchecked; Holds = HoldsProtocol }
