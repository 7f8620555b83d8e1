-- The forms in which commands take a file to store what it compiles to, and take what is stored.
use Rattle.std.specs.Prelude.{◌≡◌, ◌⊎◌, ℕ, ◌<◌, ◌≤◌, ◌++◌, length, codes, decimal}
use Rattle.proto_model.specs.Tokens.{Text}
use Rattle.proto_model.specs.Sayable.{IsSayable}
use Rattle.proto_model.specs.Spelled.{Spells}
use Rattle.proto_model.specs.LaidOut.{laid_out}
use Rattle.proto_model.specs.Faults.{IsWellFormed}
use Rattle.proto_model.specs.Numbered.{CheckedProtocol, numbered}
use Rattle.proto_model.specs.declared.mode.Mode.{Mode}
use Rattle.proto_model.specs.declared.protocol.Protocol.{Protocol}
use Rattle.controller_table.specs.Sound.{table_in}
use Rattle.control_store.specs.Image.{image}
use Rattle.control_store.specs.Head.{Begins, text_behind}
use Rattle.control_store.specs.Compared.{Compares}
use Rattle.control_store.specs.declared.heads.Head.{Head}
use Rattle.control_store.specs.declared.comparing.Compared.{Compared}
use Rattle.control_store.specs.declared.comparing.Compared.TheVariants as compared
use Rattle.rv_base.specs.Whole.{file_limit}
use Rattle.rvc_top.specs.Texts.{too_long_text}
use Rattle.rvc_top.specs.Forms.{FileForm, RefusesUnchecked}
use Rattle.rvc_top.specs.declared.boot.Booted.{Booted}

-- ---- what is stored

-- The image that is stored for a protocol in a mode: that of its table, with its laid-out text.
abbrev pub stored_image : Protocol → Mode → Text
stored_image p mode = image (laid_out p) (table_in (numbered p).protocol mode)

-- The protocol is one of which an image is made: a file can say it, it is well-formed, and its
-- laid-out text has at most 65,536 bytes.
pub record IsStorable (p : Protocol) : Type 0 where
  pub sayable : IsSayable p
  pub well_formed : IsWellFormed p
  pub short : length (laid_out p) ≤ file_limit

-- ---- a file that is to be stored

-- What a command that stores takes of a file: the laid-out text of its protocol, and the protocol's
-- numbered form.
pub record Stored : Type 0 where
  pub text : Text
  pub checked : CheckedProtocol

-- The image that is written for it in a mode.
abbrev pub store_text : Mode → Stored → Text
store_text mode stored = image stored.text (table_in stored.checked.protocol mode)

-- The text for a file whose protocol has a laid-out text of more than 65,536 bytes.
abbrev pub text_too_long_text : Text
text_too_long_text = codes "error file text too long\n"

-- The file has at most 65,536 bytes and spells a well-formed protocol, whose laid-out text has
-- more, as this text says.
abbrev pub RefusesLong : Text → Text → Type 0
RefusesLong file text =
    (p : Protocol) × (length file ≤ file_limit) × Spells file p × IsWellFormed p
    × (file_limit < length (laid_out p)) × (text ≡ text_too_long_text)

-- The file is refused with this text: it is too long, or spells no protocol, or one with a fault,
-- or a well-formed one whose laid-out text is too long.
abbrev pub RefusesUnstored : Text → Text → Type 0
RefusesUnstored file text = RefusesUnchecked file text ⊎ RefusesLong file text

-- The file has at most 65,536 bytes and spells a well-formed protocol, whose laid-out text has no
-- more; this is that text, and the protocol's numbered form.
abbrev pub HoldsStored : Text → Stored → Type 0
HoldsStored file stored =
    (p : Protocol) × (length file ≤ file_limit) × Spells file p × IsStorable p
    × (stored.text ≡ laid_out p) × (stored.checked ≡ numbered p)

-- A file that is to spell a well-formed protocol, of which an image is made.
abbrev pub stored_form : FileForm Stored
stored_form = record { limit = file_limit; Refuses = RefusesUnstored; Holds = HoldsStored }

-- ---- a file that is to be an image

-- The most bytes that an image may have.
abbrev pub image_limit : ℕ
image_limit = 262144

-- The text for a file that has no head of an image.
abbrev pub no_head_text : Text
no_head_text = codes "error image head\n"

-- The text for an image whose text is not the laid-out text of a well-formed protocol.
abbrev pub no_text_text : Text
no_text_text = codes "error image text\n"

-- The text for an image with other numbers of rows than its protocol's table in its mode.
abbrev pub no_rows_text : Text
no_rows_text = codes "error image rows\n"

-- The text for an image in which this row, counted from 0, is the first that isn't the table's.
abbrev pub no_row_text : ℕ → Text
no_row_text place = codes "error image row " ++ (decimal place ++ codes "\n")

-- The text tells how the rows differ.
abbrev pub TellsRows : Compared → Text → Type 0
TellsRows compared.Same text = ⊥
TellsRows compared.Counts text = text ≡ no_rows_text
TellsRows (compared.Row place) text = text ≡ no_row_text place

-- The text behind the head is the laid-out text of this protocol, which can be stored.
abbrev pub HasText : Text → Head → Protocol → Type 0
HasText file head p = IsStorable p × (text_behind head file ≡ laid_out p)

-- The rows of the file, which begins with this head, differ so from those of the protocol's table
-- in the head's mode.
abbrev pub RowsCompare : Text → Head → Protocol → Compared → Type 0
RowsCompare file head p found =
    Compares head file (table_in (numbered p).protocol head.mode) found

-- The file begins with this head, and is refused with this text: the text behind the head is the
-- laid-out text of no well-formed protocol; or it is that of one, and the rows aren't those of its
-- table in the head's mode.
abbrev pub RefusesBehind : Text → Head → Text → Type 0
RefusesBehind file head text =
    (((p : Protocol) → HasText file head p → ⊥) × (text ≡ no_text_text))
    ⊎ ((p : Protocol) × (found : Compared) × HasText file head p × RowsCompare file head p found
    × TellsRows found text)

-- The file has no more bytes than an image may have, and is refused with this text: it begins with
-- no head, or with one behind which something is wrong.
abbrev pub RefusesUnlike : Text → Text → Type 0
RefusesUnlike file text =
    (((head : Head) → Begins file head → ⊥) × (text ≡ no_head_text))
    ⊎ ((head : Head) × Begins file head × RefusesBehind file head text)

-- The file is refused with this text: it has more than 262,144 bytes; or it has no more and is no
-- image, and the text tells the first part that is wrong.
abbrev pub RefusesUnbooted : Text → Text → Type 0
RefusesUnbooted file text =
    ((image_limit < length file) × (text ≡ too_long_text))
    ⊎ ((length file ≤ image_limit) × RefusesUnlike file text)

-- The file is the image of a protocol in this mode, and this is the protocol's numbered form.
abbrev pub HoldsImage : Text → Booted → Type 0
HoldsImage file booted =
    (p : Protocol) × IsStorable p × (file ≡ stored_image p booted.mode)
    × (booted.checked ≡ numbered p)

-- A file that is to be the image of a well-formed protocol in a mode.
abbrev pub image_form : FileForm Booted
image_form = record { limit = image_limit; Refuses = RefusesUnbooted; Holds = HoldsImage }
