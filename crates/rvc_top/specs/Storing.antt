-- What a protocol that is read comes to where it is to be stored, and a text where it is booted.
use Rattle.std.specs.Prelude.{◌≡◌, ◌⊎◌, ℕ, ◌<◌, ◌≤◌, List, length, Option, Some, None}
use Rattle.rv_base.specs.Whole.{file_limit}
use Rattle.proto_model.specs.Tokens.{Text}
use Rattle.proto_model.specs.LaidOut.{laid_out}
use Rattle.proto_model.specs.Faults.{IsWellFormed}
use Rattle.proto_model.specs.Numbered.{CheckedProtocol, numbered}
use Rattle.proto_model.specs.declared.protocol.Protocol.{Protocol}
use Rattle.rvc_top.specs.Forms.{Faulty}
use Rattle.control_store.specs.declared.comparing.Compared.{Compared}
use Rattle.control_store.specs.declared.comparing.Compared.TheVariants as compared
use Rattle.rvc_top.specs.Stores.{Stored, IsStorable, TellsRows, text_too_long_text}
use Rattle.rvc_top.specs.declared.file.FileRead.{FileRead}
use Rattle.rvc_top.specs.declared.file.FileRead.TheVariants.{Holds, Refused}

-- Of a well-formed protocol with this laid-out text and this numbered form both are stored; or the
-- text is too long.
abbrev pub StoresText : Text → CheckedProtocol → FileRead Stored → Type 0
StoresText text checked (Holds s) =
    (length text ≤ file_limit) × (s.text ≡ text) × (s.checked ≡ checked)
StoresText text checked (Refused why) =
    (file_limit < length text) × (why.items ≡ text_too_long_text)

-- The fault of the protocol whose items begin on these lines is told.
abbrev pub IsFaulty : Protocol → List ℕ → FileRead Stored → Type 0
IsFaulty p lines (Holds s) = ⊥
IsFaulty p lines (Refused why) = Faulty p lines why.items

-- The protocol whose items begin on these lines is well-formed, and its laid-out text is stored or
-- is too long; or it has the fault that is told.
abbrev pub StoresProtocol : Protocol → List ℕ → FileRead Stored → Type 0
StoresProtocol p lines found =
    (IsWellFormed p × StoresText (laid_out p) (numbered p) found) ⊎ IsFaulty p lines found

-- The bytes are the laid-out text of a protocol that can be stored, and this is its numbered form;
-- or they are that of none.
abbrev pub IsTextOf : Text → Option CheckedProtocol → Type 0
IsTextOf text (Some checked) =
    (p : Protocol) × IsStorable p × (text ≡ laid_out p) × (checked ≡ numbered p)
IsTextOf text None = (p : Protocol) → IsStorable p → text ≡ laid_out p → ⊥

-- The text tells how the rows differ; or there is none, since they don't.
abbrev pub TellsIf : Compared → Option Text → Type 0
TellsIf found None = found ≡ compared.Same
TellsIf found (Some text) = TellsRows found text
