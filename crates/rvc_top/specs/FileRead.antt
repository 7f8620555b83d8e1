-- What reading and checking the protocol file comes to.
use Rattle.std.specs.Prelude.{◌≡◌, ℕ, Bool, true, false, List, length, Option, Result, Ok, Err}
use Rattle.std.specs.Io.KnownBytes.{IsAtEnd}
use Rattle.proto_model.specs.Tokens.{Text}
use Rattle.proto_model.specs.Faults.{item_codes, IsWellFormed}
use Rattle.proto_model.specs.Numbered.{CheckedProtocol, numbered}
use Rattle.proto_model.specs.declared.protocol.Protocol.{Protocol}
use Rattle.protocol_reader.specs.declared.Spelled.{Spelled}
use Rattle.protocol_reader.specs.Answer.{IsSpelled}
use Rattle.rvc_top.specs.Forms.{FileForm, RefusesUnspelled, Faulty}
use Rattle.rvc_top.specs.declared.file.FileRead.{FileRead}
use Rattle.rvc_top.specs.declared.file.FileRead.TheVariants.{Holds, Refused}
use Rattle.rvc_top.specs.declared.reply.Failure.{Failure}
use Rattle.rvc_top.specs.declared.reply.Failure.TheVariants.{Read, NoMemory}

-- By this form the file holds this value, or is refused with this text.
abbrev pub IsFile : {Value : Type 0} → FileForm Value → Text → FileRead Value → Type 0
IsFile form file (Holds value) = form.Holds file value
IsFile form file (Refused text) = form.Refuses file text.items

-- A file that is not refused was read to its end. One that is too long is refused before.
abbrev pub ReadToEnd : {Value : Type 0} → Option Text → Bool → FileRead Value → Type 0
ReadToEnd left ended (Holds value) = IsAtEnd left × (ended ≡ true)
ReadToEnd left ended (Refused text) = Unit {0}

-- The file spells the protocol that is read, whose items begin on these lines; or it is refused
-- with this text, since it is too long or spells none.
abbrev pub IsRead : Text → FileRead Spelled → Type 0
IsRead file (Holds s) = IsSpelled file s
IsRead file (Refused text) = RefusesUnspelled file text.items

-- Each item of the protocol that is read has a line.
abbrev pub HasLines : FileRead Spelled → Type 0
HasLines (Holds s) = length s.lines ≡ length (item_codes s.protocol)
HasLines (Refused text) = Unit {0}

-- The protocol whose items begin on these lines is well-formed, or has the fault that the text
-- tells.
abbrev pub IsJudged : Protocol → List ℕ → FileRead CheckedProtocol → Type 0
IsJudged p lines (Holds protocol) = IsWellFormed p × (protocol ≡ numbered p)
IsJudged p lines (Refused text) = Faulty p lines text.items

-- There is no answer, since a read of the file failed.
abbrev pub reading_failed : {A : Type 0} → Result A Failure → Bool
reading_failed (Ok _) = false
reading_failed (Err Read) = true
reading_failed (Err NoMemory) = false

-- There is no answer for want of memory.
abbrev pub reading_wants : {A : Type 0} → Result A Failure → Bool
reading_wants (Ok _) = false
reading_wants (Err Read) = false
reading_wants (Err NoMemory) = true
