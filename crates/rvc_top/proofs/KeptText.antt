-- What a protocol that is read and checked comes to is what its file holds to be stored.
use Rattle.std.proofs.Common.{inl, inr}
use Rattle.proto_model.specs.Tokens.{Text}
use Rattle.protocol_reader.specs.declared.Spelled.{Spelled}
use Rattle.protocol_reader.specs.Answer.{IsSpelled}
use Rattle.rvc_top.specs.FileRead.{IsFile}
use Rattle.rvc_top.specs.Stores.{Stored, stored_form}
use Rattle.rvc_top.specs.Storing.{StoresProtocol}
use Rattle.rvc_top.specs.declared.file.FileRead.{FileRead}
use Rattle.rvc_top.specs.declared.file.FileRead.TheVariants.{Holds, Refused}
use Rattle.rvc_top.proofs.Checked.{file-checked}

pub file-stored : (file : Text) (s : Spelled) (found : FileRead Stored) → IsSpelled file s
    → StoresProtocol s.protocol s.lines found → IsFile stored_form file found
file-stored file s (Holds stored) spelled (inl x) = (
  s.protocol,
  spelled.0,
  spelled.1,
  record { sayable = spelled.1.sayable; well_formed = x.0; short = x.1.0 },
  x.1.1,
  x.1.2,
)
file-stored file s (Holds stored) spelled (inr x) = absurd x
file-stored file s (Refused why) spelled (inl x) =
    inr (s.protocol, spelled.0, spelled.1, x.0, x.1.0, x.1.1)
file-stored file s (Refused why) spelled (inr x) =
    inl (file-checked file s (Refused why) spelled x)
