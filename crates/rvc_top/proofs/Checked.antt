-- The protocol that a file spells, checked, is what the file holds.
use Rattle.std.proofs.Common.{List, ℕ, subst, inr}
use Rattle.proto_model.specs.Tokens.{Text}
use Rattle.protocol_reader.specs.declared.Spelled.{Spelled}
use Rattle.protocol_reader.specs.Answer.{IsSpelled}
use Rattle.rvc_top.specs.Forms.{Faulty, checked_form}
use Rattle.rvc_top.specs.FileRead.{IsFile, IsJudged}
use Rattle.rvc_top.specs.declared.file.FileRead.{FileRead}
use Rattle.rvc_top.specs.declared.file.FileRead.TheVariants.{Holds, Refused}
use Rattle.proto_model.specs.Numbered.{CheckedProtocol}

pub file-checked : (file : Text) (s : Spelled) (found : FileRead CheckedProtocol) → IsSpelled file s
    → IsJudged s.protocol s.lines found → IsFile checked_form file found
file-checked file s (Holds protocol) spelled judged =
    (s.protocol, spelled.0, spelled.1, judged.0, judged.1)
file-checked file s (Refused text) spelled judged =
    inr (
      s.protocol,
      spelled.0,
      spelled.1,
      subst
          (λ (lines : List ℕ). Faulty s.protocol lines text.items) spelled.2 judged,
    )
