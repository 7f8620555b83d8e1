-- The file that is read has the protocol that is stored, or is refused.
use Rattle.std.proofs.Common.{subst}
use Rattle.std.proofs.lemmas.Option.{IfSome_then}
use Rattle.rvc_top.specs.FileRead.{IsRead}
use Rattle.rvc_top.proofs.KeptText.{file-stored}
use Rattle.rvc_top.proofs.store.StorableFromFile.from_file.Goals as goal

pub returns-in_ok-store_spelled-in-Holds-clause-bytes :
    goal.returns-in_ok-store_spelled-in-Holds-clause-bytes
returns-in_ok-store_spelled-in-Holds-clause-bytes g c =
    IfSome_then (g.P.Source.left c.args.file.now) c.in_ok-spelled.ensures.bytes (λ file reads.
    file-stored file c.in-Holds.spelled c.in_ok-store_spelled-in-Holds.field-0
    (subst (IsRead file) c.in-Holds.is reads) c.in_ok-store_spelled-in-Holds.ensures)
