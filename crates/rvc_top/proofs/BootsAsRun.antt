-- An image and a file of its protocol hold the same, of which the same is said.
use Rattle.std.proofs.Common.{inr}
use Rattle.proto_model.specs.Numbered.{CheckedProtocol, numbered}
use Rattle.rvc_top.specs.Forms.{checked_form}
use Rattle.rvc_top.specs.Stores.{stored_image, image_form}
use Rattle.rvc_top.specs.Commands.{run_replay}
use Rattle.rvc_top.specs.BootedRuns.{BootsAsRun}
use Rattle.rvc_top.specs.declared.boot.Booted.{Booted}
use Rattle.rvc_top.proofs.EveryRun.{file-says}
use Rattle.rvc_top.proofs.Forms.{checked_form-is}
use Rattle.rvc_top.proofs.StoreForms.{image_form-is, booted_of, holds-own}

pub boots-as-run : BootsAsRun
boots-as-run p mode file n k schedule status text storable holds =
    let value : Booted = booted_of (numbered p) mode in
    let booted = holds-own p mode storable in (
      λ verdict. inr (
        numbered p,
        holds,
        file-says image_form image_form-is
            (λ (b : Booted). (run_replay n k b.mode b.checked).says schedule)
            (stored_image p mode) value booted status text verdict,
      ),
      λ verdict. inr (
        value,
        booted,
        file-says checked_form checked_form-is
            (λ (c : CheckedProtocol). (run_replay n k mode c).says schedule)
            file (numbered p) holds status text verdict,
      ),
    )
