-- What is stored of a file is the image of its protocol, and booting that is running the file.
use Rattle.std.proofs.Common.{◌≡◌, ◌↔◌, ◌∙◌, inl, inr, sym, ap, subst, refl}
use Rattle.proto_model.specs.Tokens.{Text}
use Rattle.proto_model.specs.LaidOut.{laid_out}
use Rattle.proto_model.specs.Numbered.{CheckedProtocol}
use Rattle.controller_table.specs.Sound.{table_in}
use Rattle.control_store.specs.Image.{image}
use Rattle.rvc_top.specs.Stores.{stored_image, store_text}
use Rattle.rvc_top.specs.Verdict.{TaskVerdict}
use Rattle.rvc_top.specs.AuditedRuns.{run_task}
use Rattle.rvc_top.specs.BootedRuns.{boot_task}
use Rattle.rvc_top.specs.StoredRuns.{WhatIsStoredIsBooted}
use Rattle.rvc_top.proofs.BootsAsRun.{boots-as-run}

pub stored-booted : WhatIsStoredIsBooted
stored-booted mode file unread written (inl x) n k schedule status text = absurd (cc)
stored-booted mode file unread written (inr x) n k schedule status text =
    let holds = x.1 in
    let p = holds.0 in
    let stores : store_text mode x.0 ≡ stored_image p mode =
    ap (λ (t : Text). image t (table_in x.0.checked.protocol mode)) holds.4
    ∙ ap (λ (c : CheckedProtocol). image (laid_out p) (table_in c.protocol mode)) holds.5
    in
    let same : stored_image p mode ≡ written = sym (x.2.1 ∙ stores) in
    subst
    (λ (t : Text). TaskVerdict (boot_task n k) t schedule status text
    ↔ TaskVerdict (run_task n k mode) file schedule status text) same
    (boots-as-run p mode file n k schedule status text holds.3
    (p, holds.1, holds.2, holds.3.well_formed, refl))
