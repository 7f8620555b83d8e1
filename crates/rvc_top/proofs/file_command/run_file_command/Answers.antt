-- What is replied to the file is written.
use Rattle.rvc_top.specs.Commands.{done}
use Rattle.rvc_top.proofs.Runs.{run-told}
use Rattle.rvc_top.proofs.file_command.run_file_command.Goals as goal

pub returns : goal.returns
returns g c =
    let r = c.reply in
    let f = c.finish in
    run-told g.row.T-Value.Denot g.T.Value.FromFile.form
    (λ value. done (g.T.FileCommand.text c.args.command.now value)) _ _ f.result c.requires.form
    r.result
    r.ensures.says r.ensures.status r.ensures.end r.ensures.taken r.ensures.count r.ensures.wants
    f.ensures.bytes f.ensures.counts f.ensures.wants f.ensures.unwritten
