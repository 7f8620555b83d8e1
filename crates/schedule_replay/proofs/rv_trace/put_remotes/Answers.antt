-- The line of a remote is written behind those of the ones below it.
use Rattle.std.proofs.Common.{◌≡◌, ◌++◌, sym, ap, ◌∙◌, take, ◌+◌}
use Rattle.rv_base.specs.Lists.{flat_from}
use Rattle.rv_base.proofs.Lists.{flat_from-one_more, AllByRecursion-read}
use Rattle.proto_model.specs.declared.rendezvous.Part.{Part}
use Rattle.proto_model.specs.Rendezvous.{IsPartOf}
use Rattle.schedule_replay.specs.RvPlay.{numbered_line}
use Rattle.schedule_replay.proofs.ShownParts.{vars-length}
use Rattle.schedule_replay.proofs.Chained.{grown}
use Rattle.schedule_replay.proofs.rv_trace.put_remotes.Goals as goal

pub put_line-so_far-requires-clause-vars : goal.put_line-so_far-requires-clause-vars
put_line-so_far-requires-clause-vars c =
    let body = c.args.body.now in
    let part = c.index-remotes-j.result in
    vars-length body part (AllByRecursion-read (IsPartOf body) c.args.remotes.now c.loop-j.j part
    c.requires.standing c.loop-j-test.true c.index-remotes-j.is)

pub loop-j-preserved : goal.loop-j-preserved
loop-j-preserved c =
    let remotes = c.args.remotes.now in
    let j = c.loop-j.j in
    let part = c.index-remotes-j.result in
    let lines = numbered_line c.args.body.now in
    let before = flat_from lines 0 (take j remotes) in
    let same : before ++ lines j part ≡ flat_from lines 0 (take (j + 1) remotes) =
    ap (λ (p : Part). before ++ lines j p) c.index-remotes-j.is
    ∙ sym (flat_from-one_more lines remotes j part c.loop-j-test.true) in
    grown _ _ _ c.args.so_far c.loop-j.so_far c.put_line-so_far.result c.args.out.now.items
    c.loop-j.out.items c.put_line-so_far.new.out.items same c.loop-j.invariant
    c.put_line-so_far.ensures
