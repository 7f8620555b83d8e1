-- Once memory ran out nothing more is appended.
use Rattle.std.proofs.Common.{◌≡◌, true, is_err}
use Rattle.proto_model.proofs.Continuing.{Continues-stopped}
use Rattle.proto_model.proofs.appending.append.Goals as goal

pub returns-then-is_err : goal.returns-then-is_err
returns-then-is_err c =
    let failed : is_err c.args.so_far ≡ true = cc in
    Continues-stopped c.args.bytes.now c.args.so_far c.args.out.now.items failed
