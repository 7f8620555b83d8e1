-- The packets are written one after the other.
use Rattle.std.proofs.Common.{subst}
use Rattle.proto_model.specs.Tokens.{Text}
use Rattle.proto_model.specs.Continued.{Continues}
use Rattle.run_replay.proofs.Listing.{packets-listed}
use Rattle.run_replay.proofs.state_lines.put_packets.Goals as goal

pub returns : goal.returns
returns c = λ packets all.
    subst
    (λ (text : Text). Continues text c.args.so_far c.args.out.now.items c.put_three.result
    c.put_three.new.out.items)
    (packets-listed c.args.messages.now packets c.args.first c.args.second c.args.third all)
    c.put_three.ensures
