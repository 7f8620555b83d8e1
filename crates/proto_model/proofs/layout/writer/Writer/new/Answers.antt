use Rattle.std.proofs.Common.{refl, sym, append-nil}
use Rattle.proto_model.specs.Marks.{laid, tight_after}
use Rattle.proto_model.proofs.layout.writer.Writer.new.Goals as goal

pub returns : goal.returns
unfolding laid tight_after
returns c = record { text = sym (append-nil c.args.text.items); tight = refl }
