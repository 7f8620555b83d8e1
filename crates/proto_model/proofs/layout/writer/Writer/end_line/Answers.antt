use Rattle.proto_model.specs.Marks.{LineEnd}
use Rattle.proto_model.proofs.Writing.{Lays-mark}
use Rattle.proto_model.proofs.layout.writer.Writer.end_line.Goals as goal

pub returns : goal.returns
returns c = Lays-mark LineEnd c.args.self.now c.put.new.self c.put.ensures
