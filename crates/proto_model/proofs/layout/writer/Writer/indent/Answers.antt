use Rattle.std.proofs.Common.{◌≡◌, ℕ, replicate, subst, arith}
use Rattle.proto_model.specs.Marks.{Indent, Puts}
use Rattle.proto_model.proofs.Writing.{Lays-mark}
use Rattle.proto_model.proofs.layout.writer.Writer.indent.Goals as goal

pub returns : goal.returns
returns c =
    let whole : c.loop.counter ≡ c.args.spaces = omega arith in
    Lays-mark (Indent c.args.spaces) c.args.self.now c.loop.self
    (subst (λ (n : ℕ). Puts (replicate n 32) c.args.self.now c.loop.self) whole c.loop.invariant)
