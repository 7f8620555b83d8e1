use Rattle.std.proofs.Common.{◌++◌, subst}
use Rattle.proto_model.specs.Tokens.{Text}
use Rattle.proto_model.specs.Marks.{Word, Puts}
use Rattle.proto_model.proofs.Writing.{Puts-append, Lays-mark}
use Rattle.proto_model.proofs.layout.writer.Writer.word.Goals as goal

pub returns : goal.returns
returns c =
    let token = c.args.token.now in
    let both = Puts-append c.space_before.result.now token c.args.self.now c.put.new.self
    c.put-2.new.self c.put.ensures c.put-2.ensures in
    rw c.hugs_right-self.ensures
    (Lays-mark (Word token) c.args.self.now c.put-2.new.self
    (subst (λ (space : Text). Puts (space ++ token) c.args.self.now c.put-2.new.self)
    c.space_before.ensures both))
