-- A value put in the array at a used place is put in the list.
use Rattle.std.proofs.Common.{refl}
use Rattle.std.proofs.Math.Seq.{take-set-lt}
use Rattle.proto_model.proofs.values.vars.Vars.set.Goals as goal

pub returns-then-place-self : goal.returns-then-place-self
returns-then-place-self c =
    rw (
      take-set-lt c.self.inside.len c.self.inside.values c.args.place c.args.value
          c.if-place-self.true,
      c.self.view_is,
    ) refl
