-- The places behind the new value still hold Unit.
use Rattle.std.proofs.Common.{◌<◌, ◌≤◌, length, ap, arith}
use Rattle.std.proofs.lemmas.List.{length-take-le}
use Rattle.proto_model.proofs.VarsPlaces.{IsFilled-push}
use Rattle.proto_model.proofs.values.vars.Vars.push.Goals as goal

pub invariant_of-self : goal.invariant_of-self
invariant_of-self c =
    let filled = c.self.invariant in
    let fits : c.self.inside.len ≤ length c.self.inside.values = omega arith in
    let used = length-take-le c.self.inside.len c.self.inside.values fits in
    let room : c.self.inside.len < 16 = omega (arith, used, ap length c.self.view_is) in
    IsFilled-push c.self.inside.len c.self.inside.values c.args.value room c.self.invariant
