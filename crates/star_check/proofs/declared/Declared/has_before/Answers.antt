-- Declared before the place: the first declaration stands before it.
use Rattle.std.proofs.Common.{◌∙◌, sym, ap, map, nat_lt, false}
use Rattle.std.specs.Option.{option_map_or}
use Rattle.star_check.proofs.Before.{declared_before}
use Rattle.star_check.proofs.declared.Declared.has_before.Goals as goal

pub returns-in-Some : goal.returns-in-Some
returns-in-Some g c =
    ap (λ o. option_map_or (λ k. nat_lt k c.args.place) o false) c.in-Some.ensures.value
    ∙ sym (declared_before c.args.name.now c.args.place
    (map g.T.Declaration.name_of c.args.self.now))

pub returns-in-None : goal.returns-in-None
returns-in-None g c =
    ap (λ o. option_map_or (λ k. nat_lt k c.args.place) o false) c.in-None.ensures.value
    ∙ sym (declared_before c.args.name.now c.args.place
    (map g.T.Declaration.name_of c.args.self.now))
