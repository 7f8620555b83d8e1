-- A place that is found is that of a declaration.
use Rattle.std.proofs.Common.{rules, ◌≡◌, map}
use Rattle.proto_model.specs.Names.{place_of}
use Rattle.star_check.proofs.Found.{place_within}
use Rattle.star_check.proofs.declared.Declared.place.Goals as goal

pub returns-clause-within : goal.returns-clause-within
returns-clause-within g c =
    let found : c.copied.result ≡ place_of c.args.name.now
    (map g.T.Declaration.name_of c.args.self.now) = search rules in
    place_within g.T.Declaration.name_of c.args.self.now c.args.name.now c.copied.result found
