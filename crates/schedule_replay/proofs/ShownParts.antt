-- Each process that stands in a configuration has a rendezvous line.
use Rattle.std.proofs.Common.{◌≡◌, ℕ, List, length, Some, slice_get}
use Rattle.std.specs.List.{AllByRecursion}
use Rattle.rv_base.proofs.Lists.{AllByRecursion-at}
use Rattle.proto_model.specs.Rendezvous.{IsPartOf}
use Rattle.proto_model.specs.declared.numbered.Body.{Body}
use Rattle.proto_model.specs.declared.rendezvous.Part.{Part}
use Rattle.proto_model.proofs.TypedRules.{AreOfKinds-length}

-- the variables of a process that stands in a configuration are as many as its body's
pub vars-length : (body : Body) (part : Part) → IsPartOf body part
    → length part.vars ≡ length body.vars
vars-length body part stands = AreOfKinds-length body.vars part.vars stands.vars

pub remote-stands : (body : Body) (parts : List Part) (j : ℕ) (part : Part)
    → AllByRecursion (IsPartOf body) parts → slice_get parts j ≡ Some part → IsPartOf body part
remote-stands body parts j part all there = AllByRecursion-at (IsPartOf body) parts j part all there
