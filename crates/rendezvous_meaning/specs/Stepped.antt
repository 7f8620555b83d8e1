-- What a step leaves.
use Rattle.std.specs.Prelude.{◌≡◌, Bool, true, false, Option, Some, None}
use Rattle.proto_model.specs.declared.rendezvous.RvConfig.{RvConfig}

-- The event leads where it may lead; or it leads nowhere, and nothing changes.
abbrev pub Stepped : Bool → RvConfig → RvConfig → Option RvConfig → Type 0
Stepped true old new next = next ≡ Some new
Stepped false old new next = (next ≡ None) × (new ≡ old)
