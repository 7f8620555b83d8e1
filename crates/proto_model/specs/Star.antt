-- The star: remotes meet the home alone, and the home meets remotes alone.
use Rattle.std.specs.Prelude.{Bool, not}
use Rattle.proto_model.specs.declared.numbered.Side.{Side}
use Rattle.proto_model.specs.declared.numbered.Side.TheVariants as side

-- the home takes in what goes up, a remote what goes down
abbrev pub goes_in : Side → Bool → Bool
goes_in side.Home up = up
goes_in side.Remote up = not up

-- the home puts out what goes down, a remote what goes up
abbrev pub goes_out : Side → Bool → Bool
goes_out side.Home up = not up
goes_out side.Remote up = up
