-- The runs and moments of the laws on worked arrays.
use Rattle.std.specs.Prelude.{List, [], ◌∷◌, ◌++◌}
use Rattle.async_shape.specs.WorkedDisplacement.{displacement_0, displacement_9, displacement_10}
use Rattle.async_shape.specs.declared.step.Step.TheVariants as step
use Rattle.line_array.specs.SharedLists.{no_entries}
use Rattle.line_array.specs.ArrayConfig.{ArrayConfig}
use Rattle.line_array.specs.declared.line_step.LineStep.{LineStep}
use Rattle.line_array.specs.declared.line_step.LineStep.TheVariants.{At, Up}

-- remote 0 asks for line 1, and then for line 0
abbrev pub both_ask : List LineStep
both_ask =
    At 1 (step.RemoteTau 0 0) ∷
    At 1 (step.RemoteSend 0) ∷
    At 0 (step.RemoteTau 0 0) ∷
    At 0 (step.RemoteSend 0) ∷
    []

-- one request is delivered
abbrev pub one_comes : List LineStep
one_comes = both_ask ++ Up 0 ∷ []

-- both are
abbrev pub both_come : List LineStep
both_come = one_comes ++ Up 0 ∷ []

-- Line 0 is at its start. The home of line 1 holds the requests of remotes 0 and 1, and that of
-- remote 2 is on its way.
abbrev pub full_line : ArrayConfig
full_line = record {
  lines = displacement_0 ∷ displacement_9 ∷ [];
  shared = no_entries ∷ no_entries ∷ record { up = 1 ∷ []; down = [] } ∷ [];
}

-- It has displaced that of remote 1, to which a nack is on its way.
abbrev pub displaced_line : ArrayConfig
displaced_line = record {
  lines = displacement_0 ∷ displacement_10 ∷ [];
  shared = no_entries ∷ record { up = []; down = 1 ∷ [] } ∷ no_entries ∷ [];
}
