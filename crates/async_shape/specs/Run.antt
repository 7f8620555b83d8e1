-- A run: the configurations that a list of steps goes through, and the last of them.
use Rattle.std.specs.Prelude.{List, [], ◌∷◌, unwrap_or}
use Rattle.async_shape.specs.Setting.{Setting}
use Rattle.async_shape.specs.Config.{Config}
use Rattle.async_shape.specs.Next.{next}
use Rattle.async_shape.specs.declared.step.Step.{Step}

module _ (setting : Setting) where
  -- the configuration after a step; a step that is not enabled changes nothing
  abbrev pub after_step : Config → Step → Config
  after_step c s = unwrap_or (next setting c s) c

  -- the configurations of a run: the first one, and the one after each step
  abbrev pub run : Config → List Step → List Config
  run c [] = c ∷ []
  run c (s ∷ steps) = c ∷ run (after_step c s) steps

  -- the configuration to which these steps lead, one after another
  abbrev pub config_at_end : Config → List Step → Config
  config_at_end c [] = c
  config_at_end c (s ∷ steps) = config_at_end (after_step c s) steps
