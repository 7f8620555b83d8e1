-- Every step keeps the shape, and so each configuration of a run from a shaped one has it.
use Rattle.std.proofs.Common.{◌≡◌, List, [], ◌∷◌, Option, Some, None, unwrap_or, refl, sym, subst}
use Rattle.std.specs.List.{AllByRecursion}
use Rattle.proto_model.specs.Proper.{IsProper}
use Rattle.async_shape.specs.Setting.{Setting}
use Rattle.async_shape.specs.Config.{Config}
use Rattle.async_shape.specs.Next.{StepOutcome, config_after, outcome, next}
use Rattle.async_shape.specs.Run.{after_step, run}
use Rattle.async_shape.specs.Shape.{IsShaped}
use Rattle.async_shape.specs.declared.step.Step.{Step}
use Rattle.async_shape.specs.declared.step.Step.TheVariants as step
use Rattle.async_shape.proofs.StepInversion.{next-outcome}
use Rattle.async_shape.proofs.HomeStepsKeep.{IsShaped-HomeTau, IsShaped-HomeTake, IsShaped-HomeSend}
use Rattle.async_shape.proofs.HomeStepsKeep.{IsShaped-HomeDrop}
use Rattle.async_shape.proofs.RemoteStepsKeep.{IsShaped-RemoteTau, IsShaped-RemoteSend}
use Rattle.async_shape.proofs.RemoteStepsKeep.{IsShaped-RemoteAnswer, IsShaped-RemoteReply}
use Rattle.async_shape.proofs.ArrivalAtHomeKeep.{IsShaped-Up}
use Rattle.async_shape.proofs.ArrivalAtRemoteKeep.{IsShaped-Down}

module _ (setting : Setting) (proper : IsProper setting.protocol) where
  -- what a step leaves has the shape
  pub IsShaped-outcome : (c : Config) (s : Step) (o : StepOutcome) → IsShaped setting c
      → outcome setting c s ≡ Some o → IsShaped setting (config_after c o)
  IsShaped-outcome c (step.HomeTau g) o shaped did =
      IsShaped-HomeTau setting proper c o shaped g did
  IsShaped-outcome c (step.HomeTake j) o shaped did =
      IsShaped-HomeTake setting proper c o shaped j did
  IsShaped-outcome c (step.HomeSend g j) o shaped did =
      IsShaped-HomeSend setting proper c o shaped g j did
  IsShaped-outcome c (step.HomeDrop j) o shaped did =
      IsShaped-HomeDrop setting proper c o shaped j did
  IsShaped-outcome c (step.RemoteTau j g) o shaped did =
      IsShaped-RemoteTau setting proper c j o shaped g did
  IsShaped-outcome c (step.RemoteSend j) o shaped did =
      IsShaped-RemoteSend setting proper c j o shaped did
  IsShaped-outcome c (step.RemoteAnswer j) o shaped did =
      IsShaped-RemoteAnswer setting proper c j o shaped did
  IsShaped-outcome c (step.RemoteReply j) o shaped did =
      IsShaped-RemoteReply setting proper c j o shaped did
  IsShaped-outcome c (step.Up j) o shaped did = IsShaped-Up setting proper c j o shaped did
  IsShaped-outcome c (step.Down j) o shaped did = IsShaped-Down setting proper c j o shaped did

  -- so has the next configuration
  pub IsShaped-next : (c d : Config) (s : Step) → IsShaped setting c → next setting c s ≡ Some d
      → IsShaped setting d
  IsShaped-next c d s shaped did =
      let by = next-outcome setting c d s did in
      subst (IsShaped setting) (sym by.2) (IsShaped-outcome c s by.0 shaped by.1)

  -- so has whichever configuration follows
  shaped_or_same : (c : Config) (s : Step) (d : Option Config) → next setting c s ≡ d
      → IsShaped setting c → IsShaped setting (unwrap_or d c)
  shaped_or_same c s None did shaped = shaped
  shaped_or_same c s (Some d) did shaped = IsShaped-next c d s shaped did

  -- so has the configuration after a step, enabled or not
  pub IsShaped-after_step : (c : Config) (s : Step) → IsShaped setting c
      → IsShaped setting (after_step setting c s)
  IsShaped-after_step c s shaped = shaped_or_same c s (next setting c s) refl shaped

  -- each configuration of a run from a shaped one is shaped
  pub IsShaped-run : (c : Config) (steps : List Step) → IsShaped setting c
      → AllByRecursion (IsShaped setting) (run setting c steps)
  IsShaped-run c [] shaped = (shaped, tt)
  IsShaped-run c (s ∷ steps) shaped =
      (shaped, IsShaped-run (after_step setting c s) steps (IsShaped-after_step c s shaped))
