-- Every step of a shaped configuration is explained by the one row that it fires, or fires none and
-- leaves each process where it is; and so is each step of a run from a shaped configuration.
use Rattle.std.proofs.Common.{◌≡◌, List, Some, sym, subst}
use Rattle.std.specs.List.{AllByRecursion}
use Rattle.rv_base.proofs.Lists.{AllByRecursion-weaker}
use Rattle.proto_model.specs.Proper.{IsProper}
use Rattle.controller_table.specs.Rows.{home_rows, remote_rows}
use Rattle.async_shape.specs.Setting.{Setting}
use Rattle.async_shape.specs.Config.{Config}
use Rattle.async_shape.specs.Next.{StepOutcome, outcome, next}
use Rattle.async_shape.specs.Run.{run}
use Rattle.async_shape.specs.Fired.{ByRow}
use Rattle.async_shape.specs.Shape.{IsShaped}
use Rattle.async_shape.specs.declared.step.Step.{Step}
use Rattle.async_shape.specs.declared.step.Step.TheVariants as step
use Rattle.async_shape.proofs.StepInversion.{next-outcome}
use Rattle.async_shape.proofs.EveryStepKeep.{IsShaped-run}
use Rattle.async_shape.proofs.RowsFired.{FiresSo, links-follow}
use Rattle.async_shape.proofs.RowsFiredByHome.{HomeTau-fires, HomeTake-fires, HomeSend-fires}
use Rattle.async_shape.proofs.RowsFiredByHome.{HomeDrop-fires}
use Rattle.async_shape.proofs.RowsFiredByRemote.{RemoteTau-fires, RemoteSend-fires}
use Rattle.async_shape.proofs.RowsFiredByRemote.{RemoteReply-fires}
use Rattle.async_shape.proofs.RowsFiredByAnswer.{RemoteAnswer-fires}
use Rattle.async_shape.proofs.RowsFiredAtHome.{Up-fires}
use Rattle.async_shape.proofs.RowsFiredAtRemote.{Down-fires}

module _ (setting : Setting) (proper : IsProper setting.protocol) where
  -- an enabled step is by its row, or by none
  outcome-fires : (c : Config) (s : Step) (o : StepOutcome) → IsShaped setting c
      → outcome setting c s ≡ Some o → FiresSo setting c o s
  outcome-fires c (step.HomeTau g) o shaped did =
      HomeTau-fires setting proper c o shaped g did
  outcome-fires c (step.HomeTake j) o shaped did =
      HomeTake-fires setting proper c o shaped j did
  outcome-fires c (step.HomeSend g j) o shaped did =
      HomeSend-fires setting proper c o shaped g j did
  outcome-fires c (step.HomeDrop j) o shaped did =
      HomeDrop-fires setting proper c o shaped j did
  outcome-fires c (step.RemoteTau j g) o shaped did =
      RemoteTau-fires setting proper c o shaped j g did
  outcome-fires c (step.RemoteSend j) o shaped did =
      RemoteSend-fires setting proper c o shaped j did
  outcome-fires c (step.RemoteAnswer j) o shaped did =
      RemoteAnswer-fires setting proper c o shaped j did
  outcome-fires c (step.RemoteReply j) o shaped did =
      RemoteReply-fires setting proper c o shaped j did
  outcome-fires c (step.Up j) o shaped did = Up-fires setting proper c o shaped j did
  outcome-fires c (step.Down j) o shaped did = Down-fires setting proper c o shaped j did

  -- the step is by a row of the controllers of the protocol
  abbrev pub IsByRow : Config → Config → Step → Type 0
  IsByRow c d s =
      ByRow setting c d s (home_rows setting.protocol setting.mode)
      (remote_rows setting.protocol setting.mode)

  -- an enabled step from a shaped configuration is by a row
  pub shaped-by_row : (c d : Config) (s : Step) → IsShaped setting c
      → next setting c s ≡ Some d → IsByRow c d s
  shaped-by_row c d s shaped did =
      let by = next-outcome setting c d s did in
      subst (λ (now : Config). IsByRow c now s) (sym by.2) (record {
        row = outcome-fires c s by.0 shaped by.1;
        links = links-follow setting c s by.0 by.1;
      })

  -- each step from each configuration of a run from a shaped one
  pub run-by_row : (c : Config) (steps : List Step) → IsShaped setting c
      → AllByRecursion (λ (at : Config). (s : Step) (d : Config) → next setting at s ≡ Some d
      → IsByRow at d s) (run setting c steps)
  run-by_row c steps shaped =
      AllByRecursion-weaker (IsShaped setting)
      (λ (at : Config). (s : Step) (d : Config) → next setting at s ≡ Some d → IsByRow at d s)
      (run setting c steps) (λ at right s d did. shaped-by_row at d s right did)
      (IsShaped-run setting proper c steps shaped)
