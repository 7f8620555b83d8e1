-- Each step of a shaped configuration means what is told of it.
use Rattle.std.proofs.Common.{◌≡◌, Some}
use Rattle.proto_model.specs.Proper.{IsProper}
use Rattle.async_shape.specs.Setting.{Setting}
use Rattle.async_shape.specs.Config.{Config}
use Rattle.async_shape.specs.Next.{StepOutcome, outcome}
use Rattle.async_shape.specs.Shape.{IsShaped}
use Rattle.async_shape.specs.declared.step.Step.{Step}
use Rattle.async_shape.specs.declared.step.Step.TheVariants as step
use Rattle.abstraction_map.specs.Meant.{IsMeant}
use Rattle.abstraction_map.proofs.Behind.{IsBehind, IsMeant-is}
use Rattle.abstraction_map.proofs.HomeStepsMean.{HomeTau-means, HomeDrop-means}
use Rattle.abstraction_map.proofs.HomeTakeMeans.{HomeTake-means}
use Rattle.abstraction_map.proofs.HomeSendMeans.{HomeSend-means}
use Rattle.abstraction_map.proofs.RemoteStepsMean.{RemoteTau-means, RemoteSend-means}
use Rattle.abstraction_map.proofs.RemoteAnswersMean.{RemoteAnswer-means, RemoteReply-means}
use Rattle.abstraction_map.proofs.ArrivalAtHomeMeans.{Up-means}
use Rattle.abstraction_map.proofs.ArrivalAtRemoteMeans.{Down-means}

module _ (setting : Setting) (proper : IsProper setting.protocol) (c : Config)
    (shaped : IsShaped setting c) where
  -- by the kind of step
  every_step-behind : (s : Step) (o : StepOutcome) → outcome setting c s ≡ Some o
      → IsBehind setting c s o
  every_step-behind (step.HomeTau g) o did = HomeTau-means setting c g o did
  every_step-behind (step.HomeTake j) o did = HomeTake-means setting proper c shaped j o did
  every_step-behind (step.HomeSend g j) o did = HomeSend-means setting proper c shaped g j o did
  every_step-behind (step.HomeDrop j) o did = HomeDrop-means setting c shaped j o did
  every_step-behind (step.RemoteTau j g) o did = RemoteTau-means setting c shaped j g o did
  every_step-behind (step.RemoteSend j) o did = RemoteSend-means setting c shaped j o did
  every_step-behind (step.RemoteAnswer j) o did =
      RemoteAnswer-means setting proper c shaped j o did
  every_step-behind (step.RemoteReply j) o did =
      RemoteReply-means setting proper c shaped j o did
  every_step-behind (step.Up j) o did = Up-means setting proper c shaped j o did
  every_step-behind (step.Down j) o did = Down-means setting proper c shaped j o did

  -- Each step means what is told of it.
  pub every_step-means : (s : Step) → IsMeant setting c s
  every_step-means s = IsMeant-is setting c s (every_step-behind s)
