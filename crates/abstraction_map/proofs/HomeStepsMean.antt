-- The home's local step is the same step of what it stands for, and a request that it drops is a
-- stutter.
use Rattle.std.proofs.Common.{◌≡◌, ℕ, ◌<◌, length, Some, None, is_some, refl, sym, subst}
use Rattle.proto_model.specs.Guards.{part}
use Rattle.slot_reserve.specs.Requests.{without_first}
use Rattle.ordered_links.specs.Link.{Down}
use Rattle.ordered_links.specs.declared.packet.Packet.TheVariants as packet
use Rattle.async_shape.specs.Setting.{Setting}
use Rattle.async_shape.specs.Config.{Config, count_of}
use Rattle.async_shape.specs.Outcome.{HomeOutcome, at_home, put_on, home_at}
use Rattle.async_shape.specs.Next.{StepOutcome, config_after, home_moved, outcome}
use Rattle.async_shape.specs.View.{view_at}
use Rattle.async_shape.specs.Shape.{IsShaped}
use Rattle.async_shape.specs.declared.step.Step.TheVariants as step
use Rattle.async_shape.proofs.HomeInversion.{TakesTau, DropsHeld}
use Rattle.async_shape.proofs.StepInversion.{HomeTau-outcome, HomeDrop-outcome}
use Rattle.abstraction_map.proofs.Fates.{fate_in-put_nack}
use Rattle.abstraction_map.proofs.ByCase.{home-idle}
use Rattle.async_shape.proofs.ShapeParts.{links-there}
use Rattle.abstraction_map.proofs.Frames.{abstraction-kept, looks-all, home_step-other}
use Rattle.abstraction_map.proofs.Events.{TauHome-is}
use Rattle.abstraction_map.proofs.Behind.{IsBehind}
use Rattle.abstraction_map.proofs.HomeStepAt.{after, left-looks, others-look}

module _ (setting : Setting) (c : Config) where
  -- the home completes the same local step where it stands in the abstraction
  HomeTau-behind : (g : ℕ) (o : HomeOutcome) → TakesTau setting c.home c.held g o
      → IsBehind setting c (step.HomeTau g) (home_moved c None o)
  HomeTau-behind g o is =
      let protocol = setting.protocol in
      let left = at_home (home_at c.home is.after) c.held None in
      let d = config_after c (home_moved c None left) in
      let event =
      TauHome-is protocol c d g (part is.state c.home.vars) is.after
      (record {
        count = refl;
        home_was = home-idle protocol c is.state is.idle;
        home_is = home-idle protocol d is.after.state refl;
        others = λ q. (home_step-other protocol c None left q refl tt tt).part;
      }) is.step in
      subst (λ (so : HomeOutcome). IsBehind setting c (step.HomeTau g) (home_moved c None so))
      (sym is.outcome) event

  -- A nack that is put changes nothing of what became of the request.
  HomeDrop-behind : (j : ℕ) (o : HomeOutcome) → j < length c.links
      → DropsHeld setting (count_of c) c.home c.held j o
      → IsBehind setting c (step.HomeDrop j) (home_moved c None o)
  HomeDrop-behind j o linked is =
      let protocol = setting.protocol in
      let now = view_at protocol c j in
      let left = at_home c.home (without_first j c.held) (put_on (Down j) packet.Nack) in
      let d = after protocol c j left in
      let looks =
      looks-all protocol c d j
      (left-looks protocol c j left refl linked (fate_in-put_nack now.down (is_some now.owed)) refl)
      (others-look protocol c j left refl linked (λ q apart. refl)) in
      subst (λ (so : HomeOutcome). IsBehind setting c (step.HomeDrop j) (home_moved c None so))
      (sym is.outcome) (abstraction-kept protocol c d refl refl refl looks)

  -- HomeTau(g) means what is told of it.
  pub HomeTau-means : (g : ℕ) (o : StepOutcome) → outcome setting c (step.HomeTau g) ≡ Some o
      → IsBehind setting c (step.HomeTau g) o
  HomeTau-means g o did =
      let moves = HomeTau-outcome setting c g o did in
      subst (IsBehind setting c (step.HomeTau g)) (sym moves.outcome)
      (HomeTau-behind g moves.left moves.is)

  -- HomeDrop(j) means what is told of it.
  pub HomeDrop-means : IsShaped setting c → (j : ℕ) (o : StepOutcome)
      → outcome setting c (step.HomeDrop j) ≡ Some o → IsBehind setting c (step.HomeDrop j) o
  HomeDrop-means shaped j o did =
      let at = HomeDrop-outcome setting c j o did in
      let linked = links-there setting c shaped j at.0 in
      subst (IsBehind setting c (step.HomeDrop j)) (sym at.1.outcome)
      (HomeDrop-behind j at.1.left linked at.1.is)
