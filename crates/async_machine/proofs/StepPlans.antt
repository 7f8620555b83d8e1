-- From the plan of what a process does to the plan of the step.
use Rattle.std.proofs.Common.{◌≡◌, ℕ, ◌<◌, Option, Some, None, slice_get, IfSome}
use Rattle.std.proofs.Common.{refl, sym, ap, ◌∙◌}
use Rattle.std.specs.Option.{option_map, option_and_then}
use Rattle.proto_model.specs.declared.numbered.Value.{Value}
use Rattle.ordered_links.specs.Link.{Link}
use Rattle.async_shape.specs.Setting.{Setting}
use Rattle.async_shape.specs.Config.{Config, count_of}
use Rattle.async_shape.specs.Outcome.{HomeOutcome, RemoteOutcome}
use Rattle.async_shape.specs.Next.{StepOutcome, home_moved, remote_moved, remote_moves, outcome_of}
use Rattle.async_shape.specs.declared.config.RemoteState.{RemoteState}
use Rattle.async_shape.specs.declared.step.Step.{Step}
use Rattle.async_machine.specs.Moves.{put_said}
use Rattle.async_machine.specs.Planned.{home_in, held_in, remotes_in, FitsIn, Says}
use Rattle.async_machine.specs.Planned.{IsOfHome, HomePlans, IsOfRemote, RemotePlans, IsPlan}
use Rattle.async_machine.specs.Planned.{guard_behind, message_behind}
use Rattle.async_machine.specs.declared.sending.Sends.{Sends}
use Rattle.async_machine.specs.declared.planned.Change.{Change}
use Rattle.async_machine.specs.declared.planned.Change.TheVariants.{Home, Remote}
use Rattle.async_machine.specs.declared.planned.Planned.{Planned}

module _ (c : Config) (link : Option Link) where
  -- what a change, a put and a displacement make of the configuration
  abbrev made : Change → Sends → Option ℕ → StepOutcome
  made change sends from = record {
    home = home_in change c.home;
    held = held_in change c.held;
    remotes = remotes_in change c.remotes;
    put = put_said sends;
    takes_from = link;
    displaced_from = from;
  }

  -- of the home
  home-made : (change : Change) (sends : Sends) (from : Option ℕ) (may : Option HomeOutcome)
      → IsOfHome c.home c.held sends from change may
      → option_map (home_moved c link) may ≡ Some (made change sends from)
  home-made (Home change held) sends from may is = ap (option_map (home_moved c link)) is
  home-made (Remote j remote) sends from may is = absurd is

  -- of remote j
  remote-made : (j : ℕ) (change : Change) (sends : Sends) (from : Option ℕ)
      (may : Option RemoteOutcome) → IsOfRemote j sends change may → from ≡ None
      → option_map (remote_moved c link j) may ≡ Some (made change sends from)
  remote-made j (Home change held) sends from may is none = absurd is
  remote-made j (Remote i remote) sends from may is none =
      ap (option_map (remote_moved c link j)) is.1
      ∙ rw (is.0, none) refl

  -- remote j is there, and so the change fits
  remote-fits : (k j : ℕ) (change : Change) (sends : Sends) (may : Option RemoteOutcome)
      → IsOfRemote j sends change may → j < count_of c → FitsIn k c.held (count_of c) change
  remote-fits k j (Home change held) sends may is below = absurd is
  remote-fits k j (Remote i remote) sends may is below = rw is.0 below

-- this stands behind the plan too
says-too : (by by_now : Option ℕ) (passed passed_now : Option (ℕ × Value)) (plan : Planned)
    → Says by passed plan → by_now ≡ by → passed_now ≡ passed → Says by_now passed_now plan
says-too by by_now passed passed_now plan says same_guard same_message = record {
  guard = says.guard ∙ sym same_guard;
  message = says.message ∙ sym same_message;
}

module _ (setting : Setting) (c : Config) (link : Option Link) (s : Step) where
  -- A step at the home is planned where the home's part is.
  pub home-planned : (plan : Option Planned) (may : Option HomeOutcome) (by : Option ℕ)
      (passed : Option (ℕ × Value)) → HomePlans c.home c.held plan may
      → IfSome plan (Says by passed)
      → IfSome plan (λ plan. FitsIn setting.slots c.held (count_of c) plan.change)
      → outcome_of setting c link s ≡ option_map (home_moved c link) may
      → guard_behind setting.protocol c s ≡ by → message_behind setting.protocol c s ≡ passed
      → IsPlan setting c link s plan
  home-planned None may by passed does says fits of guard message = record {
    does = sym (of ∙ ap (option_map (home_moved c link)) does);
    says = tt;
    fits = tt;
  }
  home-planned (Some plan) may by passed does says fits of guard message = record {
    does = sym (of ∙ home-made c link plan.change plan.sends plan.displaced may does);
    says = says-too by _ passed _ plan says guard message;
    fits = fits;
  }

  -- A step at remote j, which is there, is planned where the remote's part is.
  pub remote-planned : (j : ℕ) (remote : RemoteState)
      (doing : RemoteState → Option RemoteOutcome) (plan : Option Planned) (by : Option ℕ)
      (passed : Option (ℕ × Value)) → j < count_of c → slice_get c.remotes j ≡ Some remote
      → RemotePlans j plan (doing remote) → IfSome plan (Says by passed)
      → outcome_of setting c link s ≡ remote_moves c link j doing
      → guard_behind setting.protocol c s ≡ by → message_behind setting.protocol c s ≡ passed
      → IsPlan setting c link s plan
  remote-planned j remote doing None by passed below there does says of guard message =
      let moves : remote_moves c link j doing ≡ option_map (remote_moved c link j) (doing remote) =
      ap (option_and_then (λ (r : RemoteState). option_map (remote_moved c link j) (doing r))) there
      in
      record {
        does = sym (of ∙ moves ∙ ap (option_map (remote_moved c link j)) does);
        says = tt;
        fits = tt;
      }
  remote-planned j remote doing (Some plan) by passed below there does says of guard message =
      let moves : remote_moves c link j doing ≡ option_map (remote_moved c link j) (doing remote) =
      ap (option_and_then (λ (r : RemoteState). option_map (remote_moved c link j) (doing r))) there
      in
      record {
        does =
            sym (of ∙ moves
            ∙ remote-made c link j plan.change plan.sends plan.displaced (doing remote) does.0
            does.1);
        says = says-too by _ passed _ plan says guard message;
        fits =
            remote-fits c link setting.slots j plan.change plan.sends (doing remote) does.0 below;
      }
