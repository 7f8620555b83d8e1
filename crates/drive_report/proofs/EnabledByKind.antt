-- Each kind of step is enabled exactly where the process does something at which it takes place.
use Rattle.std.proofs.Common.{◌≡◌, ℕ, ◌<◌, Bool, Option, Some, None, is_some}
use Rattle.std.proofs.Common.{slice_get, nat_lt, ap, ◌∙◌, if◌then◌else◌}
use Rattle.std.specs.Option.{option_map, option_and_then}
use Rattle.std.proofs.lemmas.Bool.{lt-ltb}
use Rattle.std.proofs.lemmas.Option.{slice_get_within}
use Rattle.ordered_links.specs.Link.{Link, Up, Down}
use Rattle.ordered_links.specs.Lists.{links_at, first_packet}
use Rattle.async_shape.specs.Setting.{Setting}
use Rattle.async_shape.specs.Config.{Config, count_of}
use Rattle.async_shape.specs.Outcome.{HomeOutcome, RemoteOutcome}
use Rattle.async_shape.specs.HomeSteps.{home_tau, home_take, home_send, home_drop, up}
use Rattle.async_shape.specs.RemoteSteps.{remote_tau, remote_send, remote_answer, remote_reply}
use Rattle.async_shape.specs.RemoteSteps.{down}
use Rattle.async_shape.specs.Next.{StepOutcome, arrival, config_after, home_moved, remote_moved}
use Rattle.async_shape.specs.Next.{remote_moves, is_enabled}
use Rattle.async_shape.specs.declared.config.RemoteState.{RemoteState}
use Rattle.async_shape.specs.declared.step.Step.TheVariants as step
use Rattle.drive_report.proofs.MapsSome.{is_some-map}

module _ (c : Config) where
  -- the step names remote j, which is there
  named : (j : ℕ) (does : Option StepOutcome) → j < count_of c
      → is_some (option_map (config_after c) (if nat_lt j (count_of c) then does else None))
      ≡ is_some does
  named j does within =
      ap
      (λ (b : Bool). is_some (option_map (config_after c) (if b then does else None)))
      (lt-ltb j (count_of c) within)
      ∙ is_some-map (config_after c) does

  -- it takes place at the home
  at_home : (link : Option Link) (j : ℕ) (does : Option HomeOutcome) → j < count_of c
      → is_some (option_map (config_after c)
      (if nat_lt j (count_of c) then option_map (home_moved c link) does else None))
      ≡ is_some does
  at_home link j does within =
      named j (option_map (home_moved c link) does) within
      ∙ is_some-map (home_moved c link) does

  -- it takes place at remote j
  at_remote : (link : Option Link) (j : ℕ) (remote : RemoteState)
      (does : RemoteState → Option RemoteOutcome) → slice_get c.remotes j ≡ Some remote
      → is_some (option_map (config_after c)
      (if nat_lt j (count_of c) then remote_moves c link j does else None))
      ≡ is_some (does remote)
  at_remote link j remote does there =
      named j (remote_moves c link j does) (slice_get_within c.remotes j remote there)
      ∙ ap
      (λ (o : Option RemoteState).
      is_some (option_and_then (λ r. option_map (remote_moved c link j) (does r)) o)) there
      ∙ is_some-map (remote_moved c link j) (does remote)

module _ (setting : Setting) (c : Config) where
  pub HomeTau-enabled : (g : ℕ)
      → is_enabled setting c (step.HomeTau g) ≡ is_some (home_tau setting c.home c.held g)
  HomeTau-enabled g =
      is_some-map (config_after c)
      (option_map (home_moved c None) (home_tau setting c.home c.held g))
      ∙ is_some-map (home_moved c None) (home_tau setting c.home c.held g)

  pub HomeTake-enabled : (j : ℕ) → j < count_of c
      → is_enabled setting c (step.HomeTake j)
      ≡ is_some (home_take setting (count_of c) c.home c.held j)
  HomeTake-enabled j within =
      at_home c None j (home_take setting (count_of c) c.home c.held j) within

  pub HomeSend-enabled : (g j : ℕ) → j < count_of c
      → is_enabled setting c (step.HomeSend g j)
      ≡ is_some (home_send setting (count_of c) c.home c.held g j)
  HomeSend-enabled g j within =
      at_home c None j (home_send setting (count_of c) c.home c.held g j) within

  pub HomeDrop-enabled : (j : ℕ) → j < count_of c
      → is_enabled setting c (step.HomeDrop j)
      ≡ is_some (home_drop setting (count_of c) c.home c.held j)
  HomeDrop-enabled j within =
      at_home c None j (home_drop setting (count_of c) c.home c.held j) within

  pub Up-enabled : (j : ℕ) → j < count_of c
      → is_enabled setting c (step.Up j) ≡ is_some (first_packet (links_at c.links j).up)
  Up-enabled j within =
      named c j
      (option_map
      (λ arrived. home_moved c (Some (Up j)) (up setting (count_of c) c.home c.held j arrived))
      (arrival c (Some (Up j)))) within
      ∙ is_some-map
      (λ arrived. home_moved c (Some (Up j)) (up setting (count_of c) c.home c.held j arrived))
      (first_packet (links_at c.links j).up)

  module _ (j : ℕ) (remote : RemoteState) (there : slice_get c.remotes j ≡ Some remote) where
    pub RemoteTau-enabled : (g : ℕ)
        → is_enabled setting c (step.RemoteTau j g) ≡ is_some (remote_tau setting remote g)
    RemoteTau-enabled g = at_remote c None j remote (λ r. remote_tau setting r g) there

    pub RemoteSend-enabled : is_enabled setting c (step.RemoteSend j)
        ≡ is_some (remote_send setting j remote)
    RemoteSend-enabled = at_remote c None j remote (remote_send setting j) there

    pub RemoteAnswer-enabled : is_enabled setting c (step.RemoteAnswer j)
        ≡ is_some (remote_answer setting j remote)
    RemoteAnswer-enabled = at_remote c None j remote (remote_answer setting j) there

    pub RemoteReply-enabled : is_enabled setting c (step.RemoteReply j)
        ≡ is_some (remote_reply setting j remote)
    RemoteReply-enabled = at_remote c None j remote (remote_reply setting j) there

    pub Down-enabled : is_enabled setting c (step.Down j)
        ≡ is_some (first_packet (links_at c.links j).down)
    Down-enabled =
        at_remote c (Some (Down j)) j remote
        (λ r. option_map (down setting r) (arrival c (Some (Down j)))) there
        ∙ is_some-map (down setting remote) (first_packet (links_at c.links j).down)
