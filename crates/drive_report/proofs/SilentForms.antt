-- Forms of which no step is enabled: sends by a guard that is no output, and local steps of a
-- remote that isn't idle.
use Rattle.std.proofs.Common.{◌≡◌, ℕ, ◌<◌, Bool, true, false, List, Option, Some, None, is_some}
use Rattle.std.proofs.Common.{slice_index_or, nat_lt, refl, ap, cond, ◌∙◌}
use Rattle.std.specs.Option.{option_map, option_map_or, option_and_then}
use Rattle.std.proofs.lemmas.Option.{slice_get-get_or}
use Rattle.proto_model.specs.Proper.{is_output_kind}
use Rattle.proto_model.specs.Guards.{guard_at, bare_rule, bare_body}
use Rattle.proto_model.specs.RendezvousNext.{given}
use Rattle.proto_model.specs.declared.numbered.Value.{Value}
use Rattle.proto_model.specs.declared.numbered.MessageInfo.{MessageInfo}
use Rattle.proto_model.specs.declared.numbered.RuleKind.{RuleKind}
use Rattle.proto_model.specs.declared.numbered.RuleKind.TheVariants as action
use Rattle.proto_model.specs.declared.numbered.Rule.{Rule}
use Rattle.proto_model.specs.declared.numbered.Body.{Body}
use Rattle.proto_model.proofs.Bare.{guard_at-bare}
use Rattle.controller_table.specs.Rows.{guard_id}
use Rattle.async_shape.specs.Setting.{Setting}
use Rattle.async_shape.specs.Config.{Config, count_of}
use Rattle.async_shape.specs.Guards.{idle_state}
use Rattle.async_shape.specs.Outcome.{HomeOutcome, home_idle_state}
use Rattle.async_shape.specs.HomeSteps.{sent_by, home_send}
use Rattle.async_shape.specs.RemoteSteps.{remote_tau}
use Rattle.async_shape.specs.Next.{is_enabled}
use Rattle.async_shape.specs.View.{nobody}
use Rattle.async_shape.specs.declared.config.HomePlace.{HomePlace}
use Rattle.async_shape.specs.declared.config.HomePlace.TheVariants.{Idle}
use Rattle.async_shape.specs.declared.config.RemoteState.{RemoteState}
use Rattle.async_shape.specs.declared.step.Step.TheVariants as step
use Rattle.drive_report.specs.Rows.{is_output_at}
use Rattle.drive_report.proofs.EnabledByKind.{RemoteTau-enabled}
use Rattle.drive_report.proofs.EnabledFrames.{named-none}

-- a guard is an output exactly where the bare one is
is_output-bare : (o : Option Rule)
    → option_map_or (λ r. is_output_kind r.kind) (option_map bare_rule o) false
    ≡ option_map_or (λ r. is_output_kind r.kind) o false
is_output-bare None = refl
is_output-bare (Some rule) = refl

pub is_output_at-bare : (body : Body) (state g : ℕ)
    → is_output_at (bare_body body) state g ≡ is_output_at body state g
is_output_at-bare body state g =
    ap (λ (o : Option Rule). option_map_or (λ r. is_output_kind r.kind) o false)
    (guard_at-bare body state g)
    ∙ is_output-bare (guard_at body state g)

-- a guard that is no output gives nothing
given-none : (messages : List MessageInfo) (vars : List Value) (kind : RuleKind)
    → is_output_kind kind ≡ false → given messages vars kind ≡ None
given-none messages vars action.Tau inward = refl
given-none messages vars (action.Input p m bound) inward = refl
given-none messages vars (action.Output p m sent) inward = absurd (cc)

either-none : (b : Bool) → cond {A = Option HomeOutcome} b None None ≡ None
either-none true = refl
either-none false = refl

module _ (setting : Setting) (c : Config) where
  sent-none : (j state g : ℕ) (rule : Option Rule)
      → option_map_or (λ r. is_output_kind r.kind) rule false ≡ false
      → option_and_then
      (sent_by setting (count_of c) c.home c.held j (guard_id state g)) rule
      ≡ None
  sent-none j state g None inward = refl
  sent-none j state g (Some rule) inward =
      rw (given-none setting.protocol.messages c.home.vars rule.kind inward) (either-none _)

  home_send-none : (state g j : ℕ) → c.home.place ≡ Idle state
      → is_output_at setting.protocol.home state g ≡ false
      → home_send setting (count_of c) c.home c.held g j ≡ None
  unfolding home_send
  home_send-none state g j idle inward =
      let body = setting.protocol.home in
      ap
      (λ (place : HomePlace).
      option_and_then
      (λ s.
      option_and_then (sent_by setting (count_of c) c.home c.held j (guard_id s g))
      (guard_at body s g))
      (home_idle_state place)) idle
      ∙ sent-none j state g (guard_at body state g) inward

  -- By a guard that is no output nothing is sent.
  pub sends-none : (state g : ℕ) → c.home.place ≡ Idle state
      → is_output_at setting.protocol.home state g ≡ false → (j : ℕ)
      → is_enabled setting c (step.HomeSend g j) ≡ false
  sends-none state g idle inward j =
      named-none c (nat_lt j (count_of c)) (home_send setting (count_of c) c.home c.held g j)
      (home_send-none state g j idle inward)

  remote_tau-none : (remote : RemoteState) (g : ℕ) → idle_state remote.place ≡ None
      → remote_tau setting remote g ≡ None
  unfolding remote_tau
  remote_tau-none remote g busy = rw busy refl

  -- A remote that isn't idle takes no local step.
  pub taus-none : (j : ℕ) → j < count_of c
      → idle_state (slice_index_or c.remotes j nobody).place ≡ None → (g : ℕ)
      → is_enabled setting c (step.RemoteTau j g) ≡ false
  taus-none j within busy g =
      let remote = slice_index_or c.remotes j nobody in
      RemoteTau-enabled setting c j remote (slice_get-get_or c.remotes j nobody within) g
      ∙ ap is_some (remote_tau-none remote g busy)
