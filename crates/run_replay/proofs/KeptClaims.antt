-- A step that is refused and a stutter leave what the controllers stand for as it was, and so the
-- claim that is broken there.
use Rattle.std.proofs.Common.{◌≡◌, ℕ, List, Option, sym, ap, ◌∙◌}
use Rattle.std.proofs.lemmas.Option.{same_Some}
use Rattle.proto_model.specs.declared.numbered.NumberedClaim.{NumberedClaim}
use Rattle.proto_model.specs.declared.rendezvous.RvConfig.{RvConfig}
use Rattle.rendezvous_meaning.specs.Claims.{remote_states, broken}
use Rattle.controller_table.specs.Sound.{Tabled, protocol_of}
use Rattle.ordered_links.specs.Lists.{LinkPair}
use Rattle.async_shape.specs.Setting.{Setting}
use Rattle.async_shape.specs.Config.{Config}
use Rattle.async_shape.specs.Next.{next}
use Rattle.async_shape.specs.declared.step.Step.{Step}
use Rattle.async_machine.specs.Effects.{IsStep}
use Rattle.async_machine.specs.Standing.{Standing, setting, config}
use Rattle.async_machine.specs.declared.stepped.Stepped.{Stepped}
use Rattle.async_machine.specs.declared.stepped.Stepped.TheVariants as stepped
use Rattle.abstraction_map.specs.Abstraction.{abstraction}
use Rattle.abstraction_map.specs.Meant.{Means, IsMeant}
use Rattle.abstraction_map.specs.Told.{told as told_of}
use Rattle.abstraction_map.specs.declared.told.Told.{Told}
use Rattle.abstraction_map.specs.declared.told.Told.TheVariants as told
use Rattle.run_replay.specs.PlayedStep.{UnlessEvent, stands_for, Leads}

-- a step from one configuration to another, which is the one before where it is refused
module _ (setting : Setting) (c d : Config) where
  -- Unless it is told as an event, the abstractions before and after are the same.
  meaning-kept : (t : Told) (s : Stepped) (after : Option Config) → Means setting c t after
      → IsStep s c d after
      → UnlessEvent t (abstraction setting.protocol d ≡ abstraction setting.protocol c)
  meaning-kept told.Refused stepped.Moved after means leads = absurd (cc)
  meaning-kept told.Refused stepped.Refused after means leads =
      ap (abstraction setting.protocol) leads.1
  meaning-kept told.Stutter stepped.Moved after means leads =
      let same = same_Some d means.0 (sym leads ∙ means.1) in
      ap (abstraction setting.protocol) same ∙ means.2
  meaning-kept told.Stutter stepped.Refused after means leads = absurd (cc)
  meaning-kept (told.Is e) s after means leads = tt

-- What holds unless an event is told has what follows from it.
unless-weaker : {A B : Type 0} (t : Told) → (A → B) → UnlessEvent t A → UnlessEvent t B
unless-weaker told.Refused f a = f a
unless-weaker told.Stutter f a = f a
unless-weaker (told.Is e) f a = tt

-- So a machine stands for what it stood for before.
pub stands-kept : {L : Type 0} (lists : L → List LinkPair) (old new : Standing L) (s : Step)
    (stepped : Stepped) → IsMeant (setting old) (config lists old) s
    → Leads lists s stepped old new → new.table ≡ old.table
    → UnlessEvent (told_of (setting old) (config lists old) s)
    (stands_for lists new ≡ stands_for lists old)
stands-kept lists old new s stepped means leads table =
    let c = config lists old in
    let d = config lists new in
    unless-weaker (told_of (setting old) c s)
    (λ same. ap (λ (t : Tabled). abstraction (protocol_of t) d) table ∙ same)
    (meaning-kept (setting old) c d (told_of (setting old) c s) stepped (next (setting old) c s)
    means leads)

-- And the claim that is broken there is the one from before.
pub claims-kept : (t : Told) (claims : List NumberedClaim) (before after : RvConfig)
    (halts_at : Option ℕ) → UnlessEvent t (after ≡ before)
    → halts_at ≡ broken claims (remote_states before)
    → UnlessEvent t (halts_at ≡ broken claims (remote_states after))
claims-kept t claims before after halts_at still known =
    unless-weaker t
    (λ same. known ∙ sym (ap (λ (stands : RvConfig). broken claims (remote_states stands)) same))
    still
