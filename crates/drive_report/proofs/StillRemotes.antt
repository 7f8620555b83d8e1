-- Where no step is enabled, nothing is under way: each remote rests, or its request is held, or its
-- reply is owed.
use Rattle.std.proofs.Common.{◌≡◌, ℕ, ◌<◌, true, false, List, [], ◌∷◌, Option, Some, None}
use Rattle.std.proofs.Common.{is_some, slice_get, refl, sym, ap, ◌∙◌}
use Rattle.std.specs.Option.{option_map_or}
use Rattle.std.proofs.lemmas.Option.{slice_get-get_or}
use Rattle.rv_base.proofs.Lists.{some_and_then}
use Rattle.proto_model.specs.Numbered.{NumberedProtocol}
use Rattle.proto_model.specs.Proper.{IsProper, is_output_kind}
use Rattle.proto_model.specs.Guards.{guards_of, guard_at}
use Rattle.proto_model.specs.Values.{sends}
use Rattle.proto_model.specs.ValueTypes.{message_out}
use Rattle.proto_model.specs.RendezvousNext.{given}
use Rattle.proto_model.specs.declared.numbered.Value.{Value}
use Rattle.proto_model.specs.declared.numbered.RuleKind.{RuleKind}
use Rattle.proto_model.specs.declared.numbered.RuleKind.TheVariants as action
use Rattle.proto_model.specs.declared.numbered.MessageInfo.{MessageInfo}
use Rattle.proto_model.specs.declared.numbered.Rule.{Rule}
use Rattle.proto_model.proofs.ProperFacts.{remote_output-up, message_out-output}
use Rattle.controller_table.specs.declared.rows.GuardId.{GuardId}
use Rattle.controller_table.specs.declared.rows.Place.{Place}
use Rattle.controller_table.specs.declared.rows.Place.TheVariants.{Comm, Trans, Due}
use Rattle.ordered_links.specs.Lists.{first_packet}
use Rattle.ordered_links.specs.declared.packet.Packet.{Packet}
use Rattle.async_shape.specs.Setting.{Setting}
use Rattle.async_shape.specs.Config.{Config, count_of}
use Rattle.async_shape.specs.Guards.{Chosen, guard_by, active_guard}
use Rattle.async_shape.specs.Next.{is_enabled}
use Rattle.async_shape.specs.View.{View, nobody, view_at}
use Rattle.async_shape.specs.Phase.{Phase, Resting, RequestComes, RequestInSlot, AnswerGoes}
use Rattle.async_shape.specs.Phase.{ReplyIsDue, RequestGoes, RequestsCross, RequestCrossed}
use Rattle.async_shape.specs.Phase.{AnswerThenRequestGo, RequestIsHeld, AnswerComes, ReplyIsOwed}
use Rattle.async_shape.specs.Phase.{as_packet, signs_of, Has, is_idle_place, due_at, Fits}
use Rattle.async_shape.specs.Shape.{IsShaped}
use Rattle.async_shape.specs.declared.config.Request.{Request}
use Rattle.async_shape.specs.declared.step.Step.TheVariants as step
use Rattle.async_shape.proofs.GuardsFound.{guards_of-at, first_that-found}
use Rattle.async_shape.proofs.Phases.{IsIn}
use Rattle.async_shape.proofs.ShapeParts.{IsShaped-case}
use Rattle.drive_report.proofs.NoneReady.{NoneEnabled}
use Rattle.drive_report.proofs.EnabledByKind.{Up-enabled, Down-enabled, RemoteSend-enabled}
use Rattle.drive_report.proofs.EnabledByKind.{RemoteAnswer-enabled, RemoteReply-enabled}
use Rattle.drive_report.proofs.Doing.{given-there, remote_send-does, remote_answer-does}
use Rattle.drive_report.proofs.Doing.{remote_reply-does}

-- the phases in which nothing is under way
pub data StillPhase (setting : Setting) (v : View) : Type 0 where
  StillRests : IsIn setting v Resting → StillPhase setting v
  StillHeld : (q : Request) → IsIn setting v (RequestIsHeld q None) → StillPhase setting v
  StillOwed : (q : Request) (p : ℕ) → IsIn setting v (ReplyIsOwed q None p) → StillPhase setting v

-- an output is of some message
output-message : (kind : RuleKind) → is_output_kind kind ≡ true
    → (m : ℕ) × (message_out kind ≡ Some m)
output-message action.Tau output = absurd (cc)
output-message (action.Input p m bound) output = absurd (cc)
output-message (action.Output p m sent) output = (m, refl)

-- an idle remote stands in a state
pub idle-state : (place : Place) → is_idle_place place ≡ true
    → (state : ℕ) × (place ≡ Comm state)
idle-state (Comm state) idle = (state, refl)
idle-state (Trans g) idle = absurd (cc)
idle-state (Due g) idle = absurd (cc)

-- a remote that is due stands by a guard that is there
due-state : (protocol : NumberedProtocol) (place : Place) (p : ℕ) → due_at protocol place ≡ Some p
    → (g : GuardId) × (rule : Rule) × (place ≡ Due g) × (guard_by protocol.remote g ≡ Some rule)
    × (message_out rule.kind ≡ Some p)
due-state protocol (Comm state) p due = absurd (cc)
due-state protocol (Trans g) p due = absurd (cc)
due-state protocol (Due g) p due =
    let by = some_and_then (λ (r : Rule). message_out r.kind) (guard_by protocol.remote g) p due in
    (g, by.0, refl, by.1, by.2)

-- A remote's output gives a message.
pub remote-gives : (protocol : NumberedProtocol) (state g : ℕ) (rule : Rule) (vars : List Value)
    → IsProper protocol → guard_at protocol.remote state g ≡ Some rule
    → is_output_kind rule.kind ≡ true
    → (message : ℕ × Value) × (given protocol.messages vars rule.kind ≡ Some message)
remote-gives protocol state g rule vars proper there output =
    let of = output-message rule.kind output in
    by of.0 of.1 (slice_get protocol.messages of.0) refl
    (remote_output-up protocol state g rule proper of.0 there of.1)
  where
    by : (m : ℕ) → message_out rule.kind ≡ Some m → (o : Option MessageInfo)
        → slice_get protocol.messages m ≡ o → option_map_or (λ (i : MessageInfo). i.up) o false
        ≡ true
        → (message : ℕ × Value) × (given protocol.messages vars rule.kind ≡ Some message)
    by m out None is up = absurd (cc)
    by m out (Some info) is up = (
      (m, sends vars rule.kind info.carries),
      given-there protocol.messages vars rule m info out
          is,
    )

module _ (setting : Setting) (proper : IsProper setting.protocol) (c : Config)
    (none : NoneEnabled setting c) (j : ℕ) (within : j < count_of c) where
  -- the remote of the view is there
  pub remote-there : slice_get c.remotes j ≡ Some (view_at setting.protocol c j).remote
  remote-there = slice_get-get_or c.remotes j nobody within

  nothing-up : (first : Packet) (rest : List Packet)
      → (view_at setting.protocol c j).up ≡ first ∷ rest → ⊥
  nothing-up first rest up =
      let enabled : is_enabled setting c (step.Up j) ≡ true =
      Up-enabled setting c j within ∙ ap (λ (ps : List Packet). is_some (first_packet ps)) up in
      let not = none.none (step.Up j) within in
      cc

  nothing-down : (first : Packet) (rest : List Packet)
      → (view_at setting.protocol c j).down ≡ first ∷ rest → ⊥
  nothing-down first rest down =
      let enabled : is_enabled setting c (step.Down j) ≡ true =
      Down-enabled setting c j (view_at setting.protocol c j).remote remote-there
      ∙ ap (λ (ps : List Packet). is_some (first_packet ps)) down in
      let not = none.none (step.Down j) within in
      cc

  not-due : (p : ℕ) → due_at setting.protocol (view_at setting.protocol c j).remote.place ≡ Some p
      → ⊥
  not-due p due =
      let remote = (view_at setting.protocol c j).remote in
      let by = due-state setting.protocol remote.place p due in
      let gives =
      remote-gives setting.protocol by.0.state by.0.guard by.1 remote.vars proper by.3
      (message_out-output by.1.kind p by.4) in
      let enabled : is_enabled setting c (step.RemoteReply j) ≡ true =
      RemoteReply-enabled setting c j remote remote-there
      ∙ remote_reply-does setting j remote by.0 by.1 gives.0 by.2 by.3 gives.1 in
      let not = none.none (step.RemoteReply j) within in
      cc

  -- an idle remote stands in a passive state
  pub not-active : (state : ℕ) → (view_at setting.protocol c j).remote.place ≡ Comm state
      → active_guard (guards_of setting.protocol.remote state) ≡ None
  not-active state idle = by (active_guard (guards_of setting.protocol.remote state)) refl
    where
      by : (o : Option Chosen) → active_guard (guards_of setting.protocol.remote state) ≡ o
          → active_guard (guards_of setting.protocol.remote state) ≡ None
      by None is = is
      by (Some output) is =
          let remote = (view_at setting.protocol c j).remote in
          let body = setting.protocol.remote in
          let found =
          first_that-found (λ rule. is_output_kind rule.kind) (guards_of body state) output is in
          let there : guard_at body state output.number ≡ Some output.rule =
          sym (guards_of-at body state output.number) ∙ found.0 in
          let gives =
          remote-gives setting.protocol state output.number output.rule remote.vars proper there
          found.1 in
          let enabled : is_enabled setting c (step.RemoteSend j) ≡ true =
          RemoteSend-enabled setting c j remote remote-there
          ∙ remote_send-does setting j remote state idle output gives.0 is gives.1 in
          let not = none.none (step.RemoteSend j) within in
          absurd (cc)

  nothing-in_slot : (r : Request) → (view_at setting.protocol c j).remote.slot ≡ Some r
      → is_idle_place (view_at setting.protocol c j).remote.place ≡ true → ⊥
  nothing-in_slot r slot idle =
      let remote = (view_at setting.protocol c j).remote in
      let at = idle-state remote.place idle in
      let enabled : is_enabled setting c (step.RemoteAnswer j) ≡ true =
      RemoteAnswer-enabled setting c j remote remote-there
      ∙ remote_answer-does setting j remote at.0 at.1 r slot (not-active at.0 at.1) in
      let not = none.none (step.RemoteAnswer j) within in
      cc

  still-by : (phase : Phase) → Has (view_at setting.protocol c j) (signs_of phase)
      → Fits setting phase (view_at setting.protocol c j).remote
      → StillPhase setting (view_at setting.protocol c j)
  still-by Resting has fits = StillRests (record { has = has; fits = fits })
  still-by (RequestComes r) has fits = absurd (nothing-down (as_packet r) [] has.down)
  still-by (RequestInSlot r) has fits = absurd (nothing-in_slot r has.slot fits)
  still-by (AnswerGoes r answer) has fits = absurd (nothing-up answer [] has.up)
  still-by (ReplyIsDue r) has fits = absurd (not-due fits.0 fits.1)
  still-by (RequestGoes q) has fits = absurd (nothing-up (as_packet q) [] has.up)
  still-by (RequestsCross q r) has fits = absurd (nothing-up (as_packet q) [] has.up)
  still-by (RequestCrossed q r) has fits = absurd (nothing-up (as_packet q) [] has.up)
  still-by (AnswerThenRequestGo q r answer) has fits =
      absurd (nothing-up answer (as_packet q ∷ []) has.up)
  still-by (RequestIsHeld q None) has fits = StillHeld q (record { has = has; fits = fits })
  still-by (RequestIsHeld q (Some old)) has fits =
      absurd (nothing-down (as_packet old) [] has.down)
  still-by (AnswerComes q None answer None) has fits = absurd (nothing-down answer [] has.down)
  still-by (AnswerComes q None answer (Some r)) has fits =
      absurd (nothing-down answer (as_packet r ∷ []) has.down)
  still-by (AnswerComes q (Some old) answer None) has fits =
      absurd (nothing-down (as_packet old) (answer ∷ []) has.down)
  still-by (AnswerComes q (Some old) answer (Some r)) has fits =
      absurd (nothing-down (as_packet old) (answer ∷ as_packet r ∷ []) has.down)
  still-by (ReplyIsOwed q None p) has fits = StillOwed q p (record { has = has; fits = fits })
  still-by (ReplyIsOwed q (Some old) p) has fits =
      absurd (nothing-down (as_packet old) [] has.down)

  -- Nothing is under way.
  pub still-phase : IsShaped setting c → StillPhase setting (view_at setting.protocol c j)
  still-phase shaped =
      let is = (IsShaped-case setting c shaped j within).in_phase in
      still-by is.phase is.has is.fits
