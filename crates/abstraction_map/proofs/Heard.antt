-- Where a process stands that hears the answer to its request: the guards that the answer completes
-- are there.
use Rattle.std.proofs.Common.{◌≡◌, ℕ, true, List, Option, Some, refl}
use Rattle.proto_model.specs.Proper.{IsProper}
use Rattle.proto_model.specs.Guards.{part, guards_of, only_of}
use Rattle.proto_model.specs.ValueTypes.{message_out}
use Rattle.proto_model.specs.declared.numbered.Value.{Value}
use Rattle.proto_model.specs.declared.numbered.Rule.{Rule}
use Rattle.proto_model.specs.declared.numbered.Body.{Body}
use Rattle.proto_model.specs.declared.rendezvous.Part.{Part}
use Rattle.controller_table.specs.declared.rows.GuardId.{GuardId}
use Rattle.ordered_links.specs.declared.packet.Packet.{Packet}
use Rattle.ordered_links.specs.declared.packet.Packet.TheVariants as packet
use Rattle.async_shape.specs.Setting.{Setting, reply_to}
use Rattle.async_shape.specs.Guards.{guard_by}
use Rattle.async_shape.specs.Phase.{is_answer}
use Rattle.proto_model.proofs.ProperFacts.{home_output-awaits, remote_output-awaits}
use Rattle.async_shape.proofs.Completed.{is_answer-reply, first_part, second_part, after_ack-is}
use Rattle.async_shape.proofs.Completed.{after_reply-is}
use Rattle.abstraction_map.proofs.ByCase.{part_heard}

-- A process that waits by this guard, with this partner, stands somewhere after it has heard this
-- packet.
abbrev pub Hears : Body → List Value → GuardId → ℕ → Packet → Type 0
Hears body vars g partner arrived =
    (now : Part) × (part_heard body vars g partner arrived ≡ Some now)

-- One that waits by a guard that is there hears an answer, where the next state has one guard alone
-- if the answer is a reply.
hears-answer : (body : Body) (vars : List Value) (g : GuardId) (partner : ℕ) (rule : Rule)
    (reply : Option ℕ) (answer : Packet) → guard_by body g ≡ Some rule
    → ((p : ℕ) → reply ≡ Some p → (next : Rule) × (only_of (guards_of body rule.next) ≡ Some next))
    → is_answer reply answer ≡ true → Hears body vars g partner answer
hears-answer body vars g partner rule reply (packet.Request m v) there next answers = absurd (cc)
hears-answer body vars g partner rule reply packet.Ack there next answers =
    (first_part body vars g partner rule there, after_ack-is body vars g partner rule there)
hears-answer body vars g partner rule reply packet.Nack there next answers =
    (part g.state vars, refl)
hears-answer body vars g partner rule reply (packet.Reply p v) there next answers =
    let second = next p (is_answer-reply reply p v answers) in (
      second_part body vars g partner rule there second.0 v,
      after_reply-is body vars g partner rule there second.0 v second.1,
    )

module _ (setting : Setting) (proper : IsProper setting.protocol) (g : GuardId) (rule : Rule)
    (m : ℕ) (out : message_out rule.kind ≡ Some m) (vars : List Value) (partner : ℕ)
    (answer : Packet) (answers : is_answer (reply_to setting m) answer ≡ true) where
  -- The home hears the answer to the request that this guard sends.
  pub home-hears : guard_by setting.protocol.home g ≡ Some rule
      → Hears setting.protocol.home vars g partner answer
  home-hears there =
      hears-answer setting.protocol.home vars g partner rule (reply_to setting m) answer there
      (λ p reply.
      let awaits =
      home_output-awaits setting.protocol setting.mode g.state g.guard rule m p proper reply there
      out in
      (awaits.next, awaits.one.only))
      answers

  -- A remote hears the answer to the request that this guard sends.
  pub remote-hears : guard_by setting.protocol.remote g ≡ Some rule
      → Hears setting.protocol.remote vars g partner answer
  remote-hears there =
      hears-answer setting.protocol.remote vars g partner rule (reply_to setting m) answer there
      (λ p reply.
      let awaits =
      remote_output-awaits setting.protocol setting.mode g.state g.guard rule m p proper reply there
      out in
      (awaits.next, awaits.one.only))
      answers
