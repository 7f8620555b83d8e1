-- The rows of each kind of guard: each is the only one of its controller with its place and
-- trigger.
use Rattle.std.proofs.Common.{◌≡◌, ℕ, ◌<◌, Bool, true, length, Option, Some, slice_get}
use Rattle.std.proofs.Common.{refl, ap, ◌∙◌}
use Rattle.std.proofs.lemmas.Option.{same_Some}
use Rattle.proto_model.specs.Numbered.{NumberedProtocol}
use Rattle.proto_model.specs.ValueTypes.{message_in, message_out}
use Rattle.proto_model.specs.Pairs.{reply_of, replies_of}
use Rattle.proto_model.specs.declared.mode.Mode.{Mode}
use Rattle.proto_model.specs.declared.numbered.RuleExpr.{RuleExpr}
use Rattle.proto_model.specs.declared.numbered.RulePartner.{RulePartner}
use Rattle.proto_model.specs.declared.numbered.RuleKind.{RuleKind}
use Rattle.proto_model.specs.declared.numbered.RuleKind.TheVariants as action
use Rattle.proto_model.specs.declared.numbered.Rule.{Rule}
use Rattle.controller_table.specs.OneRow.{HasKey, IsOnlyRow}
use Rattle.controller_table.specs.Rows.{tau_row, send_row, answered_row, back_row, is_reply_down}
use Rattle.controller_table.specs.Rows.{is_reply_up, take_row, pay_row, pay_rows, due_row, due_rows}
use Rattle.controller_table.specs.Rows.{answer_row, home_output_rows, home_rows}
use Rattle.controller_table.specs.Rows.{remote_output_rows, remote_rows}
use Rattle.controller_table.specs.declared.rows.GuardId.{GuardId}
use Rattle.controller_table.specs.declared.rows.Place.{Place}
use Rattle.controller_table.specs.declared.rows.Trigger.{Trigger}
use Rattle.controller_table.specs.declared.rows.Trigger.TheVariants as trigger
use Rattle.controller_table.specs.declared.rows.Row.{Row}
use Rattle.async_shape.specs.Guards.{guard_by}
use Rattle.async_shape.proofs.RepliesThere.{reply_at-is}
use Rattle.async_shape.proofs.RowsAmong.{IsAmong, home-only, remote-only}

-- ---- the kind of a guard, by its message

-- the kind is an input of the message
record IsInputOf (m : ℕ) (kind : RuleKind) : Type 0 where
  from : RulePartner
  bound : Option ℕ
  is : kind ≡ action.Input from m bound

-- what takes a message is an input of it
input-is : (kind : RuleKind) (m : ℕ) → message_in kind ≡ Some m → IsInputOf m kind
input-is action.Tau m takes = absurd (cc)
input-is (action.Input p n bound) m takes = record {
  from = p;
  bound = bound;
  is = ap (λ (k : ℕ). action.Input p k bound) (same_Some n m takes);
}
input-is (action.Output p n sent) m takes = absurd (cc)

-- the kind is an output of the message
record IsOutputOf (m : ℕ) (kind : RuleKind) : Type 0 where
  to : RulePartner
  sent : Option RuleExpr
  is : kind ≡ action.Output to m sent

-- what gives a message is an output of it
output-is : (kind : RuleKind) (m : ℕ) → message_out kind ≡ Some m → IsOutputOf m kind
output-is action.Tau m gives = absurd (cc)
output-is (action.Input p n bound) m gives = absurd (cc)
output-is (action.Output p n sent) m gives = record {
  to = p;
  sent = sent;
  is = ap (λ (k : ℕ). action.Output p k sent) (same_Some n m gives);
}

-- ---- the home

-- of a guard of the home, at this place and by this trigger
module _ (protocol : NumberedProtocol) (mode : Mode) (g : GuardId) (rule : Rule) (at : Place)
    (on : Trigger) (there : guard_by protocol.home g ≡ Some rule) where
  -- the row is the only one of the home
  abbrev pub IsHomeRow : Row → Type 0
  IsHomeRow row = HasKey at on row → IsOnlyRow (home_rows protocol mode) at on (Some row)

  -- the row of a local step
  pub home_tau-only : rule.kind ≡ action.Tau → IsHomeRow (tau_row g rule)
  home_tau-only tau key =
      home-only protocol mode g rule action.Tau (tau_row g rule) at on there tau (0, refl) key

  -- the row by which a request is taken, whose message has this reply or none
  pub home_take-only : (m : ℕ) (reply : Option ℕ) → message_in rule.kind ≡ Some m
      → m < length protocol.messages → reply_of protocol mode m ≡ reply
      → IsHomeRow (take_row g rule reply)
  home_take-only m reply takes within same key =
      let of = input-is rule.kind m takes in
      let kind = action.Input of.from m of.bound in
      home-only protocol mode g rule kind (take_row g rule reply) at on there of.is (
        0,
        ap (λ (r : Option ℕ). Some (take_row g rule r))
            (reply_at-is protocol mode m ∙ same),
      )
      key

  -- of an output of this message
  module _ (m : ℕ) (out : message_out rule.kind ≡ Some m) where
    -- a row of the output is the only one
    home_output-only : (row : Row)
        → IsAmong row
        (home_output_rows protocol.messages (replies_of protocol mode) protocol.home g rule m)
        → IsHomeRow row
    home_output-only row is key =
        let of = output-is rule.kind m out in
        let kind = action.Output of.to m of.sent in
        home-only protocol mode g rule kind row at on there of.is is key

    -- the row that sends the request
    pub home_send-only : IsHomeRow (send_row g m)
    home_send-only key = home_output-only (send_row g m) (0, refl) key

    -- the row of the answer, by the reply of the message
    pub home_answered-only : (reply : Option ℕ) → m < length protocol.messages
        → reply_of protocol mode m ≡ reply → IsHomeRow (answered_row protocol.home g rule reply)
    home_answered-only reply within same key =
        home_output-only (answered_row protocol.home g rule reply) (
          1,
          ap (λ (r : Option ℕ). Some (answered_row protocol.home g rule r))
              (reply_at-is protocol mode m ∙ same),
        )
        key

    -- the row of a nack
    pub home_nack-only : IsHomeRow (back_row g trigger.GotNack)
    home_nack-only key = home_output-only (back_row g trigger.GotNack) (2, refl) key

    -- the row of a request that crosses
    pub home_crossing-only : IsHomeRow (back_row g trigger.GotRequest)
    home_crossing-only key = home_output-only (back_row g trigger.GotRequest) (3, refl) key

    -- the row by which the message is paid, where it is the reply of some up message
    pub home_pay-only : is_reply_down protocol.messages (replies_of protocol mode) m ≡ true
        → IsHomeRow (pay_row g rule m)
    home_pay-only is_reply key =
        home_output-only (pay_row g rule m)
        (4, ap (λ (b : Bool). slice_get (pay_rows b g rule m) 0) is_reply) key

-- ---- a remote

-- of a guard of a remote, at this place and by this trigger
module _ (protocol : NumberedProtocol) (mode : Mode) (g : GuardId) (rule : Rule) (at : Place)
    (on : Trigger) (there : guard_by protocol.remote g ≡ Some rule) where
  -- the row is the only one of a remote
  abbrev pub IsRemoteRow : Row → Type 0
  IsRemoteRow row = HasKey at on row → IsOnlyRow (remote_rows protocol mode) at on (Some row)

  -- the row of a local step
  pub remote_tau-only : rule.kind ≡ action.Tau → IsRemoteRow (tau_row g rule)
  remote_tau-only tau key =
      remote-only protocol mode g rule action.Tau (tau_row g rule) at on there tau (0, refl) key

  -- the row by which a request is answered, whose message has this reply or none
  pub remote_answer-only : (m : ℕ) (reply : Option ℕ) → message_in rule.kind ≡ Some m
      → m < length protocol.messages → reply_of protocol mode m ≡ reply
      → IsRemoteRow (answer_row g rule reply)
  remote_answer-only m reply takes within same key =
      let of = input-is rule.kind m takes in
      let kind = action.Input of.from m of.bound in
      remote-only protocol mode g rule kind (answer_row g rule reply) at on there of.is (
        0,
        ap (λ (r : Option ℕ). Some (answer_row g rule r))
            (reply_at-is protocol mode m ∙ same),
      )
      key

  -- of an output of this message
  module _ (m : ℕ) (out : message_out rule.kind ≡ Some m) where
    -- a row of the output is the only one
    remote_output-only : (row : Row)
        → IsAmong row
        (remote_output_rows protocol.messages (replies_of protocol mode) protocol.remote g rule m)
        → IsRemoteRow row
    remote_output-only row is key =
        let of = output-is rule.kind m out in
        let kind = action.Output of.to m of.sent in
        remote-only protocol mode g rule kind row at on there of.is is key

    -- the row that sends the request
    pub remote_send-only : IsRemoteRow (send_row g m)
    remote_send-only key = remote_output-only (send_row g m) (0, refl) key

    -- the row of the answer, by the reply of the message
    pub remote_answered-only : (reply : Option ℕ) → m < length protocol.messages
        → reply_of protocol mode m ≡ reply → IsRemoteRow (answered_row protocol.remote g rule reply)
    remote_answered-only reply within same key =
        remote_output-only (answered_row protocol.remote g rule reply) (
          1,
          ap (λ (r : Option ℕ). Some (answered_row protocol.remote g rule r))
              (reply_at-is protocol mode m ∙ same),
        )
        key

    -- the row of a nack
    pub remote_nack-only : IsRemoteRow (back_row g trigger.GotNack)
    remote_nack-only key = remote_output-only (back_row g trigger.GotNack) (2, refl) key

    -- the row by which the reply that is due is sent, where it is the reply of some down message
    pub remote_due-only : is_reply_up protocol.messages (replies_of protocol mode) m ≡ true
        → IsRemoteRow (due_row g rule m)
    remote_due-only is_reply key =
        remote_output-only (due_row g rule m)
        (3, ap (λ (b : Bool). slice_get (due_rows b g rule m) 0) is_reply) key
