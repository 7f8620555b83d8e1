-- The row that tells where a guard goes: the one whose completed guards begin with it.
use Rattle.std.specs.Prelude.{ℕ, List, Option, Some, None}
use Rattle.proto_model.specs.declared.numbered.RuleKind.{RuleKind}
use Rattle.proto_model.specs.declared.numbered.RuleKind.TheVariants as action
use Rattle.controller_table.specs.Rows.{reply_at}
use Rattle.controller_table.specs.declared.rows.GuardId.{GuardId}
use Rattle.controller_table.specs.declared.rows.Place.{Place}
use Rattle.controller_table.specs.declared.rows.Place.TheVariants.{Comm, Trans}
use Rattle.controller_table.specs.declared.rows.Trigger.{Trigger}
use Rattle.controller_table.specs.declared.rows.Trigger.TheVariants.{Tau, Take, Answer, GotAck}
use Rattle.controller_table.specs.declared.rows.Trigger.TheVariants.{GotReply}

-- an output is completed when its request is answered, by an ack or by the reply
abbrev pub answered_key : GuardId → Option ℕ → Place × Trigger
answered_key g None = (Trans g, GotAck)
answered_key g (Some p) = (Trans g, GotReply p)

-- where these are the replies of all messages
module _ (replies : List (Option ℕ)) where
  -- the place and the trigger of the row that completes this guard of the home first
  abbrev pub home_key : GuardId → RuleKind → Place × Trigger
  home_key g action.Tau = (Comm g.state, Tau g.guard)
  home_key g (action.Input p m bound) = (Comm g.state, Take g.guard)
  home_key g (action.Output p m sent) = answered_key g (reply_at replies m)

  -- the place and the trigger of the row that completes this guard of a remote first
  abbrev pub remote_key : GuardId → RuleKind → Place × Trigger
  remote_key g action.Tau = (Comm g.state, Tau g.guard)
  remote_key g (action.Input p m bound) = (Comm g.state, Answer g.guard)
  remote_key g (action.Output p m sent) = answered_key g (reply_at replies m)
