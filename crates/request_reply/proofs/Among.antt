-- The message of each rule of a proper process is one of the protocol's.
use Rattle.std.proofs.Common.{◌≡◌, ℕ, ◌<◌, List, [], ◌∷◌, length, IfSome}
use Rattle.std.specs.List.{AllByRecursion}
use Rattle.proto_model.specs.ValueTypes.{message_in, message_out}
use Rattle.proto_model.specs.Proper.{IsActionInRange, IsProperBody, IsProperState, IsProperRule}
use Rattle.proto_model.specs.declared.numbered.Side.{Side}
use Rattle.proto_model.specs.declared.numbered.RuleKind.{RuleKind}
use Rattle.proto_model.specs.declared.numbered.RuleKind.TheVariants as action
use Rattle.proto_model.specs.declared.numbered.Rule.{Rule}
use Rattle.proto_model.specs.declared.numbered.StateInfo.{StateInfo}
use Rattle.proto_model.specs.declared.numbered.VarInfo.{VarInfo}
use Rattle.proto_model.specs.declared.numbered.MessageInfo.{MessageInfo}
use Rattle.proto_model.specs.declared.numbered.Body.{Body}
use Rattle.request_reply.specs.Looks.{IsAmong}
use Rattle.request_reply.specs.declared.look.Look.{Look}
use Rattle.request_reply.specs.declared.look.Look.TheVariants.{RemoteOutputs, HomeOutputs}
use Rattle.request_reply.specs.declared.look.Look.TheVariants.{RemoteInputs}

out_among : (vars count : ℕ) (k : RuleKind) → IsActionInRange vars count k
    → IfSome (message_out k) (λ m. m < count)
out_among vars count action.Tau in_range = tt
out_among vars count (action.Input p m bound) in_range = tt
out_among vars count (action.Output p m sent) in_range = in_range.1

in_among : (vars count : ℕ) (k : RuleKind) → IsActionInRange vars count k
    → IfSome (message_in k) (λ m. m < count)
in_among vars count action.Tau in_range = tt
in_among vars count (action.Input p m bound) in_range = in_range.1
in_among vars count (action.Output p m sent) in_range = tt

rule_among : (look : Look) (vars count : ℕ) (rule : Rule) → IsActionInRange vars count rule.kind
    → IsAmong count look rule
rule_among RemoteOutputs vars count rule in_range = out_among vars count rule.kind in_range
rule_among HomeOutputs vars count rule in_range = out_among vars count rule.kind in_range
rule_among RemoteInputs vars count rule in_range = in_among vars count rule.kind in_range

rules_among : (look : Look) (s : Side) (messages : List MessageInfo) (vars : List VarInfo)
    (count : ℕ) (rules : List Rule)
    → AllByRecursion (IsProperRule s messages vars count) rules
    → AllByRecursion (IsAmong (length messages) look) rules
rules_among look s messages vars count [] each = tt
rules_among look s messages vars count (rule ∷ rules) each = (
  rule_among look (length vars) (length messages) rule each.0.action.in_range,
  rules_among look s
      messages vars count rules each.1,
)

states_among : (look : Look) (s : Side) (messages : List MessageInfo) (vars : List VarInfo)
    (count : ℕ) (states : List StateInfo)
    → AllByRecursion (IsProperState s messages vars count) states
    → AllByRecursion (λ state. AllByRecursion (IsAmong (length messages) look) state.rules) states
states_among look s messages vars count [] each = tt
states_among look s messages vars count (state ∷ states) each = (
  rules_among look s messages vars count state.rules each.0.rules,
  states_among look s messages
      vars count states each.1,
)

-- of a body that a call handed out, beside the messages that another did
pub body_among : (look : Look) (s : Side) (messages : List MessageInfo) (body : Body)
    (given : List MessageInfo) (got : Body)
    → IsProperBody s messages body → given ≡ messages → got ≡ body
    → AllByRecursion (λ state. AllByRecursion (IsAmong (length given) look) state.rules) got.states
body_among look s messages body given got proper same_messages same_body =
    rw (same_messages, same_body)
    (states_among look s messages body.vars (length body.states) body.states proper.states)
