-- Which guards a pass looks at, and the reply to which such a guard leads.
use Rattle.std.specs.Prelude.{ℕ, ◌<◌, if◌then◌else◌}
use Rattle.std.specs.Prelude.{Option, None, option_and_then, IfSome}
use Rattle.std.specs.List.{AllByRecursion}
use Rattle.proto_model.specs.Guards.{only_next}
use Rattle.proto_model.specs.ValueTypes.{message_in, message_out}
use Rattle.proto_model.specs.Pairs.{no_atoms, is_from, leaves_alone, output_var}
use Rattle.proto_model.specs.declared.numbered.Rule.{Rule}
use Rattle.proto_model.specs.declared.numbered.Body.{Body}
use Rattle.request_reply.specs.declared.look.Look.{Look}
use Rattle.request_reply.specs.declared.look.Look.TheVariants as look

-- the message of the guard, where it is an input without a condition
abbrev pub awaited : Rule → Option ℕ
awaited rule = if no_atoms rule.conds then message_in rule.kind else None

-- the message that the guard awaits from the remote that variable x holds
abbrev pub awaited_from : ℕ → Rule → Option ℕ
awaited_from x rule = if is_from x rule.kind then awaited rule else None

-- What the state behind an output awaits from the remote to which it goes, which variable x holds
-- then, unless the output assigns another value to x.
abbrev pub awaited_of_target : Body → Rule → ℕ → Option ℕ
awaited_of_target home rule x =
    if leaves_alone x rule then option_and_then (awaited_from x) (only_next home rule) else None

-- the message that the state behind the home's output awaits from the remote to which it goes
abbrev pub awaited_from_target : Body → Rule → Option ℕ
awaited_from_target home rule = option_and_then (awaited_of_target home rule) (output_var rule.kind)

-- the message of the guard, where the guard is looked at
abbrev pub message_at : Look → Rule → Option ℕ
message_at look.RemoteOutputs rule = message_out rule.kind
message_at look.HomeOutputs rule = message_out rule.kind
message_at look.RemoteInputs rule = message_in rule.kind

-- where the guard is looked at, its message is one of so many
abbrev pub IsAmong : ℕ → Look → Rule → Type 0
IsAmong count look rule = IfSome (message_at look rule) (λ m. m < count)

-- and so is that of each guard of the process
abbrev pub AreAmong : ℕ → Look → Body → Type 0
AreAmong count look body =
    AllByRecursion (λ state. AllByRecursion (IsAmong count look) state.rules) body.states

-- the reply to which a guard of this process leads
abbrev pub reply_behind : Look → Body → Rule → Option ℕ
reply_behind look.RemoteOutputs body rule = option_and_then awaited (only_next body rule)
reply_behind look.HomeOutputs body rule = awaited_from_target body rule
reply_behind look.RemoteInputs body rule =
    option_and_then (λ next. message_out next.kind) (only_next body rule)
