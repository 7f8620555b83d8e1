-- What a used name means: the first declaration that has it.
use Rattle.std.specs.Prelude.{ℕ, Bool, List, Option, is_some, map, slice_get}
use Rattle.std.specs.Option.{option_and_then}
use Rattle.std.specs.List.{position_from}
use Rattle.std.specs.Str.{bytes_eq}
use Rattle.proto_model.specs.Tokens.{Text}
use Rattle.proto_model.specs.declared.protocol.Message.{Message}
use Rattle.proto_model.specs.declared.protocol.Var.{Var}
use Rattle.proto_model.specs.declared.protocol.State.{State}

-- the place, counted from 0, of the first of the declared names that is this one
abbrev pub place_of : Text → List Text → Option ℕ
place_of name names = position_from (bytes_eq name) 0 names

-- one of the declared names is this one
abbrev pub is_declared : Text → List Text → Bool
is_declared name names = is_some (place_of name names)

-- the names of the messages, in file order
abbrev pub message_names : List Message → List Text
message_names messages = map (λ m. m.name) messages

-- the names of the variables, in file order
abbrev pub var_names : List Var → List Text
var_names vars = map (λ v. v.name) vars

-- the names of the states, in file order
abbrev pub state_names : List State → List Text
state_names states = map (λ s. s.name) states

-- the message that the name means
abbrev pub message_of : List Message → Text → Option Message
message_of messages name =
    option_and_then (λ place. slice_get messages place) (place_of name (message_names messages))

-- the variable that the name means
abbrev pub var_of : List Var → Text → Option Var
var_of vars name = option_and_then (λ place. slice_get vars place) (place_of name (var_names vars))
