-- What `read` answers.
use Rattle.std.specs.Prelude.{◌≡◌, ◌≤◌, ◌<◌, ℕ, length, Result, Ok, Err}
use Rattle.rv_base.specs.Whole.{file_limit}
use Rattle.proto_model.specs.Tokens.{Text}
use Rattle.proto_model.specs.Spelled.{Spells, IsFaultLine, item_lines}
use Rattle.proto_model.specs.declared.protocol.Protocol.{Protocol}
use Rattle.protocol_reader.specs.declared.Spelled.{Spelled}
use Rattle.protocol_reader.specs.declared.error.ReadError.{ReadError}
use Rattle.protocol_reader.specs.declared.error.ReadError.TheVariants.{TooLong, Syntax, NoMemory}

-- the bytes spell what is read, and the lines are those of its items
abbrev pub IsSpelled : Text → Spelled → Type 0
IsSpelled bytes s =
    (length bytes ≤ file_limit) × Spells bytes s.protocol × (s.lines ≡ item_lines bytes s.protocol)

-- each error comes only for its cause; want of memory needs none
abbrev pub HasCause : Text → ReadError → Type 0
HasCause bytes TooLong = file_limit < length bytes
HasCause bytes (Syntax line) = (length bytes ≤ file_limit) × IsFaultLine bytes line
HasCause bytes NoMemory = Unit {0}

-- this protocol is read, unless memory runs out
abbrev pub ReadsAs : Protocol → Result Spelled ReadError → Type 0
ReadsAs p (Ok s) = s.protocol ≡ p
ReadsAs p (Err NoMemory) = Unit {0}
ReadsAs p (Err TooLong) = ⊥
ReadsAs p (Err (Syntax line)) = ⊥

-- the file is too long, unless memory runs out
abbrev pub IsTooLong : Result Spelled ReadError → Type 0
IsTooLong (Err TooLong) = Unit {0}
IsTooLong (Err NoMemory) = Unit {0}
IsTooLong (Err (Syntax line)) = ⊥
IsTooLong (Ok s) = ⊥

-- the fault of syntax is told with this line, unless memory runs out
abbrev pub IsRefusedAt : ℕ → Result Spelled ReadError → Type 0
IsRefusedAt line (Err (Syntax n)) = n ≡ line
IsRefusedAt line (Err NoMemory) = Unit {0}
IsRefusedAt line (Err TooLong) = ⊥
IsRefusedAt line (Ok s) = ⊥
