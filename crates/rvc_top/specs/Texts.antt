-- The short texts that a run writes: of a refusal, of words that have no form, of a well-formed
-- protocol.
use Rattle.std.specs.Prelude.{ℕ, ◌++◌, length, codes, decimal}
use Rattle.proto_model.specs.Tokens.{Text}
use Rattle.proto_model.specs.Numbered.{NumberedProtocol}

-- The text for words that have no form.
abbrev pub usage_text : Text
usage_text = codes "error usage\n"

-- The text for a file with more bytes than a file may have.
abbrev pub too_long_text : Text
too_long_text = codes "error file too long\n"

-- The text for a file with a fault of this code on this line.
abbrev pub fault_text : ℕ → ℕ → Text
fault_text line code =
    codes "error file line " ++ (decimal line ++ (codes " code " ++ (decimal code ++ codes "\n")))

-- The text for a well-formed protocol: its name, and how many messages, states of the home and
-- states of the remote it has.
abbrev pub ok_text : NumberedProtocol → Text
ok_text protocol =
    codes "ok " ++ (protocol.name ++ (codes " messages " ++ (decimal (length protocol.messages)
    ++ (codes " home " ++ (decimal (length protocol.home.states)
    ++ (codes " remote " ++ (decimal (length protocol.remote.states) ++ codes "\n")))))))

-- The text for a schedule whose line with this number, counted from 1, is malformed or too long.
abbrev pub bad_line_text : ℕ → Text
bad_line_text line = codes "error schedule line " ++ (decimal line ++ codes "\n")

-- The text for a schedule with more lines than it may have.
abbrev pub too_many_text : Text
too_many_text = codes "error schedule too long\n"

-- The text for a trace that is accepted, which shows so many events.
abbrev pub audit_ok_text : ℕ → Text
audit_ok_text events = codes "audit ok " ++ (decimal events ++ codes "\n")

-- The text for a trace whose line with this number, counted from 1, is the first that is refused.
abbrev pub bad_trace_text : ℕ → Text
bad_trace_text line = codes "error trace line " ++ (decimal line ++ codes "\n")
