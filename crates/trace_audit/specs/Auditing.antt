-- How a trace of `run` is audited line by line, with the rendezvous meaning alone.
--
-- A trace has three parts. In the first each step has a line, which is followed by lines that show
-- where controllers stand; the line `end` ends it. In the second, lines show where controllers
-- stand; the line `abstract` ends it. The third shows the rendezvous configuration for which they
-- stand. Lines that begin with two spaces are passed over in the first two parts. What the lines of
-- steps tell is carried out on the rendezvous configuration.
use Rattle.std.specs.Prelude.{ℕ, zero, suc, ◌+◌, Bool, false, nat_eq, ◌||◌, ◌==◌, if◌then◌else◌}
use Rattle.std.specs.Prelude.{◌++◌, length, drop, Option, Some, None, position}
use Rattle.std.specs.Prelude.{bytes_eq, codes, decimal}
use Rattle.std.specs.Option.{option_map, option_and_then}
use Rattle.std.specs.List.{starts_with}
use Rattle.proto_model.specs.Tokens.{Text}
use Rattle.proto_model.specs.Numbered.{NumberedProtocol}
use Rattle.proto_model.specs.Rendezvous.{rv_start}
use Rattle.proto_model.specs.RendezvousNext.{rv_next}
use Rattle.proto_model.specs.declared.rendezvous.RvConfig.{RvConfig}
use Rattle.proto_model.specs.declared.rendezvous.Event.{Event}
use Rattle.rendezvous_meaning.specs.GivenMessage.{event_told}
use Rattle.rendezvous_meaning.specs.Standing.{Standing}
use Rattle.schedule_replay.specs.EventLines.{leading_event}
use Rattle.schedule_replay.specs.RvPlay.{home_line, remote_line}
use Rattle.trace_audit.specs.declared.auditor.Section.{Section}
use Rattle.trace_audit.specs.declared.auditor.Section.TheVariants.{Steps, States, Abstraction}

-- How far a trace was audited.
pub record Auditing : Type 0 where
  -- Where the next line stands: in the part of the steps, of which so many were told; among the
  -- lines of the controllers; or among those of the abstraction, of which so many were seen.
  pub section : Section
  -- how many events were told
  pub events : ℕ
  -- the protocol, and the rendezvous configuration to which these events lead
  pub standing : Standing

-- Before the first line: the protocol with n remotes at the start.
abbrev pub audit_start : NumberedProtocol → ℕ → Auditing
audit_start protocol n = record {
  section = Steps 0;
  events = 0;
  standing = record { protocol = protocol; config = rv_start protocol n };
}

-- ---- the line of a step

-- What stands behind this front, where the bytes begin with it.
abbrev pub behind : Text → Text → Option Text
behind front bytes =
    if starts_with nat_eq bytes front then Some (drop (length front) bytes) else None

-- The byte is `:`.
abbrev pub is_colon : ℕ → Bool
is_colon b = b == 58

-- The told words, of bytes that have the first `:` at this place: there is at least one byte before
-- it, and one space follows it.
abbrev pub told_at : Text → ℕ → Option Text
told_at bytes zero = None
told_at bytes (suc place) = behind (codes ": ") (drop (suc place) bytes)

-- The told words, of what stands behind a step's number: at least one byte, none of which is `:`,
-- then `: ` and the told words.
abbrev pub told_behind : Text → Option Text
told_behind bytes = option_and_then (told_at bytes) (position is_colon bytes)

-- The words that this line tells of the step with this number; none where it is no line of it. The
-- line is the number, one space, at least one byte none of which is `:`, then `: ` and the words.
abbrev pub told_of : ℕ → Text → Option Text
told_of number line = option_and_then told_behind (behind (decimal number ++ codes " ") line)

-- ---- what is told

-- The words tell of no event.
abbrev pub is_quiet : Text → Bool
is_quiet words = bytes_eq words (codes "refused") || bytes_eq words (codes "stutter")

-- The configuration to which this event leads, where the words tell it: they are the event, and the
-- message with the value that the sender gives in it. None where they are others, or the event
-- doesn't take place.
abbrev pub after_event : Standing → Text → Event → Option RvConfig
after_event standing words e =
    if bytes_eq words (event_told standing.protocol standing.config e)
    then rv_next standing.protocol standing.config e else None

-- The configuration to which the event leads that the words tell.
abbrev pub after_words : Standing → Text → Option RvConfig
after_words standing words = option_and_then (after_event standing words) (leading_event words)

-- ---- the lines

-- The line begins with two spaces.
abbrev pub is_indented : Text → Bool
is_indented line = starts_with nat_eq line (codes "  ")

-- The rendezvous line of the home, and then those of the remotes, in the order of their numbers; no
-- text behind these.
abbrev pub abstraction_text : Standing → ℕ → Text
abstraction_text standing zero = home_line standing
abstraction_text standing (suc j) = remote_line standing j

module _ (at : Auditing) where
  -- the next line stands in this part
  abbrev pub in_section : Section → Auditing
  in_section section =
      record { section = section; events = at.events; standing = at.standing }

  -- A step was told, the one with this number, and with it an event that leads here.
  abbrev pub with_event : ℕ → RvConfig → Auditing
  with_event number config = record {
    section = Steps number;
    events = at.events + 1;
    standing = record { protocol = at.standing.protocol; config = config };
  }

  -- These words are told of the step with this number: `refused` or `stutter`, or an event that
  -- takes place, with its message.
  abbrev pub hear : ℕ → Text → Option Auditing
  hear number words =
      if is_quiet words then Some (in_section (Steps number))
      else option_map (with_event number) (after_words at.standing words)

  -- A line of the first part, where so many steps were told.
  abbrev pub steps_line : ℕ → Text → Option Auditing
  steps_line told line =
      if is_indented line then Some at
      else (if bytes_eq line (codes "end") then Some (in_section States)
      else option_and_then (hear (told + 1)) (told_of (told + 1) line))

  -- A line of the second part.
  abbrev pub states_line : Text → Option Auditing
  states_line line =
      if is_indented line then Some at
      else (if bytes_eq line (codes "abstract") then Some (in_section (Abstraction 0)) else None)

  -- A line of the third part, where so many were seen: with its LF it is the rendezvous line of the
  -- next process.
  abbrev pub abstraction_line : ℕ → Text → Option Auditing
  abstraction_line seen line =
      if bytes_eq (line ++ codes "\n") (abstraction_text at.standing seen)
      then Some (in_section (Abstraction (seen + 1))) else None

  -- A line that stands in this part.
  abbrev pub line_in : Section → Text → Option Auditing
  line_in (Steps told) line = steps_line told line
  line_in States line = states_line line
  line_in (Abstraction seen) line = abstraction_line seen line

  -- All lines were seen that stand in this part and behind it: there is one for the home and one
  -- for each remote.
  abbrev pub is_last : Section → Bool
  is_last (Steps told) = false
  is_last States = false
  is_last (Abstraction seen) = seen == length at.standing.config.remotes + 1

-- How far the trace is audited after a line, without its LF; none where the line is refused.
abbrev pub audit_line : Auditing → Text → Option Auditing
audit_line at line = line_in at at.section line

-- The trace may end here.
abbrev pub is_whole : Auditing → Bool
is_whole at = is_last at at.section
