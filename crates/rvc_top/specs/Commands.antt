-- What the commands do. Of what a reader must believe this file alone tells one command from
-- another: a run's verdict, its ending, and what it reads and leaves follow from the description of
-- its command.
use Rattle.std.specs.Prelude.{ℕ, ◌≡◌, ◌≤◌, ◌++◌, map, Option, Some, None, string_bytes}
use Rattle.proto_model.specs.Tokens.{Text}
use Rattle.proto_model.specs.LaidOut.{laid_out}
use Rattle.proto_model.specs.Numbered.{CheckedProtocol}
use Rattle.proto_model.specs.declared.mode.Mode.{Mode}
use Rattle.proto_model.specs.declared.protocol.Protocol.{Protocol}
use Rattle.schedule_replay.specs.Play.{Play}
use Rattle.schedule_replay.specs.ScheduleLimits.{schedule_limits}
use Rattle.schedule_replay.specs.Played.{Stop, AtEnd, AtLine, TooMany, Halted, played, trace}
use Rattle.schedule_replay.specs.Replayed.{WritesSo}
use Rattle.schedule_replay.specs.RvPlay.{rv_play, rv_watched}
use Rattle.schedule_replay.specs.declared.limits.Limits.{Limits}
use Rattle.schedule_replay.specs.declared.replaying.Replayed.TheVariants as replay
use Rattle.async_shape.specs.Setting.{Setting}
use Rattle.run_replay.specs.RunTrace.{run_play, run_start}
use Rattle.array_replay.specs.ArrayTrace.{array_play, array_begin}
use Rattle.lossy_replay.specs.LossyTrace.{lossy_play, lossy_start}
use Rattle.trace_audit.specs.Auditing.{audit_start}
use Rattle.trace_audit.specs.AuditedTrace.{Outcome, Accepted, RefusedAt, audited, audit_limits}
use Rattle.trace_audit.specs.AuditedTrace.{stop_of}
use Rattle.trace_audit.specs.Audits.{BreaksOff}
use Rattle.drive_report.specs.Drive.{summary}
use Rattle.drive_report.specs.SummaryText.{summary_text}
use Rattle.controller_table.specs.Sound.{table_in}
use Rattle.table_printer.specs.TableText.{table_text}
use Rattle.table_printer.specs.TableJson.{table_json}
use Rattle.rvc_top.specs.Texts.{usage_text, ok_text, bad_line_text, too_many_text, audit_ok_text}
use Rattle.rvc_top.specs.Texts.{bad_trace_text}
use Rattle.rvc_top.specs.Forms.{FileForm, spelled_form, checked_form}
use Rattle.rvc_top.specs.Stores.{Stored, stored_form, store_text, image_form}
use Rattle.rvc_top.specs.Words.{Words, meaning}
use Rattle.rvc_top.specs.Examples.{example_text}
use Rattle.rvc_top.specs.declared.boot.Booted.{Booted}
use Rattle.rvc_top.specs.declared.command.Command.{Command}
use Rattle.rvc_top.specs.declared.command.Command.TheVariants.{Print, Check, Rv, Run, Drive}
use Rattle.rvc_top.specs.declared.command.Command.TheVariants.{TableText}
use Rattle.rvc_top.specs.declared.command.Command.TheVariants.{TableJson, Example as ExampleText}
use Rattle.rvc_top.specs.declared.command.Command.TheVariants.{Lossy, Store, Boot, Audit, Lines}
use Rattle.rvc_top.specs.declared.command.Driving.{Driving}
use Rattle.rvc_top.specs.declared.status.Status.{Status}
use Rattle.rvc_top.specs.declared.status.Status.TheVariants.{Done, Usage, ScheduleRefused}
use Rattle.rvc_top.specs.declared.status.Status.TheVariants.{ClaimBroken}

-- ---- the parts of a description

-- With which status a run ends and which text it writes, where no source and no sink fails and
-- there is memory.
pub record Said : Type 0 where
  pub status : Status
  pub text : Text

-- The run is done with this text.
abbrev pub done : Text → Said
done text = record { status = Done; text = text }

-- What is done with a schedule: the claim that is broken before its first line, where one is; what
-- is said of the schedule, and where it ends; and what a read fault of it leaves in the sink, by
-- the schedule, what is left of it, and what the sink has taken before the run and after.
pub record Replay : Type 1 where
  pub broken : Option ℕ
  pub says : Text → Said
  pub stop : Text → Stop
  pub Leaves : Text → Option Text → Text → Option Text → Type 0

-- What a command does. It reads nothing, and writes one text; it reads a file that has a form, and
-- replies to what the file holds; or it reads such a file, and by what the file holds replays a
-- schedule within limits.
pub data Task : Type 1 where
  WritesText : Said → Task
  RepliesToFile : (Value : Type 0) → FileForm Value → (Value → Said) → Task
  ReplaysSchedule : (Value : Type 0) → FileForm Value → Limits → (Value → Replay) → Task

-- A description of a command: what is true of the numbers among its words, and what it does.
pub record Description : Type 1 where
  pub Numbers : Type 0
  pub task : Task

-- A command whose words have no numbers.
abbrev pub without_numbers : Task → Description
without_numbers task = record { Numbers = Unit {0}; task = task }

-- ---- a schedule that is played

-- What is said of a schedule that ends so, with this trace. Where it was played to its end, the run
-- is done with the trace. Where a claim is broken, the run ends with the trace too, which says so.
-- Where the schedule is refused, the text for that follows the trace.
abbrev pub said_at : Stop → Text → Said
said_at AtEnd text = done text
said_at (AtLine line) text = record { status = ScheduleRefused; text = text ++ bad_line_text line }
said_at TooMany text = record { status = ScheduleRefused; text = text ++ too_many_text }
said_at (Halted lines claim) text = record { status = ClaimBroken; text = text }

-- The schedule is played within these limits, from this state on. The claim that is broken at the
-- start, what is said of the schedule and where it ends are those of the playing; a read fault
-- leaves the blocks of the lines whose LF was taken.
abbrev pub played_so : {State Item : Type 0} → Play State Item → Limits → State → Replay
played_so play limits start = record {
  broken = play.halts start;
  says = λ schedule. said_at (played play limits start schedule).stop
      (trace play limits start schedule);
  stop = λ schedule. (played play limits start schedule).stop;
  Leaves = λ schedule left old new. WritesSo play limits start schedule left old new
      replay.ReadFault;
}

-- A schedule of events is played on the protocol's rendezvous meaning with n remotes, and the
-- file's claims are looked at before the first line and after each event.
abbrev pub rv_replay : ℕ → CheckedProtocol → Replay
rv_replay n protocol = played_so rv_play schedule_limits (rv_watched protocol n)

-- A schedule of steps is played on the two controllers of the protocol in this mode, with n remotes
-- and k slots, and the file's claims are looked at before the first line and after each step.
abbrev pub run_replay : ℕ → ℕ → Mode → CheckedProtocol → Replay
run_replay n k mode protocol = played_so run_play schedule_limits (run_start protocol mode n k)

-- A schedule of steps and of moves of the network is played on the two controllers of the protocol
-- in this mode, with n remotes and k slots, over links that lose, repeat and reorder. No claim is
-- looked at.
abbrev pub lossy_replay : ℕ → ℕ → Mode → CheckedProtocol → Replay
lossy_replay n k mode protocol =
    played_so lossy_play schedule_limits (lossy_start protocol.protocol mode n k)

-- A schedule of steps is played on the two controllers of the protocol in this mode, with n remotes
-- and k slots, once for each of so many cache lines, all over the same links. No claim is looked
-- at.
abbrev pub array_replay : ℕ → ℕ → Mode → ℕ → CheckedProtocol → Replay
array_replay n k mode lines protocol =
    played_so array_play schedule_limits (array_begin protocol.protocol mode n k lines)

-- A schedule of steps is played as `run` plays it on the protocol and in the mode of a control
-- store.
abbrev pub boot_replay : ℕ → ℕ → Booted → Replay
boot_replay n k booted = run_replay n k booted.mode booted.checked

-- What is said of a trace of which this is found: how many events it tells of, or its first line
-- that is refused.
abbrev pub audit_said : Outcome → Said
audit_said (Accepted events) = done (audit_ok_text events)
audit_said (RefusedAt line) = record { status = ScheduleRefused; text = bad_trace_text line }

-- The schedule is a trace of `run`, which is audited with n remotes. Nothing is written before it
-- is decided what is said of it, so a read fault leaves nothing, and what was taken before it shows
-- no line that is refused. No claim is looked at.
abbrev pub audit_replay : ℕ → CheckedProtocol → Replay
audit_replay n protocol = record {
  broken = None;
  says = λ text. audit_said (audited protocol.protocol n text);
  stop = λ text. stop_of audit_limits (audited protocol.protocol n text);
  Leaves = λ text left old new. (new ≡ Some old)
      × ((taken : Text) × BreaksOff audit_limits (audit_start protocol.protocol n) text left taken);
}

-- What the two controllers of a protocol are given before a run that a number chooses.
abbrev pub driven_setting : Driving → CheckedProtocol → Setting
driven_setting d protocol =
    record { protocol = protocol.protocol; mode = d.mode; slots = d.slots }

-- What is counted over a run of the two controllers that a number chooses.
abbrev pub drive_text : Driving → CheckedProtocol → Text
drive_text d protocol =
    summary_text (summary (driven_setting d protocol) d.remotes d.turns d.seed)

-- The numbers of a run that a number chooses are in their ranges.
abbrev pub AreDrivable : Driving → Type 0
AreDrivable d =
    ((1 ≤ d.remotes) × (d.remotes ≤ 64)) × ((2 ≤ d.slots) × (d.slots ≤ 64)) × (d.turns ≤ 100000)

-- ---- the commands

-- No command: the text that the words have no form. `print`: the laid-out text of the protocol that
-- the file spells. `check`: the numbers of the well-formed protocol's parts. `rv`: the trace of a
-- schedule of events on its rendezvous meaning with n remotes, from 1 to 64, up to where a claim of
-- the file is broken. `run`: the trace of a schedule of steps on its two controllers in a mode,
-- with n remotes and from 2 to 64 slots, up to there too. `drive`: what is counted over a run of
-- its controllers that a number chooses. `lossy`: the trace of a schedule of steps and of moves of
-- the network over links that lose, repeat and reorder, with as many remotes and slots. `store`:
-- the control store of the protocol in a mode. `boot`: what `run` does, for the protocol and the
-- mode of the control store that the file is. `audit`: what the rendezvous meaning says of a trace
-- with n remotes. `lines`: the trace of a schedule of steps for from 1 to 16 cache lines over the
-- same links. `table` and `json`: the text and the JSON of its table in a mode. `example`: the text
-- of the example.
abbrev pub describe : Option Command → Description
describe None = without_numbers (WritesText record { status = Usage; text = usage_text })
describe (Some Print) = without_numbers (RepliesToFile Protocol spelled_form
    (λ protocol. done (laid_out protocol)))
describe (Some Check) = without_numbers (RepliesToFile CheckedProtocol checked_form
    (λ protocol. done (ok_text protocol.protocol)))
describe (Some (Rv n)) = record {
  Numbers = (1 ≤ n) × (n ≤ 64);
  task = ReplaysSchedule CheckedProtocol checked_form schedule_limits (rv_replay n);
}
describe (Some (Run n k mode)) = record {
  Numbers = ((1 ≤ n) × (n ≤ 64)) × ((2 ≤ k) × (k ≤ 64));
  task = ReplaysSchedule CheckedProtocol checked_form schedule_limits (run_replay n k mode);
}
describe (Some (Drive d)) = record {
  Numbers = AreDrivable d;
  task = RepliesToFile CheckedProtocol checked_form (λ protocol. done (drive_text d protocol));
}
describe (Some (Lossy n k mode)) = record {
  Numbers = ((1 ≤ n) × (n ≤ 64)) × ((2 ≤ k) × (k ≤ 64));
  task = ReplaysSchedule CheckedProtocol checked_form schedule_limits (lossy_replay n k mode);
}
describe (Some (Store mode)) = without_numbers (RepliesToFile Stored stored_form
    (λ stored. done (store_text mode stored)))
describe (Some (Boot n k)) = record {
  Numbers = ((1 ≤ n) × (n ≤ 64)) × ((2 ≤ k) × (k ≤ 64));
  task = ReplaysSchedule Booted image_form schedule_limits (boot_replay n k);
}
describe (Some (Audit n)) = record {
  Numbers = (1 ≤ n) × (n ≤ 64);
  task = ReplaysSchedule CheckedProtocol checked_form audit_limits (audit_replay n);
}
describe (Some (Lines n k mode lines)) = record {
  Numbers = (((1 ≤ n) × (n ≤ 64)) × ((2 ≤ k) × (k ≤ 64))) × ((1 ≤ lines) × (lines ≤ 16));
  task = ReplaysSchedule CheckedProtocol checked_form schedule_limits
      (array_replay n k mode lines);
}
describe (Some (TableText mode)) = without_numbers (RepliesToFile CheckedProtocol checked_form
    (λ protocol. done (table_text (table_in protocol.protocol mode))))
describe (Some (TableJson mode)) = without_numbers (RepliesToFile CheckedProtocol checked_form
    (λ protocol. done (table_json (table_in protocol.protocol mode))))
describe (Some (ExampleText which)) = without_numbers (WritesText (done (example_text which)))

-- What a run over these words does.
abbrev pub asked : Words → Task
asked words = (describe (meaning (map string_bytes words))).task
