-- A trace that is played to its end is accepted.
use Rattle.std.proofs.Common.{◌≡◌, ◌≢◌, ◌≤◌, ◌+◌, ℕ, suc, Bool, true, List}
use Rattle.std.proofs.Common.{[], ◌∷◌}
use Rattle.std.proofs.Common.{◌++◌, length, arith, sym, ap, ◌∙◌, subst}
use Rattle.std.proofs.Common.{append-nil, if◌then◌else◌}
use Rattle.std.specs.Prelude.{Result, Ok}
use Rattle.std.specs.List.{AllByRecursion}
use Rattle.std.proofs.lemmas.List.Elements.{All-nil}
use Rattle.proto_model.specs.Tokens.{Text}
use Rattle.proto_model.specs.Numbered.{NumberedProtocol, CheckedProtocol}
use Rattle.proto_model.specs.Proper.{IsProper}
use Rattle.proto_model.specs.Rendezvous.{rv_start}
use Rattle.proto_model.specs.declared.mode.Mode.{Mode}
use Rattle.proto_model.specs.declared.rendezvous.RvConfig.{RvConfig}
use Rattle.schedule_replay.specs.ScheduleLimits.{schedule_limits}
use Rattle.schedule_replay.specs.TextLines.{joined, lines_of, closed_lines, open_part}
use Rattle.schedule_replay.specs.Played.{Stop, AtEnd, Played, played}
use Rattle.schedule_replay.specs.Played.{trace}
use Rattle.schedule_replay.specs.Played.{played_text, last_text}
use Rattle.schedule_replay.proofs.ClosedLines.{EachLine, closed_lines-joined, open_part-joined}
use Rattle.async_shape.specs.Config.{start}
use Rattle.async_shape.proofs.Start.{IsShaped-start}
use Rattle.abstraction_map.specs.Abstraction.{abstraction}
use Rattle.abstraction_map.proofs.StartMeans.{abstraction-start}
use Rattle.run_replay.specs.RunTrace.{Running, run_play, run_start, run_ending}
use Rattle.trace_audit.specs.Auditing.{Auditing, audit_start, is_whole}
use Rattle.trace_audit.specs.AuditedTrace.{audited, after_lines, found}
use Rattle.trace_audit.specs.AuditedTrace.{audit_limits, Accepted, RefusedAt}
use Rattle.trace_soundness.proofs.Plain.{IsPlain}
use Rattle.trace_soundness.specs.Passing.{IsAccepted}
use Rattle.trace_soundness.proofs.Goes.{Goes, IsTraceLine, goes-append}
use Rattle.trace_soundness.proofs.StepLine.{at_steps}
use Rattle.trace_soundness.proofs.BlocksPlayed.{PlayedGoes, schedule-goes, stands_for}
use Rattle.trace_soundness.proofs.EndingGoes.{ending-goes, ending-whole, at_abstraction}

-- none of these lines holds an LF
pub each-line : (lines : List Text) → AllByRecursion IsTraceLine lines → EachLine lines
each-line [] each = tt
each-line (line ∷ lines) each = (each.0.one_line, each-line lines each.1)

-- Lines that lead the auditor to where a trace may end are accepted.
goes-accepted : (most : ℕ) (protocol : NumberedProtocol) (n : ℕ) (to : Auditing) (text : Text)
    → Goes most (audit_start protocol n) to text → most ≤ 5000000 → is_whole to ≡ true
    → audited protocol n text ≡ Accepted to.events
goes-accepted most protocol n to text goes few whole =
    let lines = goes.lines in
    let each = each-line lines goes.each in
    let none = All-nil (λ b. b ≢ 10) in
    let joined_is : joined lines ++ [] ≡ text = append-nil (joined lines) ∙ sym goes.is in
    let closed : closed_lines text ≡ lines =
    ap closed_lines (sym joined_is) ∙ closed_lines-joined lines [] each none in
    let rest : open_part text ≡ [] =
    ap open_part (sym joined_is) ∙ open_part-joined lines [] each none in
    let count : length lines ≤ most = goes.few in
    let leads : after_lines audit_limits 0 (audit_start protocol n) lines ≡ Ok to =
    goes.leads 0 (omega (arith, count, few)) in
    ap (λ (ls : List Text). found (length ls)
    (after_lines audit_limits 0 (audit_start protocol n) ls)
    (open_part text)) closed
    ∙ ap (λ (part : Text). found (length lines)
    (after_lines audit_limits 0 (audit_start protocol n) lines) part) rest
    ∙ ap (λ (at : Result Auditing ℕ). found (length lines) at []) leads
    ∙ ap (λ (is : Bool). if is then Accepted to.events else RefusedAt (length lines + 1)) whole

-- A trace that is played to its end.
passes : (running : Running) (n : ℕ) (all : Played Running)
    → IsProper running.setting.protocol → IsPlain running.setting.protocol
    → abstraction running.setting.protocol running.config ≡ rv_start running.setting.protocol n
    → PlayedGoes 1000000 0 0 running all → all.stop ≡ AtEnd
    → IsAccepted (audited running.setting.protocol n (played_text run_play all))
passes running n all proper plain starts goes ends =
    let protocol = running.setting.protocol in
    let last : Running =
    record { claims = running.claims; setting = running.setting; config = goes.last } in
    let whole = goes-append goes.goes
    (ending-goes running.setting proper plain goes.last goes.shaped goes.count_after
    goes.events_after) in
    let to = at_abstraction (suc (0 + length (abstraction protocol goes.last).remotes))
    goes.events_after (stands_for protocol goes.last) in
    let text : played_text run_play all
    ≡ all.blocks ++ run_ending protocol goes.last =
    ap (λ (stop : Stop). all.blocks ++ last_text run_play all.state stop) ends
    ∙ ap (λ (state : Running). all.blocks ++ run_play.ending state) goes.state in
    let from : at_steps 0 0 (stands_for protocol running.config) ≡ audit_start protocol n =
    ap (λ (config : RvConfig). at_steps 0 0 (record { protocol = protocol; config = config }))
    starts in
    let led : Goes 4000200 (audit_start protocol n) to
    (played_text run_play all) =
    subst (λ (start : Auditing). Goes 4000200 start to (played_text run_play all))
    from (subst (Goes 4000200 (at_steps 0 0 (stands_for protocol running.config)) to) (sym text)
    whole) in
    subst IsAccepted
    (sym (goes-accepted 4000200 protocol n to (played_text run_play all) led
    (omega arith) (ending-whole running.setting proper plain goes.last goes.shaped
    goes.events_after)))
    tt

-- Each trace that is played to its end.
pub trace-passes : (checked : CheckedProtocol) (mode : Mode) (n k : ℕ) (text : List ℕ)
    → IsProper checked.protocol → IsPlain checked.protocol
    → 1 ≤ n → n ≤ 64 → 2 ≤ k → k ≤ 64
    → (played run_play schedule_limits (run_start checked mode n k) text).stop ≡ AtEnd
    → IsAccepted (audited checked.protocol n
    (trace run_play schedule_limits (run_start checked mode n k) text))
trace-passes checked mode n k text proper plain some few two most ends =
    let running = run_start checked mode n k in
    let shaped = IsShaped-start running.setting n proper some few two most in
    passes running n (played run_play schedule_limits running text) proper plain
    (abstraction-start checked.protocol n)
    (schedule-goes running (lines_of text) proper plain shaped) ends
