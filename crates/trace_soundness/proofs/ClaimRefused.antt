-- A trace that a broken claim ends is refused at the line that names the claim.
use Rattle.std.proofs.Common.{◌≡◌, ◌≢◌, ◌≤◌, ◌<◌, ◌==◌, ◌+◌, ◌*◌, ◌&&◌, ◌||◌, ℕ}
use Rattle.std.proofs.Common.{Bool}
use Rattle.std.proofs.Common.{true, false, List, [], ◌∷◌, ◌++◌, length, Option, Some, None, arith}
use Rattle.std.proofs.Common.{refl, sym, ap, ◌∙◌, subst, append_assoc, append-nil, nat_le, nat_lt}
use Rattle.std.proofs.Common.{drop, nat_eq, if◌then◌else◌, codes, decimal, bytes_eq}
use Rattle.std.specs.Prelude.{Result, Ok, Err}
use Rattle.std.specs.List.{starts_with, list_any}
use Rattle.std.specs.Option.{option_and_then}
use Rattle.std.specs.Str.Parse.{AllDigits}
use Rattle.std.proofs.lemmas.Grind.{common_steps}
use Rattle.std.proofs.lemmas.List.Elements.{All-nil}
use Rattle.std.proofs.lemmas.Fmt.{decimal_is_IsNumeral}
use Rattle.std.proofs.lemmas.Str.Parse.{digit_at}
use Rattle.rv_base.proofs.Lists.{AllByRecursion-append}
use Rattle.proto_model.specs.Tokens.{Text}
use Rattle.proto_model.specs.Numbered.{NumberedProtocol, CheckedProtocol}
use Rattle.proto_model.specs.Proper.{IsProper, IsProperChecked}
use Rattle.proto_model.specs.Rendezvous.{rv_start}
use Rattle.proto_model.specs.declared.mode.Mode.{Mode}
use Rattle.proto_model.specs.declared.rendezvous.RvConfig.{RvConfig}
use Rattle.rendezvous_meaning.specs.Standing.{Standing}
use Rattle.schedule_replay.specs.ScheduleLimits.{schedule_limits}
use Rattle.schedule_replay.specs.TextLines.{joined, lines_of, closed_lines, open_part}
use Rattle.schedule_replay.specs.Played.{Stop, Halted, Played, played, trace, played_text}
use Rattle.schedule_replay.specs.Played.{last_text}
use Rattle.schedule_replay.specs.Played.{claim_text}
use Rattle.schedule_replay.proofs.ClosedLines.{closed_lines-joined}
use Rattle.async_shape.proofs.Start.{IsShaped-start}
use Rattle.abstraction_map.specs.Abstraction.{abstraction}
use Rattle.abstraction_map.proofs.StartMeans.{abstraction-start}
use Rattle.run_replay.specs.RunTrace.{Running, run_play, run_start, run_ending}
use Rattle.trace_audit.specs.Auditing.{Auditing, audit_start, audit_line, told_of}
use Rattle.trace_audit.specs.Auditing.{hear}
use Rattle.trace_audit.specs.Auditing.{told_behind}
use Rattle.trace_audit.specs.AuditedTrace.{audited, after_lines, line_then, found}
use Rattle.trace_audit.specs.AuditedTrace.{audit_limits, RefusedAt}
use Rattle.trace_audit.specs.declared.auditor.Section.TheVariants.{States}
use Rattle.trace_soundness.proofs.Plain.{IsPlain}
use Rattle.trace_soundness.proofs.Fits.{Fits, fits-append, fits-literal, fits-decimal}
use Rattle.trace_soundness.proofs.Goes.{Goes, IsTraceLine, joined-append, after-append}
use Rattle.trace_soundness.proofs.StepLine.{at_steps, spaced, no_end}
use Rattle.trace_soundness.proofs.BlocksPlayed.{PlayedGoes, schedule-goes, stands_for}
use Rattle.trace_soundness.proofs.EndingGoes.{ending-goes}
use Rattle.trace_soundness.proofs.TracePasses.{each-line}

-- the line that names a claim
abbrev pub claim_line : ℕ → Text
claim_line claim = codes "claim " ++ (decimal claim ++ codes " broken")

-- it is a line that a trace may have
claim_line-IsTraceLine : (claim : ℕ) → claim < 100 → IsTraceLine (claim_line claim)
claim_line-IsTraceLine claim small =
    let fits : Fits (6 + (2 + 7)) (claim_line claim) =
    fits-append (fits-literal (codes "claim ") refl)
    (fits-append (fits-decimal 2 claim (omega arith) (omega (arith, small)) (omega (arith, small)))
    (fits-literal (codes " broken") refl)) in
    let count : length (claim_line claim) ≤ 15 = fits.few in
    record { few = omega (arith, count); one_line = fits.one_line }

-- ---- the auditor refuses it

-- No line that begins with `c` begins with a number.
no-number : (digits tail rest : Text) → 0 < length digits → AllDigits 10 digits
    → starts_with nat_eq (99 ∷ rest) (digits ++ tail) ≡ false
no-number [] tail rest some all = absurd (omega (arith, some))
no-number (d ∷ ds) tail rest some all =
    let range = digit_at (d ∷ ds) 0 all (omega arith) in
    let unequal : nat_eq d 99 ≡ false = grind (arith, common_steps) in
    ap (λ (first : Bool). first && starts_with nat_eq rest (ds ++ tail)) unequal

-- A line that begins with `c` and has a space is none of the steps' part.
claim-refused : (told events : ℕ) (standing : Standing) (rest : Text) → told < 5000000
    → list_any (λ b. b == 32) (99 ∷ rest) ≡ true
    → audit_line (at_steps told events standing) (99 ∷ rest) ≡ None
claim-refused told events standing rest few space =
    let at = at_steps told events standing in
    let line = 99 ∷ rest in
    let number = decimal (told + 1) in
    let numeral = (decimal_is_IsNumeral (told + 1) (omega (arith, few))).0 in
    let other : starts_with nat_eq line (number ++ codes " ") ≡ false =
    no-number number (codes " ") rest numeral.0 numeral.1 in
    let untold : told_of (told + 1) line ≡ None =
    ap (λ (is : Bool). option_and_then told_behind
    (if is then Some (drop (length (number ++ codes " ")) line) else None)) other in
    ap (λ (last : Bool). if last then Some (record at { section = States })
    else option_and_then (hear at (told + 1)) (told_of (told + 1) line))
    (no_end (bytes_eq line (codes "end")) line refl space)
    ∙ ap (λ (said : Option Text). option_and_then (hear at (told + 1)) said) untold

-- it has a space
claim_line-space : (claim : ℕ) → list_any (λ b. b == 32) (claim_line claim) ≡ true
claim_line-space claim = spaced (codes "claim") (decimal claim ++ codes " broken")

-- A line that is refused, after others that lead the auditor on.
refused-at : (before : ℕ) (a b : Auditing) (xs : List Text) (line : Text) (ys : List Text)
    → after_lines audit_limits before a xs ≡ Ok b → audit_line b line ≡ None
    → after_lines audit_limits before a (xs ++ line ∷ ys) ≡ Err (before + length xs + 1)
refused-at before a b xs line ys leads refuses =
    after-append before a b xs (line ∷ ys) leads
    ∙ ap (λ (next : Option Auditing). line_then (before + length xs) next
    (λ at. after_lines audit_limits (before + length xs + 1) at ys))
    (none (nat_le 5000000 (before + length xs) || nat_lt 65536 (length line)))
  where
    none : (outside : Bool) → (if outside then None else audit_line b line) ≡ None
    none true = refl
    none false = refuses

-- ---- the whole trace

-- Blocks, the line of a claim, and an end.
refuses : (protocol : NumberedProtocol) (n : ℕ) (m l : ℕ) (told events : ℕ) (standing : Standing)
    (from to : Auditing) (claim : ℕ) (blocks ending : Text)
    → Goes m (audit_start protocol n) (at_steps told events standing) blocks → m ≤ 4000000
    → told ≤ 1000000 → Goes l from to ending → claim < 100
    → audited protocol n (blocks ++ (claim_text claim ++ ending))
    ≡ RefusedAt (length (closed_lines blocks) + 1)
refuses protocol n m l told events standing from to claim blocks ending goes few small rest is_small
    =
    let xs = goes.lines in
    let line = claim_line claim in
    let ys = rest.lines in
    let none = All-nil (λ b. b ≢ 10) in
    let claim_is : claim_text claim ≡ line ++ 10 ∷ [] =
    ap (λ (text : Text). codes "claim " ++ text)
    (sym (append_assoc (decimal claim) (codes " broken") (10 ∷ []))) in
    let all = xs ++ line ∷ ys in
    let text = blocks ++ (claim_text claim ++ ending) in
    let is : text ≡ joined all =
    ap (λ (t : Text). t ++ (claim_text claim ++ ending)) goes.is
    ∙ ap (λ (t : Text). joined xs ++ t)
    (ap (λ (t : Text). t ++ ending) claim_is ∙ append_assoc line (10 ∷ []) ending
    ∙ ap (λ (t : Text). line ++ (10 ∷ t)) rest.is)
    ∙ sym (joined-append xs (line ∷ ys)) in
    let each = each-line all (AllByRecursion-append IsTraceLine xs (line ∷ ys) goes.each
    (claim_line-IsTraceLine claim is_small, rest.each)) in
    let joined_is : joined all ++ [] ≡ text = append-nil (joined all) ∙ sym is in
    let closed : closed_lines text ≡ all =
    ap closed_lines (sym joined_is) ∙ closed_lines-joined all [] each none in
    let own : closed_lines blocks ≡ xs =
    ap closed_lines (goes.is ∙ sym (append-nil (joined xs)))
    ∙ closed_lines-joined xs [] (each-line xs goes.each) none in
    let count : length xs ≤ m = goes.few in
    let leads = goes.leads 0 (omega (arith, count, few)) in
    let refused : after_lines audit_limits 0 (audit_start protocol n) all ≡ Err (0 + length xs + 1)
    =
    refused-at 0 (audit_start protocol n) (at_steps told events standing) xs line ys leads
    (claim-refused told events standing
    (codes "laim " ++ (decimal claim ++ codes " broken")) (omega (arith, small))
    (claim_line-space claim)) in
    ap (λ (ls : List Text). found (length ls)
    (after_lines audit_limits 0 (audit_start protocol n) ls)
    (open_part text)) closed
    ∙ ap (λ (at : Result Auditing ℕ). found (length all) at (open_part text)) refused
    ∙ ap RefusedAt
    (let same : 0 + length xs + 1 ≡ length xs + 1 = omega arith in
    same ∙ ap (λ (ls : List Text). length ls + 1) (sym own))

-- A trace that a broken claim ends.
halted : (running : Running) (n : ℕ) (all : Played Running) (lines claim : ℕ)
    → IsProper running.setting.protocol → IsPlain running.setting.protocol
    → abstraction running.setting.protocol running.config ≡ rv_start running.setting.protocol n
    → length running.claims ≤ 16 → PlayedGoes 1000000 0 0 running all
    → all.stop ≡ Halted lines claim
    → audited running.setting.protocol n (played_text run_play all)
    ≡ RefusedAt (length (closed_lines all.blocks) + 1)
halted running n all lines claim proper plain starts few goes halts =
    let protocol = running.setting.protocol in
    let within = goes.halts lines claim halts in
    let text : played_text run_play all
    ≡ all.blocks ++ (claim_text claim ++ run_ending protocol goes.last) =
    ap (λ (stop : Stop). all.blocks ++ last_text run_play all.state stop) halts
    ∙ ap (λ (state : Running). all.blocks ++ (claim_text claim ++ run_play.ending state))
    goes.state in
    let from : at_steps 0 0 (stands_for protocol running.config) ≡ audit_start protocol n =
    ap (λ (config : RvConfig). at_steps 0 0 (record { protocol = protocol; config = config }))
    starts in
    ap (audited protocol n) text
    ∙ refuses protocol n (1000000 * 4) 200 goes.count_after goes.events_after
    (stands_for protocol goes.last) _ _ claim all.blocks (run_ending protocol goes.last)
    (subst (λ (start : Auditing). Goes (1000000 * 4) start
    (at_steps goes.count_after goes.events_after (stands_for protocol goes.last)) all.blocks) from
    goes.goes)
    (omega arith) (goes.few_steps (omega arith))
    (ending-goes running.setting proper plain goes.last goes.shaped goes.count_after
    goes.events_after)
    (omega (arith, within, few))

pub claim-trace_refused : (checked : CheckedProtocol) (mode : Mode) (n k : ℕ) (text : List ℕ)
    (lines claim : ℕ) → IsProperChecked checked → IsPlain checked.protocol
    → 1 ≤ n → n ≤ 64 → 2 ≤ k → k ≤ 64
    → (played run_play schedule_limits (run_start checked mode n k) text).stop ≡ Halted lines claim
    → audited checked.protocol n
    (trace run_play schedule_limits (run_start checked mode n k) text)
    ≡ RefusedAt (length (closed_lines
    (played run_play schedule_limits (run_start checked mode n k) text).blocks) + 1)
claim-trace_refused checked mode n k text lines claim proper plain some few two most halts =
    let running = run_start checked mode n k in
    let shaped = IsShaped-start running.setting n proper.protocol some few two most in
    halted running n (played run_play schedule_limits running text) lines claim proper.protocol
    plain
    (abstraction-start checked.protocol n) proper.few_claims
    (schedule-goes running (lines_of text) proper.protocol plain shaped) halts
