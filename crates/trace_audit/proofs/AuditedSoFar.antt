-- How far a trace was audited after some lines, and what further lines make of it.
use Rattle.std.proofs.Common.{◌≡◌, ◌≢◌, ℕ, ◌+◌, ◌<◌, ◌≤◌, List, [], ◌∷◌, ◌++◌, length}
use Rattle.std.proofs.Common.{Some, None, Ok, Err, inl, inr, arith, refl}
use Rattle.std.proofs.Common.{sym}
use Rattle.std.proofs.Common.{◌∙◌, ap}
use Rattle.std.specs.declared.option.Option.{Option}
use Rattle.proto_model.specs.Tokens.{Text}
use Rattle.schedule_replay.specs.TextLines.{lines_of, closed_lines, open_part}
use Rattle.schedule_replay.specs.declared.limits.Limits.{Limits}
use Rattle.schedule_replay.proofs.WithinLimits.{few-lines, many-lines, short-line, long-line}
use Rattle.trace_audit.specs.Auditing.{Auditing, audit_line}
use Rattle.trace_audit.specs.AuditedTrace.{RefusedAt, line_then, concluded}
use Rattle.trace_audit.specs.AuditedTrace.{line_within, after_lines, audited_from}
use Rattle.trace_audit.proofs.ClosedAndOpen.{last_line, lines_of-closed_open, GoesOnOrEnds}
use Rattle.trace_audit.proofs.ClosedAndOpen.{line-closed_open}

module _ (limits : Limits) where
  -- ---- one line

  -- a line that is one of as many as there may be, and not too long
  pub line_within-is : (before : ℕ) (at : Auditing) (line : Text) → before < limits.lines
      → length line ≤ limits.line → line_within limits before at line ≡ audit_line at line
  line_within-is before at line few fits = rw (
    few-lines limits.lines before few,
    short-line limits.line line fits,
  ) refl

  pub line_within-long : (before : ℕ) (at : Auditing) (line : Text) → before < limits.lines
      → limits.line < length line → line_within limits before at line ≡ None
  line_within-long before at line few long = rw (
    few-lines limits.lines before few,
    long-line limits.line line long,
  ) refl

  pub line_within-many : (before : ℕ) (at : Auditing) (line : Text) → limits.lines ≤ before
      → line_within limits before at line ≡ None
  line_within-many before at line full = rw (many-lines limits.lines before full) refl

  -- ---- lines after lines

  more-by : (before : ℕ) (mid : Auditing) (line : Text) (lines others : List Text)
      (next : Option Auditing)
      → ((at : Auditing) → after_lines limits (before + 1) at lines ≡ Ok mid
      → after_lines limits (before + 1) at (lines ++ others)
      ≡ after_lines limits (before + 1 + length lines) mid others)
      → line_then before next (λ at. after_lines limits (before + 1) at lines) ≡ Ok mid
      → line_then before next (λ at. after_lines limits (before + 1) at (lines ++ others))
      ≡ after_lines limits (before + length (line ∷ lines)) mid others
  more-by before mid line lines others None again e = absurd (cc)
  more-by before mid line lines others (Some at) again e =
      let count : before + 1 + length lines ≡ before + length (line ∷ lines) = omega arith in
      again at e ∙ ap (λ n. after_lines limits n mid others) count

  -- the lines behind those that were taken
  pub after_lines-append : (before : ℕ) (at mid : Auditing) (lines others : List Text)
      → after_lines limits before at lines ≡ Ok mid
      → after_lines limits before at (lines ++ others)
      ≡ after_lines limits (before + length lines) mid others
  after_lines-append before at mid [] others e =
      let same : at ≡ mid = cc in
      let count : before ≡ before + 0 = omega arith in
      ap (λ a. after_lines limits before a others) same
      ∙ ap (λ n. after_lines limits n mid others) count
  after_lines-append before at mid (line ∷ lines) others e =
      more-by before mid line lines others (line_within limits before at line)
      (λ next. after_lines-append (before + 1) next mid lines others) e

  module _ (start at : Auditing) (done : List Text)
      (so_far : after_lines limits 0 start done ≡ Ok at) where
    behind-done : (others : List Text) → after_lines limits 0 start (done ++ others)
        ≡ after_lines limits (length done) at others
    behind-done others =
        let count : 0 + length done ≡ length done = omega arith in
        after_lines-append 0 start at done others so_far
        ∙ ap (λ n. after_lines limits n at others) count

    -- one line more
    pub after_lines-more : (line : Text) (new : Auditing)
        → line_within limits (length done) at line ≡ Some new
        → after_lines limits 0 start (done ++ line ∷ []) ≡ Ok new
    after_lines-more line new takes = behind-done (line ∷ []) ∙ rw takes refl

    -- a line that is refused, whatever follows it
    after_lines-refused : (line : Text) (more : List Text)
        → line_within limits (length done) at line ≡ None
        → after_lines limits 0 start (done ++ line ∷ more) ≡ Err (length done + 1)
    after_lines-refused line more refuses = behind-done (line ∷ more) ∙ rw refuses refl

    -- ---- what is found of a text

    found-open : (part : List ℕ) → last_line part ≢ []
        → concluded (length done) at part ≡ RefusedAt (length done + 1)
    found-open [] some = absurd (some refl)
    found-open (b ∷ bs) some = refl

    -- the closed lines are those, and this stands behind them
    pub audited-ends : (text part : List ℕ) → closed_lines text ≡ done → open_part text ≡ part
        → audited_from limits start text ≡ concluded (length done) at part
    audited-ends text part closed open_is = rw (closed, open_is, so_far) refl

    pub audited-open : (text part : List ℕ) → closed_lines text ≡ done → open_part text ≡ part
        → last_line part ≢ [] → audited_from limits start text ≡ RefusedAt (length done + 1)
    audited-open text part closed open_is some = audited-ends text part closed open_is
        ∙ found-open part some

    refused-by : (text : List ℕ) (line : Text) → line_within limits (length done) at line ≡ None
        → GoesOnOrEnds done line (closed_lines text) (open_part text)
        → audited_from limits start text ≡ RefusedAt (length done + 1)
    refused-by text line refuses (inl (more, closed)) =
        rw (closed, after_lines-refused line more refuses) refl
    refused-by text line refuses (inr (closed, some)) =
        audited-open text (open_part text) closed refl some

    -- the line behind those is refused
    pub audited-refused : (text : List ℕ) (line : Text) (more : List Text)
        → lines_of text ≡ done ++ line ∷ more
        → line_within limits (length done) at line ≡ None
        → audited_from limits start text ≡ RefusedAt (length done + 1)
    audited-refused text line more lines refuses =
        refused-by text line refuses
        (line-closed_open done (closed_lines text) more line (open_part text)
        (sym (lines_of-closed_open text) ∙ lines))
