-- Texts of whole lines that the auditor takes one after another, and where they lead it.
use Rattle.std.proofs.Common.{◌≡◌, ◌≤◌, ◌<◌, ◌+◌, ◌||◌, ℕ, suc, Bool, false, List, []}
use Rattle.std.proofs.Common.{◌∷◌, ◌++◌, length, Option, Some, None, arith, refl, sym, ap, ◌∙◌}
use Rattle.std.proofs.Common.{append_assoc, nat_le, nat_lt, if◌then◌else◌}
use Rattle.std.specs.Prelude.{Result, Ok}
use Rattle.std.specs.List.{AllByRecursion}
use Rattle.std.proofs.lemmas.List.{length-append}
use Rattle.std.proofs.lemmas.Grind.{common_steps}
use Rattle.rv_base.proofs.Lists.{AllByRecursion-append}
use Rattle.proto_model.specs.Tokens.{Text}
use Rattle.schedule_replay.specs.TextLines.{HasNoLf, joined}
use Rattle.trace_audit.specs.Auditing.{Auditing, audit_line}
use Rattle.trace_audit.specs.AuditedTrace.{audit_limits, after_lines, line_within, line_then}

-- The line, without its LF, is one that a trace may have: it holds no LF, and has at most 65,536
-- bytes.
pub record IsTraceLine (line : Text) : Type 0 where
  pub few : length line ≤ 65536
  pub one_line : HasNoLf line

-- The text is at most so many lines of a trace, and they lead the auditor from here to there.
pub record Goes (most : ℕ) (from to : Auditing) (text : Text) : Type 0 where
  pub lines : List Text
  pub is : text ≡ joined lines
  pub few : length lines ≤ most
  pub each : AllByRecursion IsTraceLine lines
  pub leads :
      (before : ℕ) → before + length lines ≤ 5000000
      → after_lines audit_limits before from lines ≡ Ok to

-- lines behind lines
pub joined-append : (xs ys : List Text) → joined (xs ++ ys) ≡ joined xs ++ joined ys
joined-append [] ys = refl
joined-append (x ∷ xs) ys =
    ap (λ (text : Text). x ++ (10 ∷ text)) (joined-append xs ys)
    ∙ sym (append_assoc x (10 ∷ joined xs) (joined ys))

same-ok : (a b : Auditing) → (let left : Result Auditing ℕ = Ok a in left) ≡ Ok b → a ≡ b
same-ok a b same = cc

-- What follows lines that lead on.
line-then : (before : ℕ) (a b : Auditing) (found : Option Auditing) (xs ys : List Text)
    → ((next : Auditing) → after_lines audit_limits (before + 1) next xs ≡ Ok b
    → after_lines audit_limits (before + 1) next (xs ++ ys)
    ≡ after_lines audit_limits (before + 1 + length xs) b ys)
    → line_then before found (λ next. after_lines audit_limits (before + 1) next xs) ≡ Ok b
    → line_then before found (λ next. after_lines audit_limits (before + 1) next (xs ++ ys))
    ≡ after_lines audit_limits (before + 1 + length xs) b ys
line-then before a b None xs ys follows leads = absurd (cc)
line-then before a b (Some next) xs ys follows leads = follows next leads

-- Lines that lead here, and then others.
pub after-append : (before : ℕ) (a b : Auditing) (xs ys : List Text)
    → after_lines audit_limits before a xs ≡ Ok b
    → after_lines audit_limits before a (xs ++ ys)
    ≡ after_lines audit_limits (before + length xs) b ys
after-append before a b [] ys leads =
    ap (λ (at : Auditing). after_lines audit_limits before at ys) (same-ok a b leads)
    ∙ ap (λ (count : ℕ). after_lines audit_limits count b ys)
    (let same : before ≡ before + 0 = omega arith in same)
after-append before a b (x ∷ xs) ys leads =
    line-then before a b (line_within audit_limits before a x) xs ys
    (λ next follows. after-append (before + 1) next b xs ys follows) leads
    ∙ ap (λ (count : ℕ). after_lines audit_limits count b ys)
    (let same : before + 1 + length xs ≡ before + suc (length xs) = omega arith in same)

-- no line
pub goes-none : (most : ℕ) (at : Auditing) → Goes most at at []
goes-none most at = record {
  lines = [];
  is = refl;
  few = omega arith;
  each = tt;
  leads = λ before few. refl;
}

-- a text, and what follows it
pub goes-append : {m n : ℕ} {a b c : Auditing} {s t : Text} → Goes m a b s → Goes n b c t
    → Goes (m + n) a c (s ++ t)
goes-append {m} {n} {a} {b} {c} {s} {t} first second =
    let xs = first.lines in
    let ys = second.lines in
    let whole : length (xs ++ ys) ≡ length xs + length ys = length-append xs ys in
    record {
      lines = xs ++ ys;
      is = ap (λ (text : Text). text ++ t) first.is
          ∙ ap (λ (text : Text). joined xs ++ text) second.is
          ∙ sym (joined-append xs ys);
      few =
          let few_xs : length xs ≤ m = first.few in
          let few_ys : length ys ≤ n = second.few in
          omega (arith, whole, few_xs, few_ys);
      each = AllByRecursion-append IsTraceLine xs ys first.each second.each;
      leads = λ before few.
          after-append before a b xs ys (first.leads before (omega (arith, whole, few)))
          ∙ second.leads (before + length xs) (omega (arith, whole, few));
    }

-- as many lines as a greater number
pub goes-more : (m : ℕ) {n : ℕ} {a b : Auditing} {text : Text} → Goes n a b text → n ≤ m
    → Goes m a b text
goes-more m {n} {a} {b} {text} goes less = record {
  lines = goes.lines;
  is = goes.is;
  few = let few : length goes.lines ≤ n = goes.few in omega (arith, few, less);
  each = goes.each;
  leads = goes.leads;
}

-- The text of a line and its LF, which the auditor takes.
within : (before : ℕ) (a b : Auditing) (line : Text) → before < 5000000 → length line ≤ 65536
    → audit_line a line ≡ Some b → line_within audit_limits before a line ≡ Some b
within before a b line room few takes =
    let fits : nat_le 5000000 before ≡ false = grind (arith, common_steps) in
    let short : nat_lt 65536 (length line) ≡ false = grind (arith, common_steps) in
    ap (λ (many : Bool). if many || nat_lt 65536 (length line) then None else audit_line a line)
    fits
    ∙ ap (λ (long : Bool). if long then None else audit_line a line) short
    ∙ takes

pub goes-line : {a b : Auditing} (line : Text) → IsTraceLine line → audit_line a line ≡ Some b
    → Goes 1 a b (line ++ 10 ∷ [])
goes-line {a} {b} line is takes = record {
  lines = line ∷ [];
  is = refl;
  few = omega arith;
  each = (is, tt);
  leads = λ before few.
      let at : line_within audit_limits before a line ≡ Some b =
      within before a b line (omega (arith, few)) is.few takes in
      ap (λ (found : Option Auditing).
      line_then before found (λ next. after_lines audit_limits (before + 1) next [])) at;
}
