-- The last line of a summary of a run that didn't stop.
use Rattle.std.proofs.Common.{◌≡◌, Bool, false, ◌++◌, codes, refl, ap, ◌∙◌, append_assoc}
use Rattle.proto_model.specs.Tokens.{Text}
use Rattle.drive_report.specs.SummaryText.{summary_text, count_line, yes_or_no}
use Rattle.drive_report.specs.declared.summary.Summary.{Summary}

ten-then : (a b c d e f g h i j rest : Text)
    → a ++ (b ++ (c ++ (d ++ (e ++ (f ++ (g ++ (h ++ (i ++ (j ++ rest)))))))))
    ≡ (a ++ (b ++ (c ++ (d ++ (e ++ (f ++ (g ++ (h ++ (i ++ j))))))))) ++ rest
ten-then a b c d e f g h i j rest = simp append_assoc refl

-- It is `stopped no`.
pub last-line : (s : Summary) → s.stopped ≡ false
    → (lines : Text) × (summary_text s ≡ lines ++ codes "stopped no\n")
last-line s goes_on =
    let a = count_line (codes "steps") s.steps in
    let b = count_line (codes "events") s.events in
    let c = count_line (codes "requests") s.requests in
    let d = count_line (codes "acks") s.acks in
    let e = count_line (codes "nacks") s.nacks in
    let f = count_line (codes "replies") s.replies in
    let g = count_line (codes "crossed") s.crossed in
    let h = count_line (codes "held") s.most_held in
    let i = count_line (codes "up") s.most_up in
    let j = count_line (codes "down") s.most_down in (
      a ++ (b ++ (c ++ (d ++ (e ++ (f ++ (g ++ (h ++ (i ++ j)))))))),
      ap (λ (stopped : Bool). a ++ (b ++ (c ++ (d ++ (e ++ (f ++ (g ++ (h ++ (i ++ (j
          ++ (codes "stopped " ++ (yes_or_no stopped ++ codes "\n")))))))))))) goes_on
          ∙ ten-then a b c d e f g h i j (codes "stopped no\n"),
    )
