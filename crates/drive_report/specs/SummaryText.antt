-- The eleven lines of a summary.
use Rattle.std.specs.Prelude.{ℕ, Bool, true, false, ◌++◌, codes, decimal}
use Rattle.proto_model.specs.Tokens.{Text}
use Rattle.drive_report.specs.declared.summary.Summary.{Summary}

-- a line: a word and a number
abbrev pub count_line : Text → ℕ → Text
count_line word number = word ++ (codes " " ++ (decimal number ++ codes "\n"))

-- `yes` or `no`
abbrev pub yes_or_no : Bool → Text
yes_or_no true = codes "yes"
yes_or_no false = codes "no"

-- the lines
abbrev pub summary_text : Summary → Text
summary_text s =
    count_line (codes "steps") s.steps
    ++ (count_line (codes "events") s.events
    ++ (count_line (codes "requests") s.requests
    ++ (count_line (codes "acks") s.acks
    ++ (count_line (codes "nacks") s.nacks
    ++ (count_line (codes "replies") s.replies
    ++ (count_line (codes "crossed") s.crossed
    ++ (count_line (codes "held") s.most_held
    ++ (count_line (codes "up") s.most_up
    ++ (count_line (codes "down") s.most_down
    ++ (codes "stopped " ++ (yes_or_no s.stopped ++ codes "\n")))))))))))
