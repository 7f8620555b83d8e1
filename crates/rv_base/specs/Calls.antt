-- The calls that something in memory has had, and those that are to fail.
use Rattle.std.specs.Prelude.{ℕ, List, Bool, ◌==◌, if◌then◌else◌}
use Rattle.std.specs.List.{list_any}
use Rattle.rv_base.specs.Outside.{counted}

-- The numbers of the calls that are to fail, how many calls were made, and how many of them failed.
pub record Calls : Type 0 where
  pub failing : List ℕ
  pub made : ℕ
  pub failed : ℕ

-- No call was made yet, and those with these numbers are to fail.
abbrev pub no_calls : List ℕ → Calls
no_calls failing = record { failing = failing; made = 0; failed = 0 }

-- Whether the next call is to fail: its number is listed. Calls count from 1, and the number of a
-- call stands still at 2^64 - 1.
abbrev pub fails_next : Calls → Bool
fails_next calls = list_any (λ number. number == counted calls.made) calls.failing

-- The next call was made, and counts as failed where it was to fail.
abbrev pub after_call : Calls → Calls
after_call calls = record {
  failing = calls.failing;
  made = counted calls.made;
  failed = if fails_next calls then counted calls.failed else calls.failed;
}
