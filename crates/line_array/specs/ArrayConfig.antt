-- A configuration of an array: that of each line, and what is under way on the shared links.
use Rattle.std.specs.Prelude.{ℕ, List, replicate}
use Rattle.proto_model.specs.Numbered.{NumberedProtocol}
use Rattle.async_shape.specs.Config.{Config, start}
use Rattle.line_array.specs.SharedLists.{SharedPair, no_entries}

pub record ArrayConfig : Type 0 where
  -- where the home and the remotes of each line stand, by the number of the line
  pub lines : List Config
  -- the two shared links of each remote
  pub shared : List SharedPair

-- The start with n remotes and so many lines: each line at its start, and nothing under way.
abbrev pub array_start : NumberedProtocol → (n lines : ℕ) → ArrayConfig
array_start protocol n lines =
    record { lines = replicate lines (start protocol n); shared = replicate n no_entries }
