-- The lines of a trace that show where a process stands.
use Rattle.std.specs.Prelude.{◌≡◌, ◌≤◌, ◌+◌, [], ◌∷◌, ◌++◌, length}
use Rattle.proto_model.specs.Tokens.{Text}
use Rattle.schedule_replay.specs.TextLines.{HasNoLf}

-- The text is one line that an LF ends. It begins with two spaces, and has at most 65,536 bytes
-- without its LF.
pub record IsShownLine (text : Text) : Type 0 where
  pub rest : Text
  pub is : text ≡ (32 ∷ 32 ∷ rest) ++ 10 ∷ []
  pub few : length rest + 2 ≤ 65536
  pub one_line : HasNoLf rest
