-- What two controllers are given before they start.
use Rattle.std.specs.Prelude.{ℕ, Option}
use Rattle.proto_model.specs.Numbered.{NumberedProtocol}
use Rattle.proto_model.specs.Pairs.{reply_of}
use Rattle.proto_model.specs.declared.mode.Mode.{Mode}

-- The protocol that they run, the mode in which it is refined, and how many slots the home has for
-- requests of its remotes.
pub record Setting : Type 0 where
  pub protocol : NumberedProtocol
  pub mode : Mode
  pub slots : ℕ

-- the message that is the reply to this one; none where it is answered by an ack
abbrev pub reply_to : Setting → ℕ → Option ℕ
reply_to setting m = reply_of setting.protocol setting.mode m
