-- The table is in this mode.
use Rattle.array_replay.proofs.array_player.replay.Goals as goal

pub returns-in-Ok-clause-writes : goal.returns-in-Ok-clause-writes
returns-in-Ok-clause-writes g c = rw (← c.in-Ok.ensures.mode) c.replay_on.ensures.writes
