-- The table is that of the protocol in this mode.
use Rattle.lossy_replay.proofs.lossy_player.replay.Goals as goal

pub returns-in-Ok-clause-stops : goal.returns-in-Ok-clause-stops
returns-in-Ok-clause-stops g c =
    rw (← c.in-Ok.ensures.protocol, ← c.in-Ok.ensures.mode) c.replay_on.ensures.stops

pub returns-in-Ok-clause-writes : goal.returns-in-Ok-clause-writes
returns-in-Ok-clause-writes g c =
    rw (← c.in-Ok.ensures.protocol, ← c.in-Ok.ensures.mode) c.replay_on.ensures.writes
