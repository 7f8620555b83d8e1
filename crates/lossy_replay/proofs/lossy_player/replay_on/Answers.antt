-- What is played begins at the start.
use Rattle.lossy_replay.proofs.lossy_player.replay_on.Goals as goal

pub returns-in-Ok-clause-stops : goal.returns-in-Ok-clause-stops
returns-in-Ok-clause-stops g c = rw (← c.in-Ok.ensures) c.play_schedule.ensures.stops

pub returns-in-Ok-clause-writes : goal.returns-in-Ok-clause-writes
returns-in-Ok-clause-writes g c = rw (← c.in-Ok.ensures) c.play_schedule.ensures.writes
