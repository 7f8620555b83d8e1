-- What is played begins at the start; where there is no memory for the controllers, nothing was
-- asked or written.
use Rattle.std.proofs.Common.{◌≡◌, refl, subst}
use Rattle.schedule_replay.specs.Turns.{EndsAtStart}
use Rattle.schedule_replay.proofs.LastWrite.{unbegun-at_start}
use Rattle.run_replay.specs.RunTrace.{Running, run_play, run_start}
use Rattle.run_replay.proofs.run_player.replay_on.Goals as goal

pub returns-in-Ok-clause-stops : goal.returns-in-Ok-clause-stops
returns-in-Ok-clause-stops g c = rw (← c.in-Ok.ensures) c.play_schedule.ensures.stops

pub returns-in-Ok-clause-writes : goal.returns-in-Ok-clause-writes
returns-in-Ok-clause-writes g c = rw (← c.in-Ok.ensures) c.play_schedule.ensures.writes

pub returns-in-Ok-clause-at_start : goal.returns-in-Ok-clause-at_start
returns-in-Ok-clause-at_start g c =
    subst (λ (running : Running). EndsAtStart run_play running
    (c.play_schedule.new.schedule ≡ c.args.schedule.now) (g.O.Sink.taken c.args.out.now)
    (g.O.Sink.taken c.play_schedule.new.out) c.play_schedule.result) c.in-Ok.ensures
    c.play_schedule.ensures.at_start

pub returns-in-Err-clause-at_start : goal.returns-in-Err-clause-at_start
returns-in-Err-clause-at_start g c =
    unbegun-at_start run_play
    (run_start c.args.checked.now c.args.table.now.mode c.args.n c.args.k)
    (c.args.schedule.now ≡ c.args.schedule.now) refl (g.O.Sink.taken c.args.out.now)
