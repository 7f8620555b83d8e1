-- What is played begins at the start; where there is no memory for the remotes, nothing was asked
-- or written.
use Rattle.std.proofs.Common.{◌≡◌, refl, subst}
use Rattle.schedule_replay.specs.RvPlay.{Watched, rv_play, rv_watched}
use Rattle.schedule_replay.specs.Turns.{EndsAtStart}
use Rattle.schedule_replay.proofs.LastWrite.{unbegun-at_start}
use Rattle.schedule_replay.proofs.rv_player.replay_events.Goals as goal

pub returns-in-Ok-clause-at_start : goal.returns-in-Ok-clause-at_start
returns-in-Ok-clause-at_start g c =
    subst (λ (start : Watched). EndsAtStart rv_play start
    (c.play_schedule.new.schedule ≡ c.args.schedule.now) (g.O.Sink.taken c.args.out.now)
    (g.O.Sink.taken c.play_schedule.new.out) c.play_schedule.result) c.in-Ok.ensures
    c.play_schedule.ensures.at_start

pub returns-in-Err-clause-at_start : goal.returns-in-Err-clause-at_start
returns-in-Err-clause-at_start g c =
    unbegun-at_start rv_play (rv_watched c.args.checked.now c.args.n)
    (c.args.schedule.now ≡ c.args.schedule.now) refl (g.O.Sink.taken c.args.out.now)
