-- The table is in this mode; where there is no memory for it, nothing was asked or written.
use Rattle.std.proofs.Common.{◌≡◌, refl, subst}
use Rattle.proto_model.specs.declared.mode.Mode.{Mode}
use Rattle.schedule_replay.specs.Turns.{EndsAtStart}
use Rattle.schedule_replay.proofs.LastWrite.{unbegun-at_start}
use Rattle.run_replay.specs.RunTrace.{run_play, run_start}
use Rattle.run_replay.proofs.run_player.replay.Goals as goal

pub returns-in-Ok-clause-stops : goal.returns-in-Ok-clause-stops
returns-in-Ok-clause-stops g c = rw (← c.in-Ok.ensures.mode) c.replay_on.ensures.stops

pub returns-in-Ok-clause-writes : goal.returns-in-Ok-clause-writes
returns-in-Ok-clause-writes g c = rw (← c.in-Ok.ensures.mode) c.replay_on.ensures.writes

pub returns-in-Ok-clause-at_start : goal.returns-in-Ok-clause-at_start
returns-in-Ok-clause-at_start g c =
    subst (λ (mode : Mode). EndsAtStart run_play
    (run_start c.args.checked.now mode c.args.n c.args.k)
    (c.replay_on.new.schedule ≡ c.args.schedule.now) (g.O.Sink.taken c.args.out.now)
    (g.O.Sink.taken c.replay_on.new.out) c.replay_on.result) c.in-Ok.ensures.mode
    c.replay_on.ensures.at_start

pub returns-in-Err-clause-at_start : goal.returns-in-Err-clause-at_start
returns-in-Err-clause-at_start g c =
    unbegun-at_start run_play (run_start c.args.checked.now c.args.mode c.args.n c.args.k)
    (c.args.schedule.now ≡ c.args.schedule.now) refl (g.O.Sink.taken c.args.out.now)
