-- A replay that ends with its conclusion is one as its play is described.
use Rattle.std.proofs.Common.{◌≡◌, not, ◌&&◌, true, ◌++◌, subst, ◌∙◌, IfSome}
use Rattle.std.proofs.lemmas.Option.{IfSome_then}
use Rattle.rv_base.specs.Outside.{RisesWhere, MayRise}
use Rattle.rv_base.specs.Whole.{TakesAtMost}
use Rattle.schedule_replay.specs.ScheduleLimits.{most_taken}
use Rattle.schedule_replay.specs.Play.{Play}
use Rattle.schedule_replay.specs.Played.{claim_text}
use Rattle.schedule_replay.specs.Replayed.{StopsSo, WritesSo, ReplayCounts, ReplayWants}
use Rattle.schedule_replay.specs.Replayed.{replay_write_failed}
use Rattle.schedule_replay.specs.Turns.{EndsWith}
use Rattle.schedule_replay.specs.declared.limits.Limits.{Limits}
use Rattle.schedule_replay.specs.declared.replaying.Replayed.{Replayed}
use Rattle.schedule_replay.specs.declared.replaying.Replayed.TheVariants as replay
use Rattle.rvc_top.specs.Commands.{played_so}
use Rattle.rvc_top.specs.Endings.{kind_of, run_write_failed, run_wants}
use Rattle.rvc_top.specs.Reply.{Concludes}
use Rattle.rvc_top.specs.Runs.{SeenAt, Seen, IsReplay}
use Rattle.rvc_top.specs.declared.status.Status.{Status}
use Rattle.rvc_top.proofs.Endings.{told-both}
use Rattle.rvc_top.proofs.Stays.{wants-stay}
use Rattle.rvc_top.proofs.Conclusions.{concluded-reaches, concluded-read-count}
use Rattle.rvc_top.proofs.Conclusions.{concluded-write-count, concluded-wants, concluded-done}
use Rattle.rvc_top.proofs.Conclusions.{of-schedule-decided}
use Rattle.rvc_top.proofs.Replays.{ends-replay, exact-replay, decided-replay, done-left}
use Rattle.rvc_top.proofs.Replays.{end-of-schedule}
use Rattle.rvc_top.proofs.BrokenStarts.{broken-same, broken-ends, broken-exact}

-- What the loop over the lines of a schedule ensures, by what is seen of the schedule, and of the
-- sink before and after, where it ends so.
pub record IsLooped
    {State Item : Type 0}
    (play : Play State Item)
    (limits : Limits)
    (start : State)
    (schedule : Seen)
    (old new : SeenAt)
    (replayed : Replayed) : Type 0 where
  pub stops : IfSome schedule.old.bytes
      (λ text. StopsSo play limits start text schedule.new.bytes replayed)
  pub writes : IfSome schedule.old.bytes (λ text. IfSome old.bytes
      (λ before. WritesSo play limits start text schedule.new.bytes before new.bytes replayed))
  pub counts : ReplayCounts schedule.old.faults schedule.new.faults old.faults new.faults replayed
  pub wants : ReplayWants schedule.old.wants schedule.new.wants old.wants new.wants replayed
  pub taken : TakesAtMost (most_taken limits) schedule.old.bytes schedule.new.bytes
  pub ended : replayed ≡ replay.Done → schedule.ended ≡ true
  pub at_start : IfSome (play.halts start) (λ claim. schedule.Same
      × EndsWith play (replay.ClaimBroken claim) (claim_text claim ++ play.ending start)
      old.bytes new.bytes replayed)

-- the run ends as its replay does, with what concludes it
pub concluded-replay : {State Item : Type 0} (play : Play State Item) (limits : Limits)
    (start : State) (schedule out : Seen) (written : SeenAt) (replayed : Replayed)
    (answer : Status)
    → IsLooped play limits start schedule out.old written replayed
    → Concludes written.bytes out.new.bytes replayed answer
    → RisesWhere (not (replay_write_failed replayed) && run_write_failed (kind_of answer))
    written.faults out.new.faults
    → MayRise (run_wants (kind_of answer)) written.wants out.new.wants
    → IsReplay (played_so play limits start) limits schedule out answer
concluded-replay play limits start schedule out written replayed answer looped w counts wants =
    let source = schedule.old.bytes in
    let left = schedule.new.bytes in
    let old = out.old.bytes in
    let mid = written.bytes in
    let now = out.new.bytes in
    record {
      bytes = (
        λ broken steps. broken-ends play limits start _ old mid now replayed answer
            looped.at_start w broken steps
            (λ before. WritesSo play limits start steps left before now replay.ReadFault),
        told-both source looped.stops looped.writes (λ steps stops writes.
            IfSome_then old writes (λ before wrote.
            ends-replay play limits start steps left before mid now replayed answer stops wrote w)),
      );
      exact = (
        λ broken steps. broken-exact play limits start _ old mid now replayed answer
            looped.at_start w broken steps,
        IfSome_then source looped.stops (λ steps stops.
            exact-replay play limits start steps left mid now replayed answer stops w),
      );
      reaches = concluded-reaches mid now replayed answer w;
      schedule_count = concluded-read-count mid now replayed answer w schedule.old.faults
          schedule.new.faults looped.counts.0;
      write_count = concluded-write-count mid now replayed answer w out.old.faults
          written.faults out.new.faults looped.counts.1 counts;
      wants = λ fine. (
        concluded-wants mid now replayed answer w schedule.old.wants schedule.new.wants
            looped.wants.0 fine,
        wants-stay written.wants out.new.wants answer wants fine
            ∙ concluded-wants mid now replayed answer w out.old.wants written.wants
            looped.wants.1 fine,
      );
      unasked = λ broken. broken-same play limits start _ old mid now replayed answer
          looped.at_start w broken;
      schedule_end = λ e. (
        end-of-schedule (most_taken limits) source left looped.taken
            (IfSome_then source looped.stops (λ steps stops.
            done-left play limits start steps left mid now replayed stops
            (subst (Concludes mid now replayed) e w))),
        looped.ended (concluded-done mid now replayed answer w e),
      );
      schedule_decided = λ e. IfSome_then source looped.stops (λ steps stops.
          decided-replay play limits start steps left mid now replayed answer stops w
          (of-schedule-decided answer e));
      schedule_taken = looped.taken;
    }
