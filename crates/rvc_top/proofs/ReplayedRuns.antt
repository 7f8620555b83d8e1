-- A run that replays its schedule is one as its command is described.
use Rattle.std.proofs.Common.{◌≡◌, ◌+◌, sym, ap, subst, arith, inl, inr, Ok}
use Rattle.std.proofs.Common.{IsSome, IfSome}
use Rattle.std.proofs.lemmas.Option.{IfSome_then}
use Rattle.proto_model.specs.Tokens.{Text}
use Rattle.rv_base.specs.Outside.{RisesWhere, MayRise}
use Rattle.rv_base.specs.Whole.{TakesAtMost}
use Rattle.schedule_replay.specs.declared.limits.Limits.{Limits}
use Rattle.rvc_top.specs.Forms.{FileForm, IsForm}
use Rattle.rvc_top.specs.Commands.{Replay, ReplaysSchedule}
use Rattle.rvc_top.specs.Verdict.{IsSaid, FileVerdict, TaskVerdict}
use Rattle.rvc_top.specs.Endings.{kind_of, run_read_failed, run_write_failed, run_wants}
use Rattle.rvc_top.specs.Endings.{Ends, IsOrFails, AnswersOrFails}
use Rattle.rvc_top.specs.Endings.{most_of_file}
use Rattle.rvc_top.specs.Endings.{NeedsNoSchedule, FaultLeaves}
use Rattle.rvc_top.specs.FileRead.{IsFile, ReadToEnd}
use Rattle.rvc_top.specs.Reply.{FileDecides, Finishes}
use Rattle.rvc_top.specs.Runs.{Seen, WasEnded, WantsStay, IsRun, ReachesSchedule, IsReplay}
use Rattle.rvc_top.specs.declared.file.FileRead.{FileRead}
use Rattle.rvc_top.specs.declared.file.FileRead.TheVariants.{Holds, Refused}
use Rattle.rvc_top.specs.declared.reply.Reply.{Reply}
use Rattle.rvc_top.specs.declared.status.Status.{Status}
use Rattle.rvc_top.specs.declared.status.Status.TheVariants.{Done, FileRefused}
use Rattle.rvc_top.proofs.EveryRun.{file-says}
use Rattle.rvc_top.proofs.Runs.{run-replied}
use Rattle.rvc_top.proofs.Stays.{replayed-stays, IsStill}
use Rattle.rvc_top.proofs.Endings.{rises-le, rose-where, ends-map}

module _ (Value : Type 0) (form : FileForm Value) (sound : IsForm form) (limits : Limits)
    (replay : Value → Replay)
    (file schedule out : Seen) (answer : Status) (value : Value)
    (holds : IfSome file.old.bytes (λ f. form.Holds f value))
    (count : file.new.faults ≡ file.old.faults) (file_wants : WantsStay file)
    (replayed : IsReplay (replay value) limits schedule out answer)
  where
    -- a file that holds this value needs no schedule only where a claim is broken at the start
    starts-broken : (f : Text) → form.Holds f value
        → NeedsNoSchedule (ReplaysSchedule Value form limits replay) f
        → IsSome (replay value).broken
    starts-broken f has (inl x) = absurd (sound.not_both f x.0 value has x.1)
    starts-broken f has (inr x) =
        subst (λ (v : Value). IsSome (replay v).broken) (sound.held_once f x.0 value x.1 has) x.2

    replayed-bytes : (f : Text) → form.Holds f value → (s : Text)
        → IfSome out.old.bytes (λ before. Ends (IsSaid ((replay value).says s))
        ((replay value).Leaves s schedule.new.bytes before out.new.bytes) before out.new.bytes
        answer)
        → IfSome out.old.bytes
        (λ before. Ends (TaskVerdict (ReplaysSchedule Value form limits replay) f s)
        (FaultLeaves (ReplaysSchedule Value form limits replay) file.old.faults file.new.faults f s
        schedule.new.bytes before out.new.bytes) before out.new.bytes answer)
    replayed-bytes f has s ends = IfSome_then out.old.bytes ends (λ before x.
        ends-map (IsSaid ((replay value).says s)) (FileVerdict form (λ v. (replay v).says s) f)
        (λ status text said. inr (value, has, said))
        (file-says form sound (λ v. (replay v).says s) f value has) _ _
        (λ leaves. inr (count, (value, has, leaves))) before out.new.bytes answer x)

    replayed-exact : (f : Text) → form.Holds f value → (s : Text)
        → IsOrFails ((replay value).says s).status answer
        → AnswersOrFails (TaskVerdict (ReplaysSchedule Value form limits replay) f s) answer
    replayed-exact f has s is status text verdict =
        subst (λ (t : Status). IsOrFails t answer)
        (sym (file-says form sound (λ v. (replay v).says s) f value has status text verdict).0) is

    pub run-replayed : WasEnded file
        → TakesAtMost (most_of_file (ReplaysSchedule Value form limits replay)) file.old.bytes
        file.new.bytes
        → IsRun (ReplaysSchedule Value form limits replay) file schedule out answer
    run-replayed ended taken = record {
      bytes = IfSome_then file.old.bytes holds (λ f has. (
        λ needs_none s.
            replayed-bytes f has s (replayed.bytes.0 (starts-broken f has needs_none) s),
        IfSome_then schedule.old.bytes replayed.bytes.1 (replayed-bytes f has),
      ));
      exact = IfSome_then file.old.bytes holds (λ f has. (
        λ needs_none s.
            replayed-exact f has s (replayed.exact.0 (starts-broken f has needs_none) s),
        IfSome_then schedule.old.bytes replayed.exact.1 (replayed-exact f has),
      ));
      usage = λ e. subst ReachesSchedule e replayed.reaches;
      read_fault = λ e. inr (
        count,
        tt,
        rose-where (run_read_failed (kind_of answer)) schedule.old.faults schedule.new.faults
            (ap (λ s. run_read_failed (kind_of s)) e) replayed.schedule_count,
      );
      file_count = omega (arith, count);
      schedule_count = rises-le (run_read_failed (kind_of answer)) schedule.old.faults
          schedule.new.faults replayed.schedule_count;
      reads_stay = λ fine. (
        count,
        replayed-stays schedule.old.faults schedule.new.faults answer replayed.schedule_count
            fine,
      );
      write_count = replayed.write_count;
      wants = λ fine. (file_wants, (replayed.wants fine).0, (replayed.wants fine).1);
      file_stops = λ changed. absurd (changed (count, file_wants));
      unread = λ unread. absurd (unread tt);
      end = λ e r. ended;
      taken = taken;
      unused = λ unread. absurd (unread tt);
      file_first = λ e. absurd (subst ReachesSchedule e replayed.reaches);
      unasked = IfSome_then file.old.bytes holds
          (λ f has needs_none. replayed.unasked (starts-broken f has needs_none));
      schedule_end = λ e r. replayed.schedule_end e;
      schedule_decided = λ e. (value, holds, replayed.schedule_decided e);
      schedule_taken = replayed.schedule_taken;
    }

refused-undone : (status : Status) → status ≡ FileRefused → status ≡ Done → ⊥
refused-undone status refused done = absurd (cc)

-- a run that replays its schedule where its file holds a value
module _ (Value : Type 0) (form : FileForm Value) (sound : IsForm form) (limits : Limits)
    (replay : Value → Replay) (file schedule out : Seen) (answer : Status) (found : FileRead Value)
    (is : IfSome file.old.bytes (λ f. IsFile form f found))
    (count : file.new.faults ≡ file.old.faults) (file_wants : WantsStay file)
    (ended : ReadToEnd file.new.bytes file.ended found)
    (taken : TakesAtMost (form.limit + 1) file.old.bytes file.new.bytes)
  where
    -- the file holds this value, and the schedule is replayed by it
    pub run-held : (value : Value) → found ≡ Holds value
        → IsReplay (replay value) limits schedule out answer
        → IsRun (ReplaysSchedule Value form limits replay) file schedule out answer
    run-held value holds replayed =
        run-replayed Value form sound limits replay file schedule out answer value
        (IfSome_then file.old.bytes is (λ f checks. subst (IsFile form f) holds checks)) count
        file_wants replayed (subst (ReadToEnd file.new.bytes file.ended) holds ended) taken

    -- the file is refused, and the text that says so is written
    pub run-refused : IsStill schedule → (reply : Reply) → found ≡ Refused reply.text
        → reply.status ≡ FileRefused
        → Finishes out.old.bytes out.new.bytes (Ok reply) answer
        → RisesWhere (run_write_failed (kind_of answer)) out.old.faults out.new.faults
        → MayRise (run_wants (kind_of answer)) out.old.wants out.new.wants
        → IsRun (ReplaysSchedule Value form limits replay) file schedule out answer
    run-refused still reply says refused finishes writes out_wants =
        run-replied (ReplaysSchedule Value form limits replay) sound tt file schedule out answer
        still (Ok reply)
        (IfSome_then file.old.bytes is
        (λ f checks s. inl (refused, subst (IsFile form f) says checks)))
        (subst FileDecides (sym refused) tt) count finishes
        (λ e. absurd (refused-undone reply.status refused e))
        (λ e reads. refused-undone reply.status refused e) taken file_wants writes out_wants tt
