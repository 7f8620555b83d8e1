-- A run is one as its command is described, where it writes one text and where it replies to its
-- file.
use Rattle.std.proofs.Common.{◌≡◌, ◌+◌, subst, refl, inl, inr, IfOk, IfSome, OnErr, Result, Ok, Err}
use Rattle.std.proofs.lemmas.Option.{IfSome_then}
use Rattle.std.specs.declared.option.Option.{Option}
use Rattle.proto_model.specs.Tokens.{Text}
use Rattle.rv_base.specs.Outside.{RisesWhere, MayRise}
use Rattle.rv_base.specs.Whole.{TakesAtMost}
use Rattle.rvc_top.specs.Forms.{FileForm, IsForm}
use Rattle.rvc_top.specs.Commands.{Said, Task, WritesText, RepliesToFile}
use Rattle.rvc_top.specs.Verdict.{IsSaid, TaskVerdict}
use Rattle.rvc_top.specs.Endings.{kind_of, IsDecided, IsOfSchedule, run_write_failed, run_wants}
use Rattle.rvc_top.specs.Endings.{Ends}
use Rattle.rvc_top.specs.Endings.{ReadsFile, ReadsSchedule, most_of_file, most_of_schedule}
use Rattle.rvc_top.specs.Endings.{FaultLeaves}
use Rattle.rvc_top.specs.Endings.{FaultIsOf}
use Rattle.rvc_top.specs.FileRead.{reading_failed, reading_wants}
use Rattle.rvc_top.specs.Reply.{FileDecides, IsReplyTo, Delivers, Finishes}
use Rattle.rvc_top.specs.Runs.{Seen, unseen, WasEnded, CountsStay, IsRun}
use Rattle.rvc_top.specs.declared.reply.Reply.{Reply}
use Rattle.rvc_top.specs.declared.reply.Failure.{Failure}
use Rattle.rvc_top.specs.declared.status.Status.{Status}
use Rattle.rvc_top.specs.declared.status.Status.TheVariants.{Done, Usage, ReadFault}
use Rattle.rvc_top.proofs.EveryRun.{IsSound, task-one}
use Rattle.rvc_top.proofs.Stays.{replied-stays, wants-stay, finished-wants, IsStill, still-count}
use Rattle.rvc_top.proofs.Stays.{still-wants, still-taken, still-le}
use Rattle.rvc_top.proofs.Endings.{rises-le, rose-where, told, of-file, by-delivery}
use Rattle.rvc_top.proofs.Endings.{ends-delivered, ends-finished, exact-delivered, exact-finished}
use Rattle.rvc_top.proofs.Endings.{replies-decided, finished-no, finished-read, finished-done}

-- ---- one text

module _ (said : Said) (file schedule out : Seen) (answer : Status) (still_file : IsStill file)
    (still : IsStill schedule)
    (is : IsDecided said.status) (own : IsOfSchedule said.status → ⊥)
    (delivers : Delivers out.old.bytes out.new.bytes said.text said.status answer) where
  written-bytes : (f s : Text) → IfSome out.old.bytes
      (λ before. Ends (IsSaid said) (FaultLeaves (WritesText said) file.old.faults file.new.faults f
      s schedule.new.bytes before out.new.bytes) before out.new.bytes answer)
  written-bytes f s =
      told out.old.bytes _ (λ before e.
      ends-delivered (IsSaid said) (task-one (WritesText said) tt f s) _ before out.new.bytes
      said.status said.text (refl, refl) is answer
      (subst (λ (old : Option Text). Delivers old out.new.bytes said.text said.status answer) e
      delivers))

  pub run-written : RisesWhere (run_write_failed (kind_of answer)) out.old.faults out.new.faults
      → MayRise (run_wants (kind_of answer)) out.old.wants out.new.wants
      → IsRun (WritesText said) file schedule out answer
  run-written writes wants = record {
    bytes = written-bytes;
    exact = λ f s. exact-delivered (IsSaid said) (task-one (WritesText said) tt f s) out.old.bytes
        out.new.bytes said.status said.text (refl, refl) answer delivers;
    usage = by-delivery (λ s. s ≡ Usage → said.status ≡ Usage) out.old.bytes out.new.bytes said.text
        said.status answer delivers (λ e. e) (λ e. absurd (cc)) (λ e. absurd (cc));
    read_fault = λ e. absurd (by-delivery (λ s. s ≡ ReadFault → ⊥) out.old.bytes out.new.bytes
        said.text said.status answer delivers (λ f. subst IsDecided f is) (λ f. absurd (cc))
        (λ f. absurd (cc)) e);
    file_count = still-le file still_file;
    schedule_count = still-le schedule still;
    reads_stay = λ fine. (still-count file still_file, still-count schedule still);
    write_count = writes;
    wants = λ fine. (
      still-wants file still_file,
      still-wants schedule still,
      wants-stay out.old.wants out.new.wants answer wants fine,
    );
    file_stops = λ changed.
        absurd (changed (still-count file still_file, still-wants file still_file));
    unread = λ e. still_file.same;
    end = λ e reads. absurd reads;
    taken = still-taken file still_file 0;
    unused = λ e. still.same;
    file_first = λ e. still.same;
    unasked = told file.old.bytes _ (λ f e needs_none. still.same);
    schedule_end = λ e reads. absurd reads;
    schedule_decided = by-delivery (λ s. IsOfSchedule s → ⊥) out.old.bytes out.new.bytes said.text
        said.status answer delivers own (λ f. absurd (cc)) (λ f. absurd (cc));
    schedule_taken = still-taken schedule still 0;
  }

-- ---- a reply to the file

module _ (task : Task) (sound : IsSound task) (reads : ReadsFile task) (file schedule out : Seen)
    (answer : Status) (still : IsStill schedule)
    (reply : Result Reply Failure)
    (replies : IfSome file.old.bytes (λ f. IfOk reply (IsReplyTo task f)))
    (is : IfOk reply (λ r. FileDecides r.status))
    (count : RisesWhere (reading_failed reply) file.old.faults file.new.faults)
    (finishes : Finishes out.old.bytes out.new.bytes reply answer) where
  said-of : (f s : Text) (r : Result Reply Failure) → IfOk r (IsReplyTo task f)
      → IfOk r (λ x. TaskVerdict task f s x.status x.text.items)
  said-of f s (Ok x) says = says s
  said-of f s (Err e) says = tt

  replied-bytes : (f : Text) → IfOk reply (IsReplyTo task f) → (s : Text)
      → IfSome out.old.bytes (λ before. Ends (TaskVerdict task f s)
      (FaultLeaves task file.old.faults file.new.faults f s schedule.new.bytes before out.new.bytes)
      before out.new.bytes answer)
  replied-bytes f says s =
      told out.old.bytes _ (λ before e.
      ends-finished (TaskVerdict task f s) (task-one task sound f s) _ before out.new.bytes reply
      answer (said-of f s reply says) (replies-decided reply is)
      (λ failed nothing. inl (
        rose-where (reading_failed reply) file.old.faults file.new.faults failed count,
        nothing,
      ))
      (subst (λ (old : Option Text). Finishes old out.new.bytes reply answer) e finishes))

  replied-fault : answer ≡ ReadFault → FaultIsOf task file.old.faults file.new.faults
      schedule.old.faults schedule.new.faults (schedule.Same × (out.new.bytes ≡ out.old.bytes))
  replied-fault e =
      let read = finished-read out.old.bytes out.new.bytes reply answer is finishes e in
      inl (
        reads,
        rose-where (reading_failed reply) file.old.faults file.new.faults read.0 count,
        (still.same, read.1),
      )

  -- where a count of the file changed, there is no reply, and the sink is as it was
  replied-stops : MayRise (reading_wants reply) file.old.wants file.new.wants
      → OnErr reply out.Same → (CountsStay file → ⊥) → schedule.Same × out.Same
  replied-stops file_wants unwritten changed = (still.same, by reply count file_wants unwritten)
    where
      by : (r : Result Reply Failure)
          → RisesWhere (reading_failed r) file.old.faults file.new.faults
          → MayRise (reading_wants r) file.old.wants file.new.wants → OnErr r out.Same → out.Same
      by (Ok r) faults wants unwritten = absurd (changed (faults, wants))
      by (Err e) faults wants unwritten = unwritten

  pub run-replied : IfOk reply (λ r. r.status ≡ Done → WasEnded file)
      → IfOk reply (λ r. r.status ≡ Done → ReadsSchedule task → ⊥)
      → TakesAtMost (most_of_file task) file.old.bytes file.new.bytes
      → MayRise (reading_wants reply) file.old.wants file.new.wants
      → RisesWhere (run_write_failed (kind_of answer)) out.old.faults out.new.faults
      → MayRise (run_wants (kind_of answer)) out.old.wants out.new.wants
      → OnErr reply out.Same
      → IsRun task file schedule out answer
  run-replied ended alone taken file_wants writes out_wants unwritten = record {
    bytes = of-file task reads file.old.bytes schedule.old.bytes _
        (IfSome_then file.old.bytes replies replied-bytes);
    exact = of-file task reads file.old.bytes schedule.old.bytes _
        (IfSome_then file.old.bytes replies (λ f says s.
        exact-finished (TaskVerdict task f s) (task-one task sound f s) out.old.bytes out.new.bytes
        reply answer (said-of f s reply says) finishes));
    usage = λ e.
        absurd ((finished-no out.old.bytes out.new.bytes reply answer is finishes).0 e);
    read_fault = replied-fault;
    file_count = rises-le (reading_failed reply) file.old.faults file.new.faults count;
    schedule_count = still-le schedule still;
    reads_stay = λ fine. (
      replied-stays file.old.faults file.new.faults out.old.bytes out.new.bytes reply answer count
          finishes fine,
      still-count schedule still,
    );
    write_count = writes;
    wants = λ fine. (
      finished-wants file.old.wants file.new.wants out.old.bytes out.new.bytes reply answer
          file_wants finishes fine,
      still-wants schedule still,
      wants-stay out.old.wants out.new.wants answer out_wants fine,
    );
    file_stops = replied-stops file_wants unwritten;
    unread = λ unread. absurd (unread reads);
    end = λ e r. finished-done (WasEnded file) out.old.bytes out.new.bytes reply answer ended
        finishes e;
    taken = taken;
    unused = λ e. still.same;
    file_first = λ e. still.same;
    unasked = told file.old.bytes _ (λ f e needs_none. still.same);
    schedule_end = λ e r. absurd (finished-done (ReadsSchedule task → ⊥) out.old.bytes out.new.bytes
        reply answer alone finishes e r);
    schedule_decided = λ e.
        absurd ((finished-no out.old.bytes out.new.bytes reply answer is finishes).1 e);
    schedule_taken = still-taken schedule still (most_of_schedule task);
  }

-- ---- a command that reads the file alone

ok-any : {P : Reply → Type 0} (reply : Result Reply Failure) → ((r : Reply) → P r) → IfOk reply P
ok-any (Ok r) p = p r
ok-any (Err e) p = tt

module _ (Value : Type 0) (form : FileForm Value) (says : Value → Said) (file out : Seen)
    (answer : Status) where
  -- a run that writes what is replied to the file
  pub run-told : IsForm form
      → (reply : Result Reply Failure)
      → IfSome file.old.bytes (λ f. IfOk reply (IsReplyTo (RepliesToFile Value form says) f))
      → IfOk reply (λ r. FileDecides r.status)
      → IfOk reply (λ r. r.status ≡ Done → WasEnded file)
      → TakesAtMost (form.limit + 1) file.old.bytes file.new.bytes
      → RisesWhere (reading_failed reply) file.old.faults file.new.faults
      → MayRise (reading_wants reply) file.old.wants file.new.wants
      → Finishes out.old.bytes out.new.bytes reply answer
      → RisesWhere (run_write_failed (kind_of answer)) out.old.faults out.new.faults
      → MayRise (run_wants (kind_of answer)) out.old.wants out.new.wants
      → OnErr reply out.Same
      → IsRun (RepliesToFile Value form says) file unseen out answer
  run-told sound reply replies is ended taken count file_wants finishes writes out_wants unwritten =
      run-replied (RepliesToFile Value form says) sound tt file unseen out answer
      record { at = refl; same = tt } reply replies is count finishes ended
      (ok-any reply (λ r e reads. reads)) taken file_wants writes out_wants unwritten

  -- where it stands beside a schedule that is as it was
  pub run-beside : (schedule : Seen) → IsStill schedule
      → IsRun (RepliesToFile Value form says) file unseen out answer
      → IsRun (RepliesToFile Value form says) file schedule out answer
  run-beside schedule still run = record {
    bytes = run.bytes;
    exact = run.exact;
    usage = run.usage;
    read_fault = λ e. fault-beside (run.read_fault e);
    file_count = run.file_count;
    schedule_count = still-le schedule still;
    reads_stay = λ fine. ((run.reads_stay fine).0, still-count schedule still);
    write_count = run.write_count;
    wants = λ fine. ((run.wants fine).0, still-wants schedule still, (run.wants fine).2);
    file_stops = λ changed. (still.same, (run.file_stops changed).1);
    unread = run.unread;
    end = run.end;
    taken = run.taken;
    unused = λ e. still.same;
    file_first = λ e. still.same;
    unasked = told file.old.bytes _ (λ f e needs_none. still.same);
    schedule_end = λ e reads. absurd reads;
    schedule_decided = run.schedule_decided;
    schedule_taken = still-taken schedule still 0;
  }
    where
      fault-beside : FaultIsOf (RepliesToFile Value form says) file.old.faults file.new.faults 0 0
          (Unit {0} × (out.new.bytes ≡ out.old.bytes))
          → FaultIsOf (RepliesToFile Value form says) file.old.faults file.new.faults
          schedule.old.faults schedule.new.faults
          (schedule.Same × (out.new.bytes ≡ out.old.bytes))
      fault-beside (inl x) = inl (x.0, x.1, (still.same, x.2.1))
      fault-beside (inr x) = absurd x.1
