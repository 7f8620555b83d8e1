-- How a run ends once a text is delivered, or a reply is finished.
use Rattle.std.proofs.Common.{◌≡◌, ℕ, ◌≤◌, Bool, true, false, ◌++◌, take, Some, None, sym, ◌∙◌, ap}
use Rattle.std.proofs.Common.{subst, refl, arith, inl, inr, IfOk, IfSome, Result, Ok, Err}
use Rattle.std.proofs.lemmas.List.{append-nil}
use Rattle.std.specs.declared.option.Option.{Option}
use Rattle.proto_model.specs.Tokens.{Text}
use Rattle.rv_base.specs.Outside.{RisesWhere, Rose}
use Rattle.rv_base.specs.Whole.{TakesPart}
use Rattle.rvc_top.specs.Commands.{Task, WritesText, RepliesToFile, ReplaysSchedule}
use Rattle.rvc_top.specs.Endings.{Kind, Decided, ReadFailed, WriteFailed, Wanting}
use Rattle.rvc_top.specs.Endings.{kind_of, DecidedKind, IsDecided, IsOfSchedule}
use Rattle.rvc_top.specs.Endings.{EndsBy, Written, PartWritten, Ends, IsOrFails, AnswersOrFails}
use Rattle.rvc_top.specs.Endings.{WhereTold, ReadsFile}
use Rattle.rvc_top.specs.FileRead.{reading_failed}
use Rattle.rvc_top.specs.Reply.{FileDecidesKind, FileDecides, Delivers, Finishes}
use Rattle.rvc_top.specs.declared.reply.Reply.{Reply}
use Rattle.rvc_top.specs.declared.reply.Failure.{Failure}
use Rattle.rvc_top.specs.declared.reply.Failure.TheVariants.{Read, NoMemory as WantsMemory}
use Rattle.rvc_top.specs.declared.status.Status.{Status}
use Rattle.rvc_top.specs.declared.status.Status.TheVariants.{Done, Usage, FileRefused, ReadFault}
use Rattle.rvc_top.specs.declared.status.Status.TheVariants.{ScheduleRefused, WriteFault, NoMemory}
use Rattle.rvc_top.specs.declared.status.Status.TheVariants.{ClaimBroken}
use Rattle.rvc_top.proofs.EveryRun.{IsOne}

-- ---- counts

pub rises-le : (failed : Bool) (before now : ℕ) → RisesWhere failed before now → before ≤ now
rises-le true before now r = r.0
rises-le false before now r = omega (arith, r)

pub rose-where : (failed : Bool) (before now : ℕ) → failed ≡ true → RisesWhere failed before now
    → Rose before now
rose-where true before now e r = r.1
rose-where false before now e r = absurd (cc)

-- ---- what is told

pub told : (bytes : Option Text) (P : Text → Type 0) → ((x : Text) → bytes ≡ Some x → P x)
    → IfSome bytes P
told None P f = tt
told (Some x) P f = f x refl

pub told-both : (bytes : Option Text) {P Q R : Text → Type 0} → IfSome bytes P → IfSome bytes Q
    → ((x : Text) → P x → Q x → R x) → IfSome bytes R
told-both None p q f = tt
told-both (Some x) p q f = f x p q

-- a fact of a file that is read and of any schedule
pub of-file : (task : Task) → ReadsFile task → (file schedule : Option Text)
    (fact : Text → Text → Type 0)
    → IfSome file (λ f. (s : Text) → fact f s) → WhereTold task file schedule fact
of-file (WritesText said) reads file schedule fact x = absurd reads
of-file (RepliesToFile Value form says) reads file schedule fact x = x
of-file (ReplaysSchedule Value form limits replay) reads None schedule fact x = tt
of-file (ReplaysSchedule Value form limits replay) reads (Some f) schedule fact x =
    (λ needs_none s. x s, told schedule (fact f) (λ s e. x s))

-- where both tell their bytes
pub where-told : (task : Task) (f s : Text) (fact : Text → Text → Type 0)
    → WhereTold task (Some f) (Some s) fact → fact f s
where-told (WritesText said) f s fact x = x f s
where-told (RepliesToFile Value form says) f s fact x = x s
where-told (ReplaysSchedule Value form limits replay) f s fact x = x.1

-- what follows from a fact
pub where-then : (task : Task) (file schedule : Option Text) (fact then : Text → Text → Type 0)
    → ((f s : Text) → fact f s → then f s) → WhereTold task file schedule fact
    → WhereTold task file schedule then
where-then (WritesText said) file schedule fact then g x = λ f s. g f s (x f s)
where-then (RepliesToFile Value form says) None schedule fact then g x = tt
where-then (RepliesToFile Value form says) (Some f) schedule fact then g x = λ s. g f s (x s)
where-then (ReplaysSchedule Value form limits replay) None schedule fact then g x = tt
where-then (ReplaysSchedule Value form limits replay) (Some f) None fact then g x =
    (λ needs_none s. g f s (x.0 needs_none s), tt)
where-then (ReplaysSchedule Value form limits replay) (Some f) (Some s) fact then g x =
    (λ needs_none t. g f t (x.0 needs_none t), g f s x.1)

-- ---- a text is delivered

-- a decided run has written the text of the verdict
pub ends-decided : (kind : Kind) → DecidedKind kind
    → (verdict : Status → Text → Type 0) (fault : Type 0) (before : Text) (now : Option Text)
    (status : Status)
    → Written verdict before now status → EndsBy kind verdict fault before now status
ends-decided (Decided reach) is verdict fault before now status whole = whole
ends-decided ReadFailed is verdict fault before now status whole = absurd is
ends-decided WriteFailed is verdict fault before now status whole = absurd is
ends-decided Wanting is verdict fault before now status whole = absurd is

-- and the other way
pub decided-whole : (kind : Kind) → DecidedKind kind
    → (verdict : Status → Text → Type 0) (fault : Type 0) (before : Text) (now : Option Text)
    (status : Status)
    → EndsBy kind verdict fault before now status → Written verdict before now status
decided-whole (Decided reach) is verdict fault before now status ends = ends
decided-whole ReadFailed is verdict fault before now status ends = absurd is
decided-whole WriteFailed is verdict fault before now status ends = absurd is
decided-whole Wanting is verdict fault before now status ends = absurd is

-- what no fault and no want of memory ends is decided
pub decided-else : (status : Status) → (status ≡ ReadFault → ⊥) → (status ≡ WriteFault → ⊥)
    → (status ≡ NoMemory → ⊥) → IsDecided status
decided-else Done read write memory = tt
decided-else Usage read write memory = tt
decided-else FileRefused read write memory = tt
decided-else ScheduleRefused read write memory = tt
decided-else ReadFault read write memory = read refl
decided-else WriteFault read write memory = write refl
decided-else NoMemory read write memory = memory refl
decided-else ClaimBroken read write memory = tt

-- what holds of the answer, by how the delivery went
pub by-delivery : (P : Status → Type 0) (old new : Option Text) (text : Text)
    (status answer : Status)
    → Delivers old new text status answer → P status → P WriteFault → P NoMemory → P answer
by-delivery P old new text status answer (inl w) x y z = subst P (sym w.0) x
by-delivery P old new text status answer (inr (inl w)) x y z = subst P (sym w.0) y
by-delivery P old new text status answer (inr (inr w)) x y z = subst P (sym w.0) z

module _ (verdict : Status → Text → Type 0) (one : IsOne verdict) (fault : Type 0) (before : Text)
    (now : Option Text) where
  -- where a part of the verdict's text is written, a front of it is
  partly-part : (status : Status) (text : Text) → verdict status text
      → TakesPart (Some before) now text → PartWritten verdict before now
  partly-part status text said part s t other = (
    part.0,
    subst (λ (bytes : Text). now ≡ Some (before ++ take part.0 bytes))
        (one status text s t said other).1 part.2,
  )

  -- where nothing is written, a front of the verdict's text is
  pub partly-nothing : now ≡ Some before → PartWritten verdict before now
  partly-nothing e status text v = (0, e ∙ ap (λ bytes. Some bytes) (sym (append-nil before)))

  pub ends-delivered : (status : Status) (text : Text) → verdict status text → IsDecided status
      → (answer : Status)
      → Delivers (Some before) now text status answer → Ends verdict fault before now answer
  ends-delivered status text said is answer (inl w) =
      subst (Ends verdict fault before now) (sym w.0)
      (ends-decided (kind_of status) is verdict fault before now status (text, said, w.1))
  ends-delivered status text said is answer (inr (inl w)) =
      subst (Ends verdict fault before now) (sym w.0) (partly-part status text said w.1)
  ends-delivered status text said is answer (inr (inr w)) =
      subst (Ends verdict fault before now) (sym w.0) (partly-part status text said w.1)

  pub ends-finished : (reply : Result Reply Failure) (answer : Status)
      → IfOk reply (λ r. verdict r.status r.text.items) → IfOk reply (λ r. IsDecided r.status)
      → (reading_failed reply ≡ true → now ≡ Some before → fault)
      → Finishes (Some before) now reply answer → Ends verdict fault before now answer
  ends-finished (Ok r) answer said is failed w =
      ends-delivered r.status r.text.items said is answer w
  ends-finished (Err Read) answer said is failed w =
      subst (Ends verdict fault before now) (sym w.0) (failed refl w.1)
  ends-finished (Err WantsMemory) answer said is failed w =
      subst (Ends verdict fault before now) (sym w.0) (partly-nothing w.1)

-- the answer is the verdict's status, or what ended the run in its place
pub exact-delivered : (verdict : Status → Text → Type 0) → IsOne verdict
    → (old now : Option Text) (status : Status) (text : Text) → verdict status text
    → (answer : Status) → Delivers old now text status answer → AnswersOrFails verdict answer
exact-delivered verdict one old now status text said answer w s t other =
    by-delivery (IsOrFails s) old now text status answer w (inl (one status text s t said other).0)
    (inr (inr (inl refl))) (inr (inr (inr refl)))

pub exact-finished : (verdict : Status → Text → Type 0) → IsOne verdict
    → (old now : Option Text) (reply : Result Reply Failure) (answer : Status)
    → IfOk reply (λ r. verdict r.status r.text.items)
    → Finishes old now reply answer → AnswersOrFails verdict answer
exact-finished verdict one old now (Ok r) answer said w s t other =
    exact-delivered verdict one old now r.status r.text.items said answer w s t other
exact-finished verdict one old now (Err Read) answer said w s t other = inr (inl w.0)
exact-finished verdict one old now (Err WantsMemory) answer said w s t other = inr (inr (inr w.0))

-- ---- how a reply ends

pub reply-decided : (kind : Kind) → FileDecidesKind kind → DecidedKind kind
reply-decided (Decided reach) is = tt
reply-decided ReadFailed is = is
reply-decided WriteFailed is = is
reply-decided Wanting is = is

pub replies-decided : (reply : Result Reply Failure) → IfOk reply (λ r. FileDecides r.status)
    → IfOk reply (λ r. IsDecided r.status)
replies-decided (Ok r) is = reply-decided (kind_of r.status) is
replies-decided (Err e) is = tt

-- a run that ends with a reply ends in none of these ways
abbrev NoReply : Status → Type 0
NoReply answer = (answer ≡ Usage → ⊥) × (IsOfSchedule answer → ⊥)

no-reply : (status : Status) → FileDecides status → NoReply status
no-reply status is = (λ e. subst FileDecides e is, λ e. subst FileDecidesKind e is)

pub finished-no : (old now : Option Text) (reply : Result Reply Failure) (answer : Status)
    → IfOk reply (λ r. FileDecides r.status) → Finishes old now reply answer → NoReply answer
finished-no old now (Ok r) answer is w =
    by-delivery NoReply old now r.text.items r.status answer w (no-reply r.status is)
    (λ e. absurd (cc), λ e. absurd (cc)) (λ e. absurd (cc), λ e. absurd (cc))
finished-no old now (Err Read) answer is w = (
  λ e. absurd (cc w.0),
  λ e. absurd
      (let f = subst IsOfSchedule w.0 e in cc),
)
finished-no old now (Err WantsMemory) answer is w =
    (λ e. absurd (cc w.0), λ e. absurd (let f = subst IsOfSchedule w.0 e in cc))

-- a read fault is answered only where the source failed, and then nothing is written
pub finished-read : (old now : Option Text) (reply : Result Reply Failure) (answer : Status)
    → IfOk reply (λ r. FileDecides r.status) → Finishes old now reply answer
    → answer ≡ ReadFault → (reading_failed reply ≡ true) × (now ≡ old)
finished-read old now (Ok r) answer is w e =
    absurd (by-delivery (λ s. s ≡ ReadFault → ⊥) old now r.text.items r.status answer w
    (λ f. subst FileDecides f is) (λ f. absurd (cc)) (λ f. absurd (cc)) e)
finished-read old now (Err Read) answer is w e = (refl, w.1)
finished-read old now (Err WantsMemory) answer is w e = absurd (cc w.0)

-- a run that is done has its reply
pub finished-done : (X : Type 0) (old now : Option Text) (reply : Result Reply Failure)
    (answer : Status) → IfOk reply (λ r. r.status ≡ Done → X) → Finishes old now reply answer
    → answer ≡ Done → X
finished-done X old now (Ok r) answer x w e =
    by-delivery (λ s. s ≡ Done → X) old now r.text.items r.status answer w x (λ f. absurd (cc))
    (λ f. absurd (cc)) e
finished-done X old now (Err Read) answer x w e = absurd (cc w.0)
finished-done X old now (Err WantsMemory) answer x w e = absurd (cc w.0)

-- ---- another verdict that says the same

module _ (v w : Status → Text → Type 0) (there : (status : Status) (text : Text) → v status text
    → w status text) (back : (status : Status) (text : Text) → w status text → v status text)
    (fault more : Type 0) (fails : fault → more) (before : Text) (now : Option Text) where
  partly-map : PartWritten v before now → PartWritten w before now
  partly-map x status text said = x status text (back status text said)

  ends-by : (kind : Kind) (status : Status) → EndsBy kind v fault before now status
      → EndsBy kind w more before now status
  ends-by (Decided reach) status x = (x.0, there status x.0 x.1, x.2)
  ends-by ReadFailed status x = fails x
  ends-by WriteFailed status x = partly-map x
  ends-by Wanting status x = partly-map x

  pub ends-map : (status : Status) → Ends v fault before now status → Ends w more before now status
  ends-map status x = ends-by (kind_of status) status x
