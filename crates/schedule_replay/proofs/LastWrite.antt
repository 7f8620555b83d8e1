-- What a replay answers and has written, once what was kept and the last text are.
use Rattle.std.proofs.Common.{◌≡◌, ◌⊎◌, ℕ, List, [], ◌++◌, length, take, drop, true, false}
use Rattle.std.proofs.Common.{Some, None, inl, inr, refl, sym, ◌∙◌, ap, subst, append_assoc}
use Rattle.std.proofs.lemmas.List.{append-nil, take-append-drop}
use Rattle.std.proofs.Math.Seq.{take-append_seam}
use Rattle.std.specs.Prelude.{IfSome}
use Rattle.std.specs.declared.option.Option.{Option}
use Rattle.std.specs.Io.KnownBytes.{append_known}
use Rattle.rv_base.proofs.Moved.{append_known-append}
use Rattle.schedule_replay.specs.Play.{Play}
use Rattle.schedule_replay.specs.Played.{Stop, AtEnd, AtLine, TooMany, Halted, last_text}
use Rattle.schedule_replay.specs.Played.{played_text, trace}
use Rattle.schedule_replay.specs.Replayed.{answer_of, blocks_taken}
use Rattle.schedule_replay.specs.Replayed.{WroteText, WroteFront, WritesSo, is_decided}
use Rattle.schedule_replay.specs.Turns.{PutsFront, last_of, EndsWith, Ending, Cut, PlaysLines}
use Rattle.schedule_replay.specs.Turns.{EndsAtStart}
use Rattle.schedule_replay.specs.declared.limits.Limits.{Limits}
use Rattle.schedule_replay.specs.declared.replaying.Replayed.{Replayed}
use Rattle.schedule_replay.specs.declared.replaying.Replayed.TheVariants.{Done, BadLine}
use Rattle.schedule_replay.specs.declared.replaying.Replayed.TheVariants.{TooManyLines, ClaimBroken}
use Rattle.schedule_replay.specs.declared.replaying.Replayed.TheVariants.{ReadFault, WriteFault}
use Rattle.schedule_replay.specs.declared.replaying.Replayed.TheVariants.{NoMemory}
use Rattle.schedule_replay.proofs.ReplayEnds.{IfSome-from}
use Rattle.schedule_replay.proofs.PlayedSoFar.{puts-none}

-- from what is known of bytes that are told
IfSome-map : (known : Option (List ℕ)) (P Q : List ℕ → Type 0)
    → ((bytes : List ℕ) → known ≡ Some bytes → P bytes → Q bytes) → IfSome known P → IfSome known Q
IfSome-map None P Q then holds = tt
IfSome-map (Some bytes) P Q then holds = then bytes refl holds

-- what is so of each number is so of the one that is there
of_each : (o : Option ℕ) (P : ℕ → Type 0) → ((n : ℕ) → P n) → IfSome o P
of_each None P each = tt
of_each (Some n) P each = each n

-- what is written after bytes that are told
wrote-told : (before now : Option (List ℕ)) (bytes text : List ℕ) → now ≡ append_known before text
    → before ≡ Some bytes → WroteText bytes text now
wrote-told before now bytes text wrote told = wrote ∙ ap (λ known. append_known known text) told

front-told : (before now : Option (List ℕ)) (bytes text front rest : List ℕ)
    → now ≡ append_known before front → before ≡ Some bytes → text ≡ front ++ rest
    → WroteFront bytes text now
front-told before now bytes text front rest wrote told same = (
  length front,
  wrote-told before now bytes front wrote told
      ∙ ap (λ (more : List ℕ). Some (bytes ++ more))
      (sym (ap (take (length front)) same ∙ take-append_seam front rest)),
)

module _ {State Item : Type 0} (play : Play State Item) where
  last-of : (state : State) (stop : Stop) → last_of play state (answer_of stop)
      ≡ last_text play state stop
  last-of state AtEnd = refl
  last-of state (AtLine number) = refl
  last-of state TooMany = refl
  last-of state (Halted lines claim) = refl

  -- where there is no memory before the start, nothing was asked, and nothing written
  pub unbegun-at_start : (start : State) (unasked : Type 0) → unasked → (before : Option (List ℕ))
      → EndsAtStart play start unasked before before NoMemory
  unbegun-at_start start unasked stays before = of_each (play.halts start) _
      (λ claim. (
        stays,
        inr (inr refl, puts-none before (last_of play start (ClaimBroken claim))),
      ))

  -- what is written where the machine halts at the start: nothing was kept or written before
  pub ends-at-start : (claim : ℕ) (answer result : Replayed) (start state : State)
      (before mid after : Option (List ℕ)) (kept : List ℕ) → answer ≡ ClaimBroken claim
      → state ≡ start → mid ≡ before → kept ≡ []
      → EndsWith play answer (kept ++ last_of play state answer) mid after result
      → EndsWith play (ClaimBroken claim) (last_of play start (ClaimBroken claim)) before after
      result
  ends-at-start claim answer result start state before mid after kept broken stays same none ends =
      rw (broken, stays, same, none) at ends

  module _ (limits : Limits) (start : State) where
    ending-of : (answer : Replayed) (text : List ℕ) (left before now : Option (List ℕ))
        (kept : List ℕ) (state : State) → is_decided answer ≡ true
        → PlaysLines play limits start text left before now kept state answer
        → Ending play limits start text left before now kept state answer
    ending-of Done text left before now kept state decided ends = ends
    ending-of (BadLine number) text left before now kept state decided ends = ends
    ending-of TooManyLines text left before now kept state decided ends = ends
    ending-of (ClaimBroken claim) text left before now kept state decided ends = ends
    ending-of ReadFault text left before now kept state decided ends = absurd (cc)
    ending-of WriteFault text left before now kept state decided ends = absurd (cc)
    ending-of NoMemory text left before now kept state decided ends = absurd (cc)

    wrote-writes : (stop : Stop) (text : List ℕ) (left : Option (List ℕ)) (bytes : List ℕ)
        (now : Option (List ℕ)) → WroteText bytes (trace play limits start text) now
        → WritesSo play limits start text left bytes now (answer_of stop)
    wrote-writes AtEnd text left bytes now wrote = wrote
    wrote-writes (AtLine number) text left bytes now wrote = wrote
    wrote-writes TooMany text left bytes now wrote = wrote
    wrote-writes (Halted lines claim) text left bytes now wrote = wrote

    -- the trace, where the schedule ends so
    Ending-trace : (answer : Replayed) (text : List ℕ) (left before now : Option (List ℕ))
        (kept : List ℕ) (state : State)
        (h : Ending play limits start text left before now kept state answer)
        → trace play limits start text ≡ h.gone ++ (kept ++ last_of play state answer)
    Ending-trace answer text left before now kept state h =
        let last : last_of play state answer ≡ last_text play state h.stop =
        ap (last_of play state) h.answer ∙ last-of state h.stop in
        ap (played_text play) h.ends
        ∙ (ap (λ blocks. blocks ++ last_text play state h.stop) (append-nil (h.gone ++ kept))
        ∙ (append_assoc h.gone kept (last_text play state h.stop)
        ∙ ap (λ more. h.gone ++ (kept ++ more)) (sym last)))

    Ending-wrote : (answer : Replayed) (text : List ℕ) (left before now after : Option (List ℕ))
        (kept : List ℕ) (state : State) (bytes : List ℕ)
        → Ending play limits start text left before now kept state answer → before ≡ Some bytes
        → after ≡ append_known now (kept ++ last_of play state answer)
        → WritesSo play limits start text left bytes after answer
    Ending-wrote answer text left before now after kept state bytes h told wrote =
        let last = kept ++ last_of play state answer in
        let all : WroteText bytes (trace play limits start text) after =
        wrote-told before after bytes (h.gone ++ last) (wrote
        ∙ (ap (λ known. append_known known last) h.written
        ∙ append_known-append before h.gone last)) told
        ∙ ap (λ (more : List ℕ). Some (bytes ++ more))
        (sym (Ending-trace answer text left before now kept state h)) in
        subst (λ (result : Replayed). WritesSo play limits start text left bytes after result)
        (sym h.answer) (wrote-writes h.stop text left bytes after all)

    Ending-part : (answer : Replayed) (text : List ℕ) (left before now after : Option (List ℕ))
        (kept : List ℕ) (state : State) (bytes : List ℕ)
        → Ending play limits start text left before now kept state answer → before ≡ Some bytes
        → PutsFront now (kept ++ last_of play state answer) after
        → WroteFront bytes (trace play limits start text) after
    Ending-part answer text left before now after kept state bytes h told (part, wrote) =
        let last = kept ++ last_of play state answer in
        let cut : last ≡ take part last ++ drop part last = sym (take-append-drop part last) in
        front-told before after bytes (trace play limits start text) (h.gone ++ take part last)
        (drop part last)
        (wrote ∙ (ap (λ known. append_known known (take part last)) h.written
        ∙ append_known-append before h.gone (take part last))) told
        (Ending-trace answer text left before now kept state h
        ∙ (ap (λ more. h.gone ++ more) cut ∙ sym (append_assoc h.gone (take part last)
        (drop part last))))

    fault-writes : (result : Replayed) (text : List ℕ) (left : Option (List ℕ)) (bytes : List ℕ)
        (now : Option (List ℕ)) → (result ≡ WriteFault) ⊎ (result ≡ NoMemory)
        → WroteFront bytes (trace play limits start text) now
        → WritesSo play limits start text left bytes now result
    fault-writes result text left bytes now (inl failed) wrote = rw failed wrote
    fault-writes result text left bytes now (inr lacking) wrote = rw lacking wrote

    either-writes : (answer result : Replayed) (text : List ℕ)
        (left before now after : Option (List ℕ)) (kept : List ℕ) (state : State) (bytes : List ℕ)
        → Ending play limits start text left before now kept state answer → before ≡ Some bytes
        → EndsWith play answer (kept ++ last_of play state answer) now after result
        → WritesSo play limits start text left bytes after result
    either-writes answer result text left before now after kept state bytes h told
        (inl (same, wrote)) = rw same
        (Ending-wrote answer text left before now after kept state bytes h told wrote)
    either-writes answer result text left before now after kept state bytes h told
        (inr (fault, part)) =
        fault-writes result text left bytes after fault
        (Ending-part answer text left before now after kept state bytes h told part)

    pub decided-writes : (answer result : Replayed) (told left before now after : Option (List ℕ))
        (kept : List ℕ) (state : State) → is_decided answer ≡ true
        → IfSome told (λ text. PlaysLines play limits start text left before now kept state answer)
        → EndsWith play answer (kept ++ last_of play state answer) now after result
        → IfSome told (λ text. IfSome before (λ bytes.
        WritesSo play limits start text left bytes after result))
    decided-writes answer result told left before now after kept state decided plays ends =
        IfSome-map told (λ text. PlaysLines play limits start text left before now kept state
        answer) (λ text. IfSome before
        (λ bytes. WritesSo play limits start text left bytes after result))
        (λ text is lines. IfSome-from before (λ bytes.
        WritesSo play limits start text left bytes after result)
        (λ bytes sunk. either-writes answer result text left before now after kept state bytes
        (ending-of answer text left before now kept state decided lines) sunk ends)) plays

    cut-wrote : (text : List ℕ) (before now : Option (List ℕ)) (bytes : List ℕ)
        → Cut play limits start text before now → before ≡ Some bytes
        → WroteFront bytes (trace play limits start text) now
    cut-wrote text before now bytes cut told = front-told before now bytes
        (trace play limits start text) cut.gone cut.rest cut.written told cut.front

    broken-writes : (answer : Replayed) (text : List ℕ) (left before now : Option (List ℕ))
        (kept : List ℕ) (state : State) (bytes : List ℕ) → is_decided answer ≡ false
        → before ≡ Some bytes → PlaysLines play limits start text left before now kept state answer
        → WritesSo play limits start text left bytes now answer
    broken-writes Done text left before now kept state bytes broken told lines = absurd (cc)
    broken-writes (BadLine number) text left before now kept state bytes broken told lines =
        absurd (cc)
    broken-writes TooManyLines text left before now kept state bytes broken told lines = absurd (cc)
    broken-writes (ClaimBroken claim) text left before now kept state bytes broken told lines =
        absurd (cc)
    broken-writes ReadFault text left before now kept state bytes broken told (taken, breaks, wrote)
        = (
          taken,
          breaks,
          wrote-told before now bytes (blocks_taken play limits start taken)
              wrote told,
        )
    broken-writes WriteFault text left before now kept state bytes broken told lines =
        cut-wrote text before now bytes lines told
    broken-writes NoMemory text left before now kept state bytes broken told lines =
        cut-wrote text before now bytes lines told

    pub undecided-writes : (answer : Replayed) (told left before now : Option (List ℕ))
        (kept : List ℕ) (state : State) → is_decided answer ≡ false
        → IfSome told (λ text. PlaysLines play limits start text left before now kept state answer)
        → IfSome told (λ text. IfSome before (λ bytes.
        WritesSo play limits start text left bytes now answer))
    undecided-writes answer told left before now kept state broken plays =
        IfSome-map told (λ text. PlaysLines play limits start text left before now kept state
        answer) (λ text. IfSome before
        (λ bytes. WritesSo play limits start text left bytes now answer))
        (λ text is lines. IfSome-from before (λ bytes.
        WritesSo play limits start text left bytes now answer)
        (λ bytes sunk. broken-writes answer text left before now kept state bytes broken sunk
        lines)) plays
