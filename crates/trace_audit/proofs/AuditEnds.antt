-- How each answer of the loop that audits a trace comes about.
use Rattle.std.proofs.Common.{◌≡◌, ◌≢◌, ℕ, ◌+◌, ◌-◌, ◌<◌, ◌≤◌, List, [], ◌∷◌, ◌++◌, length}
use Rattle.std.proofs.Common.{Bool, true, false, nat_lt, Some, None, Ok, inl, inr, ◌⊎◌, arith, refl}
use Rattle.std.proofs.Common.{sym}
use Rattle.std.proofs.Common.{◌∙◌, ap, subst, append_assoc, length-append}
use Rattle.std.proofs.lemmas.Bool.{cases_lt}
use Rattle.std.proofs.lemmas.Grind.{common_steps}
use Rattle.std.proofs.lemmas.List.{append-nil}
use Rattle.std.proofs.Math.Seq.{take-length}
use Rattle.std.specs.Prelude.{IfSome, IsOk}
use Rattle.std.specs.declared.option.Option.{Option}
use Rattle.rv_base.specs.Outside.{MayRise}
use Rattle.rv_base.specs.Whole.{TakesAtMost}
use Rattle.schedule_replay.specs.ScheduleLimits.{most_taken}
use Rattle.schedule_replay.specs.TextLines.{lines_of, closed_lines, open_part, joined}
use Rattle.schedule_replay.specs.Reading.{Reading, nothing_read}
use Rattle.schedule_replay.specs.NextLine.{GetsLine, FindsEnd, FindsLong, FindsMany, Breaks}
use Rattle.schedule_replay.specs.NextLine.{NextMoves, next_failed, next_wants}
use Rattle.schedule_replay.specs.Replayed.{TakesFew, line_decides, count_decides}
use Rattle.schedule_replay.specs.declared.limits.Limits.{Limits}
use Rattle.schedule_replay.specs.declared.lines.NextLine.{NextLine}
use Rattle.schedule_replay.specs.declared.lines.NextLine.TheVariants as next
use Rattle.schedule_replay.specs.declared.replaying.Replayed.TheVariants as replayed
use Rattle.schedule_replay.proofs.ClosedLines.{closed_lines-joined, open_part-joined}
use Rattle.schedule_replay.proofs.LinesSoFar.{HasRead, HasRead-start, HasRead-more, HasRead-front}
use Rattle.schedule_replay.proofs.LinesSoFar.{HasRead-refused, HasRead-end, HasRead-long}
use Rattle.schedule_replay.proofs.LinesSoFar.{HasRead-many, HasRead-broken, HasRead-few}
use Rattle.schedule_replay.proofs.LinesSoFar.{long-few, many-few, broken-few, lacks-few}
use Rattle.schedule_replay.proofs.LinesRead.{ReadsOpen, HasRead-open, HasRead-all}
use Rattle.schedule_replay.proofs.ReplayEnds.{IfSome-from, ask-few}
use Rattle.trace_audit.specs.Auditing.{Auditing, audit_line, is_whole}
use Rattle.trace_audit.specs.AuditedTrace.{Accepted, RefusedAt, after_lines, concluded}
use Rattle.trace_audit.specs.AuditedTrace.{audited_from}
use Rattle.trace_audit.specs.Audits.{Finds, AuditsSo, audit_failed, audit_wants}
use Rattle.trace_audit.specs.Turns.{count_of, HearsLine, Concludes, HearsNext}
use Rattle.trace_audit.specs.declared.auditing.Audited.{Audited}
use Rattle.trace_audit.specs.declared.auditing.Audited.TheVariants.{Sound, BadLine, ReadFault}
use Rattle.trace_audit.specs.declared.auditing.Audited.TheVariants.{NoMemory}
use Rattle.trace_audit.proofs.AuditedSoFar.{line_within-is, line_within-long, line_within-many}
use Rattle.trace_audit.proofs.AuditedSoFar.{after_lines-more, audited-ends, audited-open}
use Rattle.trace_audit.proofs.AuditedSoFar.{audited-refused}
use Rattle.trace_audit.proofs.ClosedAndOpen.{last_line}
use Rattle.trace_audit.proofs.Counts.{audit_line-rises}

some-last : (part : List ℕ) → 0 < length part → last_line part ≢ []
some-last [] some = absurd (omega (arith, some))
some-last (b ∷ bs) some = λ none. absurd (cc)

within-lines : (most number : ℕ) → number ≤ most → nat_lt most number ≡ false
within-lines most number within = grind (arith, common_steps)

past-lines : (most number : ℕ) → most < number → nat_lt most number ≡ true
past-lines most number past = grind (arith, common_steps)

-- the limits stay
pub within-limits : (limits known : Limits) (old new : Reading) (before after : Option (List ℕ))
    (asked : NextLine) → known ≡ limits → NextMoves known old new before after asked
    → NextMoves limits old new before after asked
within-limits limits known old new before after asked same moves =
    subst (λ l. NextMoves l old new before after asked) same moves

-- all of the text was taken
all-few : (deciding : ℕ) (text : List ℕ) (left : Option (List ℕ)) → length text ≤ deciding
    → left ≡ Some [] → TakesFew deciding text left
all-few deciding text left within none =
    (text, [], sym (append-nil text), none, omega (arith, within), λ few. refl)

module _ (limits : Limits) (start : Auditing) where
  -- The lines that were read so far were audited: each ended with its LF, and none was refused.
  pub record HasAudited (before now : Option (List ℕ)) (r : Reading) (at : Auditing) (got : ℕ)
      (done : List (List ℕ)) : Type 0 where
    pub reads : HasRead limits before now r done
    pub goes : r.ended ≡ false
    pub audits : after_lines limits 0 start done ≡ Ok at
    pub count : length done ≡ got
    pub counted : count_of at.section ≤ got
    pub events : at.events ≤ got

  pub HasAudited-start : (before : Option (List ℕ)) → count_of start.section ≡ 0
      → start.events ≡ 0 → HasAudited before before (nothing_read limits) start 0 []
  HasAudited-start before counted events = record {
    reads = HasRead-start limits before;
    goes = refl;
    audits = refl;
    count = refl;
    counted = omega (arith, counted);
    events = omega (arith, events);
  }

  -- What is owed of a trace whose bytes are told.
  abbrev pub Owes : Option (List ℕ) → Option (List ℕ) → Audited → Type 0
  Owes told left result = IfSome told (λ text. AuditsSo limits start text left result)

  -- ---- a line that is refused

  refused-within : (text : List ℕ) (left : Option (List ℕ)) (number : ℕ) → number ≤ limits.lines
      → audited_from limits start text ≡ RefusedAt number
      → TakesFew (line_decides limits number text) text left
      → Finds limits start text left (RefusedAt number)
  refused-within text left number within found few =
      (found, rw (within-lines limits.lines number within) few)

  refused-past : (text : List ℕ) (left : Option (List ℕ)) (number : ℕ) → limits.lines < number
      → audited_from limits start text ≡ RefusedAt number
      → TakesFew (count_decides limits text) text left
      → Finds limits start text left (RefusedAt number)
  refused-past text left number past found few =
      (found, rw (past-lines limits.lines number past) few)

  -- no LF ends the line
  refused-open : (text : List ℕ) (left : Option (List ℕ)) (at : Auditing)
      (done : List (List ℕ)) (line : List ℕ) → after_lines limits 0 start done ≡ Ok at
      → 0 < length line → ReadsOpen done line text left
      → audited_from limits start text ≡ RefusedAt (length done + 1)
  refused-open text left at done line audits some reads =
      audited-open limits start at done audits text line
      (ap closed_lines reads.all ∙ closed_lines-joined done line reads.each reads.one_line)
      (ap open_part reads.all ∙ open_part-joined done line reads.each reads.one_line)
      (some-last line some)

  line-found : (before now after : Option (List ℕ)) (r new : Reading) (at : Auditing) (got : ℕ)
      (done : List (List ℕ)) (number : ℕ) (text : List ℕ)
      → HasAudited before now r at got done → GetsLine limits r new now after number
      → before ≡ Some text
      → (new.ended ≡ true) ⊎ ((new.ended ≡ false) × (audit_line at new.text ≡ None))
      → audited_from limits start text ≡ RefusedAt (length done + 1)
  line-found before now after r new at got done number text h gets told (inl over) =
      let open_line = HasRead-open limits text h.reads gets over told in
      refused-open text after at done new.text h.audits open_line.0 open_line.1
  line-found before now after r new at got done number text h gets told (inr (goes, refuses)) =
      let front = HasRead-front limits text (HasRead-more limits h.reads gets) told in
      let few : length done < limits.lines = omega (
        arith,
        h.reads.got,
        gets.number_is,
        gets.within,
      ) in
      audited-refused limits start at done h.audits text new.text front.0
      (front.1 ∙ append_assoc done (new.text ∷ []) front.0)
      (line_within-is limits (length done) at new.text few gets.fits ∙ refuses)

  line-owes : (before now after : Option (List ℕ)) (r new : Reading) (at : Auditing) (got : ℕ)
      (done : List (List ℕ)) (number : ℕ) → HasAudited before now r at got done
      → GetsLine limits r new now after number
      → (new.ended ≡ true) ⊎ ((new.ended ≡ false) × (audit_line at new.text ≡ None))
      → Owes before after (BadLine number)
  line-owes before now after r new at got done number h gets refuses =
      IfSome-from before (λ text. AuditsSo limits start text after (BadLine number)) (λ text told.
      let n : length done + 1 ≡ number = omega (arith, h.reads.got, gets.number_is) in
      refused-within text after number gets.within
      (line-found before now after r new at got done number text h gets told refuses
      ∙ ap RefusedAt n)
      (HasRead-refused limits done new.text text number (HasRead-more limits h.reads gets)
      gets.fits (sym n) told))

  heard-owes : (before now after : Option (List ℕ)) (r new : Reading) (at then : Auditing)
      (got : ℕ) (done : List (List ℕ)) (number : ℕ) (answer : Audited)
      → HasAudited before now r at got done → GetsLine limits r new now after number
      → HearsLine at then new number (Some answer) → Owes before after answer
  heard-owes before now after r new at then got done number (Sound events) h gets hears =
      absurd hears
  heard-owes before now after r new at then got done number (BadLine bad) h gets (same, refuses) =
      rw same (line-owes before now after r new at got done number h gets refuses)
  heard-owes before now after r new at then got done number ReadFault h gets hears = absurd hears
  heard-owes before now after r new at then got done number NoMemory h gets hears =
      IfSome-from before (λ text. AuditsSo limits start text after NoMemory) (λ text told. tt)

  -- ---- no further line

  -- how many bytes there are up to the end of the line that is missing
  decides-past : (text : List ℕ) (done : List (List ℕ)) (number : ℕ) → lines_of text ≡ done
      → text ≡ joined done ++ [] → number ≡ length done + 1
      → length text ≤ line_decides limits number text
  decides-past text done number lines all n =
      let before : number - 1 ≡ length done = omega (arith, n) in
      let bytes : length text ≡ length (joined done) = ap length (all ∙ append-nil (joined done)) in
      rw (before, lines, take-length done) (omega (arith, bytes))

  decides-many : (text : List ℕ) (done : List (List ℕ)) → lines_of text ≡ done
      → text ≡ joined done ++ [] → limits.lines ≡ length done
      → length text ≤ count_decides limits text
  decides-many text done lines all full =
      let bytes : length text ≡ length (joined done) = ap length (all ∙ append-nil (joined done)) in
      rw (full, lines, take-length done) (omega (arith, bytes))

  missing-finds : (text : List ℕ) (left : Option (List ℕ)) (done : List (List ℕ))
      → lines_of text ≡ done → text ≡ joined done ++ [] → left ≡ Some []
      → length done ≤ limits.lines
      → audited_from limits start text ≡ RefusedAt (length done + 1)
      → Finds limits start text left (RefusedAt (length done + 1))
  missing-finds text left done lines all none within found =
      elim (cases_lt (length done) limits.lines) [
        | inl few ↦ refused-within text left (length done + 1) (omega (arith, few)) found
            (all-few (line_decides limits (length done + 1) text) text left
            (decides-past text done (length done + 1) lines all refl) none)
        | inr full ↦ let same : limits.lines ≡ length done = omega (arith, full, within) in
            refused-past text left (length done + 1) (omega (arith, same)) found
            (all-few (count_decides limits text) text left
            (decides-many text done lines all same) none)
      ]

  -- what is concluded there
  end-found : (text : List ℕ) (left : Option (List ℕ)) (at : Auditing) (done : List (List ℕ))
      → after_lines limits 0 start done ≡ Ok at → ReadsOpen done [] text left
      → audited_from limits start text ≡ concluded (length done) at []
  end-found text left at done audits reads =
      audited-ends limits start at done audits text []
      (ap closed_lines reads.all ∙ closed_lines-joined done [] reads.each reads.one_line)
      (ap open_part reads.all ∙ open_part-joined done [] reads.each reads.one_line)

  whole-found : (at : Auditing) (lines events : ℕ) → is_whole at ≡ true → events ≡ at.events
      → concluded lines at [] ≡ Accepted events
  whole-found at lines events whole same = rw (whole, same) refl

  missing-found : (at : Auditing) (lines : ℕ) → is_whole at ≡ false
      → concluded lines at [] ≡ RefusedAt (lines + 1)
  missing-found at lines missing = rw missing refl

  pub end-owes : (before now after : Option (List ℕ)) (r new : Reading) (at : Auditing) (got : ℕ)
      (done : List (List ℕ)) (answer : Audited) → HasAudited before now r at got done
      → FindsEnd r new now after → Concludes at got answer → Owes before after answer
  end-owes before now after r new at got done (Sound events) h finds (whole, same) =
      IfSome-from before (λ text. AuditsSo limits start text after (Sound events)) (λ text told.
      let reads = HasRead-all limits text h.reads h.goes finds told in (
        end-found text after at done h.audits reads
            ∙ whole-found at (length done) events whole same,
        reads.left,
      ))
  end-owes before now after r new at got done (BadLine bad) h finds (missing, same) =
      IfSome-from before (λ text. AuditsSo limits start text after (BadLine bad)) (λ text told.
      let reads = HasRead-all limits text h.reads h.goes finds told in
      let lines = HasRead-end limits text h.reads finds told in
      let n : length done + 1 ≡ bad = omega (arith, h.count, same) in
      let within : length done ≤ limits.lines = omega (arith, h.reads.got, h.reads.limit) in
      subst (λ number. Finds limits start text after (RefusedAt number)) n
      (missing-finds text after done lines.0 reads.all reads.left within
      (end-found text after at done h.audits reads ∙ missing-found at (length done) missing)))
  end-owes before now after r new at got done ReadFault h finds concludes = absurd concludes
  end-owes before now after r new at got done NoMemory h finds concludes = absurd concludes

  -- ---- a line that is too long, or one too many

  long-owes : (before now after : Option (List ℕ)) (r new : Reading) (at : Auditing) (got : ℕ)
      (done : List (List ℕ)) (number : ℕ) → HasAudited before now r at got done
      → FindsLong limits r new now after number → Owes before after (BadLine number)
  long-owes before now after r new at got done number h finds =
      IfSome-from before (λ text. AuditsSo limits start text after (BadLine number)) (λ text told.
      let long = HasRead-long limits text h.reads finds told in
      refused-within text after number finds.within
      (audited-refused limits start at done h.audits text long.first long.more long.lines
      (line_within-long limits (length done) at long.first long.within long.long)
      ∙ ap RefusedAt (sym long.number_is)) long.few)

  many-owes : (before now after : Option (List ℕ)) (r new : Reading) (at : Auditing) (got : ℕ)
      (done : List (List ℕ)) → HasAudited before now r at got done
      → FindsMany limits r new now after → Owes before after (BadLine (limits.lines + 1))
  many-owes before now after r new at got done h finds =
      IfSome-from before (λ text. AuditsSo limits start text after (BadLine (limits.lines + 1)))
      (λ text told.
      let many = HasRead-many limits text h.reads finds told in
      let n : length done + 1 ≡ limits.lines + 1 = omega (arith, many.full) in
      refused-past text after (limits.lines + 1) (omega arith)
      (audited-refused limits start at done h.audits text many.first many.more many.lines
      (line_within-many limits (length done) at many.first (omega (arith, many.full)))
      ∙ ap RefusedAt n) many.few)

  -- ---- a read failed

  is-ok : (lines done : List (List ℕ)) (at : Auditing) → lines ≡ done
      → after_lines limits 0 start done ≡ Ok at → IsOk (after_lines limits 0 start lines)
  is-ok lines done at same audits = rw (same, audits) refl

  broken-owes : (before now after : Option (List ℕ)) (r new : Reading) (at : Auditing) (got : ℕ)
      (done : List (List ℕ)) → HasAudited before now r at got done
      → Breaks limits r new now after → Owes before after ReadFault
  broken-owes before now after r new at got done h breaks =
      IfSome-from before (λ text. AuditsSo limits start text after ReadFault) (λ text told.
      let broken = HasRead-broken limits text h.reads breaks told in
      let closed : closed_lines (joined done ++ broken.part) ≡ done =
      closed_lines-joined done broken.part broken.each broken.one_line in
      let part : open_part (joined done ++ broken.part) ≡ broken.part =
      open_part-joined done broken.part broken.each broken.one_line in (
        joined done ++ broken.part,
        (
          (broken.rest, broken.all, broken.left),
          (
            is-ok (closed_lines (joined done ++ broken.part)) done at closed h.audits,
            omega (arith, ap length part, broken.fits),
            λ full. part
                ∙ broken.none_past (sym (ap length closed) ∙ full),
          ),
        ),
      ))

  -- ---- the answer

  same-answer : (answer known : Audited) → Some answer ≡ Some known → answer ≡ known
  same-answer answer known same = cc

  -- the audit ends
  pub next-owes : {before now : Option (List ℕ)} {r : Reading} {at : Auditing} {got : ℕ}
      {done : List (List ℕ)} (after : Option (List ℕ)) (new : Reading) (then : Auditing)
      (asked : NextLine) (answer : Audited) → HasAudited before now r at got done
      → NextMoves limits r new now after asked
      → HearsNext limits at then new got asked (Some answer) → Owes before after answer
  next-owes {before} {now} {r} {at} {got} {done} after new then (next.Got number) answer h moves
      hears = heard-owes before now after r new at then got done number answer h moves hears
  next-owes {before} {now} {r} {at} {got} {done} after new then next.End answer h moves hears =
      end-owes before now after r new at got done answer h moves hears
  next-owes {before} {now} {r} {at} {got} {done} after new then (next.TooLong number) answer h
      moves hears =
      subst (Owes before after) (sym (same-answer answer (BadLine number) hears))
      (long-owes before now after r new at got done number h moves)
  next-owes {before} {now} {r} {at} {got} {done} after new then next.TooMany answer h moves hears =
      subst (Owes before after) (sym (same-answer answer (BadLine (limits.lines + 1)) hears))
      (many-owes before now after r new at got done h moves)
  next-owes {before} {now} {r} {at} {got} {done} after new then next.ReadFault answer h moves
      hears =
      subst (Owes before after) (sym (same-answer answer ReadFault hears))
      (broken-owes before now after r new at got done h moves)
  next-owes {before} {now} {r} {at} {got} {done} after new then next.NoMemory answer h moves
      hears =
      subst (Owes before after) (sym (same-answer answer NoMemory hears))
      (IfSome-from before (λ text. AuditsSo limits start text after NoMemory) (λ text told. tt))

  -- few bytes were taken
  pub next-few : {before now : Option (List ℕ)} {r : Reading} {at : Auditing} {got : ℕ}
      {done : List (List ℕ)} (after : Option (List ℕ)) (new : Reading) (asked : NextLine)
      → HasAudited before now r at got done → NextMoves limits r new now after asked
      → TakesAtMost (most_taken limits) before after
  next-few after new (next.Got number) h moves =
      HasRead-few limits (HasRead-more limits h.reads moves)
  next-few after new next.End h moves = ask-few after new replayed.Done h.reads moves
  next-few after new (next.TooLong number) h moves = long-few limits h.reads moves
  next-few after new next.TooMany h moves = many-few limits h.reads moves
  next-few after new next.ReadFault h moves = broken-few limits h.reads moves
  next-few after new next.NoMemory h moves = lacks-few limits h.reads moves

  -- one line more
  line-goes : (before now after : Option (List ℕ)) (r new : Reading) (at then : Auditing)
      (got : ℕ) (done : List (List ℕ)) (number : ℕ) → HasAudited before now r at got done
      → GetsLine limits r new now after number → HearsLine at then new number None
      → HasAudited before after new then (got + 1) (done ++ new.text ∷ [])
  line-goes before now after r new at then got done number h gets (goes, takes) =
      let few : length done < limits.lines = omega (
        arith,
        h.reads.got,
        gets.number_is,
        gets.within,
      ) in
      let rises = audit_line-rises at new.text then takes in
      record {
        reads = HasRead-more limits h.reads gets;
        goes = goes;
        audits = after_lines-more limits start at done h.audits new.text then
            (line_within-is limits (length done) at new.text few gets.fits ∙ takes);
        count = omega (arith, h.count, length-append done (new.text ∷ []));
        counted = omega (arith, rises.counted, h.counted);
        events = omega (arith, rises.events, h.events);
      }

  pub next-goes : {before now : Option (List ℕ)} {r : Reading} {at : Auditing} {got : ℕ}
      {done : List (List ℕ)} (after : Option (List ℕ)) (new : Reading) (then : Auditing)
      (asked : NextLine) → HasAudited before now r at got done
      → NextMoves limits r new now after asked
      → HearsNext limits at then new got asked None
      → HasAudited before after new then (got + 1) (done ++ new.text ∷ [])
  next-goes {before} {now} {r} {at} {got} {done} after new then (next.Got number) h moves hears =
      line-goes before now after r new at then got done number h moves hears
  next-goes after new then next.End h moves hears = absurd hears
  next-goes after new then (next.TooLong number) h moves hears = absurd (cc)
  next-goes after new then next.TooMany h moves hears = absurd (cc)
  next-goes after new then next.ReadFault h moves hears = absurd (cc)
  next-goes after new then next.NoMemory h moves hears = absurd (cc)

  -- ---- the counts

  line-quiet : (at then : Auditing) (new : Reading) (number : ℕ) (answer : Audited)
      → HearsLine at then new number (Some answer) → audit_failed answer ≡ false
  line-quiet at then new number (Sound events) hears = absurd hears
  line-quiet at then new number (BadLine bad) hears = refl
  line-quiet at then new number ReadFault hears = absurd hears
  line-quiet at then new number NoMemory hears = refl

  end-quiet : (at : Auditing) (got : ℕ) (answer : Audited) → Concludes at got answer
      → (audit_failed answer ≡ false) × (audit_wants answer ≡ false)
  end-quiet at got (Sound events) concludes = (refl, refl)
  end-quiet at got (BadLine bad) concludes = (refl, refl)
  end-quiet at got ReadFault concludes = absurd concludes
  end-quiet at got NoMemory concludes = absurd concludes

  -- a read failed where the answer says so
  pub next-failed : (at then : Auditing) (new : Reading) (got : ℕ) (asked : NextLine)
      (answer : Audited) → HearsNext limits at then new got asked (Some answer)
      → audit_failed answer ≡ next_failed asked
  next-failed at then new got (next.Got number) answer hears =
      line-quiet at then new number answer hears
  next-failed at then new got next.End answer hears = (end-quiet at got answer hears).0
  next-failed at then new got (next.TooLong number) answer hears =
      ap audit_failed (same-answer answer (BadLine number) hears)
  next-failed at then new got next.TooMany answer hears =
      ap audit_failed (same-answer answer (BadLine (limits.lines + 1)) hears)
  next-failed at then new got next.ReadFault answer hears =
      ap audit_failed (same-answer answer ReadFault hears)
  next-failed at then new got next.NoMemory answer hears =
      ap audit_failed (same-answer answer NoMemory hears)

  stays-or-rises : (wants : Bool) (before now : ℕ) → now ≡ before → MayRise wants before now
  stays-or-rises true before now same = omega (arith, same)
  stays-or-rises false before now same = same

  -- the source had no memory only where the answer says so
  pub next-wants : (at then : Auditing) (new : Reading) (got before now : ℕ) (asked : NextLine)
      (answer : Audited) → HearsNext limits at then new got asked (Some answer)
      → MayRise (next_wants asked) before now → MayRise (audit_wants answer) before now
  next-wants at then new got before now (next.Got number) answer hears wants =
      stays-or-rises (audit_wants answer) before now wants
  next-wants at then new got before now next.End answer hears wants =
      stays-or-rises (audit_wants answer) before now wants
  next-wants at then new got before now (next.TooLong number) answer hears wants =
      stays-or-rises (audit_wants answer) before now wants
  next-wants at then new got before now next.TooMany answer hears wants =
      stays-or-rises (audit_wants answer) before now wants
  next-wants at then new got before now next.ReadFault answer hears wants =
      stays-or-rises (audit_wants answer) before now wants
  next-wants at then new got before now next.NoMemory answer hears wants =
      rw (same-answer answer NoMemory hears) wants

  -- where the audit goes on, no read failed, and none had no memory
  pub goes-quiet : (at then : Auditing) (new : Reading) (got : ℕ) (asked : NextLine)
      → HearsNext limits at then new got asked None
      → (next_failed asked ≡ false) × (next_wants asked ≡ false)
  goes-quiet at then new got (next.Got number) hears = (refl, refl)
  goes-quiet at then new got next.End hears = absurd hears
  goes-quiet at then new got (next.TooLong number) hears = absurd (cc)
  goes-quiet at then new got next.TooMany hears = absurd (cc)
  goes-quiet at then new got next.ReadFault hears = absurd (cc)
  goes-quiet at then new got next.NoMemory hears = absurd (cc)

  -- a trace is sound only where its end was found
  pub sound-ends : (at then : Auditing) (new : Reading) (got events : ℕ) (asked : NextLine)
      → HearsNext limits at then new got asked (Some (Sound events)) → asked ≡ next.End
  sound-ends at then new got events (next.Got number) hears = absurd hears
  sound-ends at then new got events next.End hears = refl
  sound-ends at then new got events (next.TooLong number) hears = absurd (cc)
  sound-ends at then new got events next.TooMany hears = absurd (cc)
  sound-ends at then new got events next.ReadFault hears = absurd (cc)
  sound-ends at then new got events next.NoMemory hears = absurd (cc)
