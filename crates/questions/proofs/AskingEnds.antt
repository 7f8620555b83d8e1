-- How each answer of the loop that reads questions comes about.
use Rattle.std.proofs.Common.{◌≡◌, ℕ, ◌+◌, ◌<◌, ◌≤◌, List, [], ◌∷◌, ◌++◌, length, Bool, true, false}
use Rattle.std.proofs.Common.{Some, None, Ok, Err, arith, refl, sym, ◌∙◌, ap, subst, append_assoc}
use Rattle.std.proofs.Common.{length-append}
use Rattle.std.proofs.lemmas.List.{append-nil}
use Rattle.std.specs.Prelude.{IfSome, Result}
use Rattle.std.specs.declared.option.Option.{Option}
use Rattle.rv_base.specs.Outside.{MayRise}
use Rattle.rv_base.specs.Whole.{TakesAtMost}
use Rattle.proto_model.specs.Numbered.{NumberedProtocol}
use Rattle.proto_model.specs.Tokens.{Text}
use Rattle.schedule_replay.specs.ScheduleLimits.{most_taken}
use Rattle.schedule_replay.specs.TextLines.{closed_lines, open_part, joined}
use Rattle.schedule_replay.specs.Reading.{Reading, nothing_read}
use Rattle.schedule_replay.specs.NextLine.{GetsLine, FindsEnd, FindsLong, FindsMany, Breaks}
use Rattle.schedule_replay.specs.NextLine.{NextMoves, next_failed, next_wants}
use Rattle.schedule_replay.specs.Played.{AtLine, TooMany}
use Rattle.schedule_replay.specs.declared.limits.Limits.{Limits}
use Rattle.schedule_replay.specs.declared.lines.NextLine.{NextLine}
use Rattle.schedule_replay.specs.declared.lines.NextLine.TheVariants as next
use Rattle.schedule_replay.specs.declared.replaying.Replayed.TheVariants as replayed
use Rattle.schedule_replay.proofs.ClosedLines.{closed_lines-joined, open_part-joined}
use Rattle.schedule_replay.proofs.LinesSoFar.{HasRead, HasRead-start, HasRead-more, HasRead-front}
use Rattle.schedule_replay.proofs.LinesSoFar.{HasRead-refused, HasRead-end, HasRead-long}
use Rattle.schedule_replay.proofs.LinesSoFar.{HasRead-many, HasRead-broken, HasRead-few}
use Rattle.schedule_replay.proofs.LinesSoFar.{long-few, many-few, broken-few, lacks-few}
use Rattle.schedule_replay.proofs.ReplayEnds.{IfSome-from, ask-few}
use Rattle.schedule_replay.proofs.WithinLimits.{few-lines, many-lines, short-line, long-line}
use Rattle.questions.specs.AllAsked.{Refused, question_line, after_line}
use Rattle.questions.specs.AllAsked.{asked_lines}
use Rattle.questions.specs.ReadsQuestions.{ReadsSo, answered, asking_failed, asking_wants}
use Rattle.questions.specs.ReadsQuestions.{HearsLine, HearsNext}
use Rattle.questions.specs.declared.question.Asked.{Asked}
use Rattle.questions.specs.declared.asking.Unread.{Unread}
use Rattle.questions.specs.declared.asking.Unread.TheVariants.{BadLine, TooManyLines, ReadFault}
use Rattle.questions.specs.declared.asking.Unread.TheVariants.{NoMemory}

-- the limits stay
pub within-limits : (limits known : Limits) (old new : Reading) (before after : Option (List ℕ))
    (asked : NextLine) → known ≡ limits → NextMoves known old new before after asked
    → NextMoves limits old new before after asked
within-limits limits known old new before after asked same moves =
    subst (λ l. NextMoves l old new before after asked) same moves

module _ (limits : Limits) (p : NumberedProtocol) where
  -- The lines that were read so far ask these questions: whatever lines follow come after them.
  pub record HasAsked (before now : Option (List ℕ)) (r : Reading) (asked : List Asked)
      (done : List (List ℕ)) : Type 0 where
    pub reads : HasRead limits before now r done
    pub follows : (more : List Text) → asked_lines limits p 0 [] (done ++ more)
        ≡ asked_lines limits p (length done) asked more

  pub HasAsked-start : (before : Option (List ℕ))
      → HasAsked before before (nothing_read limits) [] []
  HasAsked-start before = record { reads = HasRead-start limits before; follows = λ more. refl }

  -- ---- one line more

  takes-line : (before : ℕ) (asked new : List Asked) (line : Text) (more : List Text)
      → before < limits.lines → length line ≤ limits.line
      → after_line (before + 1) asked (question_line p line) ≡ Some new
      → asked_lines limits p before asked (line ∷ more)
      ≡ asked_lines limits p (before + 1) new more
  takes-line before asked new line more few fits takes = rw (
    few-lines limits.lines before few,
    short-line limits.line line fits,
    takes,
  ) refl

  refuses-line : (before : ℕ) (asked : List Asked) (line : Text) (more : List Text)
      → before < limits.lines → length line ≤ limits.line
      → after_line (before + 1) asked (question_line p line) ≡ None
      → asked_lines limits p before asked (line ∷ more) ≡ Refused (AtLine (before + 1))
  refuses-line before asked line more few fits refuses = rw (
    few-lines limits.lines before few,
    short-line limits.line line fits,
    refuses,
  ) refl

  long-refused : (before : ℕ) (asked : List Asked) (line : Text) (more : List Text)
      → before < limits.lines → limits.line < length line
      → asked_lines limits p before asked (line ∷ more) ≡ Refused (AtLine (before + 1))
  long-refused before asked line more few long = rw (
    few-lines limits.lines before few,
    long-line limits.line line long,
  ) refl

  many-refused : (before : ℕ) (asked : List Asked) (line : Text) (more : List Text)
      → limits.lines ≤ before → asked_lines limits p before asked (line ∷ more) ≡ Refused TooMany
  many-refused before asked line more full = rw (many-lines limits.lines before full) refl

  -- the number of the line that was got
  number-is : {before now after : Option (List ℕ)} {r new : Reading} {asked : List Asked}
      {done : List (List ℕ)} {number : ℕ} → HasAsked before now r asked done
      → GetsLine limits r new now after number → number ≡ length done + 1
  number-is {before} {now} {after} {r} {new} {asked} {done} {number} h gets =
      omega (arith, gets.number_is, h.reads.got)

  few-done : {before now after : Option (List ℕ)} {r new : Reading} {asked : List Asked}
      {done : List (List ℕ)} {number : ℕ} → HasAsked before now r asked done
      → GetsLine limits r new now after number → length done < limits.lines
  few-done {before} {now} {after} {r} {new} {asked} {done} {number} h gets =
      omega (arith, gets.number_is, gets.within, h.reads.got)

  line-goes : {before now after : Option (List ℕ)} {r new : Reading} {old then : List Asked}
      {done : List (List ℕ)} {number : ℕ} → HasAsked before now r old done
      → GetsLine limits r new now after number
      → after_line number old (question_line p new.text) ≡ Some then
      → HasAsked before after new then (done ++ new.text ∷ [])
  line-goes {before} {now} {after} {r} {new} {old} {then} {done} {number} h gets takes =
      let n : number ≡ length done + 1 = number-is h gets in
      let count : length done + 1 ≡ length (done ++ new.text ∷ []) =
      omega (arith, length-append done (new.text ∷ [])) in
      record {
        reads = HasRead-more limits h.reads gets;
        follows = λ more. ap (asked_lines limits p 0 []) (append_assoc done (new.text ∷ []) more)
            ∙ (h.follows (new.text ∷ more)
            ∙ (takes-line (length done) old then new.text more (few-done h gets) gets.fits
            (subst (λ (k : ℕ). after_line k old (question_line p new.text) ≡ Some then) n takes)
            ∙ ap (λ k. asked_lines limits p k then more) count));
      }

  pub next-goes : (U : Type 0) {before now : Option (List ℕ)} {r : Reading} {old : List Asked}
      {done : List (List ℕ)} (after : Option (List ℕ)) (new : Reading) (then : List Asked)
      (asked : NextLine) → HasAsked before now r old done
      → NextMoves limits r new now after asked
      → HearsNext p {U = U} old then new asked None
      → HasAsked before after new then (done ++ new.text ∷ [])
  next-goes U after new then (next.Got number) h moves hears = line-goes h moves hears
  next-goes U after new then next.End h moves hears = absurd hears
  next-goes U after new then (next.TooLong number) h moves hears = absurd (cc)
  next-goes U after new then next.TooMany h moves hears = absurd (cc)
  next-goes U after new then next.ReadFault h moves hears = absurd (cc)
  next-goes U after new then next.NoMemory h moves hears = absurd (cc)

  -- ---- the answer

  -- What is owed of a text whose bytes are told.
  abbrev pub Owes : Option (List ℕ) → Option (List ℕ) → Result (List Asked) Unread → Type 0
  Owes told left result = IfSome told (λ text. ReadsSo limits p text left result)

  owes-none : (before after : Option (List ℕ)) → Owes before after (Err NoMemory)
  owes-none before after =
      IfSome-from before (λ text. ReadsSo limits p text after (Err NoMemory)) (λ text told. tt)

  line-owes : {before now after : Option (List ℕ)} {r new : Reading} {old : List Asked}
      {done : List (List ℕ)} {number : ℕ} → HasAsked before now r old done
      → GetsLine limits r new now after number
      → after_line number old (question_line p new.text) ≡ None
      → Owes before after (Err (BadLine number))
  line-owes {before} {now} {after} {r} {new} {old} {done} {number} h gets refuses =
      IfSome-from before (λ text. ReadsSo limits p text after (Err (BadLine number)))
      (λ text told.
      let n : number ≡ length done + 1 = number-is h gets in
      let reads = HasRead-more limits h.reads gets in
      let front = HasRead-front limits text reads told in (
        ap (asked_lines limits p 0 []) (front.1 ∙ append_assoc done (new.text ∷ []) front.0)
            ∙ (h.follows (new.text ∷ front.0)
            ∙ (refuses-line (length done) old new.text front.0 (few-done h gets) gets.fits
            (subst (λ (k : ℕ). after_line k old (question_line p new.text) ≡ None) n refuses)
            ∙ ap (λ k. Refused (AtLine k)) (sym n))),
        HasRead-refused limits done new.text text number reads gets.fits n told,
      ))

  heard-owes : {U : Type 0} {before now after : Option (List ℕ)} {r new : Reading}
      {old : List Asked} {done : List (List ℕ)} {number : ℕ} (then : List Asked)
      (answer : Result U Unread) → HasAsked before now r old done
      → GetsLine limits r new now after number → HearsLine p old then new number (Some answer)
      → Owes before after (answered then answer)
  heard-owes then (Ok ended) h gets hears = absurd hears
  heard-owes then (Err (BadLine bad)) h gets (same, refuses) = rw same (line-owes h gets refuses)
  heard-owes then (Err TooManyLines) h gets hears = absurd hears
  heard-owes then (Err ReadFault) h gets hears = absurd hears
  heard-owes {U} {before} {now} {after} then (Err NoMemory) h gets hears = owes-none before after

  all-owes : {before now after : Option (List ℕ)} {r new : Reading} {old : List Asked}
      {done : List (List ℕ)} → HasAsked before now r old done → FindsEnd r new now after
      → Owes before after (Ok old)
  all-owes {before} {now} {after} {r} {new} {old} {done} h finds =
      IfSome-from before (λ text. ReadsSo limits p text after (Ok old)) (λ text told.
      let end = HasRead-end limits text h.reads finds told in (
        ap (asked_lines limits p 0 []) (end.0 ∙ sym (append-nil done)) ∙ h.follows [],
        end.1,
      ))

  end-owes : {U : Type 0} {before now after : Option (List ℕ)} {r new : Reading}
      {old : List Asked} {done : List (List ℕ)} (then : List Asked) (answer : Result U Unread)
      → HasAsked before now r old done → FindsEnd r new now after
      → HearsNext p old then new next.End (Some answer) → Owes before after (answered then answer)
  end-owes then (Ok ended) h finds same = rw same (all-owes h finds)
  end-owes then (Err why) h finds ends = absurd ends

  long-owes : {before now after : Option (List ℕ)} {r new : Reading} {old : List Asked}
      {done : List (List ℕ)} {number : ℕ} → HasAsked before now r old done
      → FindsLong limits r new now after number → Owes before after (Err (BadLine number))
  long-owes {before} {now} {after} {r} {new} {old} {done} {number} h finds =
      IfSome-from before (λ text. ReadsSo limits p text after (Err (BadLine number)))
      (λ text told.
      let long = HasRead-long limits text h.reads finds told in (
        ap (asked_lines limits p 0 []) long.lines
            ∙ (h.follows (long.first ∷ long.more)
            ∙ (long-refused (length done) old long.first long.more long.within long.long
            ∙ ap (λ k. Refused (AtLine k)) (sym long.number_is))),
        long.few,
      ))

  many-owes : {before now after : Option (List ℕ)} {r new : Reading} {old : List Asked}
      {done : List (List ℕ)} → HasAsked before now r old done
      → FindsMany limits r new now after → Owes before after (Err TooManyLines)
  many-owes {before} {now} {after} {r} {new} {old} {done} h finds =
      IfSome-from before (λ text. ReadsSo limits p text after (Err TooManyLines)) (λ text told.
      let many = HasRead-many limits text h.reads finds told in (
        ap (asked_lines limits p 0 []) many.lines
            ∙ (h.follows (many.first ∷ many.more)
            ∙ many-refused (length done) old many.first many.more (omega (arith, many.full))),
        many.few,
      ))

  broken-owes : {before now after : Option (List ℕ)} {r new : Reading} {old : List Asked}
      {done : List (List ℕ)} → HasAsked before now r old done
      → Breaks limits r new now after → Owes before after (Err ReadFault)
  broken-owes {before} {now} {after} {r} {new} {old} {done} h breaks =
      IfSome-from before (λ text. ReadsSo limits p text after (Err ReadFault)) (λ text told.
      let broken = HasRead-broken limits text h.reads breaks told in
      let closed : closed_lines (joined done ++ broken.part) ≡ done =
      closed_lines-joined done broken.part broken.each broken.one_line in
      let part : open_part (joined done ++ broken.part) ≡ broken.part =
      open_part-joined done broken.part broken.each broken.one_line in (
        joined done ++ broken.part,
        (
          (broken.rest, broken.all, broken.left),
          (
            (
              old,
              ap (asked_lines limits p 0 []) (closed ∙ sym (append-nil done)) ∙ h.follows [],
            ),
            omega (arith, ap length part, broken.fits),
            λ full. part
                ∙ broken.none_past (sym (ap length closed) ∙ full),
          ),
        ),
      ))

  same-answer : {U : Type 0} (answer known : Result U Unread) → Some answer ≡ Some known
      → answer ≡ known
  same-answer answer known same = cc

  told-owes : {U : Type 0} (before after : Option (List ℕ)) (then : List Asked)
      (answer : Result U Unread) (why : Unread) → Some answer ≡ Some (Err why)
      → Owes before after (Err why) → Owes before after (answered then answer)
  told-owes {U} before after then answer why same owes =
      subst (λ (a : Result U Unread). Owes before after (answered then a))
      (sym (same-answer answer (Err why) same)) owes

  -- reading ends
  pub next-owes : {U : Type 0} {before now : Option (List ℕ)} {r : Reading} {old : List Asked}
      {done : List (List ℕ)} (after : Option (List ℕ)) (new : Reading) (then : List Asked)
      (asked : NextLine) (answer : Result U Unread) → HasAsked before now r old done
      → NextMoves limits r new now after asked
      → HearsNext p old then new asked (Some answer) → Owes before after (answered then answer)
  next-owes after new then (next.Got number) answer h moves hears =
      heard-owes then answer h moves hears
  next-owes after new then next.End answer h moves hears = end-owes then answer h moves hears
  next-owes {U} {before} after new then (next.TooLong number) answer h moves hears =
      told-owes before after then answer (BadLine number) hears (long-owes h moves)
  next-owes {U} {before} after new then next.TooMany answer h moves hears =
      told-owes before after then answer TooManyLines hears (many-owes h moves)
  next-owes {U} {before} after new then next.ReadFault answer h moves hears =
      told-owes before after then answer ReadFault hears (broken-owes h moves)
  next-owes {U} {before} after new then next.NoMemory answer h moves hears =
      told-owes before after then answer NoMemory hears (owes-none before after)

  -- few bytes were taken
  pub next-few : {before now : Option (List ℕ)} {r : Reading} {old : List Asked}
      {done : List (List ℕ)} (after : Option (List ℕ)) (new : Reading) (asked : NextLine)
      → HasAsked before now r old done → NextMoves limits r new now after asked
      → TakesAtMost (most_taken limits) before after
  next-few after new (next.Got number) h moves =
      HasRead-few limits (HasRead-more limits h.reads moves)
  next-few after new next.End h moves = ask-few after new replayed.Done h.reads moves
  next-few after new (next.TooLong number) h moves = long-few limits h.reads moves
  next-few after new next.TooMany h moves = many-few limits h.reads moves
  next-few after new next.ReadFault h moves = broken-few limits h.reads moves
  next-few after new next.NoMemory h moves = lacks-few limits h.reads moves

-- ---- the counts

stays-or-rises : (wants : Bool) (before now : ℕ) → now ≡ before → MayRise wants before now
stays-or-rises true before now same = omega (arith, same)
stays-or-rises false before now same = same

-- where reading goes on, no read failed, and none had no memory
pub goes-quiet : (U : Type 0) (p : NumberedProtocol) (old then : List Asked) (new : Reading) (asked : NextLine)
    → HearsNext p {U = U} old then new asked None
    → (next_failed asked ≡ false) × (next_wants asked ≡ false)
goes-quiet U p old then new (next.Got number) hears = (refl, refl)
goes-quiet U p old then new next.End hears = absurd hears
goes-quiet U p old then new (next.TooLong number) hears = absurd (cc)
goes-quiet U p old then new next.TooMany hears = absurd (cc)
goes-quiet U p old then new next.ReadFault hears = absurd (cc)
goes-quiet U p old then new next.NoMemory hears = absurd (cc)

module _ {U : Type 0} (p : NumberedProtocol) where
  told-answer : (answer known : Result U Unread) → Some answer ≡ Some known → answer ≡ known
  told-answer answer known same = cc

  line-quiet : (old then : List Asked) (new : Reading) (number : ℕ) (answer : Result U Unread)
      → HearsLine p old then new number (Some answer) → asking_failed answer ≡ false
  line-quiet old then new number (Ok ended) hears = absurd hears
  line-quiet old then new number (Err (BadLine bad)) hears = refl
  line-quiet old then new number (Err TooManyLines) hears = absurd hears
  line-quiet old then new number (Err ReadFault) hears = absurd hears
  line-quiet old then new number (Err NoMemory) hears = refl

  end-quiet : (old then : List Asked) (new : Reading) (answer : Result U Unread)
      → HearsNext p old then new next.End (Some answer) → asking_failed answer ≡ false
  end-quiet old then new (Ok ended) hears = refl
  end-quiet old then new (Err why) hears = absurd hears

  -- a read failed where the answer says so
  pub next-failed : (old then : List Asked) (new : Reading) (asked : NextLine)
      (answer : Result U Unread) → HearsNext p old then new asked (Some answer)
      → asking_failed answer ≡ next_failed asked
  next-failed old then new (next.Got number) answer hears =
      line-quiet old then new number answer hears
  next-failed old then new next.End answer hears = end-quiet old then new answer hears
  next-failed old then new (next.TooLong number) answer hears =
      ap (λ (a : Result U Unread). asking_failed a) (told-answer answer (Err (BadLine number)) hears)
  next-failed old then new next.TooMany answer hears =
      ap (λ (a : Result U Unread). asking_failed a) (told-answer answer (Err TooManyLines) hears)
  next-failed old then new next.ReadFault answer hears =
      ap (λ (a : Result U Unread). asking_failed a) (told-answer answer (Err ReadFault) hears)
  next-failed old then new next.NoMemory answer hears =
      ap (λ (a : Result U Unread). asking_failed a) (told-answer answer (Err NoMemory) hears)

  -- the source had no memory only where the answer says so
  pub next-wants : (old then : List Asked) (new : Reading) (before now : ℕ) (asked : NextLine)
      (answer : Result U Unread) → HearsNext p old then new asked (Some answer)
      → MayRise (next_wants asked) before now → MayRise (asking_wants answer) before now
  next-wants old then new before now (next.Got number) answer hears wants =
      stays-or-rises (asking_wants answer) before now wants
  next-wants old then new before now next.End answer hears wants =
      stays-or-rises (asking_wants answer) before now wants
  next-wants old then new before now (next.TooLong number) answer hears wants =
      stays-or-rises (asking_wants answer) before now wants
  next-wants old then new before now next.TooMany answer hears wants =
      stays-or-rises (asking_wants answer) before now wants
  next-wants old then new before now next.ReadFault answer hears wants =
      stays-or-rises (asking_wants answer) before now wants
  next-wants old then new before now next.NoMemory answer hears wants =
      rw (told-answer answer (Err NoMemory) hears) wants

  line-not-all : (old then all : List Asked) (new : Reading) (number : ℕ)
      (answer : Result U Unread) → HearsLine p old then new number (Some answer)
      → answered then answer ≡ Ok all → ⊥
  line-not-all old then all new number (Ok ended) hears is = hears
  line-not-all old then all new number (Err why) hears is = absurd (cc)

  told-not-all : (then all : List Asked) (answer : Result U Unread) (why : Unread)
      → Some answer ≡ Some (Err why) → answered then answer ≡ Ok all → ⊥
  told-not-all then all (Ok ended) why same is = absurd (cc)
  told-not-all then all (Err other) why same is = absurd (cc)

  -- all questions are known only where the end was found
  pub all-ends : (old then all : List Asked) (new : Reading) (asked : NextLine)
      (answer : Result U Unread) → HearsNext p old then new asked (Some answer)
      → answered then answer ≡ Ok all → asked ≡ next.End
  all-ends old then all new (next.Got number) answer hears is =
      absurd (line-not-all old then all new number answer hears is)
  all-ends old then all new next.End answer hears is = refl
  all-ends old then all new (next.TooLong number) answer hears is =
      absurd (told-not-all then all answer (BadLine number) hears is)
  all-ends old then all new next.TooMany answer hears is =
      absurd (told-not-all then all answer TooManyLines hears is)
  all-ends old then all new next.ReadFault answer hears is =
      absurd (told-not-all then all answer ReadFault hears is)
  all-ends old then all new next.NoMemory answer hears is =
      absurd (told-not-all then all answer NoMemory hears is)
