-- How each answer of the loop that replays a schedule comes about.
use Rattle.std.proofs.Common.{◌≡◌, ℕ, suc, ◌+◌, ◌<◌, ◌≤◌, List, [], ◌∷◌, ◌++◌, length}
use Rattle.std.proofs.Common.{Some, None, inl, inr, arith, refl, sym, ◌∙◌, ap, subst}
use Rattle.std.proofs.Common.{append_assoc}
use Rattle.std.proofs.lemmas.List.{append-nil}
use Rattle.std.specs.Prelude.{IfSome}
use Rattle.std.specs.declared.option.Option.{Option}
use Rattle.std.specs.Io.KnownBytes.{append_known}
use Rattle.rv_base.specs.Whole.{TakesAtMost}
use Rattle.schedule_replay.specs.ScheduleLimits.{most_taken}
use Rattle.schedule_replay.specs.TextLines.{lines_of, closed_lines, open_part, joined}
use Rattle.schedule_replay.specs.Reading.{Reading}
use Rattle.schedule_replay.specs.NextLine.{GetsLine, FindsEnd, FindsLong, FindsMany, Breaks}
use Rattle.schedule_replay.specs.Play.{Play}
use Rattle.schedule_replay.specs.Played.{Stop, AtLine, Halted, Played, played_from}
use Rattle.schedule_replay.specs.Replayed.{answer_of, LeavesAt}
use Rattle.schedule_replay.specs.Replayed.{blocks_taken}
use Rattle.schedule_replay.specs.Turns.{PutsFront, AskEnds, AskKeeps, GoesOn, LineEnds, Ending, Cut}
use Rattle.schedule_replay.specs.Turns.{PlaysLines, PlaysItem}
use Rattle.schedule_replay.specs.declared.limits.Limits.{Limits}
use Rattle.schedule_replay.specs.declared.player.Meaning.TheVariants.{Bad}
use Rattle.schedule_replay.specs.declared.replaying.Replayed.{Replayed}
use Rattle.schedule_replay.specs.declared.replaying.Replayed.TheVariants.{Done, BadLine}
use Rattle.schedule_replay.specs.declared.replaying.Replayed.TheVariants.{TooManyLines, ClaimBroken}
use Rattle.schedule_replay.specs.declared.replaying.Replayed.TheVariants.{ReadFault, WriteFault}
use Rattle.schedule_replay.specs.declared.replaying.Replayed.TheVariants.{NoMemory}
use Rattle.schedule_replay.proofs.ClosedLines.{closed_lines-joined, open_part-joined}
use Rattle.schedule_replay.proofs.LinesSoFar.{HasRead, HasRead-more, HasRead-front, HasRead-refused}
use Rattle.schedule_replay.proofs.LinesSoFar.{HasRead-end, HasRead-long, HasRead-many}
use Rattle.schedule_replay.proofs.LinesSoFar.{HasRead-broken}
use Rattle.schedule_replay.proofs.LinesSoFar.{HasRead-few, long-few, many-few, broken-few}
use Rattle.schedule_replay.proofs.LinesSoFar.{lacks-few}
use Rattle.schedule_replay.proofs.PlayedSoFar.{Plays, Ends, Ends-start, Ends-item, Ends-bad}
use Rattle.schedule_replay.proofs.PlayedSoFar.{Ends-long, Ends-many, Ends-whole, Plays-blank}
use Rattle.schedule_replay.proofs.PlayedSoFar.{Plays-item, Plays-asked, Plays-cut, puts-none}

-- where bytes are told
pub IfSome-from : (known : Option (List ℕ)) (P : List ℕ → Type 0)
    → ((bytes : List ℕ) → known ≡ Some bytes → P bytes) → IfSome known P
IfSome-from None P holds = tt
IfSome-from (Some bytes) P holds = holds bytes refl

-- what asking did, with the limits of the whole replay
pub gets-within : {limits most : Limits} {old new : Reading} {before after : Option (List ℕ)}
    {number : ℕ} → most ≡ limits → GetsLine most old new before after number
    → GetsLine limits old new before after number
gets-within {limits} {most} {old} {new} {before} {after} {number} same gets =
    subst (λ (m : Limits). GetsLine m old new before after number) same gets

pub ends-within : (limits most : Limits) (old new : Reading) (before after : Option (List ℕ))
    (answer : Replayed) → most ≡ limits → AskEnds most old new before after answer
    → AskEnds limits old new before after answer
ends-within limits most old new before after answer same ends =
    subst (λ (m : Limits). AskEnds m old new before after answer) same ends

-- A line was got after those that were read.
pub record GotLine (limits : Limits) (left after : Option (List ℕ)) (new : Reading)
    (done : List (List ℕ)) (number : ℕ) : Type 0 where
  pub reads : HasRead limits left after new (done ++ new.text ∷ [])
  pub few : length done < limits.lines
  pub fits : length new.text ≤ limits.line
  pub number_is : number ≡ length done + 1

pub got : {limits : Limits} {left now after : Option (List ℕ)} {r new : Reading}
    {done : List (List ℕ)} {number : ℕ} → HasRead limits left now r done
    → GetsLine limits r new now after number → GotLine limits left after new done number
got {limits} {left} {now} {after} {r} {new} {done} {number} reads gets = record {
  reads = HasRead-more limits reads gets;
  few = omega (arith, gets.number_is, gets.within, reads.got);
  fits = gets.fits;
  number_is = gets.number_is ∙ ap (λ n. n + 1) (sym reads.got);
}

module _ {State Item : Type 0} (play : Play State Item) (limits : Limits) (start : State) where
  -- the schedule ends so
  ending : {text : List ℕ} {left before now : Option (List ℕ)} {kept : List ℕ} {state : State}
      {lines : List (List ℕ)} {stop : Stop} → lines_of text ≡ lines
      → Ends play limits start before now kept state lines stop → LeavesAt limits stop text left
      → Ending play limits start text left before now kept state (answer_of stop)
  ending {text} {left} {before} {now} {kept} {state} {lines} {stop} same h leaves = record {
    stop = stop;
    answer = refl;
    leaves = leaves;
    gone = h.gone;
    written = h.written;
    ends = ap (played_from play limits start) same ∙ h.ends;
  }

  -- What is owed of a schedule whose bytes are told.
  abbrev pub Owes : Option (List ℕ) → Option (List ℕ) → Option (List ℕ) → Option (List ℕ) → List ℕ
      → State → Replayed → Type 0
  Owes told left before now kept state result = IfSome told
      (λ text. PlaysLines play limits start text left before now kept state result)

  pub halts-at-once : (left before : Option (List ℕ)) (claim : ℕ) → play.halts start ≡ Some claim
      → Owes left left before before [] start (ClaimBroken claim)
  halts-at-once left before claim halts = IfSome-from left
      (λ text. PlaysLines play limits start text left before before [] start (ClaimBroken claim))
      (λ text told. ending refl (Ends-start play limits start before (lines_of text) claim halts)
      told)

  pub halts-after : {left after before now : Option (List ℕ)} {new : Reading} {kept held : List ℕ}
      {state then : State} {done : List (List ℕ)} {number count claim : ℕ}
      → GotLine limits left after new done number
      → Plays play limits start before now kept state count done
      → PlaysItem play state then count new.text kept held × (play.halts then ≡ Some claim)
      → Owes left after before now held then (ClaimBroken claim)
  halts-after {left} {after} {before} {now} {new} {kept} {held} {state} {then} {done} {number}
      {count} {claim} line plays ((item, says, moved, tells), halts) =
      IfSome-from left (λ text. PlaysLines play limits start text after before now held then
      (ClaimBroken claim))
      (λ text told.
      let front = HasRead-front limits text line.reads told in
      let next : length done + 1 ≡ suc (length done) = omega arith in
      let ends = subst (λ n. Ends play limits start before now held then
      ((done ++ new.text ∷ []) ++ front.0) (Halted n claim)) next
      (rw (tells, moved) (Ends-item play limits start before now kept state count done new.text item
      claim plays line.few line.fits says (ap play.halts (sym moved) ∙ halts) front.0)) in
      ending front.1 ends (HasRead-refused limits done new.text text (suc (length done))
      line.reads line.fits (sym next) told))

  pub bad-line : {left after before now : Option (List ℕ)} {new : Reading} {kept : List ℕ}
      {state : State} {done : List (List ℕ)} {number count : ℕ}
      → GotLine limits left after new done number
      → Plays play limits start before now kept state count done
      → play.says new.text ≡ Bad → Owes left after before now kept state (BadLine number)
  bad-line {left} {after} {before} {now} {new} {kept} {state} {done} {number}
      {count} line plays says = IfSome-from left (λ text.
      PlaysLines play limits start text after before now kept state (BadLine number))
      (λ text told.
      let front = HasRead-front limits text line.reads told in
      let ends = subst (λ n. Ends play limits start before now kept state
      ((done ++ new.text ∷ []) ++ front.0) (AtLine n)) (sym line.number_is)
      (Ends-bad play limits start before now kept state count done new.text plays line.few line.fits
      says front.0) in
      ending front.1 ends (HasRead-refused limits done new.text text number line.reads line.fits
      line.number_is told))

  pub long-line : {left now after before written : Option (List ℕ)} {r new : Reading}
      {kept : List ℕ} {state : State} {done : List (List ℕ)} {number count : ℕ}
      → HasRead limits left now r done → FindsLong limits r new now after number
      → Plays play limits start before written kept state count done
      → Owes left after before written kept state (BadLine number)
  long-line {left} {now} {after} {before} {written} {r} {new} {kept} {state} {done} {number}
      {count} reads finds plays = IfSome-from left (λ text.
      PlaysLines play limits start text after before written kept state (BadLine number))
      (λ text told.
      let long = HasRead-long limits text reads finds told in
      let ends = subst (λ n. Ends play limits start before written kept state
      (done ++ long.first ∷ long.more) (AtLine n)) (sym long.number_is)
      (Ends-long play limits start before written kept state count done long.first long.more plays
      long.within long.long) in
      ending long.lines ends long.few)

  pub many-lines : {left now after before written : Option (List ℕ)} {r new : Reading}
      {kept : List ℕ} {state : State} {done : List (List ℕ)} {count : ℕ}
      → HasRead limits left now r done → FindsMany limits r new now after
      → Plays play limits start before written kept state count done
      → Owes left after before written kept state TooManyLines
  many-lines {left} {now} {after} {before} {written} {r} {new} {kept} {state} {done}
      {count} reads finds plays = IfSome-from left (λ text.
      PlaysLines play limits start text after before written kept state TooManyLines)
      (λ text told.
      let many = HasRead-many limits text reads finds told in
      ending many.lines (Ends-many play limits start before written kept state count done many.first
      many.more plays many.full) many.few)

  pub all-lines : {left now after before written : Option (List ℕ)} {r new : Reading}
      {kept : List ℕ} {state : State} {done : List (List ℕ)} {count : ℕ}
      → HasRead limits left now r done → FindsEnd r new now after
      → Plays play limits start before written kept state count done
      → Owes left after before written kept state Done
  all-lines {left} {now} {after} {before} {written} {r} {new} {kept} {state} {done}
      {count} reads finds plays = IfSome-from left (λ text.
      PlaysLines play limits start text after before written kept state Done)
      (λ text told.
      let end = HasRead-end limits text reads finds told in
      ending end.0 (Ends-whole play limits start before written kept state count done plays) end.1)

  -- the source gave no more, and all that was kept is written
  pub broken-off : {left now after before written : Option (List ℕ)} {r new : Reading}
      {kept : List ℕ} {state : State} {done : List (List ℕ)} {count : ℕ}
      → HasRead limits left now r done → Breaks limits r new now after
      → Plays play limits start before written kept state count done → kept ≡ []
      → Owes left after before written kept state ReadFault
  broken-off {left} {now} {after} {before} {written} {r} {new} {kept} {state} {done}
      {count} reads breaks plays none = IfSome-from left
      (λ text. PlaysLines play limits start text after before written kept state ReadFault)
      (λ text told.
      let broken = HasRead-broken limits text reads breaks told in
      let closed : closed_lines (joined done ++ broken.part) ≡ done =
      closed_lines-joined done broken.part broken.each broken.one_line in
      let part : open_part (joined done ++ broken.part) ≡ broken.part =
      open_part-joined done broken.part broken.each broken.one_line in
      let ends = Ends-whole play limits start before written kept state count done plays in
      let all = ap (played_from play limits start) closed ∙ ends.ends in
      let blocks : ends.gone ≡ blocks_taken play limits start (joined done ++ broken.part) =
      sym (ap (λ (p : Played State). p.blocks) all ∙ (append-nil (ends.gone ++ kept)
      ∙ (ap (λ more. ends.gone ++ more) none ∙ append-nil ends.gone))) in (
        joined done ++ broken.part,
        (
          (broken.rest, broken.all, broken.left),
          (
            ap (λ (p : Played State). p.stop) all,
            omega (arith, ap length part, broken.fits),
            λ full. part
                ∙ broken.none_past (sym (ap length closed) ∙ full),
          ),
        ),
        ends.written ∙ ap (append_known before) blocks,
      ))

  -- a front of what is kept was written
  cut : {left now before written after : Option (List ℕ)} {r : Reading} {kept : List ℕ}
      {state : State} {done : List (List ℕ)} {count : ℕ} → HasRead limits left now r done
      → Plays play limits start before written kept state count done → PutsFront written kept after
      → IfSome left (λ text. Cut play limits start text before after)
  cut {left} {now} {before} {written} {after} {r} {kept} {state} {done} {count} reads plays puts =
      IfSome-from left (λ text. Cut play limits start text before after)
      (λ text told.
      let front = HasRead-front limits text reads told in
      Plays-cut play limits start before written after kept state count done front.0 text plays
      front.1 puts)

  line-cut : {left after before written : Option (List ℕ)} {new : Reading} {kept : List ℕ}
      {state : State} {done : List (List ℕ)} {number count : ℕ}
      → GotLine limits left after new done number
      → Plays play limits start before written kept state count done
      → IfSome left (λ text. Cut play limits start text before written)
  line-cut {left} {after} {before} {written} {new} {kept} {state} {done} {number}
      {count} line plays = IfSome-from left (λ text. Cut play limits start text before written)
      (λ text told.
      let front = HasRead-front limits text line.reads told in
      Plays-cut play limits start before written written kept state count done (new.text ∷ front.0)
      text plays (front.1 ∙ append_assoc done (new.text ∷ []) front.0) (puts-none written kept))

  -- there is no further line
  pub ask-owes : {left now before written : Option (List ℕ)} {r : Reading} {kept : List ℕ}
      {state : State} {done : List (List ℕ)} {count : ℕ} (after wrote : Option (List ℕ))
      (new : Reading) (held : List ℕ) (answer : Replayed) → HasRead limits left now r done
      → AskEnds limits r new now after answer
      → Plays play limits start before written kept state count done
      → AskKeeps kept held written wrote answer → Owes left after before wrote held state answer
  ask-owes {left} {now} {before} {written} {r} {kept} {state} {done}
      {count} after wrote new held Done reads finds plays keeps =
      all-lines reads finds (Plays-asked play limits start before written wrote kept held state
      count done plays keeps)
  ask-owes {left} {now} {before} {written} {r} {kept} {state} {done} {count} after wrote new held
      (BadLine number) reads finds plays keeps =
      long-line reads finds (Plays-asked play limits start before written wrote kept held state
      count done plays keeps)
  ask-owes {left} {now} {before} {written} {r} {kept} {state} {done}
      {count} after wrote new held TooManyLines reads finds plays keeps =
      many-lines reads finds (Plays-asked play limits start before written wrote kept held state
      count done plays keeps)
  ask-owes after wrote new held (ClaimBroken claim) reads finds plays keeps = absurd finds
  ask-owes {left} {now} {before} {written} {r} {kept} {state} {done}
      {count} after wrote new held ReadFault reads finds plays keeps =
      broken-off reads finds (Plays-asked play limits start before written wrote kept held state
      count done plays (inr keeps)) keeps.0
  ask-owes after wrote new held WriteFault reads finds plays keeps = cut reads plays keeps
  ask-owes after wrote new held NoMemory reads finds plays keeps = cut reads plays keeps

  -- the schedule ends at the line that was got
  pub line-owes : {left after before written : Option (List ℕ)} {new : Reading} {kept : List ℕ}
      {state : State} {done : List (List ℕ)} {number count : ℕ} (held : List ℕ) (then : State)
      (answer : Replayed) → GotLine limits left after new done number
      → Plays play limits start before written kept state count done
      → LineEnds play state then count new.text number kept held answer
      → Owes left after before written held then answer
  line-owes held then Done line plays ends = absurd ends
  line-owes held then (BadLine bad) line plays (same, says, moved, stays) =
      rw (same, moved, stays) (bad-line line plays says)
  line-owes held then TooManyLines line plays ends = absurd ends
  line-owes held then (ClaimBroken claim) line plays ends = halts-after line plays ends
  line-owes held then ReadFault line plays ends = absurd ends
  line-owes held then WriteFault line plays ends = absurd ends
  line-owes held then NoMemory line plays ends = line-cut line plays

  -- the line that was got was played, and the schedule goes on
  pub line-plays : {left after before written : Option (List ℕ)} {new : Reading}
      {kept held : List ℕ} {state then : State} {done : List (List ℕ)} {number count next : ℕ}
      → GotLine limits left after new done number
      → Plays play limits start before written kept state count done
      → GoesOn play state then count next new.text kept held
      → Plays play limits start before written held then next (done ++ new.text ∷ [])
  line-plays {left} {after} {before} {written} {new} {kept} {held} {state} {then} {done} {number}
      {count} line plays (inl (says, moved, same, stays)) =
      rw (moved, same, stays) (Plays-blank play limits start before written kept state count done
      new.text plays line.few line.fits says)
  line-plays {left} {after} {before} {written} {new} {kept} {held} {state} {then} {done} {number}
      {count} line plays (inr ((item, says, moved, tells), halts, more)) =
      rw (tells, moved, more) (Plays-item play limits start before written kept state count done
      new.text item plays line.few line.fits says (ap play.halts (sym moved) ∙ halts))

-- few bytes were taken
still-few : (limits : Limits) (left now after : Option (List ℕ)) (r : Reading)
    (done : List (List ℕ)) → HasRead limits left now r done → after ≡ now
    → TakesAtMost (most_taken limits) left after
still-few limits left now after r done reads stays =
    subst (λ (known : Option (List ℕ)). TakesAtMost (most_taken limits) left known) (sym stays)
    (HasRead-few limits reads)

pub ask-few : {limits : Limits} {left now : Option (List ℕ)} {r : Reading} {done : List (List ℕ)}
    (after : Option (List ℕ)) (new : Reading) (answer : Replayed) → HasRead limits left now r done
    → AskEnds limits r new now after answer → TakesAtMost (most_taken limits) left after
ask-few {limits} {left} {now} {r} {done} after new Done reads finds =
    still-few limits left now after r done reads finds.none_taken
ask-few {limits} after new (BadLine number) reads finds = long-few limits reads finds
ask-few {limits} after new TooManyLines reads finds = many-few limits reads finds
ask-few after new (ClaimBroken claim) reads finds = absurd finds
ask-few {limits} after new ReadFault reads finds = broken-few limits reads finds
ask-few {limits} {left} {now} {r} {done} after new WriteFault reads stays =
    still-few limits left now after r done reads stays
ask-few {limits} after new NoMemory reads finds = lacks-few limits reads finds
