-- The lines that a loop over `Lines` has read so far.
use Rattle.std.proofs.Common.{◌≡◌, ℕ, ◌+◌, ◌-◌, ◌*◌, suc, ◌<◌, ◌≤◌, min, List, [], ◌∷◌, ◌++◌}
use Rattle.std.proofs.Common.{length, take, Some, None, ◌⊎◌, inl, inr, true, false, arith, refl}
use Rattle.std.proofs.Common.{sym, ◌∙◌, ap, append_assoc, length-append}
use Rattle.std.proofs.lemmas.List.{append-nil}
use Rattle.std.proofs.lemmas.Bool.{cases_lt}
use Rattle.std.proofs.lemmas.Nat.{mul-le}
use Rattle.std.proofs.Math.Nat.{mul-suc}
use Rattle.std.proofs.Math.Seq.{take-append_seam, get_or-append_seam}
use Rattle.std.specs.declared.option.Option.{Option}
use Rattle.std.specs.Io.KnownBytes.{prepend_known, IsAtEnd}
use Rattle.std.proofs.KnownBytes.{prepend_known-nil}
use Rattle.rv_base.proofs.Moved.{prepend_known-append}
use Rattle.rv_base.specs.Whole.{TakesAtMost}
use Rattle.schedule_replay.specs.ScheduleLimits.{most_taken}
use Rattle.schedule_replay.specs.TextLines.{lines_of, HasNoLf, joined}
use Rattle.schedule_replay.specs.Reading.{Reading, nothing_read}
use Rattle.schedule_replay.specs.NextLine.{Took, Closes, GetsLine, FindsEnd, FindsLong, FindsMany}
use Rattle.schedule_replay.specs.NextLine.{Breaks, Lacks}
use Rattle.schedule_replay.specs.Replayed.{line_decides, count_decides, TakesFew}
use Rattle.schedule_replay.specs.declared.limits.Limits.{Limits}
use Rattle.schedule_replay.proofs.LinesOf.{lines_of-open, lines_of-front, lines_of-some}
use Rattle.schedule_replay.proofs.ClosedLines.{EachLine, EachLine-snoc, joined-snoc_then}
use Rattle.schedule_replay.proofs.ClosedLines.{lines_of-joined}

pub at-end-none : (known : Option (List ℕ)) (rest : List ℕ) → IsAtEnd known → known ≡ Some rest
    → rest ≡ []
at-end-none None rest e told = absurd cc
at-end-none (Some left) rest e told = cc

-- the bytes taken are those lines, each with its LF, and what is ahead
pub record Goes (taken : List ℕ) (r : Reading) (done : List (List ℕ)) : Type 0 where
  pub goes : r.ended ≡ false
  pub each : EachLine done
  pub bytes : taken ≡ joined done ++ r.ahead

-- bytes that are taken then
pub then-took : (taken : List ℕ) (r : Reading) (done : List (List ℕ)) (front new : List ℕ)
    → Goes taken r done → r.ahead ++ front ≡ new → taken ++ front ≡ joined done ++ new
then-took taken r done front new going same =
    ap (λ bytes. bytes ++ front) going.bytes ∙ (append_assoc (joined done) r.ahead front
    ∙ ap (λ bytes. joined done ++ bytes) same)

pub from-more : (before now after : Option (List ℕ)) (taken front : List ℕ)
    → before ≡ prepend_known taken now → now ≡ prepend_known front after
    → before ≡ prepend_known (taken ++ front) after
from-more before now after taken front from took = from
    ∙ (ap (prepend_known taken) took ∙ prepend_known-append taken front after)

-- the bytes that were taken of a line
abbrev closed-front : (r new : Reading) (now after : Option (List ℕ)) → Closes r new now after
    → List ℕ
closed-front r new now after (inl (goes, took)) = took.front
closed-front r new now after (inr (ended, none, at_end, some, took)) = took.front

-- how many these are
closes-size : (r new : Reading) (now after : Option (List ℕ)) (closes : Closes r new now after)
    → length (closed-front r new now after closes)
    + length r.ahead ≤ length new.text + 1 + length new.ahead
closes-size r new now after (inl (goes, took)) =
    omega (
      arith,
      ap length took.same,
      length-append r.ahead took.front,
      length-append new.text (10 ∷ new.ahead),
    )
closes-size r new now after (inr (ended, none, at_end, some, took)) =
    omega (arith, ap length took.same, length-append r.ahead took.front)

closed-taken : (r new : Reading) (now after : Option (List ℕ)) (closes : Closes r new now after)
    → now ≡ prepend_known (closed-front r new now after closes) after
closed-taken r new now after (inl (goes, took)) = took.taken
closed-taken r new now after (inr (ended, none, at_end, some, took)) = took.taken

-- what is left, where the bytes are told
pub told-rest : (before now : Option (List ℕ)) (taken text : List ℕ)
    → before ≡ prepend_known taken now
    → before ≡ Some text → (rest : List ℕ) × (now ≡ Some rest) × (text ≡ taken ++ rest)
told-rest before None taken text from told = absurd (cc)
told-rest before (Some rest) taken text from told = (rest, refl, cc)

-- one line more
times-next : (size count next : ℕ) → next ≡ count + 1 → size * next ≡ size * count + size
times-next size count next is = let e : next ≡ suc count = omega (arith, is) in ap (λ n. size * n) e
    ∙ mul-suc size count

times-most : (size count most : ℕ) → count ≤ most → size * count ≤ size * most
times-most size count most few = mul-le size count size most (omega arith) few

module _ (limits : Limits) where
  -- all bytes were taken, and the last of those lines has no LF
  pub record Over (taken : List ℕ) (now : Option (List ℕ)) (r : Reading) (done : List (List ℕ))
      : Type 0 where
    pub ended : r.ended ≡ true
    pub at_end : IsAtEnd now
    pub front : List (List ℕ)
    pub last : List ℕ
    pub each : EachLine front
    pub one_line : HasNoLf last
    pub some : 0 < length last
    pub fits : length last ≤ limits.line
    pub done_is : done ≡ front ++ last ∷ []
    pub bytes : taken ≡ joined front ++ last

  abbrev pub Spent : List ℕ → Option (List ℕ) → Reading → List (List ℕ) → Type 0
  Spent taken now r done = Goes taken r done ⊎ Over taken now r done

  -- those lines were got so far
  pub record HasRead (before now : Option (List ℕ)) (r : Reading) (done : List (List ℕ))
      : Type 0 where
    pub taken : List ℕ
    pub from : before ≡ prepend_known taken now
    pub spent : Spent taken now r done
    pub got : length done ≡ r.got
    pub limit : r.got ≤ limits.lines
    pub short : length r.ahead ≤ 255
    pub size : length taken ≤ (limits.line + 1) * r.got + length r.ahead

  pub HasRead-start : (before : Option (List ℕ)) → HasRead before before (nothing_read limits) []
  HasRead-start before = record {
    taken = [];
    from = sym (prepend_known-nil before);
    spent = inl record { goes = refl; each = tt; bytes = refl };
    got = refl;
    limit = omega arith;
    short = omega arith;
    size = omega arith;
  }

  pub is-going : (taken : List ℕ) (now : Option (List ℕ)) (r : Reading) (done : List (List ℕ))
      → Spent taken now r done → r.ended ≡ false → Goes taken r done
  is-going taken now r done (inl going) goes = going
  is-going taken now r done (inr over) goes = absurd (cc over.ended)

  spent-more : (taken : List ℕ) (now after : Option (List ℕ)) (r new : Reading)
      (done : List (List ℕ)) → Goes taken r done → HasNoLf new.text → length new.text ≤ limits.line
      → (closes : Closes r new now after)
      → Spent (taken ++ closed-front r new now after closes) after new (done ++ new.text ∷ [])
  spent-more taken now after r new done going none fits (inl (goes, took)) =
      inl record {
        goes = goes;
        each = EachLine-snoc done new.text going.each none;
        bytes = then-took taken r done took.front (new.text ++ 10 ∷ new.ahead) going took.same
            ∙ sym (joined-snoc_then done new.text new.ahead);
      }
  spent-more taken now after r new done going none fits
      (inr (ended, none_ahead, at_end, some, took)) =
      inr record {
        ended = ended;
        at_end = at_end;
        front = done;
        last = new.text;
        each = going.each;
        one_line = none;
        some = some;
        fits = fits;
        done_is = refl;
        bytes = then-took taken r done took.front new.text going took.same;
      }

  -- a line was got
  pub HasRead-more : {before now after : Option (List ℕ)} {r new : Reading} {done : List (List ℕ)}
      {number : ℕ} → HasRead before now r done → GetsLine limits r new now after number
      → HasRead before after new (done ++ new.text ∷ [])
  HasRead-more {before} {now} {after} {r} {new} {done} {number} h gets =
      let front = closed-front r new now after gets.closed in
      let count : new.got ≡ r.got + 1 = gets.counted ∙ gets.number_is in
      record {
        taken = h.taken ++ front;
        from = from-more before now after h.taken front h.from
            (closed-taken r new now after gets.closed);
        spent = spent-more h.taken now after r new done
            (is-going h.taken now r done h.spent gets.goes) gets.one_line gets.fits gets.closed;
        got = omega (arith, length-append done (new.text ∷ []), h.got, count);
        limit = omega (arith, gets.counted, gets.within);
        short = gets.few;
        size = omega (
          arith,
          h.size,
          length-append h.taken front,
          closes-size r new now after gets.closed,
          gets.fits,
          times-next (limits.line + 1) r.got new.got count,
        );
      }

  -- few bytes were taken so far
  pub HasRead-few : {before now : Option (List ℕ)} {r : Reading} {done : List (List ℕ)}
      → HasRead before now r done → TakesAtMost (most_taken limits) before now
  HasRead-few {before} {now} {r} {done} h = (
    h.taken,
    omega (arith, h.size, h.short, times-most (limits.line + 1) r.got limits.lines h.limit),
    h.from,
  )

  few-more : (before now after : Option (List ℕ)) (r : Reading) (done : List (List ℕ))
      (front : List ℕ) (ahead : ℕ) → HasRead before now r done → now ≡ prepend_known front after
      → length r.ahead + length front ≡ ahead
      → (limits.line + 1) * r.got + ahead ≤ most_taken limits
      → TakesAtMost (most_taken limits) before after
  few-more before now after r done front ahead h took is few = (
    h.taken ++ front,
    omega (arith, h.size, length-append h.taken front, is, few),
    from-more before now after h.taken front h.from took,
  )

  took-size : (before after : Option (List ℕ)) (old new : List ℕ) (took : Took before after old new)
      → length old + length took.front ≡ length new
  took-size before after old new took = omega (
    arith,
    ap length took.same,
    length-append old took.front,
  )

  -- where a further line may follow
  room-next : (got ahead : ℕ) → got + 1 ≤ limits.lines → ahead ≤ limits.line + 256
      → (limits.line + 1) * got + ahead ≤ most_taken limits
  room-next got ahead within few =
      let next = times-next (limits.line + 1) got (got + 1) refl in
      let most = times-most (limits.line + 1) (got + 1) limits.lines within in
      omega (arith, next, most, few)

  room-last : (got ahead : ℕ) → got ≤ limits.lines → ahead ≤ 256
      → (limits.line + 1) * got + ahead ≤ most_taken limits
  room-last got ahead within few = omega (
    arith,
    times-most (limits.line + 1) got limits.lines within,
    few,
  )

  pub long-few : {before now after : Option (List ℕ)} {r new : Reading} {done : List (List ℕ)}
      {number : ℕ} → HasRead before now r done → FindsLong limits r new now after number
      → TakesAtMost (most_taken limits) before after
  long-few {before} {now} {after} {r} {new} {done} h finds =
      few-more before now after r done finds.taken.front (length new.ahead) h finds.taken.taken
      (took-size now after r.ahead new.ahead finds.taken)
      (room-next r.got (length new.ahead) (omega (arith, finds.number_is, finds.within))
      (omega (
        arith,
        ap length finds.ahead_is,
        length-append finds.first finds.more,
        finds.full,
        finds.few,
      )))

  pub many-few : {before now after : Option (List ℕ)} {r new : Reading} {done : List (List ℕ)}
      → HasRead before now r done → FindsMany limits r new now after
      → TakesAtMost (most_taken limits) before after
  many-few {before} {now} {after} {r} {new} {done} h finds =
      few-more before now after r done finds.taken.front (length new.ahead) h finds.taken.taken
      (took-size now after r.ahead new.ahead finds.taken)
      (room-last r.got (length new.ahead) h.limit finds.few)

  room-either : (got ahead : ℕ) → got ≤ limits.lines → ahead ≤ limits.line + 256
      → (got ≡ limits.lines → ahead ≤ 256) → (limits.line + 1) * got + ahead ≤ most_taken limits
  room-either got ahead within few none_past = elim (cases_lt got limits.lines) [
    | inl low ↦ room-next got ahead (omega (arith, low)) few
    | inr high ↦ let full : got ≡ limits.lines = omega (arith, high, within) in
        room-last got ahead within (none_past full)
  ]

  pub broken-few : {before now after : Option (List ℕ)} {r new : Reading} {done : List (List ℕ)}
      → HasRead before now r done → Breaks limits r new now after
      → TakesAtMost (most_taken limits) before after
  broken-few {before} {now} {after} {r} {new} {done} h breaks =
      few-more before now after r done breaks.taken.front (length new.ahead) h breaks.taken.taken
      (took-size now after r.ahead new.ahead breaks.taken)
      (room-either r.got (length new.ahead) h.limit (omega (arith, breaks.few))
      (λ full. omega (arith, ap length (breaks.none_past full))))

  pub lacks-few : {before now after : Option (List ℕ)} {r : Reading} {done : List (List ℕ)}
      → HasRead before now r done → Lacks limits r now after
      → TakesAtMost (most_taken limits) before after
  lacks-few {before} {now} {after} {r} {done} h lacks =
      few-more before now after r done lacks.front (length r.ahead + length lacks.front)
      h lacks.taken refl
      (room-either r.got (length r.ahead + length lacks.front) h.limit lacks.few lacks.none_past)

  -- the lines of a text all of which was taken, where the last one has no LF
  lines-over : (taken rest : List ℕ) (now : Option (List ℕ)) (r : Reading) (done : List (List ℕ))
      → Over taken now r done → rest ≡ [] → lines_of (taken ++ rest) ≡ done
  lines-over taken rest now r done over none =
      ap lines_of (ap (λ bytes. taken ++ bytes) none ∙ (append-nil taken ∙ over.bytes))
      ∙ (lines_of-joined over.front over.last over.each
      ∙ (ap (λ lines. over.front ++ lines) (lines_of-open over.last over.one_line over.some)
      ∙ sym over.done_is))

  front-of : (now : Option (List ℕ)) (r : Reading) (done : List (List ℕ)) (text taken rest : List ℕ)
      → now ≡ Some rest → text ≡ taken ++ rest → Spent taken now r done
      → (more : List (List ℕ)) × (lines_of text ≡ done ++ more)
  front-of now r done text taken rest told same (inl going) = (
    lines_of (r.ahead ++ rest),
    ap lines_of (same ∙ (ap (λ bytes. bytes ++ rest) going.bytes
        ∙ append_assoc (joined done) r.ahead rest)) ∙ lines_of-joined done (r.ahead ++ rest)
        going.each,
  )
  front-of now r done text taken rest told same (inr over) = (
    [],
    ap lines_of same ∙ (lines-over taken rest now r done over
        (at-end-none now rest over.at_end told) ∙ sym (append-nil done)),
  )

  -- the first lines of the whole text are those that were got
  pub HasRead-front : {before now : Option (List ℕ)} {r : Reading} {done : List (List ℕ)}
      (text : List ℕ) → HasRead before now r done → before ≡ Some text
      → (more : List (List ℕ)) × (lines_of text ≡ done ++ more)
  HasRead-front {before} {now} {r} {done} text h told =
      let left = told-rest before now h.taken text h.from told in
      front-of now r done text h.taken left.0 left.1 left.2 h.spent

  end-of : (now after : Option (List ℕ)) (r : Reading) (done : List (List ℕ))
      (text taken rest : List ℕ) → now ≡ Some rest → text ≡ taken ++ rest → Spent taken now r done
      → after ≡ now → r.ahead ≡ [] → (r.ended ≡ true) ⊎ IsAtEnd now
      → (lines_of text ≡ done) × (after ≡ Some [])
  end-of now after r done text taken rest told same (inr over) stays none end =
      let no_rest = at-end-none now rest over.at_end told in (
        ap lines_of same ∙ lines-over taken rest now r done over no_rest,
        stays
            ∙ (told ∙ ap (λ (bytes : List ℕ). Some bytes) no_rest),
      )
  end-of now after r done text taken rest told same (inl going) stays none (inl ended) =
      absurd (cc going.goes)
  end-of now after r done text taken rest told same (inl going) stays none (inr at_end) =
      let no_rest = at-end-none now rest at_end told in
      let all : text ≡ joined done ++ [] = same ∙ (ap (λ bytes. taken ++ bytes) no_rest
      ∙ (append-nil taken ∙ (going.bytes ∙ ap (λ bytes. joined done ++ bytes) none))) in (
        ap lines_of all ∙ (lines_of-joined done [] going.each ∙ append-nil done),
        stays
            ∙ (told ∙ ap (λ (bytes : List ℕ). Some bytes) no_rest),
      )

  -- the source came to its end: those are all lines
  pub HasRead-end : {before now after : Option (List ℕ)} {r new : Reading} {done : List (List ℕ)}
      (text : List ℕ) → HasRead before now r done → FindsEnd r new now after → before ≡ Some text
      → (lines_of text ≡ done) × (after ≡ Some [])
  HasRead-end {before} {now} {after} {r} {new} {done} text h finds told =
      let left = told-rest before now h.taken text h.from told in
      end-of now after r done text h.taken left.0 left.1 left.2 h.spent finds.none_taken
      finds.none_ahead finds.at_end

  -- the byte at which a line is refused
  line_decides-is : (text : List ℕ) (front : List (List ℕ)) (line : List ℕ) (more : List (List ℕ))
      (number : ℕ) → lines_of text ≡ front ++ line ∷ more → number ≡ length front + 1
      → line_decides limits number text ≡ length (joined front) +
      (min limits.line (length line) + 1)
  line_decides-is text front line more number lines n =
      let before : number - 1 ≡ length front = omega (arith, n) in
      rw (
        before,
        lines,
        take-append_seam front (line ∷ more),
        get_or-append_seam front line more [],
      ) refl

  count_decides-is : (text : List ℕ) (front more : List (List ℕ)) → lines_of text ≡ front ++ more
      → length front ≡ limits.lines → count_decides limits text ≡ length (joined front) + 1
  count_decides-is text front more lines full =
      ap (λ n. length (joined (take n (lines_of text))) + 1) (sym full)
      ∙ rw (lines, take-append_seam front more) refl

  refused-few : (now : Option (List ℕ)) (r : Reading) (done : List (List ℕ))
      (line text taken rest : List ℕ) (more : List (List ℕ)) (number : ℕ) → now ≡ Some rest
      → text ≡ taken ++ rest → lines_of text ≡ (done ++ line ∷ []) ++ more
      → length r.ahead ≤ 255 → length line ≤ limits.line → number ≡ length done + 1
      → Spent taken now r (done ++ line ∷ []) → TakesFew (line_decides limits number text)
      text now
  refused-few now r done line text taken rest more number told same lines short fits n (inl going) =
      let place = line_decides-is text done line more number (lines
      ∙ append_assoc done (line ∷ []) more) n in
      let size : length taken ≡ length (joined done) + (length line + (length r.ahead + 1)) =
      ap length (going.bytes ∙ joined-snoc_then done line r.ahead)
      ∙ omega (
        arith,
        length-append (joined done) (line ++ 10 ∷ r.ahead),
        length-append line (10 ∷ r.ahead),
      ) in (
        taken,
        rest,
        same,
        told,
        rw place (omega (arith, size, short, fits)),
        λ few. absurd (omega (
          arith,
          rw place at few,
          size,
          fits,
          ap length same,
          length-append taken rest,
        )),
      )
  refused-few now r done line text taken rest more number told same lines short fits n (inr over) =
      let none = at-end-none now rest over.at_end told in
      let all = ap lines_of same ∙ lines-over taken rest now r (done ++ line ∷ []) over none in
      let count : number ≡ length over.front + 1 = omega (
        arith,
        n,
        ap length over.done_is,
        length-append done (line ∷ []),
        length-append over.front (over.last ∷ []),
      ) in
      let place = line_decides-is text over.front over.last [] number (all ∙ over.done_is) count in
      let size : length taken ≡ length (joined over.front) + length over.last = ap length over.bytes
      ∙ length-append (joined over.front) over.last in
      (taken, rest, same, told, rw place (omega (arith, size, over.fits)), λ few. none)

  -- a line was got at which the schedule ends: few bytes past it were taken
  pub HasRead-refused : {before now : Option (List ℕ)} {r : Reading} (done : List (List ℕ))
      (line text : List ℕ) (number : ℕ) → HasRead before now r (done ++ line ∷ [])
      → length line ≤ limits.line → number ≡ length done + 1 → before ≡ Some text
      → TakesFew (line_decides limits number text) text now
  HasRead-refused {before} {now} {r} done line text number h fits n told =
      let left = told-rest before now h.taken text h.from told in
      let front = HasRead-front text h told in
      refused-few now r done line text h.taken left.0 front.0 number left.1 left.2 front.1 h.short
      fits n h.spent

  -- the next line is too long
  pub record ReadsLong (done : List (List ℕ)) (text : List ℕ) (number : ℕ) (after : Option (List ℕ))
      : Type 0 where
    pub first : List ℕ
    pub more : List (List ℕ)
    pub lines : lines_of text ≡ done ++ first ∷ more
    pub long : limits.line < length first
    pub number_is : number ≡ length done + 1
    pub within : length done < limits.lines
    pub few : TakesFew (line_decides limits number text) text after

  pub HasRead-long : {before now after : Option (List ℕ)} {r new : Reading} {done : List (List ℕ)}
      {number : ℕ} (text : List ℕ) → HasRead before now r done
      → FindsLong limits r new now after number → before ≡ Some text
      → ReadsLong done text number after
  HasRead-long {before} {now} {after} {r} {new} {done} {number} text h finds told =
      let going = is-going h.taken now r done h.spent finds.goes in
      let taken = h.taken ++ finds.taken.front in
      let left = told-rest before after taken text
      (from-more before now after h.taken finds.taken.front h.from finds.taken.taken) told in
      let took : taken ≡ joined done ++ (finds.first ++ finds.more) =
      then-took h.taken r done finds.taken.front (finds.first ++ finds.more) going
      (finds.taken.same ∙ finds.ahead_is) in
      let first = lines_of-front finds.first (finds.more ++ left.0) finds.one_line
      (omega (arith, finds.full)) in
      let all : text ≡ joined done ++ (finds.first ++ (finds.more ++ left.0)) =
      left.2 ∙ (ap (λ bytes. bytes ++ left.0) took ∙
      (append_assoc (joined done) (finds.first ++ finds.more) left.0
      ∙ ap (λ bytes. joined done ++ bytes) (append_assoc finds.first finds.more left.0))) in
      let lines : lines_of text ≡ done ++ first.0 ∷ first.1 = ap lines_of all
      ∙ (lines_of-joined done (finds.first ++ (finds.more ++ left.0)) going.each
      ∙ ap (λ ls. done ++ ls) first.2) in
      let long : limits.line < length first.0 = omega (arith, first.3, finds.full) in
      let n : number ≡ length done + 1 = omega (arith, finds.number_is, h.got) in
      let least : min limits.line (length first.0) ≡ limits.line = omega (arith, long) in
      let place : line_decides limits number text ≡ length (joined done) + (limits.line + 1) =
      line_decides-is text done first.0 first.1 number lines n ∙ omega (arith, least) in
      let size : length taken ≡ length (joined done) + (length finds.more + (limits.line + 1)) =
      ap length took ∙ omega (
        arith,
        length-append (joined done) (finds.first ++ finds.more),
        length-append finds.first finds.more,
        finds.full,
      ) in
      record {
        first = first.0;
        more = first.1;
        lines = lines;
        long = long;
        number_is = n;
        within = omega (arith, n, finds.within);
        few = (
          taken,
          left.0,
          left.2,
          left.1,
          rw place (omega (arith, size, finds.few)),
          λ few. absurd (omega (
            arith,
            rw place at few,
            size,
            ap length left.2,
            length-append taken left.0,
          )),
        );
      }

  -- there are too many lines
  pub record ReadsMany (done : List (List ℕ)) (text : List ℕ) (after : Option (List ℕ))
      : Type 0 where
    pub first : List ℕ
    pub more : List (List ℕ)
    pub lines : lines_of text ≡ done ++ first ∷ more
    pub full : length done ≡ limits.lines
    pub few : TakesFew (count_decides limits text) text after

  pub HasRead-many : {before now after : Option (List ℕ)} {r new : Reading} {done : List (List ℕ)}
      (text : List ℕ) → HasRead before now r done → FindsMany limits r new now after
      → before ≡ Some text → ReadsMany done text after
  HasRead-many {before} {now} {after} {r} {new} {done} text h finds told =
      let going = is-going h.taken now r done h.spent finds.goes in
      let taken = h.taken ++ finds.taken.front in
      let left = told-rest before after taken text
      (from-more before now after h.taken finds.taken.front h.from finds.taken.taken) told in
      let took : taken ≡ joined done ++ new.ahead =
      then-took h.taken r done finds.taken.front new.ahead going finds.taken.same in
      let full : length done ≡ limits.lines = h.got ∙ finds.full in
      let first = lines_of-some (new.ahead ++ left.0)
      (omega (arith, finds.some, length-append new.ahead left.0)) in
      let lines : lines_of text ≡ done ++ first.0 ∷ first.1 =
      ap lines_of (left.2 ∙ (ap (λ bytes. bytes ++ left.0) took
      ∙ append_assoc (joined done) new.ahead left.0))
      ∙ (lines_of-joined done (new.ahead ++ left.0) going.each ∙ ap (λ ls. done ++ ls) first.2)
      in
      let place = count_decides-is text done (first.0 ∷ first.1) lines full in
      let size : length taken ≡ length (joined done) + length new.ahead = ap length took
      ∙ length-append (joined done) new.ahead in
      record {
        first = first.0;
        more = first.1;
        lines = lines;
        full = full;
        few = (
          taken,
          left.0,
          left.2,
          left.1,
          rw place (omega (arith, size, finds.few)),
          λ few. absurd (omega (
            arith,
            rw place at few,
            size,
            finds.some,
            ap length left.2,
            length-append taken left.0,
          )),
        );
      }

  -- the source gave no more in the middle of a line
  pub record ReadsBroken (done : List (List ℕ)) (text : List ℕ) (after : Option (List ℕ))
      : Type 0 where
    pub part : List ℕ
    pub rest : List ℕ
    pub left : after ≡ Some rest
    pub all : text ≡ (joined done ++ part) ++ rest
    pub each : EachLine done
    pub one_line : HasNoLf part
    pub fits : length part ≤ limits.line
    pub none_past : length done ≡ limits.lines → part ≡ []

  pub HasRead-broken : {before now after : Option (List ℕ)} {r new : Reading} {done : List (List ℕ)}
      (text : List ℕ) → HasRead before now r done → Breaks limits r new now after
      → before ≡ Some text
      → ReadsBroken done text after
  HasRead-broken {before} {now} {after} {r} {new} {done} text h breaks told =
      let going = is-going h.taken now r done h.spent breaks.goes in
      let left = told-rest before after (h.taken ++ breaks.taken.front) text
      (from-more before now after h.taken breaks.taken.front h.from breaks.taken.taken) told in
      record {
        part = new.ahead;
        rest = left.0;
        left = left.1;
        all = left.2 ∙ ap (λ bytes. bytes ++ left.0)
            (then-took h.taken r done breaks.taken.front new.ahead going breaks.taken.same);
        each = going.each;
        one_line = breaks.one_line;
        fits = breaks.few;
        none_past = λ full. breaks.none_past (sym h.got ∙ full);
      }
