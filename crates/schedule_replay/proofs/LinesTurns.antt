-- The steps of the reader of lines.
use Rattle.std.proofs.Common.{◌≡◌, ◌≢◌, ℕ, ◌+◌, ◌-◌, ◌<◌, ◌≤◌, List, [], ◌∷◌, ◌++◌, length, take}
use Rattle.std.proofs.Common.{drop, get_or, Bool, true, false, Some, None, inl, inr, arith, refl}
use Rattle.std.proofs.Common.{sym, ◌∙◌, ap, subst, append_assoc, add-one, drop-cons, length-take}
use Rattle.std.proofs.Common.{length-drop, length-append}
use Rattle.std.proofs.lemmas.Bool.{cases_lt}
use Rattle.std.proofs.lemmas.Grind.{common_steps}
use Rattle.std.proofs.lemmas.List.{append-nil, get_or-take, take-append-drop, drop-take, drop-drop}
use Rattle.std.proofs.lemmas.List.{take-take}
use Rattle.std.proofs.lemmas.List.Elements.{All-append, All-take}
use Rattle.std.proofs.lemmas.List.Quantifiers.{position-Some}
use Rattle.std.proofs.lemmas.List.Sums.{fails_before_first}
use Rattle.std.specs.Prelude.{Result, Ok, Err, OnOk, is_err}
use Rattle.std.specs.List.{position, position_or_len}
use Rattle.std.specs.declared.option.Option.{Option}
use Rattle.std.specs.Io.KnownBytes.{prepend_known}
use Rattle.std.proofs.KnownBytes.{prepend_known-nil}
use Rattle.schedule_replay.specs.TextLines.{HasNoLf, is_lf}
use Rattle.schedule_replay.specs.Reading.{Reading}
use Rattle.schedule_replay.specs.NextLine.{Took, GetsLine, FindsLong}
use Rattle.schedule_replay.specs.NextLine.{Lacks, NextMoves, Waits, AtHandMoves}
use Rattle.schedule_replay.specs.AtHand.{pending, part_of, ahead_of, reading_of, SameCount}
use Rattle.schedule_replay.specs.AtHand.{Opens, Carries, HandMoves, SameLine}
use Rattle.schedule_replay.specs.AtHand.{TurnMoves}
use Rattle.schedule_replay.specs.declared.limits.Limits.{Limits}
use Rattle.schedule_replay.specs.declared.line_buffer.LineBuffer.{LineBuffer}
use Rattle.schedule_replay.specs.declared.line_buffer.Held.TheVariants.{Nothing}
use Rattle.schedule_replay.specs.declared.lines.NextLine.{NextLine}
use Rattle.schedule_replay.proofs.Taking.{Took-none, Took-behind, Took-same}
use Rattle.schedule_replay.proofs.Further.{NextMoves-after}

-- the first LF of bytes
lf-is : (b : ℕ) → is_lf b ≡ true → b ≡ 10
lf-is b lf = grind (arith, common_steps)

lf-not : (b : ℕ) → is_lf b ≡ false → b ≢ 10
lf-not b no_lf = grind (arith, common_steps)

before-lf : (bytes : List ℕ) (k : ℕ) → position is_lf bytes ≡ Some k → HasNoLf (take k bytes)
before-lf bytes k found j d within =
    let low : j < k = omega (arith, within, length-take k bytes) in
    let first = position-Some is_lf bytes k d found in
    subst (λ (b : ℕ). b ≢ 10) (sym (get_or-take k bytes j d low))
    (lf-not (get_or bytes j d) (first.2 j low))

none-inside : (bytes : List ℕ) → position is_lf bytes ≡ None
    → length bytes ≤ position_or_len is_lf bytes
none-inside bytes none = grind (arith, common_steps)

pub no-lf-inside : (bytes : List ℕ) → position is_lf bytes ≡ None → HasNoLf bytes
no-lf-inside bytes none j d within =
    let past = none-inside bytes none in
    lf-not (get_or bytes j d) (fails_before_first is_lf bytes j d (omega (arith, within, past)))

at-lf : (bytes : List ℕ) (k : ℕ) → position is_lf bytes ≡ Some k
    → bytes ≡ take k bytes ++ 10 ∷ drop (k + 1) bytes
at-lf bytes k found =
    let first = position-Some is_lf bytes k 0 found in
    let here : drop k bytes ≡ 10 ∷ drop (k + 1) bytes =
    rw add-one (drop-cons bytes k 0 first.0) ∙ ap (λ b. b ∷ drop (k + 1) bytes)
    (lf-is (get_or bytes k 0) first.1) in
    sym (take-append-drop k bytes) ∙ ap (λ more. take k bytes ++ more) here

nothing-in : (bytes : List ℕ) → length bytes ≡ 0 → bytes ≡ []
nothing-in [] none = refl
nothing-in (b ∷ bs) none = absurd (omega (arith, none))

-- how many bytes are pending
pub pending-length : (l : LineBuffer) → length (pending l) ≡ l.end - l.start
pending-length l = omega (
  arith,
  length-drop l.start (take l.end l.piece),
  length-take l.end l.piece,
  l.within,
  l.room,
)

pub pending-none : (l : LineBuffer) → l.start ≡ l.end → pending l ≡ []
pending-none l spent = nothing-in (pending l) (omega (arith, pending-length l, spent))

-- a part of the piece
front-between : (piece : List ℕ) (start end k : ℕ) → start + k ≤ end
    → drop start (take (start + k) piece) ≡ take k (drop start (take end piece))
front-between piece start end k within =
    let same : start + (end - start) ≡ end = omega (arith, within) in
    drop-take start k piece
    ∙ (sym (take-take k (end - start) (drop start piece) (omega (arith, within)))
    ∙ ap (take k) (sym (drop-take start (end - start) piece)
    ∙ ap (λ n. drop start (take n piece)) same))

-- the pending bytes, as a part of the piece
pub slice-pending : (l : LineBuffer) → take (l.end - l.start) (drop l.start l.piece) ≡ pending l
slice-pending l =
    let same : l.start + (l.end - l.start) ≡ l.end = omega (arith, l.in_order) in
    sym (drop-take l.start (l.end - l.start) l.piece) ∙ ap (λ n. drop l.start (take n l.piece)) same

rest-between : (piece : List ℕ) (start end k : ℕ)
    → drop (start + k + 1) (take end piece) ≡ drop (k + 1) (drop start (take end piece))
rest-between piece start end k =
    let same : start + k + 1 ≡ start + (k + 1) = omega arith in
    ap (λ n. drop n (take end piece)) same ∙ sym (drop-drop (k + 1) start (take end piece))

part-here : (l : LineBuffer) → l.held ≡ Nothing → part_of l ≡ l.part.items
part-here l vacant = rw vacant refl

going-or : (ended : Bool) (start end : ℕ) → (ended ≡ true → start ≡ end) → start < end
    → ended ≡ false
going-or true start end spent some = absurd (omega (arith, spent refl, some))
going-or false start end spent some = refl

pub going : (l : LineBuffer) → l.start < l.end → l.ended ≡ false
going l some = going-or l.ended l.start l.end l.none_pending some

ahead-length : (l : LineBuffer) → l.held ≡ Nothing → length (ahead_of l) ≡ length l.part.items +
    (l.end - l.start)
ahead-length l vacant = omega (
  arith,
  length-append (part_of l) (pending l),
  ap length (part-here l vacant),
  pending-length l,
)

ahead-fits : (l : LineBuffer) → l.held ≡ Nothing → length (ahead_of l) ≤ l.limits.line + 256
ahead-fits l vacant = omega (arith, ahead-length l vacant, l.fits vacant, l.within)

part-clean : (l : LineBuffer) → l.held ≡ Nothing → HasNoLf (part_of l)
part-clean l vacant = subst HasNoLf (sym (part-here l vacant)) (l.one_line vacant)

-- The bytes ahead begin with more than a line may have, and none of these is an LF.
long : (l : LineBuffer) (clean rest : List ℕ) (known : Option (List ℕ)) → l.held ≡ Nothing
    → l.start < l.end → l.got < l.limits.lines → ahead_of l ≡ clean ++ rest → HasNoLf clean
    → l.limits.line < length clean
    → FindsLong l.limits (reading_of l) (reading_of l) known known (l.got + 1)
long l clean rest known vacant some few ahead none more =
    let size = l.limits.line + 1 in
    let parts : ahead_of l ≡ take size clean ++ (drop size clean ++ rest) =
    ahead ∙ (ap (λ front. front ++ rest) (sym (take-append-drop size clean))
    ∙ append_assoc (take size clean) (drop size clean) rest) in
    let full : length (take size clean) ≡ size = omega (arith, length-take size clean, more) in
    record {
      goes = going l some;
      number_is = refl;
      within = omega (arith, few);
      first = take size clean;
      more = drop size clean ++ rest;
      ahead_is = parts;
      full = full;
      one_line = All-take (λ b. b ≢ 10) size clean none;
      few = omega (
        arith,
        ap length parts,
        length-append (take size clean)
            (drop size clean ++ rest),
        full,
        ahead-fits l vacant,
      );
      taken = Took-none known known (ahead_of l) refl;
    }

-- the line whose LF is pending is too long
pub long-closed : (l : LineBuffer) (k : ℕ) (known : Option (List ℕ)) → l.held ≡ Nothing
    → l.got < l.limits.lines → position is_lf (pending l) ≡ Some k
    → l.limits.line < length l.part.items + k
    → FindsLong l.limits (reading_of l) (reading_of l) known known (l.got + 1)
long-closed l k known vacant few found more =
    let first = position-Some is_lf (pending l) k 0 found in
    let some : l.start < l.end = omega (arith, first.0, pending-length l) in
    let ahead : ahead_of l ≡ (part_of l ++ take k (pending l)) ++ drop k (pending l) =
    ap (λ bytes. part_of l ++ bytes) (sym (take-append-drop k (pending l)))
    ∙ sym (append_assoc (part_of l) (take k (pending l)) (drop k (pending l))) in
    long l (part_of l ++ take k (pending l)) (drop k (pending l)) known vacant some few ahead
    (All-append (λ b. b ≢ 10) (part_of l) (take k (pending l)) (part-clean l vacant)
    (before-lf (pending l) k found))
    (omega (
      arith,
      length-append (part_of l) (take k (pending l)),
      ap length (part-here l vacant),
      length-take k (pending l),
      first.0,
      more,
    ))

-- the line at hand is too long
pub long-open : (l : LineBuffer) (known : Option (List ℕ)) → l.held ≡ Nothing
    → l.got < l.limits.lines
    → l.start < l.end → position is_lf (pending l) ≡ None
    → l.limits.line < length l.part.items + (l.end - l.start)
    → FindsLong l.limits (reading_of l) (reading_of l) known known (l.got + 1)
long-open l known vacant few some none more =
    long l (ahead_of l) [] known vacant some few (sym (append-nil (ahead_of l)))
    (All-append (λ b. b ≢ 10) (part_of l) (pending l) (part-clean l vacant)
    (no-lf-inside (pending l) none))
    (omega (arith, ahead-length l vacant, more))

-- there is no memory
pub lacks : (l : LineBuffer) (known : Option (List ℕ)) → l.held ≡ Nothing
    → (l.got ≡ l.limits.lines → length (ahead_of l) ≤ 256)
    → Lacks l.limits (reading_of l) known known
lacks l known vacant none_past = record {
  front = [];
  taken = sym (prepend_known-nil known);
  few = omega (arith, ahead-fits l vacant);
  none_past = λ full. let most = none_past full in omega (arith, most);
}

pub lacks-before : (l : LineBuffer) (known : Option (List ℕ)) → l.held ≡ Nothing
    → l.got < l.limits.lines
    → Lacks l.limits (reading_of l) known known
lacks-before l known vacant few = lacks l known vacant (λ full. absurd (omega (arith, full, few)))

-- the line whose LF is pending was got
pub gets : (old : LineBuffer) (new : Reading) (k : ℕ) (known : Option (List ℕ)) → old.held ≡ Nothing
    → old.got < old.limits.lines → position is_lf (pending old) ≡ Some k
    → length old.part.items + k ≤ old.limits.line
    → new.text ≡ part_of old ++ drop old.start (take (old.start + k) old.piece)
    → new.ahead ≡ drop (old.start + k + 1) (take old.end old.piece) → new.got ≡ old.got + 1
    → new.ended ≡ old.ended
    → GetsLine old.limits (reading_of old) new known known new.got
gets old new k known vacant few found fits text pend got ended =
    let first = position-Some is_lf (pending old) k 0 found in
    let within : old.start + k ≤ old.end = omega (arith, first.0, pending-length old) in
    let goes = going old (omega (arith, first.0, pending-length old)) in
    let line : new.text ≡ part_of old ++ take k (pending old) = text
    ∙ ap (λ bytes. part_of old ++ bytes) (front-between old.piece old.start old.end k within) in
    let ahead : new.ahead ≡ drop (k + 1) (pending old) = pend
    ∙ rest-between old.piece old.start old.end k in
    let all : ahead_of old ≡ new.text ++ 10 ∷ new.ahead =
    ap (λ bytes. part_of old ++ bytes) (at-lf (pending old) k found)
    ∙ (sym (append_assoc (part_of old) (take k (pending old)) (10 ∷ drop (k + 1) (pending old)))
    ∙ (ap (λ front. front ++ 10 ∷ drop (k + 1) (pending old)) (sym line)
    ∙ ap (λ more. new.text ++ 10 ∷ more) (sym ahead))) in
    record {
      goes = goes;
      number_is = got;
      counted = refl;
      within = omega (arith, got, few);
      one_line = subst HasNoLf (sym line) (All-append (λ b. b ≢ 10) (part_of old)
          (take k (pending old)) (part-clean old vacant) (before-lf (pending old) k found));
      fits = omega (
        arith,
        ap length line,
        length-append (part_of old) (take k (pending old)),
        ap length (part-here old vacant),
        length-take k (pending old),
        fits,
      );
      few = omega (
        arith,
        ap length ahead,
        length-drop (k + 1) (pending old),
        pending-length old,
        old.within,
      );
      closed = inl (
        ended ∙ goes,
        subst (λ (bytes : List ℕ). Took known known (ahead_of old) bytes)
            all (Took-none known known (ahead_of old) refl),
      );
    }

-- the bytes ahead, once the last line got is let go
pub opened-ahead : (old mid : LineBuffer) → Opens old mid → ahead_of mid ≡ ahead_of old
opened-ahead old mid opens = ap (λ part. part ++ pending mid) opens.part
    ∙ ap (λ bytes. part_of old ++ bytes) (rw (opens.same.piece, opens.same.start, opens.same.end)
    refl)

-- what is said later
pub later-moves : (old mid new : LineBuffer) (before between after : Option (List ℕ))
    (answer : NextLine)
    → Took before between (ahead_of old) (ahead_of mid) → SameCount old mid
    → NextMoves mid.limits (reading_of mid) (reading_of new) between after answer
    → NextMoves old.limits (reading_of old) (reading_of new) before after answer
later-moves old mid new before between after answer took count moves =
    subst (λ (most : Limits). NextMoves most (reading_of old) (reading_of new) before after answer)
    count.limits
    (NextMoves-after mid.limits (reading_of old) (reading_of mid) (reading_of new)
    before between after answer took count.got count.ended moves)

-- what is said after the last line got was let go
pub opened-hand : (old mid new : LineBuffer) (answer : Option NextLine) → Opens old mid
    → HandMoves mid new answer → HandMoves old new answer
opened-hand old mid new (Some answer) opens (quiet, limits, ended, moves) = (
  quiet,
  limits ∙ opens.count.limits,
  ended ∙ opens.count.ended,
  λ known. later-moves old mid new known known known answer
      (Took-same known (ahead_of old) (ahead_of mid) (opened-ahead old mid opens)) opens.count
      (moves known),
)
opened-hand old mid new None opens carries = record {
  count = record {
    limits = carries.count.limits ∙ opens.count.limits;
    got = carries.count.got ∙ opens.count.got;
    ended = carries.count.ended ∙ opens.count.ended;
  };
  vacant = carries.vacant;
  spent = carries.spent;
  ahead = carries.ahead ∙ opened-ahead old mid opens;
}

-- nothing is ahead but a part of a line
pub spent-ahead : (l : LineBuffer) → l.start ≡ l.end → ahead_of l ≡ part_of l
spent-ahead l spent = ap (λ bytes. part_of l ++ bytes) (pending-none l spent)
    ∙ append-nil (part_of l)

pub below-limit : (l : LineBuffer) → l.held ≡ Nothing → 0 < length l.part.items
    → l.got + 1 ≤ l.limits.lines
below-limit l vacant some = elim (cases_lt l.got l.limits.lines) [
  | inl low ↦ omega (arith, low)
  | inr high ↦ let full : l.got ≡ l.limits.lines = omega (arith, high, l.counted) in
      absurd (omega (arith, ap length (l.none_past vacant full), some))
]

same-part : (old mid : LineBuffer) → SameLine old mid → old.start ≡ old.end
    → ahead_of old ≡ part_of mid
same-part old mid same spent = spent-ahead old spent ∙ sym same.part

-- bytes were taken
pub filled : (old mid : LineBuffer) (before after : Option (List ℕ)) → SameLine old mid
    → old.start ≡ old.end → Took before after [] (pending mid)
    → Took before after (ahead_of old) (ahead_of mid)
filled old mid before after same spent took =
    let behind = Took-behind before after (part_of mid) [] (pending mid) took in
    subst (λ (bytes : List ℕ). Took before after bytes (ahead_of mid)) (append-nil (part_of mid)
    ∙ sym (same-part old mid same spent)) behind

longer : (old mid : LineBuffer) → SameLine old mid → old.start ≡ old.end → mid.start < mid.end
    → length (ahead_of old) < length (ahead_of mid)
longer old mid same spent some =
    omega (
      arith,
      ap length (same-part old mid same spent),
      length-append (part_of mid) (pending mid),
      pending-length mid,
      some,
    )

-- what is said after a read
pub then-moves : (old mid new : LineBuffer) (before after : Option (List ℕ))
    (answer : Option NextLine)
    → SameLine old mid → old.start ≡ old.end → mid.start < mid.end
    → Took before after [] (pending mid) → HandMoves mid new answer
    → TurnMoves old new before after answer
then-moves old mid new before after (Some answer) same spent some took (quiet, limits, ended, moves)
    = (
      limits ∙ same.count.limits,
      later-moves old mid new before after after answer
          (filled old mid before after same spent took) same.count (moves after),
    )
then-moves old mid new before after None same spent some took carries = record {
  count = record {
    limits = carries.count.limits ∙ same.count.limits;
    got = carries.count.got ∙ same.count.got;
    ended = carries.count.ended ∙ same.count.ended;
  };
  vacant = carries.vacant;
  spent = carries.spent;
  taken = subst (λ (bytes : List ℕ). Took before after (ahead_of old) bytes) (sym carries.ahead)
      (filled old mid before after same spent took);
  longer = subst (λ (bytes : List ℕ). length (ahead_of old) < length bytes) (sym carries.ahead)
      (longer old mid same spent some);
}

-- the source had no memory
pub then-lacks : (old mid : LineBuffer) (before after : Option (List ℕ)) → SameLine old mid
    → old.start ≡ old.end → old.held ≡ Nothing → after ≡ before
    → Lacks old.limits (reading_of old) before after
then-lacks old mid before after same spent vacant stays =
    let ahead = spent-ahead old spent in
    record {
      front = [];
      taken = sym (prepend_known-nil before) ∙ ap (prepend_known []) (sym stays);
      few = omega (arith, ahead-fits old vacant);
      none_past = λ full. let none : length old.part.items ≡ 0 =
          ap length (old.none_past vacant full) in omega
          (arith, ap length ahead, ap length (part-here old vacant), none);
    }

-- the bytes at hand were kept, as contracts see it
pub Carries-waits : (old new : LineBuffer) → Carries old new
    → Waits (reading_of old) (reading_of new)
Carries-waits old new carries =
    let ahead : ahead_of new ≡ new.part.items = spent-ahead new carries.spent
    ∙ part-here new carries.vacant in
    record {
      limits = carries.count.limits;
      got = carries.count.got;
      ended = carries.count.ended;
      ahead = carries.ahead;
      one_line = subst HasNoLf (sym ahead) (new.one_line carries.vacant);
      few = omega (arith, ap length ahead, new.fits carries.vacant);
      none_past = λ full. ahead ∙ new.none_past carries.vacant full;
    }

-- what the bytes at hand decide, as contracts see it
pub hand-moves : (old new : LineBuffer) (answer : Option NextLine) → HandMoves old new answer
    → AtHandMoves (reading_of old) (reading_of new) answer
hand-moves old new (Some answer) moves = moves
hand-moves old new None carries = Carries-waits old new carries

-- the bytes that are kept hold no LF
pub kept-clean : (l : LineBuffer) → l.held ≡ Nothing → position is_lf (pending l) ≡ None
    → HasNoLf (l.part.items ++ pending l)
kept-clean l vacant none = All-append (λ b. b ≢ 10) l.part.items (pending l) (l.one_line vacant)
    (no-lf-inside (pending l) none)

-- a call that went well
pub on-ok : {T E : Type 0} (result : Result T E) (P : Type 0) → is_err result ≡ false
    → OnOk result P → P
on-ok (Ok value) P well holds = holds
on-ok (Err error) P well holds = absurd (cc)
