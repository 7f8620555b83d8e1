-- The text of a source, by the lines that were read of it.
use Rattle.std.proofs.Common.{◌≡◌, ℕ, ◌<◌, List, [], ◌++◌, length, true, false, Some, inl, inr}
use Rattle.std.proofs.Common.{◌⊎◌, ◌∙◌, ap, append_assoc, arith}
use Rattle.std.proofs.lemmas.List.{append-nil}
use Rattle.std.specs.declared.option.Option.{Option}
use Rattle.std.specs.Io.KnownBytes.{IsAtEnd}
use Rattle.schedule_replay.specs.TextLines.{HasNoLf, joined}
use Rattle.schedule_replay.specs.Reading.{Reading}
use Rattle.schedule_replay.specs.NextLine.{Closes, GetsLine, FindsEnd}
use Rattle.schedule_replay.specs.declared.limits.Limits.{Limits}
use Rattle.schedule_replay.proofs.ClosedLines.{EachLine}
use Rattle.schedule_replay.proofs.LinesSoFar.{HasRead, Goes, at-end-none, told-rest, then-took}
use Rattle.schedule_replay.proofs.LinesSoFar.{from-more, is-going}

-- The text is those lines, each with its LF, and what follows them.
pub record ReadsClosed (done : List (List ℕ)) (ahead text : List ℕ) (now : Option (List ℕ))
    : Type 0 where
  pub rest : List ℕ
  pub left : now ≡ Some rest
  pub all : text ≡ joined done ++ (ahead ++ rest)
  pub each : EachLine done

-- The text is those lines, each with its LF, and then this last line without it.
pub record ReadsOpen (done : List (List ℕ)) (line text : List ℕ) (now : Option (List ℕ))
    : Type 0 where
  pub all : text ≡ joined done ++ line
  pub each : EachLine done
  pub one_line : HasNoLf line
  pub left : now ≡ Some []

at-end : (r : Reading) (now : Option (List ℕ)) → r.ended ≡ false → (r.ended ≡ true) ⊎ IsAtEnd now
    → IsAtEnd now
at-end r now goes (inl ended) = absurd (cc)
at-end r now goes (inr at_end) = at_end

module _ (limits : Limits) where
  pub HasRead-closed : {before now : Option (List ℕ)} {r : Reading} {done : List (List ℕ)}
      (text : List ℕ) → HasRead limits before now r done → r.ended ≡ false → before ≡ Some text
      → ReadsClosed done r.ahead text now
  HasRead-closed {before} {now} {r} {done} text h goes told =
      let left = told-rest before now h.taken text h.from told in
      let going = is-going limits h.taken now r done h.spent goes in
      record {
        rest = left.0;
        left = left.1;
        all = left.2 ∙ (ap (λ bytes. bytes ++ left.0) going.bytes
            ∙ append_assoc (joined done) r.ahead left.0);
        each = going.each;
      }

  -- a line was got that no LF ends
  open-line : (before now after : Option (List ℕ)) (r new : Reading) (done : List (List ℕ))
      (text : List ℕ) (h : HasRead limits before now r done) → Goes h.taken r done
      → HasNoLf new.text → new.ended ≡ true → before ≡ Some text → Closes r new now after
      → (0 < length new.text) × ReadsOpen done new.text text after
  open-line before now after r new done text h going none over told (inl (goes, took)) =
      absurd (cc)
  open-line before now after r new done text h going none over told
      (inr (ended, none_ahead, at_end, some, took)) =
      let left = told-rest before after (h.taken ++ took.front) text
      (from-more before now after h.taken took.front h.from took.taken) told in
      let no_rest = at-end-none after left.0 at_end left.1 in (
        some,
        record {
          all = left.2 ∙ (ap (λ bytes. (h.taken ++ took.front) ++ bytes) no_rest
              ∙ (append-nil (h.taken ++ took.front)
              ∙ then-took h.taken r done took.front new.text going took.same));
          each = going.each;
          one_line = none;
          left = left.1 ∙ ap (λ (bytes : List ℕ). Some bytes) no_rest;
        },
      )

  pub HasRead-open : {before now after : Option (List ℕ)} {r new : Reading} {done : List (List ℕ)}
      {number : ℕ} (text : List ℕ) → HasRead limits before now r done
      → GetsLine limits r new now after number → new.ended ≡ true → before ≡ Some text
      → (0 < length new.text) × ReadsOpen done new.text text after
  HasRead-open {before} {now} {after} {r} {new} {done} text h gets over told =
      open-line before now after r new done text h
      (is-going limits h.taken now r done h.spent gets.goes) gets.one_line over told gets.closed

  -- the source came to its end behind those lines
  pub HasRead-all : {before now after : Option (List ℕ)} {r new : Reading} {done : List (List ℕ)}
      (text : List ℕ) → HasRead limits before now r done → r.ended ≡ false
      → FindsEnd r new now after → before ≡ Some text → ReadsOpen done [] text after
  HasRead-all {before} {now} {after} {r} {new} {done} text h goes finds told =
      let closed = HasRead-closed text h goes told in
      let no_rest = at-end-none now closed.rest (at-end r now goes finds.at_end) closed.left in
      record {
        all = closed.all
            ∙ ap (λ bytes. joined done ++ bytes) (ap (λ bytes. bytes ++ closed.rest)
            finds.none_ahead ∙ no_rest);
        each = closed.each;
        one_line = λ k d within. absurd (omega (arith, within));
        left = finds.none_taken ∙ (closed.left ∙ ap (λ (bytes : List ℕ). Some bytes) no_rest);
      }
