-- What a call answers, where bytes of the line were taken before.
use Rattle.std.proofs.Common.{◌≡◌, ℕ, ◌+◌, List, [], ◌∷◌, ◌++◌, length, inl, inr, arith, sym, ◌∙◌}
use Rattle.std.proofs.Common.{ap, subst, length-append}
use Rattle.std.specs.declared.option.Option.{Option}
use Rattle.std.specs.Io.KnownBytes.{prepend_known, IsAtEnd}
use Rattle.std.proofs.KnownBytes.{prepend_known-nil}
use Rattle.rv_base.proofs.Moved.{prepend_known-append}
use Rattle.schedule_replay.specs.Reading.{Reading}
use Rattle.schedule_replay.specs.NextLine.{Took, Closes, Breaks, Lacks, NextMoves, Waits}
use Rattle.schedule_replay.specs.declared.limits.Limits.{Limits}
use Rattle.schedule_replay.specs.declared.lines.NextLine.{NextLine}
use Rattle.schedule_replay.specs.declared.lines.NextLine.TheVariants.{Got, End, TooLong, TooMany}
use Rattle.schedule_replay.specs.declared.lines.NextLine.TheVariants.{ReadFault, NoMemory}
use Rattle.schedule_replay.proofs.Taking.{Took-trans, Took-nothing, Took-same}

Closes-after : (old mid new : Reading) (before between after : Option (List ℕ))
    → Took before between old.ahead mid.ahead → Closes mid new between after
    → Closes old new before after
Closes-after old mid new before between after took (inl (goes, then)) =
    inl (
      goes,
      Took-trans before between after old.ahead mid.ahead (new.text ++ 10 ∷ new.ahead)
          took then,
    )
Closes-after old mid new before between after took (inr (ended, none, at_end, some, then)) =
    inr (
      ended,
      none,
      at_end,
      some,
      Took-trans before between after old.ahead mid.ahead new.text took then,
    )

module _ (limits : Limits) where
  Breaks-after : (old mid new : Reading) (before between after : Option (List ℕ))
      → Took before between old.ahead mid.ahead → mid.got ≡ old.got → mid.ended ≡ old.ended
      → Breaks limits mid new between after → Breaks limits old new before after
  Breaks-after old mid new before between after took got ended b = record {
    goes = sym ended ∙ b.goes;
    one_line = b.one_line;
    few = b.few;
    none_past = λ full. b.none_past (got ∙ full);
    taken = Took-trans before between after old.ahead mid.ahead new.ahead took b.taken;
  }

  Lacks-after : (old mid : Reading) (before between after : Option (List ℕ))
      → Took before between old.ahead mid.ahead → mid.got ≡ old.got → Lacks limits mid between after
      → Lacks limits old before after
  Lacks-after old mid before between after took got lacks =
      let size : length old.ahead + length (took.front ++ lacks.front)
      ≡ length mid.ahead + length lacks.front =
      omega (
        arith,
        ap length took.same,
        length-append old.ahead took.front,
        length-append took.front lacks.front,
      ) in
      record {
        front = took.front ++ lacks.front;
        taken = took.taken ∙ (ap (prepend_known took.front) lacks.taken
            ∙ prepend_known-append took.front lacks.front after);
        few = omega (arith, size, lacks.few);
        none_past = λ full. let most = lacks.none_past (got ∙ full) in omega (arith, size, most);
      }

  pub NextMoves-after : (old mid new : Reading) (before between after : Option (List ℕ))
      (answer : NextLine) → Took before between old.ahead mid.ahead → mid.got ≡ old.got
      → mid.ended ≡ old.ended
      → NextMoves limits mid new between after answer → NextMoves limits old new before after answer
  NextMoves-after old mid new before between after (Got number) took got ended h = record {
    goes = sym ended ∙ h.goes;
    number_is = h.number_is ∙ ap (λ n. n + 1) got;
    counted = h.counted;
    within = h.within;
    one_line = h.one_line;
    fits = h.fits;
    few = h.few;
    closed = Closes-after old mid new before between after took h.closed;
  }
  NextMoves-after old mid new before between after End took got ended h =
      let none = Took-nothing before between old.ahead mid.ahead h.none_ahead took in record {
        ended = h.ended;
        none_ahead = none.0;
        none_taken = h.none_taken ∙ sym none.1;
        at_end = elim h.at_end [
          | inl was ↦ inl (sym ended ∙ was)
          | inr at_end ↦
              inr (subst IsAtEnd (sym none.1) at_end)
        ];
      }
  NextMoves-after old mid new before between after (TooLong number) took got ended h = record {
    goes = sym ended ∙ h.goes;
    number_is = h.number_is ∙ ap (λ n. n + 1) got;
    within = h.within;
    first = h.first;
    more = h.more;
    ahead_is = h.ahead_is;
    full = h.full;
    one_line = h.one_line;
    few = h.few;
    taken = Took-trans before between after old.ahead mid.ahead new.ahead took h.taken;
  }
  NextMoves-after old mid new before between after TooMany took got ended h = record {
    goes = sym ended ∙ h.goes;
    full = sym got ∙ h.full;
    some = h.some;
    few = h.few;
    taken = Took-trans before between after old.ahead mid.ahead new.ahead took h.taken;
  }
  NextMoves-after old mid new before between after ReadFault took got ended h =
      Breaks-after old mid new before between after took got ended h
  NextMoves-after old mid new before between after NoMemory took got ended h =
      Lacks-after old mid before between after took got h

-- what is said after the bytes at hand didn't decide
pub Waits-moves : (old mid new : Reading) (before after : Option (List ℕ)) (answer : NextLine)
    → Waits old mid → NextMoves mid.limits mid new before after answer
    → NextMoves old.limits old new before after answer
Waits-moves old mid new before after answer waits moves =
    subst (λ (most : Limits). NextMoves most old new before after answer) waits.limits
    (NextMoves-after mid.limits old mid new before before after answer
    (Took-same before old.ahead mid.ahead waits.ahead) waits.got waits.ended moves)

-- there is no memory, after the bytes at hand didn't decide
pub Waits-lacks : (old mid : Reading) (known : Option (List ℕ)) → Waits old mid
    → Lacks old.limits old known known
Waits-lacks old mid known waits =
    let line = ap (λ (most : Limits). most.line) waits.limits in
    let lines = ap (λ (most : Limits). most.lines) waits.limits in
    record {
      front = [];
      taken = sym (prepend_known-nil known);
      few = omega (arith, ap length waits.ahead, waits.few, line);
      none_past = λ full. let none = waits.none_past (waits.got ∙ (full ∙ sym lines)) in
          omega (arith, ap length waits.ahead, ap length none);
    }
