-- The bytes that are kept hold no LF, and are no more than a line may have.
use Rattle.std.proofs.Common.{◌≡◌, ◌++◌, length, false, arith, refl, ap, subst}
use Rattle.std.proofs.Common.{sym, length-append, is_err}
use Rattle.schedule_replay.specs.TextLines.{HasNoLf}
use Rattle.schedule_replay.specs.AtHand.{pending}
use Rattle.schedule_replay.proofs.LinesTurns.{long-open, lacks-before, kept-clean, pending-length}
use Rattle.schedule_replay.proofs.LinesTurns.{on-ok}
use Rattle.schedule_replay.proofs.line_buffer.LineBuffer.carry.Goals as goal

pub returns-then-len-self : goal.returns-then-len-self
returns-then-len-self c = (
  refl,
  refl,
  refl,
  λ known.
      long-open c.args.self.now known c.requires.vacant c.requires.few c.requires.some
      c.requires.no_lf (omega (arith, c.if-len-self.true, c.len.ensures)),
)

pub returns-then-is_err : goal.returns-then-is_err
returns-then-is_err c = (
  refl,
  refl,
  refl,
  λ known.
      lacks-before c.args.self.now known c.requires.vacant c.requires.few,
)

pub invariant_of-self-2-clause-one_line : goal.invariant_of-self-2-clause-one_line
invariant_of-self-2-clause-one_line c vacant =
    let well : is_err c.append.result ≡ false = cc in
    let part : c.append.new.part.items ≡ c.args.self.now.part.items ++ pending c.args.self.now =
    on-ok c.append.result _ well c.append.ensures.ok in
    subst HasNoLf (sym part) (kept-clean c.args.self.now c.requires.vacant c.requires.no_lf)

pub invariant_of-self-2-clause-fits : goal.invariant_of-self-2-clause-fits
invariant_of-self-2-clause-fits c vacant =
    let well : is_err c.append.result ≡ false = cc in
    let part : c.append.new.part.items ≡ c.args.self.now.part.items ++ pending c.args.self.now =
    on-ok c.append.result _ well c.append.ensures.ok in
    omega (
      arith,
      ap length part,
      length-append c.args.self.now.part.items
          (pending c.args.self.now),
      pending-length c.args.self.now,
      c.if-len-self.false,
      c.len.ensures,
    )
