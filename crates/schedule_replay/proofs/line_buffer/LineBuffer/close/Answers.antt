-- The line at hand is too long, or is got.
use Rattle.std.proofs.Common.{◌≡◌, ◌+◌, false, arith, refl, ap, is_err}
use Rattle.schedule_replay.proofs.LinesTurns.{long-closed, lacks-before, gets, on-ok}
use Rattle.schedule_replay.proofs.line_buffer.LineBuffer.close.Goals as goal

pub returns-then-len-length : goal.returns-then-len-length
returns-then-len-length c = (
  refl,
  refl,
  refl,
  λ known.
      long-closed c.args.self.now c.args.length known c.requires.vacant c.requires.few
      c.requires.ends (omega (arith, c.if-len-length.true, c.len.ensures)),
)

pub returns-then-is_err : goal.returns-then-is_err
returns-then-is_err c = (
  refl,
  c.hold.ensures.count.limits,
  c.hold.ensures.count.ended,
  λ known. lacks-before c.args.self.now known c.requires.vacant c.requires.few,
)

pub returns : goal.returns
returns c =
    let well : is_err c.hold.result ≡ false = cc in
    let held = on-ok c.hold.result _ well c.hold.ensures.line in
    let count = c.hold.ensures.count in (
      refl,
      count.limits,
      count.ended,
      λ known. gets c.args.self.now _ c.args.length known c.requires.vacant c.requires.few
          c.requires.ends (omega (arith, c.if-len-length.false, c.len.ensures))
          held.text (rw (held.none_part, held.same.end, held.same.piece) refl)
          (ap (λ n. n + 1) count.got) count.ended,
    )
