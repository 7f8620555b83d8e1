-- The four numbers behind the mark are those of a head, or there is none.
use Rattle.std.proofs.Common.{◌≡◌, ◌<◌, ◌^◌, true, length, sym, subst, arith}
use Rattle.control_store.specs.Head.{IsHeadOf}
use Rattle.control_store.proofs.HeadOnce.{Begins-count}
use Rattle.control_store.proofs.HeadRead.{read-numbers, none-long, none-other, none-mode, read-head}
use Rattle.control_store.proofs.reading.head.Goals as goal
use Rattle.control_store.proofs.reading.head.Goals.{then-text-gt-TEXT_LIMIT-via-then-text-gt-TEXT_LIMIT}
use Rattle.control_store.proofs.reading.head.Goals.{then-text-gt-TEXT_LIMIT-via-else-text-gt-TEXT_LIMIT+then-not-is_whole}

pub returns-then-text-gt-TEXT_LIMIT : goal.returns-then-text-gt-TEXT_LIMIT
returns-then-text-gt-TEXT_LIMIT c =
    let bytes = c.args.bytes.now in
    let m = c.number_in-mode in
    let t = c.number_in-text in
    let h = c.number_in-home in
    let r = c.number_in-remote in
    let begins = c.in_ok-rest.ensures.cases in
    let read =
    read-numbers bytes c.in_ok-rest.rest.now m.result.1.now t.result.1.now h.result.1.now
    r.result.1.now m.result.0 t.result.0 h.result.0 r.result.0 begins.0 begins.1 m.ensures.number
    t.ensures.number h.ensures.number r.ensures.number m.ensures.fits t.ensures.fits h.ensures.fits
    r.ensures.fits in
    let few : length bytes < 2 ^ 64 = omega arith in
    elim c.then-text-gt-TEXT_LIMIT.branch [
      | then-text-gt-TEXT_LIMIT-via-then-text-gt-TEXT_LIMIT w ↦
          none-long bytes m.result.0 t.result.0 h.result.0 r.result.0 r.result.1.now read few
          w.if-text-gt-TEXT_LIMIT.true
      | then-text-gt-TEXT_LIMIT-via-else-text-gt-TEXT_LIMIT+then-not-is_whole w ↦
          none-other bytes m.result.0 t.result.0 h.result.0 r.result.0 r.result.1.now read few
          (λ is.
          let yes : w.is_whole.result ≡ true = w.is_whole.ensures.1 is in
          absurd (cc (yes, w.if-not-is_whole.true)))
    ]

pub returns-in_err-mode_in : goal.returns-in_err-mode_in
returns-in_err-mode_in c =
    let bytes = c.args.bytes.now in
    let m = c.number_in-mode in
    let t = c.number_in-text in
    let h = c.number_in-home in
    let r = c.number_in-remote in
    let begins = c.in_ok-rest.ensures.cases in
    let read =
    read-numbers bytes c.in_ok-rest.rest.now m.result.1.now t.result.1.now h.result.1.now
    r.result.1.now m.result.0 t.result.0 h.result.0 r.result.0 begins.0 begins.1 m.ensures.number
    t.ensures.number h.ensures.number r.ensures.number m.ensures.fits t.ensures.fits h.ensures.fits
    r.ensures.fits in
    let few : length bytes < 2 ^ 64 = omega arith in
    let answer = c.from_residual-in_err-mode_in in
    subst (IsHeadOf bytes) (sym answer.ensures)
    (none-mode bytes m.result.0 t.result.0 h.result.0 r.result.0 r.result.1.now read few
    (sym c.in_err-mode_in.ensures))

pub returns : goal.returns
returns c =
    let bytes = c.args.bytes.now in
    let m = c.number_in-mode in
    let t = c.number_in-text in
    let h = c.number_in-home in
    let r = c.number_in-remote in
    let begins = c.in_ok-rest.ensures.cases in
    let read =
    read-numbers bytes c.in_ok-rest.rest.now m.result.1.now t.result.1.now h.result.1.now
    r.result.1.now m.result.0 t.result.0 h.result.0 r.result.0 begins.0 begins.1 m.ensures.number
    t.ensures.number h.ensures.number r.ensures.number m.ensures.fits t.ensures.fits h.ensures.fits
    r.ensures.fits in
    read-head bytes m.result.0 t.result.0 h.result.0 r.result.0 r.result.1.now
    c.in_ok-mode_in.field-0 read (sym c.in_ok-mode_in.ensures) c.if-text-gt-TEXT_LIMIT.false
    (c.is_whole.ensures.0 c.if-not-is_whole.false)

pub returns-then-bytes-lt-HEAD : goal.returns-then-bytes-lt-HEAD
returns-then-bytes-lt-HEAD c = λ head begins.
    let count = Begins-count c.args.bytes.now head begins in omega arith
