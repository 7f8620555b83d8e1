-- A word is that of a row in range where each of its parts is, and it ends with a 0.
use Rattle.controller_table.specs.Rows.{row}
use Rattle.control_store.proofs.WordsRead.{none-by, row_word-parts, row_word-whole}
use Rattle.control_store.proofs.row_words.decode_row.Goals as goal

pub returns-in_err-place_in : goal.returns-in_err-place_in
returns-in_err-place_in c =
    none-by c.args.word.now c.from_residual.result c.from_residual.ensures c.told-word
    (λ x range is. c.in_err-place_in.ensures x.at range.at is.at)

pub returns-in_err-trigger_in : goal.returns-in_err-trigger_in
returns-in_err-trigger_in c =
    let answer = c.from_residual-in_err-trigger_in in
    none-by c.args.word.now answer.result answer.ensures c.told-word
    (λ x range is. c.in_err-trigger_in.ensures x.on range.on is.on)

pub returns-in_err-puts_in : goal.returns-in_err-puts_in
returns-in_err-puts_in c =
    let answer = c.from_residual-in_err-puts_in in
    none-by c.args.word.now answer.result answer.ensures c.told-word
    (λ x range is. c.in_err-puts_in.ensures x.puts range.puts is.puts)

pub returns-in_err-does_in : goal.returns-in_err-does_in
returns-in_err-does_in c =
    let answer = c.from_residual-in_err-does_in in
    none-by c.args.word.now answer.result answer.ensures c.told-word
    (λ x range is. c.in_err-does_in.ensures x.does range.does is.does)

pub returns-in_err-place_in-2 : goal.returns-in_err-place_in-2
returns-in_err-place_in-2 c =
    let answer = c.from_residual-in_err-place_in-2 in
    none-by c.args.word.now answer.result answer.ensures c.told-word
    (λ x range is. c.in_err-place_in-2.ensures x.to range.to is.to)

pub returns-then-end-ne0 : goal.returns-then-end-ne0
returns-then-end-ne0 c = λ x range is.
    c.if-end-ne0.true (row_word-parts c.args.word.now x c.told-word is).end

pub returns : goal.returns
returns c =
    let at = c.in_ok-place_in in
    let on = c.in_ok-trigger_in in
    let puts = c.in_ok-puts_in in
    let does = c.in_ok-does_in in
    let to = c.in_ok-place_in-2 in (
      record {
        at = at.ensures.0;
        on = on.ensures.0;
        puts = puts.ensures.0;
        does = does.ensures.0;
        to = to.ensures.0;
      },
      row_word-whole c.args.word.now
          (row at.field-0 on.field-0 puts.field-0 does.field-0 to.field-0) c.told-word
          (record {
            at = at.ensures.1;
            on = on.ensures.1;
            puts = puts.ensures.1;
            does = does.ensures.1;
            to = to.ensures.1;
            end = c.if-end-ne0.false;
          }),
    )
