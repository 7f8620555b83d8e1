-- The rows of the home are compared, and then those of a remote; they are few.
use Rattle.std.proofs.Common.{◌≡◌, ◌+◌, ◌≤◌, List, length, length-append, ap, subst}
use Rattle.std.proofs.Common.{◌∙◌, arith}
use Rattle.controller_table.specs.Sound.{IsSound, Tabled}
use Rattle.controller_table.specs.declared.controller.Controller.{Controller}
use Rattle.controller_table.specs.declared.rows.Row.{Row}
use Rattle.control_store.specs.Head.{words_behind}
use Rattle.control_store.specs.Compared.{FirstWrong}
use Rattle.control_store.proofs.BothRows.{front-compares, behind-compares, same-compares}
use Rattle.control_store.proofs.FewRows.{table-few}
use Rattle.control_store.proofs.comparing.compare.Goals as goal

rows-same : (rows : List Row) (a b : Controller) → rows ≡ a.rows → a ≡ b → rows ≡ b.rows
rows-same rows a b is same = is ∙ ap (λ (x : Controller). x.rows) same

count-same : (xs ys : List Row) → xs ≡ ys → length xs ≡ length ys
count-same xs ys same = ap (λ (rows : List Row). length rows) same

-- the rows of both are at most 6,208
few-rows : (table : Tabled) (xs ys : List Row) → IsSound table → xs ≡ table.home.rows
    → ys ≡ table.remote.rows → length xs + length ys ≤ 6208
few-rows table xs ys sound ex ey =
    let few = table-few table sound in
    let home = count-same xs table.home.rows ex in
    let remote = count-same ys table.remote.rows ey in
    omega (arith, length-append table.home.rows table.remote.rows)

pub overflow_cast-result : goal.overflow_cast-result
overflow_cast-result c =
    let table = c.args.table.now in
    let xs = c.as_slice-home.result.now in
    let ys = c.as_slice-remote.result.now in
    let ex = rows-same xs c.home.result.now table.home c.as_slice-home.ensures c.home.ensures.value
    in
    let ey = rows-same ys c.remote.result.now table.remote c.as_slice-remote.ensures
    c.remote.ensures.value in
    let few = few-rows table xs ys c.home.ensures.sound ex ey in
    omega (arith, c.in-Some.ensures.0)

pub overflow_cast-result-in-Some-first_wrong : goal.overflow_cast-result-in-Some-first_wrong
overflow_cast-result-in-Some-first_wrong c =
    let table = c.args.table.now in
    let xs = c.as_slice-home.result.now in
    let ys = c.as_slice-remote.result.now in
    let ex = rows-same xs c.home.result.now table.home c.as_slice-home.ensures c.home.ensures.value
    in
    let ey = rows-same ys c.remote.result.now table.remote c.as_slice-remote.ensures
    c.remote.ensures.value in
    let few = few-rows table xs ys c.home.ensures.sound ex ey in
    omega (arith, c.in-Some-first_wrong.ensures.0)

pub returns-in-Some : goal.returns-in-Some
returns-in-Some c =
    let table = c.args.table.now in
    let xs = c.as_slice-home.result.now in
    let ys = c.as_slice-remote.result.now in
    let ex = rows-same xs c.home.result.now table.home c.as_slice-home.ensures c.home.ensures.value
    in
    let ey = rows-same ys c.remote.result.now table.remote c.as_slice-remote.ensures
    c.remote.ensures.value in (
      (
        c.if-head-home.false ∙ count-same xs table.home.rows ex,
        c.if-head-remote.false ∙ count-same ys table.remote.rows ey,
      ),
      front-compares table xs c.words_in-words.result.now
          (words_behind c.args.head.now c.args.bytes.now) c.in-Some.place ex
          c.words_in-words.ensures.words c.in-Some.ensures,
    )

pub returns-in-Some-first_wrong : goal.returns-in-Some-first_wrong
returns-in-Some-first_wrong c =
    let table = c.args.table.now in
    let xs = c.as_slice-home.result.now in
    let ys = c.as_slice-remote.result.now in
    let words = c.words_in-words.result.now in
    let ex = rows-same xs c.home.result.now table.home c.as_slice-home.ensures c.home.ensures.value
    in
    let ey = rows-same ys c.remote.result.now table.remote c.as_slice-remote.ensures
    c.remote.ensures.value in
    let first = subst (FirstWrong xs words) c.in_default.is c.first_wrong.ensures in (
      (
        c.if-head-home.false ∙ count-same xs table.home.rows ex,
        c.if-head-remote.false ∙ count-same ys table.remote.rows ey,
      ),
      behind-compares table xs ys words (words_behind c.args.head.now c.args.bytes.now)
          c.split_at.result.1.now ex ey c.words_in-words.ensures.words c.split_at.ensures.back first
          c.in-Some-first_wrong.place c.in-Some-first_wrong.ensures,
    )

pub returns-in-None : goal.returns-in-None
returns-in-None c =
    let table = c.args.table.now in
    let xs = c.as_slice-home.result.now in
    let ys = c.as_slice-remote.result.now in
    let words = c.words_in-words.result.now in
    let ex = rows-same xs c.home.result.now table.home c.as_slice-home.ensures c.home.ensures.value
    in
    let ey = rows-same ys c.remote.result.now table.remote c.as_slice-remote.ensures
    c.remote.ensures.value in
    let first = subst (FirstWrong xs words) c.in_default.is c.first_wrong.ensures in (
      (
        c.if-head-home.false ∙ count-same xs table.home.rows ex,
        c.if-head-remote.false ∙ count-same ys table.remote.rows ey,
      ),
      same-compares table xs ys words (words_behind c.args.head.now c.args.bytes.now)
          c.split_at.result.1.now ex ey c.words_in-words.ensures.words c.split_at.ensures.back first
          c.in-None.ensures,
    )
