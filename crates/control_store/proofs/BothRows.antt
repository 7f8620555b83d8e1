-- The rows of a table compare as those of the home do, and behind them those of a remote.
use Rattle.std.proofs.Common.{◌≡◌, ℕ, ◌+◌, ◌*◌, List, length, drop, Option, Some, None, sym, ap}
use Rattle.std.proofs.Common.{subst}
use Rattle.std.proofs.Common.{◌∙◌}
use Rattle.proto_model.specs.Tokens.{Text}
use Rattle.controller_table.specs.Sound.{Tabled}
use Rattle.controller_table.specs.declared.rows.Row.{Row}
use Rattle.control_store.specs.Compared.{all_rows, FirstWrong}
use Rattle.control_store.proofs.FirstWrong.{wrong-front, wrong-behind, right-both}

moved : (xs ys : List Row) (words behind : Text) (answer : Option ℕ) → xs ≡ ys → words ≡ behind
    → FirstWrong xs words answer → FirstWrong ys behind answer
moved xs ys words behind answer ex ew is =
    subst (λ (w : Text). FirstWrong ys w answer) ew
    (subst (λ (rows : List Row). FirstWrong rows words answer) ex is)

pub front-compares : (table : Tabled) (xs : List Row) (words behind : Text) (p : ℕ)
    → xs ≡ table.home.rows → words ≡ behind → FirstWrong xs words (Some p)
    → FirstWrong (all_rows table) behind (Some p)
front-compares table xs words behind p ex ew is =
    wrong-front table.home.rows table.remote.rows behind p
    (moved xs table.home.rows words behind (Some p) ex ew is)

module _ (table : Tabled) (xs ys : List Row) (words behind rest : Text)
    (ex : xs ≡ table.home.rows) (ey : ys ≡ table.remote.rows) (ew : words ≡ behind)
    (er : rest ≡ drop (16 * length xs) words) (first : FirstWrong xs words None) where
  right-home : FirstWrong table.home.rows behind None
  right-home = moved xs table.home.rows words behind None ex ew first

  rest-is : rest ≡ drop (16 * length table.home.rows) behind
  rest-is =
      er ∙ ap (λ (rows : List Row). drop (16 * length rows) words) ex
      ∙ ap (λ (w : Text). drop (16 * length table.home.rows) w) ew

  pub behind-compares : (p : ℕ) → FirstWrong ys rest (Some p)
      → FirstWrong (all_rows table) behind (Some (length xs + p))
  behind-compares p is =
      subst (λ (rows : List Row). FirstWrong (all_rows table) behind (Some (length rows + p)))
      (sym ex)
      (wrong-behind table.home.rows table.remote.rows behind p right-home
      (moved ys table.remote.rows rest (drop (16 * length table.home.rows) behind) (Some p) ey
      rest-is is))

  pub same-compares : FirstWrong ys rest None → FirstWrong (all_rows table) behind None
  same-compares is =
      right-both table.home.rows table.remote.rows behind right-home
      (moved ys table.remote.rows rest (drop (16 * length table.home.rows) behind) None ey
      rest-is is)
