-- What the bytes of a word are, where the word is that of a row.
use Rattle.std.proofs.Common.{◌≡◌, ℕ, zero, suc, List, [], ◌∷◌, ◌++◌, length, get_or, refl, sym, ap}
use Rattle.std.proofs.Common.{subst, ◌∙◌, Option, None}
use Rattle.controller_table.specs.declared.rows.Row.{Row}
use Rattle.control_store.specs.RowWord.{place_bytes, trigger_bytes, puts_bytes, does_bytes}
use Rattle.control_store.specs.RowWord.{row_word}
use Rattle.control_store.specs.RowWord.{IsInRange, DecodesRow}
use Rattle.control_store.proofs.Undone.{place-length, trigger-length, puts-length, does-length}
use Rattle.control_store.proofs.Parts.{split-same}
use Rattle.control_store.proofs.WordsMade.{joined}

-- so many values of a function, from 0 on
abbrev listing : (ℕ → ℕ) → ℕ → List ℕ
listing f zero = []
listing f (suc n) = f 0 ∷ listing (λ i. f (suc i)) n

listed : (w : List ℕ) → w ≡ listing (λ i. get_or w i 0) (length w)
listed [] = refl
listed (x ∷ xs) = ap (λ (rest : List ℕ). x ∷ rest) (listed xs)

-- the bytes of each part of a word
abbrev pub place_of : List ℕ → List ℕ
place_of w = get_or w 0 0 ∷ get_or w 1 0 ∷ get_or w 2 0 ∷ []

abbrev pub trigger_of : List ℕ → List ℕ
trigger_of w = get_or w 3 0 ∷ get_or w 4 0 ∷ []

abbrev pub puts_of : List ℕ → List ℕ
puts_of w = get_or w 5 0 ∷ get_or w 6 0 ∷ []

abbrev pub does_of : List ℕ → List ℕ
does_of w = get_or w 7 0 ∷ get_or w 8 0 ∷ get_or w 9 0 ∷ get_or w 10 0 ∷ get_or w 11 0 ∷ []

abbrev pub next_of : List ℕ → List ℕ
next_of w = get_or w 12 0 ∷ get_or w 13 0 ∷ get_or w 14 0 ∷ []

in_parts : (w : List ℕ) → length w ≡ 16
    → w ≡ place_of w ++ (trigger_of w
    ++ (puts_of w ++ (does_of w ++ (next_of w ++ get_or w 15 0 ∷ []))))
in_parts w long = listed w ∙ ap (λ (n : ℕ). listing (λ i. get_or w i 0) n) long

-- Each part of the word is that of the row, and it ends with a 0.
pub record IsOf (w : List ℕ) (row : Row) : Type 0 where
  pub at : place_of w ≡ place_bytes row.at
  pub on : trigger_of w ≡ trigger_bytes row.on
  pub puts : puts_of w ≡ puts_bytes row.puts
  pub does : does_of w ≡ does_bytes row.does
  pub to : next_of w ≡ place_bytes row.to
  pub end : get_or w 15 0 ≡ 0

last-same : (a b : ℕ) → a ∷ [] ≡ b ∷ [] → a ≡ b
last-same a b e = cc

pub row_word-parts : (w : List ℕ) (row : Row) → length w ≡ 16 → w ≡ row_word row → IsOf w row
row_word-parts w row long is =
    let end : List ℕ = get_or w 15 0 ∷ [] in
    let next : List ℕ = next_of w ++ end in
    let does : List ℕ = does_of w ++ next in
    let puts : List ℕ = puts_of w ++ does in
    let next_row : List ℕ = place_bytes row.to ++ 0 ∷ [] in
    let does_row : List ℕ = does_bytes row.does ++ next_row in
    let puts_row : List ℕ = puts_bytes row.puts ++ does_row in
    let whole : place_of w ++ (trigger_of w ++ puts) ≡ row_word row = sym (in_parts w long) ∙ is in
    let first =
    split-same (place_of w) (place_bytes row.at) (trigger_of w ++ puts)
    (trigger_bytes row.on ++ puts_row) (sym (place-length row.at)) whole in
    let second =
    split-same (trigger_of w) (trigger_bytes row.on) puts puts_row (sym (trigger-length row.on))
    first.1 in
    let third =
    split-same (puts_of w) (puts_bytes row.puts) does does_row (sym (puts-length row.puts)) second.1
    in
    let fourth =
    split-same (does_of w) (does_bytes row.does) next next_row (sym (does-length row.does)) third.1
    in
    let fifth =
    split-same (next_of w) (place_bytes row.to) end (0 ∷ []) (sym (place-length row.to)) fourth.1
    in
    record {
      at = first.0;
      on = second.0;
      puts = third.0;
      does = fourth.0;
      to = fifth.0;
      end = last-same (get_or w 15 0) 0 fifth.1;
    }

pub row_word-whole : (w : List ℕ) (row : Row) → length w ≡ 16 → IsOf w row → w ≡ row_word row
row_word-whole w row long is =
    let ends : get_or w 15 0 ∷ [] ≡ 0 ∷ [] = ap (λ (n : ℕ). n ∷ []) is.end in
    in_parts w long
    ∙ ap (λ (z : List ℕ). place_of w
    ++ (trigger_of w ++ (puts_of w ++ (does_of w ++ (next_of w ++ z))))) ends
    ∙ joined (place_of w) (trigger_of w) (puts_of w) (does_of w) (next_of w) (place_bytes row.at)
    (trigger_bytes row.on) (puts_bytes row.puts) (does_bytes row.does) (place_bytes row.to)
    is.at is.on is.puts is.does is.to

-- where the bytes are those of no row, none is decoded
pub none-by : (w : List ℕ) (found : Option Row) → found ≡ None → length w ≡ 16
    → ((row : Row) → IsInRange row → IsOf w row → ⊥) → DecodesRow w found
none-by w found e long none =
    subst (DecodesRow w) (sym e) (λ row range is. none row range (row_word-parts w row long is))
