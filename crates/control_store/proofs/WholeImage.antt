-- A file that has the head, the text and the rows of a table is its image, and its image has them.
use Rattle.std.proofs.Common.{◌≡◌, ℕ, zero, suc, ◌+◌, ◌*◌, ◌<◌, ◌≤◌, List, [], ◌∷◌, ◌++◌, length}
use Rattle.std.proofs.Common.{take, drop, Some, None, slice_get, refl, sym, ap, subst, ◌∙◌}
use Rattle.std.proofs.Common.{arith, length-append}
use Rattle.std.specs.List.{AllByRecursion}
use Rattle.std.proofs.Math.Seq.{take-append_seam, drop-append_seam}
use Rattle.std.proofs.lemmas.Grind.{flat_map-append}
use Rattle.std.proofs.lemmas.List.{take-append-drop, drop-drop, length-take-le, length-drop}
use Rattle.std.proofs.lemmas.List.{nil_from_length}
use Rattle.std.proofs.lemmas.Option.{same_Some}
use Rattle.rv_base.proofs.Lists.{AllByRecursion-at}
use Rattle.proto_model.specs.Tokens.{Text}
use Rattle.proto_model.specs.declared.mode.Mode.{Mode}
use Rattle.controller_table.specs.Sound.{Tabled}
use Rattle.controller_table.specs.declared.rows.Row.{Row}
use Rattle.control_store.specs.RowWord.{IsInRange, row_word}
use Rattle.control_store.specs.Image.{mode_number, head_bytes, words_of, image}
use Rattle.control_store.specs.Head.{Begins, text_behind, words_behind}
use Rattle.control_store.specs.Compared.{all_rows, word_at, FirstWrong, Compares}
use Rattle.control_store.specs.declared.heads.Head.{Head}
use Rattle.control_store.specs.declared.comparing.Compared.TheVariants as compared
use Rattle.control_store.proofs.Undone.{row_word-length}
use Rattle.control_store.proofs.Parts.{front-length}
use Rattle.control_store.proofs.HeadOnce.{head_of, rest-is}
use Rattle.control_store.proofs.FirstWrong.{word_at-further, agrees-moved}

-- ---- words of rows

pub words_of-length : (rows : List Row) → length (words_of rows) ≡ 16 * length rows
words_of-length [] = refl
words_of-length (row ∷ rows) =
    let rest = words_of-length rows in
    omega (arith, length-append (row_word row) (words_of rows), row_word-length row)

pub two-words_of : (xs ys : List Row) → words_of (xs ++ ys) ≡ words_of xs ++ words_of ys
two-words_of xs ys = flat_map-append row_word xs ys

behind-first : (row : Row) (rows : List Row) → drop 16 (words_of (row ∷ rows)) ≡ words_of rows
behind-first row rows =
    ap (λ (n : ℕ). drop n (row_word row ++ words_of rows)) (sym (row_word-length row))
    ∙ drop-append_seam (row_word row) (words_of rows)

first-of : (row : Row) (rows : List Row) → take 16 (words_of (row ∷ rows)) ≡ row_word row
first-of row rows =
    ap (λ (n : ℕ). take n (row_word row ++ words_of rows)) (sym (row_word-length row))
    ∙ take-append_seam (row_word row) (words_of rows)

further : (words : Text) (place : ℕ) → word_at words (suc place) ≡ word_at (drop 16 words) place
further words place =
    let same : suc place ≡ 1 + place = omega arith in
    ap (λ (n : ℕ). word_at words n) same ∙ sym (word_at-further words 1 place)

word-there : (rows : List Row) (place : ℕ) (row : Row) → slice_get rows place ≡ Some row
    → word_at (words_of rows) place ≡ row_word row
word-there [] place row there = absurd (cc)
word-there (first ∷ rows) zero row there =
    let same : first ≡ row = same_Some first row there in
    first-of first rows ∙ ap (λ (r : Row). row_word r) same
word-there (first ∷ rows) (suc place) row there =
    further (words_of (first ∷ rows)) place
    ∙ ap (λ (w : Text). word_at w place) (behind-first first rows)
    ∙ word-there rows place row there

there-is : (rows : List Row) (place : ℕ) → place < length rows
    → (row : Row) × (slice_get rows place ≡ Some row)
there-is [] place within = absurd (omega arith)
there-is (row ∷ rows) zero within = (row, refl)
there-is (row ∷ rows) (suc place) within =
    let less : place < length rows = omega arith in there-is rows place less

-- the words of rows in range stand for them
words-right : (rows : List Row) → AllByRecursion IsInRange rows
    → FirstWrong rows (words_of rows) None
words-right rows range = λ place within.
    let row = there-is rows place within in (
      row.0,
      row.1,
      (
        AllByRecursion-at IsInRange rows place row.0 range row.1,
        word-there rows place row.0 row.1,
      ),
    )

-- words that stand for rows are theirs
right-words : (rows : List Row) (words : Text) → length words ≡ 16 * length rows
    → FirstWrong rows words None → words ≡ words_of rows
right-words [] words long right =
    let none : length words ≡ 0 = omega arith in nil_from_length words none
right-words (row ∷ rows) words long right =
    let inside : 0 < length (row ∷ rows) = omega arith in
    let first = right 0 inside in
    let same : row ≡ first.0 = same_Some row first.0 first.1 in
    let front : take 16 words ≡ row_word row =
    first.2.1 ∙ ap (λ (r : Row). row_word r) (sym same) in
    let count : length (drop 16 words) ≡ 16 * length rows = omega (arith, length-drop 16 words) in
    let rest : drop 16 words ≡ words_of rows =
    right-words rows (drop 16 words) count (λ place within.
    let more : suc place < length (row ∷ rows) = omega arith in
    agrees-moved (row ∷ rows) rows words (drop 16 words) (suc place) place refl
    (further words place)
    (right (suc place) more)) in
    sym (take-append-drop 16 words)
    ∙ ap (λ (w : Text). w ++ drop 16 words) front
    ∙ ap (λ (w : Text). row_word row ++ w) rest

-- ---- a file that is an image

same-heads : (m n : Mode) (t u h i r s : ℕ) → m ≡ n → t ≡ u → h ≡ i → r ≡ s
    → head_bytes m t h r ≡ head_bytes n u i s
same-heads m n t u h i r s em et eh er =
    ap (λ (x : Mode). head_bytes x t h r) em
    ∙ ap (λ (x : ℕ). head_bytes n x h r) et
    ∙ ap (λ (x : ℕ). head_bytes n u x r) eh
    ∙ ap (λ (x : ℕ). head_bytes n u i x) er

pub whole-image : (bytes text : Text) (head : Head) (table : Tabled) → Begins bytes head
    → head.mode ≡ table.mode → text_behind head bytes ≡ text
    → Compares head bytes table compared.Same → bytes ≡ image text table
whole-image bytes text head table begins mode is_text same =
    let rest : Text = begins.rest in
    let rows : List Row = all_rows table in
    let behind : drop 40 bytes ≡ rest = rest-is bytes head begins in
    let fits = begins.fits in
    let home = same.0.0 in
    let remote = same.0.1 in
    let counts = length-append table.home.rows table.remote.rows in
    let within : head.text ≤ length rest = omega arith in
    let front : take head.text rest ≡ text =
    ap (λ (w : Text). take head.text w) (sym behind) ∙ is_text in
    let count : length text ≡ head.text =
    ap (λ (w : Text). length w) (sym front) ∙ length-take-le head.text rest within in
    let words : words_behind head bytes ≡ drop head.text rest =
    sym (drop-drop head.text 40 bytes) ∙ ap (λ (w : Text). drop head.text w) behind in
    let long : length (words_behind head bytes) ≡ 16 * length rows =
    omega (arith, ap (λ (w : Text). length w) words, length-drop head.text rest) in
    let are : drop head.text rest ≡ words_of table.home.rows ++ words_of table.remote.rows =
    sym words ∙ right-words rows (words_behind head bytes) long same.1
    ∙ two-words_of table.home.rows table.remote.rows in
    let all : rest ≡ text ++ (words_of table.home.rows ++ words_of table.remote.rows) =
    sym (take-append-drop head.text rest)
    ∙ ap (λ (w : Text). w ++ drop head.text rest) front
    ∙ ap (λ (w : Text). text ++ w) are in
    begins.whole
    ∙ ap (λ (w : Text). w ++ rest)
    (same-heads head.mode table.mode head.text (length text) head.home (length table.home.rows)
    head.remote (length table.remote.rows) mode (sym count) home remote)
    ∙ ap (λ (w : Text). head_bytes table.mode (length text) (length table.home.rows)
    (length table.remote.rows) ++ w) all

-- ---- an image

-- the head of an image
abbrev pub image_head : Text → Tabled → Head
image_head text table =
    head_of table.mode (length text) (length table.home.rows) (length table.remote.rows)

pub image-length : (text : Text) (table : Tabled)
    → length (image text table) ≡ 40 + (length text + 16 * length (all_rows table))
image-length text table =
    let home : Text = words_of table.home.rows in
    let remote : Text = words_of table.remote.rows in
    omega (
      arith,
      length-append (head_bytes table.mode (length text) (length table.home.rows)
          (length table.remote.rows)) (text ++ (home ++ remote)),
      front-length (mode_number table.mode) (length text) (length table.home.rows)
          (length table.remote.rows),
      length-append text (home ++ remote),
      length-append home remote,
      length-append table.home.rows table.remote.rows,
      words_of-length table.home.rows,
      words_of-length table.remote.rows,
    )

pub image-begins : (text : Text) (table : Tabled) → length text ≤ 65536
    → Begins (image text table) (image_head text table)
image-begins text table short =
    let home : Text = words_of table.home.rows in
    let remote : Text = words_of table.remote.rows in
    let fits : length (text ++ (home ++ remote))
    ≡ length text + 16 * (length table.home.rows + length table.remote.rows) =
    omega (
      arith,
      length-append text (home ++ remote),
      length-append home remote,
      words_of-length table.home.rows,
      words_of-length table.remote.rows,
    ) in
    record { rest = text ++ (home ++ remote); whole = refl; short_text = short; fits = fits }

pub image-text : (text : Text) (table : Tabled) → length text ≤ 65536
    → text_behind (image_head text table) (image text table) ≡ text
unfolding image-begins
image-text text table short =
    let words : Text = words_of table.home.rows ++ words_of table.remote.rows in
    ap (λ (w : Text). take (length text) w)
    (rest-is (image text table) (image_head text table) (image-begins text table short))
    ∙ take-append_seam text words

pub image-same : (text : Text) (table : Tabled) → length text ≤ 65536
    → AllByRecursion IsInRange (all_rows table)
    → Compares (image_head text table) (image text table) table compared.Same
unfolding image-begins
image-same text table short range =
    let home : Text = words_of table.home.rows in
    let remote : Text = words_of table.remote.rows in
    let words : words_behind (image_head text table) (image text table)
    ≡ words_of (all_rows table) =
    sym (drop-drop (length text) 40 (image text table))
    ∙ ap (λ (w : Text). drop (length text) w)
    (rest-is (image text table) (image_head text table) (image-begins text table short))
    ∙ drop-append_seam text (home ++ remote)
    ∙ sym (two-words_of table.home.rows table.remote.rows) in (
      (refl, refl),
      subst (λ (w : Text). FirstWrong (all_rows table) w None) (sym words)
          (words-right (all_rows table) range),
    )
