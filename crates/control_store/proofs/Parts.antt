-- An image tells its parts.
use Rattle.std.proofs.Common.{◌≡◌, ℕ, ◌<◌, ◌^◌, List, [], ◌∷◌, ◌++◌, length, take, drop}
use Rattle.std.proofs.Common.{refl, sym, ap, ◌∙◌, append_assoc, arith}
use Rattle.std.specs.Int.{w64, from_be_bytes}
use Rattle.std.proofs.lemmas.Nat.{from_be_bytes-to_be_bytes_8}
use Rattle.proto_model.specs.Tokens.{Text}
use Rattle.proto_model.specs.declared.mode.Mode.{Mode}
use Rattle.proto_model.specs.declared.mode.Mode.TheVariants.{Plain, Lean}
use Rattle.controller_table.specs.Sound.{Tabled}
use Rattle.controller_table.specs.declared.rows.Row.{Row}
use Rattle.control_store.specs.RowWord.{row_word}
use Rattle.control_store.specs.Image.{mark, eight, mode_number, words_of, image}
use Rattle.control_store.proofs.Undone.{row_word-same, row_word-length}

-- ---- lists of one length

pub split-same : (x y u v : List ℕ) → length x ≡ length y → x ++ u ≡ y ++ v → (x ≡ y) × (u ≡ v)
split-same [] [] u v long e = (refl, e)
split-same [] (b ∷ y) u v long e = absurd (cc)
split-same (a ∷ x) [] u v long e = absurd (cc)
split-same (a ∷ x) (b ∷ y) u v long e =
    let shorter : length x ≡ length y = omega arith in
    let first : a ≡ b = cc in
    let behind : x ++ u ≡ y ++ v = cc in
    let rest = split-same x y u v shorter behind in
    (cc (rest.0), rest.1)

-- ---- numbers

-- eight bytes tell their number
eight-same : (m n : ℕ) (x y : Text) → m < 2 ^ 64 → n < 2 ^ 64 → eight m ++ x ≡ eight n ++ y
    → (m ≡ n) × (x ≡ y)
unfolding eight
eight-same m n x y small_m small_n e =
    let front : eight m ≡ eight n = ap (λ (w : Text). take 8 w) e in (
      sym (from_be_bytes-to_be_bytes_8 m small_m) ∙ ap (λ (w : Text). from_be_bytes w64 w) front
          ∙ from_be_bytes-to_be_bytes_8 n small_n,
      ap (λ (w : Text). drop 8 w) e,
    )

pub mode_number-small : (m : Mode) → mode_number m < 2 ^ 64
mode_number-small Plain = omega arith
mode_number-small Lean = omega arith

pub mode_number-same : (a b : Mode) → mode_number a ≡ mode_number b → a ≡ b
mode_number-same Plain Plain e = refl
mode_number-same Plain Lean e = absurd (omega arith)
mode_number-same Lean Plain e = absurd (omega arith)
mode_number-same Lean Lean e = refl

-- ---- heads

-- a head of these four numbers
abbrev pub front : ℕ → ℕ → ℕ → ℕ → Text
front m t h r = mark ++ (eight m ++ (eight t ++ (eight h ++ eight r)))

pub front-length : (m t h r : ℕ) → length (front m t h r) ≡ 40
unfolding eight
front-length m t h r = refl

-- bytes behind a head
regrouped : (a b c d e x : Text)
    → (a ++ (b ++ (c ++ (d ++ e)))) ++ x ≡ a ++ (b ++ (c ++ (d ++ (e ++ x))))
regrouped a b c d e x = simp append_assoc

pub front-grouped : (m t h r : ℕ) (x : Text)
    → front m t h r ++ x ≡ mark ++ (eight m ++ (eight t ++ (eight h ++ (eight r ++ x))))
front-grouped m t h r x = regrouped mark (eight m) (eight t) (eight h) (eight r) x

-- these four numbers are small enough for eight bytes each
pub record AreSmall (m t h r : ℕ) : Type 0 where
  pub mode : m < 2 ^ 64
  pub text : t < 2 ^ 64
  pub home : h < 2 ^ 64
  pub remote : r < 2 ^ 64

-- two heads tell the same, and the same stands behind them
pub record TellSame (m t h r n u i s : ℕ) (x y : Text) : Type 0 where
  pub mode : m ≡ n
  pub text : t ≡ u
  pub home : h ≡ i
  pub remote : r ≡ s
  pub rest : x ≡ y

pub front-same : (m t h r n u i s : ℕ) (x y : Text) → AreSmall m t h r → AreSmall n u i s
    → front m t h r ++ x ≡ front n u i s ++ y → TellSame m t h r n u i s x y
front-same m t h r n u i s x y a b e =
    let whole : mark ++ (eight m ++ (eight t ++ (eight h ++ (eight r ++ x))))
    ≡ mark ++ (eight n ++ (eight u ++ (eight i ++ (eight s ++ y)))) =
    sym (front-grouped m t h r x) ∙ (e ∙ front-grouped n u i s y) in
    let behind_mark : eight m ++ (eight t ++ (eight h ++ (eight r ++ x)))
    ≡ eight n ++ (eight u ++ (eight i ++ (eight s ++ y))) =
    ap (λ (w : Text). drop 8 w) whole in
    let first =
    eight-same m n (eight t ++ (eight h ++ (eight r ++ x))) (eight u ++ (eight i ++ (eight s ++ y)))
    a.mode b.mode behind_mark in
    let second =
    eight-same t u (eight h ++ (eight r ++ x)) (eight i ++ (eight s ++ y)) a.text b.text first.1 in
    let third = eight-same h i (eight r ++ x) (eight s ++ y) a.home b.home second.1 in
    let fourth = eight-same r s x y a.remote b.remote third.1 in
    record {
      mode = first.0;
      text = second.0;
      home = third.0;
      remote = fourth.0;
      rest = fourth.1;
    }

-- ---- words

pub words_of-same : (xs ys : List Row) (u v : Text) → length xs ≡ length ys
    → words_of xs ++ u ≡ words_of ys ++ v → (xs ≡ ys) × (u ≡ v)
words_of-same [] [] u v long e = (refl, e)
words_of-same [] (y ∷ ys) u v long e = absurd (cc)
words_of-same (x ∷ xs) [] u v long e = absurd (cc)
words_of-same (x ∷ xs) (y ∷ ys) u v long e =
    let shorter : length xs ≡ length ys = omega arith in
    let both =
    split-same (row_word x) (row_word y) (words_of xs ++ u) (words_of ys ++ v)
    (row_word-length x ∙ sym (row_word-length y))
    (sym (append_assoc (row_word x) (words_of xs) u) ∙ e
    ∙ append_assoc (row_word y) (words_of ys) v) in
    let first : x ≡ y = row_word-same x y both.0 in
    let rest = words_of-same xs ys u v shorter both.1 in
    let whole : xs ≡ ys = rest.0 in
    (cc, rest.1)

-- ---- the whole

-- two images have the same text, are of the same mode, and have the same rows
pub record SameParts (s t : Text) (a b : Tabled) : Type 0 where
  pub text : s ≡ t
  pub mode : a.mode ≡ b.mode
  pub home : a.home.rows ≡ b.home.rows
  pub remote : a.remote.rows ≡ b.remote.rows

-- the head of this image has small numbers
abbrev pub HasSmall : Text → Tabled → Type 0
HasSmall text table =
    AreSmall (mode_number table.mode) (length text) (length table.home.rows)
    (length table.remote.rows)

pub images-parts : (s t : Text) (a b : Tabled) → HasSmall s a → HasSmall t b
    → image s a ≡ image t b → SameParts s t a b
images-parts s t a b small_a small_b e =
    let words_a : Text = words_of a.home.rows ++ words_of a.remote.rows in
    let words_b : Text = words_of b.home.rows ++ words_of b.remote.rows in
    let heads =
    front-same (mode_number a.mode) (length s) (length a.home.rows) (length a.remote.rows)
    (mode_number b.mode) (length t) (length b.home.rows) (length b.remote.rows) (s ++ words_a)
    (t ++ words_b) small_a small_b e in
    let words = split-same s t words_a words_b heads.text heads.rest in
    let home =
    words_of-same a.home.rows b.home.rows (words_of a.remote.rows) (words_of b.remote.rows)
    heads.home words.1 in
    let remote =
    words_of-same a.remote.rows b.remote.rows [] [] heads.remote
    (ap (λ (w : Text). w ++ []) home.1) in
    record {
      text = words.0;
      mode = mode_number-same a.mode b.mode heads.mode;
      home = home.0;
      remote = remote.0;
    }
