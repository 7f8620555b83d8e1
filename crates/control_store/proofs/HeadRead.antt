-- What is read of a head, and where there is none.
use Rattle.std.proofs.Common.{◌≡◌, ℕ, zero, suc, ◌+◌, ◌*◌, ◌<◌, ◌≤◌, ◌^◌, ◌++◌, length}
use Rattle.std.proofs.Common.{take, drop, Some, None, true, refl, sym, ap, ◌∙◌}
use Rattle.std.proofs.Common.{arith}
use Rattle.std.specs.Str.{bytes_eq}
use Rattle.std.proofs.lemmas.List.{take-append-drop}
use Rattle.std.proofs.lemmas.Slice.Eq.{bytes_eq-Decides}
use Rattle.proto_model.specs.Tokens.{Text}
use Rattle.proto_model.specs.declared.mode.Mode.{Mode}
use Rattle.proto_model.specs.declared.mode.Mode.TheVariants.{Plain, Lean}
use Rattle.control_store.specs.Image.{mark, mode_number, eight}
use Rattle.control_store.specs.Head.{Begins, mode_with}
use Rattle.control_store.specs.declared.heads.Head.{Head}
use Rattle.control_store.proofs.Parts.{front, front-grouped, front-same, AreSmall, TellSame}
use Rattle.control_store.proofs.HeadOnce.{head_of, Begins-small}

-- the bytes begin with these four numbers, and with these bytes behind them
pub record IsRead (bytes : Text) (m t h r : ℕ) (rest : Text) : Type 0 where
  pub whole : bytes ≡ front m t h r ++ rest
  pub small : AreSmall m t h r

read-whole : (bytes r0 r1 r2 r3 r4 : Text) (m t h r : ℕ) → take 8 bytes ≡ mark
    → r0 ≡ drop 8 bytes → r0 ≡ eight m ++ r1 → r1 ≡ eight t ++ r2 → r2 ≡ eight h ++ r3
    → r3 ≡ eight r ++ r4 → bytes ≡ front m t h r ++ r4
read-whole bytes r0 r1 r2 r3 r4 m t h r begins e0 e1 e2 e3 e4 =
    let third : r2 ≡ eight h ++ (eight r ++ r4) = e3 ∙ ap (λ (w : Text). eight h ++ w) e4 in
    let second : r1 ≡ eight t ++ (eight h ++ (eight r ++ r4)) =
    e2 ∙ ap (λ (w : Text). eight t ++ w) third in
    let first : r0 ≡ eight m ++ (eight t ++ (eight h ++ (eight r ++ r4))) =
    e1 ∙ ap (λ (w : Text). eight m ++ w) second in
    sym (take-append-drop 8 bytes)
    ∙ ap (λ (w : Text). w ++ drop 8 bytes) begins
    ∙ ap (λ (w : Text). mark ++ w) (sym e0 ∙ first)
    ∙ sym (front-grouped m t h r r4)

-- the same, with what is known of each number when it is read
pub read-numbers : (bytes r0 r1 r2 r3 r4 : Text) (m t h r : ℕ) → bytes_eq (take 8 bytes) mark ≡ true
    → r0 ≡ drop 8 bytes → r0 ≡ eight m ++ r1 → r1 ≡ eight t ++ r2 → r2 ≡ eight h ++ r3
    → r3 ≡ eight r ++ r4 → m < 2 ^ 64 → t < 2 ^ 64 → h < 2 ^ 64 → r < 2 ^ 64
    → IsRead bytes m t h r r4
read-numbers bytes r0 r1 r2 r3 r4 m t h r begins e0 e1 e2 e3 e4 fm ft fh fr =
    record {
      whole = read-whole bytes r0 r1 r2 r3 r4 m t h r
          ((bytes_eq-Decides (take 8 bytes) mark).0 begins) e0 e1 e2 e3 e4;
      small = record { mode = fm; text = ft; home = fh; remote = fr };
    }

module _ (bytes : Text) (m t h r : ℕ) (rest : Text) (read : IsRead bytes m t h r rest)
    (few : length bytes < 2 ^ 64) where
  tells-same : (head : Head) (begins : Begins bytes head)
      → TellSame (mode_number head.mode) head.text head.home head.remote m t h r begins.rest rest
  tells-same head begins =
      front-same (mode_number head.mode) head.text head.home head.remote m t h r begins.rest rest
      (Begins-small bytes head few begins) read.small (sym begins.whole ∙ read.whole)

  -- ---- where there is no head

  pub none-long : 65536 < t → (head : Head) → Begins bytes head → ⊥
  none-long long head begins =
      let same = (tells-same head begins).text in
      let short = begins.short_text in
      omega arith

  pub none-other : (length rest ≡ t + 16 * (h + r) → ⊥) → (head : Head) → Begins bytes head → ⊥
  none-other other head begins =
      let same = tells-same head begins in
      let text = same.text in
      let home = same.home in
      let remote = same.remote in
      let fits = begins.fits in
      let count : length begins.rest ≡ length rest = ap (λ (w : Text). length w) same.rest in
      let is : length rest ≡ t + 16 * (h + r) = omega arith in
      other is

  pub none-mode : mode_with m ≡ None → (head : Head) → Begins bytes head → ⊥
  none-mode none head begins =
      let same = (tells-same head begins).mode in
      with-mode head.mode (ap (λ (n : ℕ). mode_with n) same ∙ none) where
        with-mode : (mode : Mode) → mode_with (mode_number mode) ≡ None → ⊥
        with-mode Plain e = absurd (cc)
        with-mode Lean e = absurd (cc)

-- ---- where there is one

mode-told : (n : ℕ) (mode : Mode) → mode_with n ≡ Some mode → n ≡ mode_number mode
mode-told zero mode e = zeroth mode e where
  zeroth : (mode : Mode) → Some Plain ≡ Some mode → 0 ≡ mode_number mode
  zeroth Plain e = refl
  zeroth Lean e = absurd (cc)
mode-told (suc zero) mode e = first mode e where
  first : (mode : Mode) → Some Lean ≡ Some mode → 1 ≡ mode_number mode
  first Plain e = absurd (cc)
  first Lean e = refl
mode-told (suc (suc n)) mode e = absurd (cc)

pub read-head : (bytes : Text) (m t h r : ℕ) (rest : Text) (mode : Mode)
    → IsRead bytes m t h r rest → mode_with m ≡ Some mode → t ≤ 65536
    → length rest ≡ t + 16 * (h + r) → Begins bytes (head_of mode t h r)
read-head bytes m t h r rest mode read told short fits =
    record {
      rest = rest;
      whole = read.whole ∙ ap (λ (n : ℕ). front n t h r ++ rest) (mode-told m mode told);
      short_text = short;
      fits = fits;
    }
