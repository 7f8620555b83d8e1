-- Bytes begin with one head at most, and it can be told whether they do.
use Rattle.std.proofs.Common.{◌≡◌, ◌⊎◌, inl, inr, ℕ, ◌+◌, ◌*◌, ◌<◌, ◌≤◌, ◌^◌, Bool, true, false}
use Rattle.std.proofs.Common.{◌++◌, length, take, drop, refl, sym, ap, subst, ◌∙◌, arith}
use Rattle.std.proofs.Common.{length-append}
use Rattle.std.specs.Int.{w64, from_be_bytes}
use Rattle.std.specs.Str.{bytes_eq}
use Rattle.std.proofs.lemmas.Nat.{from_be_bytes-to_be_bytes_8}
use Rattle.std.proofs.lemmas.Bool.Decides.{leb_tells, eqb_tells}
use Rattle.std.proofs.lemmas.Slice.Eq.{bytes_eq-Decides}
use Rattle.proto_model.specs.Tokens.{Text}
use Rattle.proto_model.specs.declared.mode.Mode.{Mode}
use Rattle.proto_model.specs.declared.mode.Mode.TheVariants.{Plain, Lean}
use Rattle.control_store.specs.Image.{mode_number, eight, head_bytes}
use Rattle.control_store.specs.Head.{Begins}
use Rattle.control_store.specs.declared.heads.Head.{Head}
use Rattle.control_store.proofs.Parts.{mode_number-small, mode_number-same, AreSmall}
use Rattle.control_store.proofs.Parts.{front-length, front-same}

-- the head that tells these
abbrev pub head_of : Mode → ℕ → ℕ → ℕ → Head
head_of mode text home remote =
    record { mode = mode; text = text; home = home; remote = remote }

-- the bytes are as many as the head says
pub Begins-count : (bytes : Text) (head : Head) → Begins bytes head
    → length bytes ≡ 40 + (head.text + 16 * (head.home + head.remote))
Begins-count bytes head begins =
    let head_front : Text = head_bytes head.mode head.text head.home head.remote in
    let whole : length bytes ≡ length head_front + length begins.rest =
    ap (λ (w : Text). length w) begins.whole ∙ length-append head_front begins.rest in
    let forty = front-length (mode_number head.mode) head.text head.home head.remote in
    let fits = begins.fits in
    omega arith

-- the numbers of a head with which bytes begin are small
pub Begins-small : (bytes : Text) (head : Head) → length bytes < 2 ^ 64 → Begins bytes head
    → AreSmall (mode_number head.mode) head.text head.home head.remote
Begins-small bytes head few begins =
    let count = Begins-count bytes head begins in
    let short = begins.short_text in
    let text : head.text < 2 ^ 64 = omega arith in
    let home : head.home < 2 ^ 64 = omega arith in
    let remote : head.remote < 2 ^ 64 = omega arith in
    record { mode = mode_number-small head.mode; text = text; home = home; remote = remote }

-- ---- one head

head-same : (a b : Head) → a.mode ≡ b.mode → a.text ≡ b.text → a.home ≡ b.home
    → a.remote ≡ b.remote → a ≡ b
head-same a b mode text home remote =
    ap (λ (m : Mode). head_of m a.text a.home a.remote) mode
    ∙ ap (λ (t : ℕ). head_of b.mode t a.home a.remote) text
    ∙ ap (λ (h : ℕ). head_of b.mode b.text h a.remote) home
    ∙ ap (λ (r : ℕ). head_of b.mode b.text b.home r) remote

pub Begins-once : (bytes : Text) (a b : Head) → length bytes < 2 ^ 64 → Begins bytes a
    → Begins bytes b → a ≡ b
Begins-once bytes a b few is_a is_b =
    let small_a = Begins-small bytes a few is_a in
    let small_b = Begins-small bytes b few is_b in
    let same =
    front-same (mode_number a.mode) a.text a.home a.remote (mode_number b.mode) b.text b.home
    b.remote is_a.rest is_b.rest small_a small_b (sym is_a.whole ∙ is_b.whole) in
    head-same a b (mode_number-same a.mode b.mode same.mode) same.text same.home same.remote

-- ---- whether there is one

-- the number that eight bytes at this place tell
abbrev told_at : ℕ → Text → ℕ
told_at place bytes = from_be_bytes w64 (take 8 (drop place bytes))

-- the only head of this mode with which the bytes may begin
abbrev candidate : Text → Mode → Head
candidate bytes mode = head_of mode (told_at 16 bytes) (told_at 24 bytes) (told_at 32 bytes)

candidate-is : (bytes : Text) (head : Head) → length bytes < 2 ^ 64 → Begins bytes head
    → head ≡ candidate bytes head.mode
unfolding eight
candidate-is bytes head few begins =
    let small = Begins-small bytes head few begins in
    let text : told_at 16 bytes ≡ head.text =
    ap (λ (w : Text). told_at 16 w) begins.whole
    ∙ from_be_bytes-to_be_bytes_8 head.text small.text in
    let home : told_at 24 bytes ≡ head.home =
    ap (λ (w : Text). told_at 24 w) begins.whole
    ∙ from_be_bytes-to_be_bytes_8 head.home small.home in
    let remote : told_at 32 bytes ≡ head.remote =
    ap (λ (w : Text). told_at 32 w) begins.whole
    ∙ from_be_bytes-to_be_bytes_8 head.remote small.remote in
    head-same head (candidate bytes head.mode) refl (sym text) (sym home) (sym remote)

pub rest-is : (bytes : Text) (head : Head) (begins : Begins bytes head)
    → drop 40 bytes ≡ begins.rest
unfolding eight
rest-is bytes head begins = ap (λ (w : Text). drop 40 w) begins.whole

-- whether the bytes are the head's and then some
by_bytes : (bytes : Text) (head : Head) (same : Bool)
    → bytes_eq bytes (head_bytes head.mode head.text head.home head.remote ++ drop 40 bytes) ≡ same
    → head.text ≤ 65536 → length (drop 40 bytes) ≡ head.text + 16 * (head.home + head.remote)
    → Begins bytes head ⊎ (Begins bytes head → ⊥)
by_bytes bytes head true e short fits =
    let rest : Text = drop 40 bytes in
    let all : Text = head_bytes head.mode head.text head.home head.remote ++ rest in
    inl (record {
      rest = rest;
      whole = (bytes_eq-Decides bytes all).0 e;
      short_text = short;
      fits = fits;
    })
by_bytes bytes head false e short fits =
    let front : Text = head_bytes head.mode head.text head.home head.remote in
    inr (λ begins.
    let is : bytes ≡ front ++ drop 40 bytes =
    begins.whole ∙ ap (λ (w : Text). front ++ w) (sym (rest-is bytes head begins)) in
    let yes : bytes_eq bytes (front ++ drop 40 bytes) ≡ true =
    (bytes_eq-Decides bytes (front ++ drop 40 bytes)).1 is in
    absurd (cc (yes, e)))

decides-one : (bytes : Text) (head : Head) → Begins bytes head ⊎ (Begins bytes head → ⊥)
decides-one bytes head =
    let rest : Text = drop 40 bytes in
    elim (leb_tells head.text 65536) [
      | inl short ↦ elim (eqb_tells (length rest) (head.text + 16 * (head.home + head.remote))) [
        | inl fits ↦ by_bytes bytes head
            (bytes_eq bytes (head_bytes head.mode head.text head.home head.remote ++ rest)) refl
            short.1 fits.1
        | inr other ↦ inr (λ begins.
            other.1 (ap (λ (w : Text). length w) (rest-is bytes head begins) ∙ begins.fits))
      ]
      | inr long ↦ inr (λ begins. let short = begins.short_text in omega (arith, long.1))
    ]

none-of : (bytes : Text) (mode : Mode) (head : Head)
    → (Begins bytes (candidate bytes Plain) → ⊥) → (Begins bytes (candidate bytes Lean) → ⊥)
    → head ≡ candidate bytes mode → Begins bytes head → ⊥
none-of bytes Plain head plain lean is begins = plain (subst (Begins bytes) is begins)
none-of bytes Lean head plain lean is begins = lean (subst (Begins bytes) is begins)

pub head-decides : (bytes : Text) → length bytes < 2 ^ 64
    → ((head : Head) × Begins bytes head) ⊎ ((head : Head) → Begins bytes head → ⊥)
head-decides bytes few =
    elim (decides-one bytes (candidate bytes Plain)) [
      | inl plain ↦ inl (candidate bytes Plain, plain)
      | inr no_plain ↦ elim (decides-one bytes (candidate bytes Lean)) [
        | inl lean ↦ inl (candidate bytes Lean, lean)
        | inr no_lean ↦ inr (λ head begins.
            none-of bytes head.mode head no_plain no_lean (candidate-is bytes head few begins)
            begins)
      ]
    ]
