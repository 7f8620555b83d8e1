-- Any number of things: while a further one comes, it is read, and else none.
use Rattle.std.proofs.Common.{◌≡◌, ℕ, suc, ◌+◌, ◌-◌, ◌<◌, Bool, true, false, List, [], ◌∷◌, ◌++◌}
use Rattle.std.proofs.Common.{length, Ok, Err, refl, sym, ap, ◌∙◌, arith, append_assoc, append-nil}
use Rattle.proto_model.specs.Tokens.{Text}
use Rattle.protocol_reader.specs.declared.error.ReadError.{ReadError}
use Rattle.protocol_reader.specs.declared.error.ReadError.TheVariants.{TooLong, Syntax, NoMemory}
use Rattle.protocol_reader.specs.Reads.{Fails}
use Rattle.protocol_reader.specs.Reading.{At, Outcome, Reader, and_then, pure, mapped, text_at}
use Rattle.protocol_reader.specs.Reading.{many, many_at}

-- what is read behind one thing is put behind it
abbrev onto : {A : Type 0} → Outcome A → Reader (List A) → Outcome (List A)
onto {A = A} o q =
    and_then {A = A × List A} (and_then o (λ x. mapped (λ xs. (x, xs)) q)) (λ y. pure (y.0 ∷ y.1))

many-more : {A : Type 0} (comes : Text → Bool) (p : Reader A) (n : ℕ) (at : At)
    → comes (text_at at) ≡ true → many comes p (suc n) at ≡ onto (p at) (many comes p n)
unfolding many
many-more comes p n at seen = rw seen refl

many-none : {A : Type 0} (comes : Text → Bool) (p : Reader A) (n : ℕ) (at : At)
    → comes (text_at at) ≡ false → many comes p (suc n) at ≡ Ok ([], at)
unfolding many
many-none comes p n at none = rw none refl

-- ---- behind the items so far

-- the items so far, and those that follow
abbrev pub behind_items : {A : Type 0} → List A → Outcome (List A) → Outcome (List A)
behind_items items o = and_then o (λ more. pure (items ++ more))

-- What is read from here on, behind the items so far, is this. The bound on how many follow is
-- above the number of lexemes, and so is never met.
pub record Goes {A : Type 0} (comes : Text → Bool) (p : Reader A) (items : List A) (at : At)
    (all : Outcome (List A)) : Type 0 where
  pub bound : ℕ
  pub enough : length at.lexemes < bound
  pub told : behind_items items (many comes p bound at) ≡ all

pub goes_first : {A : Type 0} (comes : Text → Bool) (p : Reader A) (items : List A) (at : At)
    → Goes comes p items at (behind_items items (many_at comes p at))
unfolding many_at
goes_first comes p items at =
    record { bound = length at.lexemes + 1; enough = omega arith; told = refl }

-- a bound that is enough allows for one more
one_more : (n k : ℕ) → k < n → n ≡ suc (n - 1)
one_more n k lt = omega arith

regrouped : {A : Type 0} (items : List A) (x : A) (at : At) (o : Outcome (List A))
    → behind_items items (onto (Ok (x, at)) (λ _. o)) ≡ behind_items (items ++ x ∷ []) o
regrouped items x at (Ok y) = ap (λ xs. Ok (xs, y.1)) (sym (append_assoc items (x ∷ []) y.0))
regrouped items x at (Err n) = refl

-- one more is read
pub goes_on : {A : Type 0} (comes : Text → Bool) (p : Reader A) (items : List A) (x : A)
    (at new : At) (all : Outcome (List A)) → Goes comes p items at all
    → comes (text_at at) ≡ true → p at ≡ Ok (x, new)
    → length new.lexemes < length at.lexemes → Goes comes p (items ++ x ∷ []) new all
goes_on {A = A} comes p items x at new all goes seen read less =
    let enough = goes.enough in
    let n = goes.bound - 1 in
    record {
      bound = n;
      enough = omega arith;
      told = sym (regrouped items x at (many comes p n new))
          ∙ ap (λ (o : Outcome A). behind_items items (onto o (many comes p n))) (sym read)
          ∙ ap (behind_items items) (sym (many-more comes p n at seen))
          ∙ ap (λ (m : ℕ). behind_items items (many comes p m at))
          (sym (one_more goes.bound (length at.lexemes) enough))
          ∙ goes.told;
    }

refused : {A : Type 0} (comes : Text → Bool) (p : Reader A) (items : List A) (line : ℕ) (at : At)
    (all : Outcome (List A)) → Goes comes p items at all
    → comes (text_at at) ≡ true → p at ≡ Err line → all ≡ Err line
refused {A = A} comes p items line at all goes seen read =
    let n = goes.bound - 1 in
    sym goes.told
    ∙ ap (λ (m : ℕ). behind_items items (many comes p m at))
    (one_more goes.bound (length at.lexemes) goes.enough)
    ∙ ap (behind_items items) (many-more comes p n at seen)
    ∙ ap (λ (o : Outcome A). behind_items items (onto o (many comes p n))) read

-- one more can't be read
pub goes_wrong : {A : Type 0} (comes : Text → Bool) (p : Reader A) (items : List A) (e : ReadError)
    (at : At) (all : Outcome (List A)) → Goes comes p items at all
    → comes (text_at at) ≡ true → Fails (p at) e → Fails all e
goes_wrong comes p items TooLong at all goes seen fails = fails
goes_wrong comes p items (Syntax line) at all goes seen fails =
    refused comes p items line at all goes seen fails
goes_wrong comes p items NoMemory at all goes seen fails = tt

-- no more follow
pub goes_no_further : {A : Type 0} (comes : Text → Bool) (p : Reader A) (items : List A) (at : At)
    (all : Outcome (List A)) → Goes comes p items at all
    → comes (text_at at) ≡ false → all ≡ Ok (items, at)
goes_no_further {A = A} comes p items at all goes none =
    let n = goes.bound - 1 in
    sym goes.told
    ∙ ap (λ (m : ℕ). behind_items items (many comes p m at))
    (one_more goes.bound (length at.lexemes) goes.enough)
    ∙ ap (behind_items items) (many-none comes p n at none)
    ∙ ap (λ (xs : List A). Ok (xs, at)) (append-nil items)
