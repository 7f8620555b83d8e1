-- The rows of an image compare in one way with those of a table.
use Rattle.std.proofs.Common.{◌≡◌, ◌⊎◌, inl, inr, ℕ, length, Option, Some, None, refl, ap}
use Rattle.std.specs.List.{AllByRecursion}
use Rattle.std.proofs.lemmas.Bool.Decides.{eqb_tells}
use Rattle.std.proofs.lemmas.Option.{same_Some}
use Rattle.proto_model.specs.Tokens.{Text}
use Rattle.controller_table.specs.Sound.{Tabled}
use Rattle.control_store.specs.RowWord.{IsInRange}
use Rattle.control_store.specs.Head.{words_behind}
use Rattle.control_store.specs.Compared.{all_rows, FirstWrong, CountsAgree, Compares}
use Rattle.control_store.specs.declared.heads.Head.{Head}
use Rattle.control_store.specs.declared.comparing.Compared.{Compared}
use Rattle.control_store.specs.declared.comparing.Compared.TheVariants as compared
use Rattle.control_store.proofs.FirstWrong.{FirstWrong-once, FirstWrong-some}

module _ (head : Head) (bytes : Text) (table : Tabled) where
  once : (a b : Option ℕ) → FirstWrong (all_rows table) (words_behind head bytes) a
      → FirstWrong (all_rows table) (words_behind head bytes) b → a ≡ b
  once = FirstWrong-once (all_rows table) (words_behind head bytes)

  pub Compares-once : (a b : Compared) → Compares head bytes table a → Compares head bytes table b
      → a ≡ b
  Compares-once compared.Same compared.Same x y = refl
  Compares-once compared.Same compared.Counts x y = absurd (y x.0)
  Compares-once compared.Same (compared.Row q) x y =
      let same : None ≡ Some q = once None (Some q) x.1 y.1 in absurd (cc)
  Compares-once compared.Counts compared.Same x y = absurd (x y.0)
  Compares-once compared.Counts compared.Counts x y = refl
  Compares-once compared.Counts (compared.Row q) x y = absurd (x y.0)
  Compares-once (compared.Row p) compared.Same x y =
      let same : Some p ≡ None = once (Some p) None x.1 y.1 in absurd (cc)
  Compares-once (compared.Row p) compared.Counts x y = absurd (y x.0)
  Compares-once (compared.Row p) (compared.Row q) x y =
      ap (λ (n : ℕ). compared.Row n) (same_Some p q (once (Some p) (Some q) x.1 y.1))

  counts-agree : CountsAgree head table ⊎ (CountsAgree head table → ⊥)
  counts-agree =
      elim (eqb_tells head.home (length table.home.rows)) [
        | inl home ↦ elim (eqb_tells head.remote (length table.remote.rows)) [
          | inl remote ↦ inl (home.1, remote.1)
          | inr other ↦ inr (λ agree. other.1 agree.1)
        ]
        | inr other ↦ inr (λ agree. other.1 agree.0)
      ]

  by-rows : CountsAgree head table
      → ((answer : Option ℕ) × FirstWrong (all_rows table) (words_behind head bytes) answer)
      → (found : Compared) × Compares head bytes table found
  by-rows agree (None, is) = (compared.Same, (agree, is))
  by-rows agree (Some p, is) = (compared.Row p, (agree, is))

  pub Compares-some : AllByRecursion IsInRange (all_rows table)
      → (found : Compared) × Compares head bytes table found
  Compares-some range =
      elim counts-agree [
        | inl agree ↦
            by-rows agree (FirstWrong-some (all_rows table) (words_behind head bytes) range)
        | inr other ↦ (compared.Counts, other)
      ]
