-- What a sink in memory holds, and what a write adds to it.
use Rattle.std.specs.Prelude.{◌≡◌, ℕ, ◌≤◌, min, List, [], ◌++◌, length, take}
use Rattle.rv_base.specs.Calls.{Calls, no_calls}
use Rattle.rv_base.specs.Outside.{counted}
use Rattle.rv_base.specs.declared.outside.WriteAnswer.{WriteAnswer}
use Rattle.rv_base.specs.declared.outside.WriteAnswer.TheVariants.{Took, Failed, NoMemory}

-- The bytes taken, the most that one write takes, and how many writes had no memory.
pub record Store : Type 0 where
  pub taken : List ℕ
  pub most : ℕ
  pub wants : ℕ

-- A store some of whose writes are to fail.
pub record FailingStore : Type 0 where
  pub store : Store
  pub calls : Calls

-- Nothing is taken yet.
abbrev pub new_store : ℕ → Store
new_store most = record { taken = []; most = most; wants = 0 }

-- The store after a write without memory: the bytes taken stay.
abbrev pub wanting_store : Store → Store
wanting_store store =
    record { taken = store.taken; most = store.most; wants = counted store.wants }

-- Nothing is taken yet, no write was made, and those with these numbers are to fail.
abbrev pub new_failing_store : ℕ → List ℕ → FailingStore
new_failing_store most failing = record { store = new_store most; calls = no_calls failing }

-- A write that doesn't fail. It takes the lesser of the most that one write takes and the length
-- of the piece; or the sink's memory can't grow, and nothing is taken.
abbrev pub Takes : Store → Store → List ℕ → WriteAnswer → Type 0
Takes old new piece (Took count) =
    (1 ≤ count)
    × (count ≡ min old.most (length piece))
    × (new ≡ record { taken = old.taken ++ take count piece; most = old.most; wants = old.wants })
Takes old new piece Failed = ⊥
Takes old new piece NoMemory = new ≡ wanting_store old

-- A write that is to fail: it answers so, and the store stays.
abbrev pub RefusesWrite : Store → Store → WriteAnswer → Type 0
RefusesWrite old new answer = (answer ≡ Failed) × (new ≡ old)
