-- What a source in memory holds, and what a read gives of it.
use Rattle.std.specs.Prelude.{◌≡◌, Bool, true, false, ℕ, ◌≤◌, min, List, [], ◌++◌, length, take}
use Rattle.std.specs.Prelude.{drop}
use Rattle.rv_base.specs.Calls.{Calls, no_calls}
use Rattle.rv_base.specs.declared.outside.ReadAnswer.{ReadAnswer}
use Rattle.rv_base.specs.declared.outside.ReadAnswer.TheVariants.{Got, End, Failed, NoMemory}

-- The bytes left, the most that one read gives, and whether the last read answered End.
pub record Supply : Type 0 where
  pub left : List ℕ
  pub most : ℕ
  pub ended : Bool

-- A supply some of whose reads are to fail.
pub record FailingSupply : Type 0 where
  pub supply : Supply
  pub calls : Calls

-- These bytes are left, and the last read, where there was one, didn't answer End.
abbrev pub new_supply : List ℕ → ℕ → Supply
new_supply bytes most = record { left = bytes; most = most; ended = false }

-- The supply after a read that answered End: the same bytes are left.
abbrev pub ended_supply : Supply → Supply
ended_supply supply = record { left = supply.left; most = supply.most; ended = true }

-- These bytes are left, no read was made yet, and those with these numbers are to fail.
abbrev pub new_failing_supply : List ℕ → ℕ → List ℕ → FailingSupply
new_failing_supply bytes most failing =
    record { supply = new_supply bytes most; calls = no_calls failing }

-- A read that doesn't fail. Where something is left, it gives the next bytes: the lesser of the
-- most that one read gives and the length of the buffer, and no more than is left. They stand at
-- the front of the buffer, and the rest of it stays. Where nothing is left, it answers End, and
-- only that is noted.
abbrev pub Gives : Supply → Supply → List ℕ → List ℕ → ReadAnswer → Type 0
Gives old new into filled (Got count) =
    (1 ≤ count)
    × (count ≡ min (min old.most (length into)) (length old.left))
    × (new ≡ new_supply (drop count old.left) old.most)
    × (filled ≡ take count old.left ++ drop count into)
Gives old new into filled End = (old.left ≡ []) × (new ≡ ended_supply old) × (filled ≡ into)
Gives old new into filled Failed = ⊥
Gives old new into filled NoMemory = ⊥

-- A read that is to fail: it answers so, and it didn't answer End. The bytes left stay, and so does
-- the buffer.
abbrev pub RefusesRead : Supply → Supply → List ℕ → List ℕ → ReadAnswer → Type 0
RefusesRead old new into filled answer =
    (answer ≡ Failed) × (new ≡ new_supply old.left old.most) × (filled ≡ into)
