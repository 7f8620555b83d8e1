-- The parts of the shape: that for the whole, by which each remote has its links, and the case of
-- each remote.
use Rattle.std.proofs.Common.{ℕ, ◌<◌, length, subst, sym}
use Rattle.async_shape.specs.Setting.{Setting}
use Rattle.async_shape.specs.Config.{Config, count_of}
use Rattle.async_shape.specs.View.{view_at}
use Rattle.async_shape.specs.Phase.{Case}
use Rattle.async_shape.specs.Shape.{IsWhole, IsShaped}

-- the part for the whole
pub IsShaped-whole : (setting : Setting) (c : Config) → IsShaped setting c → IsWhole setting c
unfolding IsShaped
IsShaped-whole setting c shaped = shaped.whole

-- the case of remote j
pub IsShaped-case : (setting : Setting) (c : Config) → IsShaped setting c → (j : ℕ)
    → j < count_of c → Case setting (view_at setting.protocol c j)
unfolding IsShaped
IsShaped-case setting c shaped j within = shaped.cases j within

-- a remote that is there has its links
pub links-there : (setting : Setting) (c : Config) → IsShaped setting c → (j : ℕ)
    → j < count_of c → j < length c.links
links-there setting c shaped j there =
    subst (λ (n : ℕ). j < n) (sym (IsShaped-whole setting c shaped).links) there
