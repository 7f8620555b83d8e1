-- The name of a link.
use Rattle.std.specs.Prelude.{ℕ}

-- The up link of a remote, or its down link.
pub data Link : Type 0 where
  Up : (remote : ℕ) → Link
  Down : (remote : ℕ) → Link
