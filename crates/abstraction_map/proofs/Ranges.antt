-- An enabled step names no remote past the last one.
use Rattle.std.proofs.Common.{◌≡◌, ℕ, ◌<◌, Bool, true, false, refl, arith}
use Rattle.std.proofs.lemmas.Bool.{ltb-true}
use Rattle.async_shape.specs.Setting.{Setting}
use Rattle.async_shape.specs.Config.{Config, count_of}
use Rattle.async_shape.specs.Next.{is_in_range, is_enabled}
use Rattle.async_shape.specs.Shape.{IsShaped}
use Rattle.async_shape.specs.declared.step.Step.{Step}
use Rattle.async_shape.specs.declared.step.Step.TheVariants as step
use Rattle.async_machine.proofs.Bounds.{shaped-few}

-- an enabled step is in range
enabled-in_range : (setting : Setting) (c : Config) (s : Step) → is_enabled setting c s ≡ true
    → is_in_range c s ≡ true
enabled-in_range setting c s enabled = by (is_in_range c s) refl
  where
    by : (there : Bool) → is_in_range c s ≡ there → is_in_range c s ≡ true
    by true is = is
    by false is =
        let not : is_enabled setting c s ≡ false = rw is refl in
        absurd (cc)

-- The remote to which the home sends is one of at most 64.
pub send-few : (setting : Setting) (c : Config) (g j : ℕ) → IsShaped setting c
    → is_enabled setting c (step.HomeSend g j) ≡ true → j < 64
send-few setting c g j shaped enabled =
    let there = enabled-in_range setting c (step.HomeSend g j) enabled in
    let few = shaped-few setting c shaped in
    let below = ltb-true j (count_of c) there in
    omega arith
