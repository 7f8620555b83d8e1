-- What the shape says of a remote that is named: the one on which the home waits is there, and few
-- packets are on the links of each.
use Rattle.std.proofs.Common.{◌≡◌, ℕ, ◌<◌, ◌≤◌, List, length, subst, arith}
use Rattle.proto_model.specs.Numbered.{NumberedProtocol}
use Rattle.ordered_links.specs.Link.{Up, Down}
use Rattle.ordered_links.specs.Lists.{packets_on}
use Rattle.slot_reserve.specs.declared.held.Held.{Held}
use Rattle.async_shape.specs.Setting.{Setting}
use Rattle.async_shape.specs.Config.{Config, count_of}
use Rattle.async_shape.specs.View.{view_at}
use Rattle.async_shape.specs.Shape.{IsHomePlace, IsShaped}
use Rattle.async_shape.specs.declared.config.HomeState.{HomeState}
use Rattle.async_shape.specs.declared.config.HomePlace.{HomePlace}
use Rattle.async_shape.specs.declared.config.HomePlace.TheVariants.{Waits}
use Rattle.async_shape.specs.declared.config.Waiting.{Waiting}
use Rattle.async_shape.proofs.LinkLengths.{length-up, length-down}
use Rattle.async_shape.proofs.ShapeParts.{IsShaped-whole, IsShaped-case}

-- the remote on which a home in this place waits
waits-on : (protocol : NumberedProtocol) (k n : ℕ) (home : HomeState) (held : List Held)
    (place : HomePlace) (waiting : Waiting) → place ≡ Waits waiting
    → IsHomePlace protocol k n home held place → waiting.on < n
waits-on protocol k n home held place waiting waits stands =
    let at = subst (λ (p : HomePlace). IsHomePlace protocol k n home held p) waits stands in
    at.remote

module _ (setting : Setting) (c : Config) (shaped : IsShaped setting c) where
  -- the home waits on a remote that is there
  pub waited-there : (waiting : Waiting) → c.home.place ≡ Waits waiting → waiting.on < count_of c
  waited-there waiting waits =
      waits-on setting.protocol setting.slots (count_of c) c.home c.held c.home.place waiting waits
      (IsShaped-whole setting c shaped).home

  -- few packets come up
  pub up-few : (j : ℕ) → j < count_of c → length (packets_on (Up j) c.links) ≤ 3
  up-few j there =
      let few = length-up setting (view_at setting.protocol c j)
      (IsShaped-case setting c shaped j there).in_phase in
      omega arith

  -- few packets come down
  pub down-few : (j : ℕ) → j < count_of c → length (packets_on (Down j) c.links) ≤ 3
  down-few j there =
      length-down setting (view_at setting.protocol c j)
      (IsShaped-case setting c shaped j there).in_phase
