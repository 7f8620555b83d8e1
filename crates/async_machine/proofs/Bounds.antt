-- What the shape says of counts, as the code needs it.
use Rattle.std.proofs.Common.{◌≡◌, ℕ, ◌<◌, ◌≤◌, true, List, length, Option, Some, None, nat_lt}
use Rattle.std.proofs.Common.{sym, subst, arith}
use Rattle.std.specs.Option.{option_map_or}
use Rattle.std.proofs.lemmas.Bool.{ltb-true}
use Rattle.proto_model.specs.Numbered.{NumberedProtocol}
use Rattle.slot_reserve.specs.declared.held.Held.{Held}
use Rattle.async_shape.specs.Setting.{Setting}
use Rattle.async_shape.specs.Config.{Config, count_of}
use Rattle.async_shape.specs.Requests.{is_waiting}
use Rattle.async_shape.specs.Shape.{IsHomePlace, IsShaped}
use Rattle.async_shape.specs.Site.{site, remote_named}
use Rattle.async_shape.specs.Next.{is_in_range}
use Rattle.async_shape.specs.declared.step.Step.{Step}
use Rattle.async_shape.specs.declared.config.HomeState.{HomeState}
use Rattle.async_shape.specs.declared.config.HomePlace.{HomePlace}
use Rattle.async_shape.specs.declared.config.HomePlace.TheVariants.{Idle, Waits}
use Rattle.async_machine.specs.Arriving.{IsOneOf, IsLinked}
use Rattle.async_shape.proofs.ShapeParts.{IsShaped-whole}

-- there is a pair of links for each remote
pub shaped-links : (setting : Setting) (c : Config) → IsShaped setting c
    → length c.links ≡ count_of c
shaped-links setting c shaped = (IsShaped-whole setting c shaped).links

-- and a debt, or none, to each
pub shaped-debts : (setting : Setting) (c : Config) → IsShaped setting c
    → length c.home.owed ≡ count_of c
shaped-debts setting c shaped = (IsShaped-whole setting c shaped).debts

-- at most 64 remotes
pub shaped-few : (setting : Setting) (c : Config) → IsShaped setting c → count_of c ≤ 64
shaped-few setting c shaped = (IsShaped-whole setting c shaped).few_remotes

-- a home that waits, in this place, has a slot free
waiting-room : (protocol : NumberedProtocol) (k n : ℕ) (home : HomeState) (held : List Held)
    (place : HomePlace) → IsHomePlace protocol k n home held place → is_waiting place ≡ true
    → length held < k
waiting-room protocol k n home held (Idle state) stands waits = absurd (cc)
waiting-room protocol k n home held (Waits waiting) stands waits =
    let few = stands.few_held in
    omega arith

-- While the home waits, the ack slot is free.
pub shaped-ack_slot : (setting : Setting) (c : Config) → IsShaped setting c
    → is_waiting c.home.place ≡ true → length c.held < setting.slots
shaped-ack_slot setting c shaped waits =
    waiting-room setting.protocol setting.slots (count_of c) c.home c.held c.home.place
    (IsShaped-whole setting c shaped).home waits

-- the remote named, if one is, is one of n
one_of : (n : ℕ) (named : Option ℕ) → option_map_or (λ j. nat_lt j n) named true ≡ true
    → IsOneOf n named
one_of n None there = tt
one_of n (Some j) there = ltb-true j n there

-- The remote that a step in range names is there.
pub in_range-linked : (setting : Setting) (c : Config) (s : Step) → IsShaped setting c
    → is_in_range c s ≡ true → IsLinked (count_of c) s
in_range-linked setting c s shaped there = record {
  few = shaped-few setting c shaped;
  there = one_of (count_of c) (remote_named (site s)) there;
}

-- So are its links.
pub in_range-on_links : (setting : Setting) (c : Config) (s : Step) → IsShaped setting c
    → is_in_range c s ≡ true → IsLinked (length c.links) s
in_range-on_links setting c s shaped there =
    subst (λ (n : ℕ). IsLinked n s) (sym (shaped-links setting c shaped))
    (in_range-linked setting c s shaped there)
