-- Which requests are refused: an arriving one, a held one that is dropped, and a held one that
-- makes room for another.
use Rattle.std.specs.Prelude.{◌≡◌, ℕ, ◌+◌, true, false, if◌then◌else◌, length, Some}
use Rattle.proto_model.specs.declared.numbered.Value.{Value}
use Rattle.slot_reserve.specs.Requests.{first_of}
use Rattle.slot_reserve.specs.declared.held.Held.{Held}
use Rattle.ordered_links.specs.Link.{Up, Down}
use Rattle.ordered_links.specs.declared.packet.Packet.TheVariants as packet
use Rattle.async_shape.specs.Setting.{Setting}
use Rattle.async_shape.specs.Config.{Config, count_of}
use Rattle.async_shape.specs.Outcome.{put_on}
use Rattle.async_shape.specs.Requests.{is_waiting, completes, some_completes}
use Rattle.async_shape.specs.HomeSteps.{request_from}
use Rattle.async_shape.specs.Next.{arriving, put_of, displaced_sender, is_enabled}
use Rattle.async_shape.specs.declared.step.Step.TheVariants as step

module _ (setting : Setting) (c : Config) where
  -- Where a request is refused although it completes a guard: k requests are held by a home that is
  -- idle, or k - 1 by one that waits, and some held request completes a guard.
  pub record AreUsefulHeld : Type 0 where
    pub full :
        (if is_waiting c.home.place then length c.held + 1 else length c.held) ≡ setting.slots
    pub some : some_completes (count_of c) setting.protocol.home c.home c.held ≡ true

  -- the request completes a guard of the home's communication state
  abbrev pub is_useful : Held → Type 0
  is_useful request = completes (count_of c) setting.protocol.home c.home request ≡ true

  -- Requests are refused by these rules.
  pub record IsAdmitting : Type 0 where
    -- a request of j that arrives and is nacked although it completes a guard
    pub arriving :
        (j m : ℕ) (v : Value) → arriving c (Up j) ≡ Some (packet.Request m v)
        → put_of setting c (step.Up j) ≡ put_on (Down j) packet.Nack
        → is_useful (request_from j m v) → AreUsefulHeld
    -- a held request of j that may be dropped completes none
    pub dropped :
        (j : ℕ) (request : Held) → first_of j c.held ≡ Some request
        → is_enabled setting c (step.HomeDrop j) ≡ true
        → completes (count_of c) setting.protocol.home c.home request ≡ false
    -- a held request of i that makes room for the one of j completes none
    pub displaced :
        (i j : ℕ) (request : Held) → first_of i c.held ≡ Some request
        → displaced_sender setting c (step.Up j) ≡ Some i
        → completes (count_of c) setting.protocol.home c.home request ≡ false
