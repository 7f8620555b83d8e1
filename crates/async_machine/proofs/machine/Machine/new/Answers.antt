-- The start has the shape.
use Rattle.std.proofs.Common.{◌≡◌, ℕ, ◌≤◌, List, [], replicate, sym, subst, ap, ◌∙◌}
use Rattle.controller_table.specs.Sound.{Tabled, IsSound, protocol_of}
use Rattle.slot_reserve.specs.Reserve.{Reserve}
use Rattle.ordered_links.specs.Lists.{LinkPair, no_packets}
use Rattle.async_shape.specs.Config.{start}
use Rattle.async_shape.specs.Shape.{IsShaped}
use Rattle.async_shape.specs.declared.config.HomeState.{HomeState}
use Rattle.async_shape.specs.declared.config.RemoteState.{RemoteState}
use Rattle.async_shape.proofs.Start.{IsShaped-start}
use Rattle.async_machine.specs.Standing.{setting_of, config_of}
use Rattle.async_machine.proofs.machine.Machine.new.Goals as goal

-- these parts stand at the start with n remotes
started : (table : Tabled) (k n : ℕ) (home : HomeState) (slots : Reserve)
    (remotes : List RemoteState) (links : List LinkPair) → IsSound table → 1 ≤ n → n ≤ 64 → 2 ≤ k
    → k ≤ 64 → home ≡ (start (protocol_of table) n).home → slots ≡ record { size = k; held = [] }
    → remotes ≡ (start (protocol_of table) n).remotes → links ≡ replicate n no_packets
    → IsShaped (setting_of table slots.size) (config_of home slots.held remotes links)
started table k n home slots remotes links sound some few two most at_home empty at_remotes none =
    rw (at_home, empty, at_remotes, none)
    (IsShaped-start (setting_of table k) n sound.proper some few two most)

pub invariant_of-result : goal.invariant_of-result
invariant_of-result g c =
    let sound = c.in_ok-start_home.ensures.sound in
    let count = sym c.count-n.ensures in
    record {
      sound = sound;
      shaped = started c.args.table.now c.args.k c.count-n.result c.in_ok-start_home.field-0
          c.in_ok-new.field-0 c.in_ok-start_remotes.field-0 (g.L.Links.lists c.args.links) sound
          (subst (λ (n : ℕ). 1 ≤ n) count c.requires.count.0)
          (subst (λ (n : ℕ). n ≤ 64) count c.requires.count.1)
          c.requires.slots.0 c.requires.slots.1 c.in_ok-start_home.ensures.value
          c.in_ok-new.ensures c.in_ok-start_remotes.ensures
          (c.requires.empty ∙ ap (λ (n : ℕ). replicate n no_packets) count);
    }
