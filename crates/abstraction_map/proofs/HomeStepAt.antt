-- A step of the home that deals with remote j: where the remotes stand after it, by what is on the
-- down link of j and what is owed to j.
use Rattle.std.proofs.Common.{◌≡◌, ◌≢◌, ℕ, ◌<◌, List, length, None, is_some, refl, ap, ◌∙◌}
use Rattle.proto_model.specs.Numbered.{NumberedProtocol}
use Rattle.proto_model.specs.Guards.{part}
use Rattle.proto_model.specs.declared.rendezvous.Part.{Part}
use Rattle.controller_table.specs.declared.rows.GuardId.{GuardId}
use Rattle.controller_table.specs.declared.rows.Place.TheVariants.{Trans}
use Rattle.ordered_links.specs.Lists.{links_at}
use Rattle.ordered_links.specs.declared.packet.Packet.{Packet}
use Rattle.async_shape.specs.Config.{Config, count_of, owed_to}
use Rattle.async_shape.specs.Outcome.{HomeOutcome}
use Rattle.async_shape.specs.Next.{config_after, home_moved}
use Rattle.async_shape.specs.View.{View, view_at}
use Rattle.async_shape.specs.declared.config.HomePlace.TheVariants.{Idle}
use Rattle.async_shape.proofs.LinksAfter.{IsPutAt, put-elsewhere, links_after-own, pair_after}
use Rattle.async_shape.proofs.HomeMoves.{view_left, home_moved-view}
use Rattle.abstraction_map.specs.Abstraction.{Fate, fate_in, is_due, remote_fate, awaited_fate}
use Rattle.abstraction_map.specs.Abstraction.{waiting_part, remote_part, part_in_view}
use Rattle.abstraction_map.proofs.ByCase.{home_stands, remote_stands, home-idle, part-waiting}
use Rattle.abstraction_map.proofs.Frames.{LooksSame, home_step-other}
use Rattle.abstraction_map.proofs.Events.{BothMoved}

module _ (protocol : NumberedProtocol) (c : Config) (j : ℕ) (o : HomeOutcome) where
  -- the configuration after the step
  abbrev pub after : Config
  after = config_after c (home_moved c None o)

  -- the view of j before the step
  abbrev pub before : View
  before = view_at protocol c j

  -- what became of the request of j after the step
  abbrev pub fate_left : Fate
  fate_left = fate_in (pair_after o.put None (links_at c.links j)).down (is_some (owed_to o.home j))

module _ (protocol : NumberedProtocol) (c : Config) (j : ℕ) (o : HomeOutcome)
    (put : IsPutAt j o.put) (linked : j < length c.links) where
  -- the view of j after the step
  left-view : view_at protocol (after protocol c j o) j
      ≡ view_left protocol c o.home o.held j (pair_after o.put None (links_at c.links j))
  left-view =
      home_moved-view protocol c None o j (pair_after o.put None (links_at c.links j))
      (links_after-own o.put None c.links j put tt linked)

  -- Remote j stands by what became of its request.
  pub left-stands : (fate : Fate) → fate_left protocol c j o ≡ fate
      → remote_stands protocol (after protocol c j o) j
      ≡ remote_part protocol.remote (before protocol c j o).remote.vars fate
      (before protocol c j o).remote.place
  left-stands fate became =
      ap (part_in_view protocol.remote) left-view
      ∙ ap
      (λ (f : Fate).
      remote_part protocol.remote (before protocol c j o).remote.vars f
      (before protocol c j o).remote.place) became

  -- Remote j looks the same where nothing became of its request and nothing was put on its up link.
  pub left-looks : fate_left protocol c j o ≡ remote_fate (before protocol c j o)
      → (pair_after o.put None (links_at c.links j)).up ≡ (links_at c.links j).up
      → LooksSame protocol c (after protocol c j o) j
  left-looks became up =
      let now = before protocol c j o in
      record {
        part = left-stands (remote_fate now) became;
        awaited =
            ap awaited_fate left-view
            ∙ ap (λ (packets : List Packet). fate_in packets (is_due now.remote.place)) up;
      }

  -- Each other remote looks the same, where nothing is owed to it that wasn't.
  pub others-look : ((q : ℕ) → q ≢ j → owed_to o.home q ≡ owed_to c.home q) → (q : ℕ) → q ≢ j
      → LooksSame protocol c (after protocol c j o) q
  others-look owes q apart =
      home_step-other protocol c None o q (owes q apart) (put-elsewhere j q o.put apart put) tt

  -- A home that was idle and remote j, which waits by this guard, move to these parts.
  pub both-moved : (state : ℕ) (guard : GuardId) (was became : Fate)
      (remote home_after remote_after : Part)
      → j < count_of c → c.home.place ≡ Idle state
      → (before protocol c j o).remote.place ≡ Trans guard
      → remote_fate (before protocol c j o) ≡ was
      → waiting_part protocol.remote (before protocol c j o).remote.vars guard 0 was ≡ remote
      → home_stands protocol (after protocol c j o) ≡ home_after
      → fate_left protocol c j o ≡ became
      → waiting_part protocol.remote (before protocol c j o).remote.vars guard 0 became
      ≡ remote_after
      → ((q : ℕ) → q ≢ j → owed_to o.home q ≡ owed_to c.home q)
      → BothMoved protocol c (after protocol c j o) j (part state c.home.vars) remote home_after
      remote_after
  both-moved state guard was became remote home_after remote_after within idle waits fate_was stood
      home_is fate_is stands owes =
      let now = before protocol c j o in
      record {
        within = within;
        count = refl;
        home_was = home-idle protocol c state idle;
        home_is = home_is;
        remote_was = part-waiting protocol.remote now guard was waits fate_was ∙ stood;
        remote_is =
            left-stands became fate_is
            ∙ ap (remote_part protocol.remote now.remote.vars became) waits ∙ stands;
        others = λ q apart. (others-look owes q apart).part;
      }
