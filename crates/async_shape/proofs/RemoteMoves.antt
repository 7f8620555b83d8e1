-- A step at one remote: the shape holds after it where the remote is in a case again, since home,
-- held requests and the other remotes are as they were.
use Rattle.std.proofs.Common.{◌≡◌, ◌≢◌, ◌<◌, ◌≤◌, ℕ, List, length, Option, length-set}
use Rattle.std.proofs.Common.{refl, sym, subst, ◌∙◌}
use Rattle.slot_reserve.specs.Requests.{first_of}
use Rattle.ordered_links.specs.Link.{Link}
use Rattle.ordered_links.specs.Lists.{LinkPair, links_at}
use Rattle.async_shape.specs.Setting.{Setting}
use Rattle.async_shape.specs.Config.{Config, count_of, owed_to}
use Rattle.async_shape.specs.Outcome.{Put, RemoteOutcome}
use Rattle.async_shape.specs.Next.{config_after, remote_moved}
use Rattle.async_shape.specs.View.{View, awaited_at, view_at}
use Rattle.async_shape.specs.Phase.{Case}
use Rattle.async_shape.specs.Shape.{AreHeld, IsHomePlace, IsWhole, IsShaped}
use Rattle.async_shape.specs.declared.config.RemoteState.{RemoteState}
use Rattle.async_shape.proofs.LinksAfter.{IsPutAt, IsTakenAt, put-elsewhere, taken-elsewhere}
use Rattle.async_shape.proofs.LinksAfter.{links_after-count, links_after-other, pair_after}
use Rattle.async_shape.proofs.LinksAfter.{links_after-own}
use Rattle.async_shape.proofs.Frame.{view_at-of, view_at-same, SeesSame, cases-but_one}
use Rattle.async_shape.proofs.Frame.{remotes-other, remotes-own}
use Rattle.async_shape.proofs.ShapeParts.{links-there}

-- the view of a remote that stands so now, after this was put on its links and taken from them
abbrev pub view_moved : View → RemoteState → Option Put → Option Link → View
view_moved v remote put taken =
    let pair = pair_after put taken (record { up = v.up; down = v.down }) in
    record {
      remote = remote;
      awaited = v.awaited;
      up = pair.up;
      down = pair.down;
      held = v.held;
      owed = v.owed;
    }

-- the part for the whole looks at the remotes and links for their number alone
pub IsWhole-places : (setting : Setting) (c : Config) (remotes : List RemoteState)
    (links : List LinkPair) → length remotes ≡ count_of c → length links ≡ length c.links
    → IsWhole setting c
    → IsWhole setting
    (record { home = c.home; held = c.held; remotes = remotes; links = links })
IsWhole-places setting c remotes links count same whole =
    let back = sym count in
    record {
      some_remotes = subst (λ (n : ℕ). 1 ≤ n) back whole.some_remotes;
      few_remotes = subst (λ (n : ℕ). n ≤ 64) back whole.few_remotes;
      some_slots = whole.some_slots;
      few_slots = whole.few_slots;
      links = same ∙ whole.links ∙ back;
      debts = whole.debts ∙ back;
      home =
          subst
          (λ (n : ℕ). IsHomePlace setting.protocol setting.slots n c.home c.held c.home.place)
          back whole.home;
      home_vars = whole.home_vars;
      held =
          subst (λ (n : ℕ). AreHeld setting.protocol setting.slots n c.held) back whole.held;
    }

-- what a step at remote j leaves, which takes a packet from this link, if from any
module _ (setting : Setting) (c : Config) (taken : Option Link) (j : ℕ) (o : RemoteOutcome) where
  -- the configuration after the step
  abbrev after : Config
  after = config_after c (remote_moved c taken j o)

  -- remote j stands as the step left it
  pub remote_moved-own : j < count_of c → j < length c.links → IsPutAt j o.put → IsTakenAt j taken
      → view_at setting.protocol after j
      ≡ view_moved (view_at setting.protocol c j) o.remote o.put taken
  remote_moved-own there linked is_put is_taken =
      view_at-of setting.protocol after j o.remote
      (awaited_at setting.protocol c.home c.home.place j)
      (pair_after o.put taken (links_at c.links j)) (first_of j c.held) (owed_to c.home j)
      (remotes-own c.remotes j o.remote there) refl
      (links_after-own o.put taken c.links j is_put is_taken linked) refl refl

  -- each other remote is seen as before
  remote_moved-other : IsPutAt j o.put → IsTakenAt j taken → (q : ℕ) → q ≢ j
      → SeesSame setting c after q
  remote_moved-other is_put is_taken q apart =
      view_at-same setting.protocol c after q (remotes-other c.remotes j q o.remote apart) refl
      (links_after-other o.put taken c.links q
      (put-elsewhere j q o.put apart is_put) (taken-elsewhere j q taken apart is_taken)) refl refl

  -- it has the shape where remote j is in a case again
  pub IsShaped-remote_moved : j < count_of c → IsPutAt j o.put → IsTakenAt j taken
      → IsShaped setting c
      → Case setting (view_moved (view_at setting.protocol c j) o.remote o.put taken)
      → IsShaped setting (config_after c (remote_moved c taken j o))
  unfolding IsShaped
  IsShaped-remote_moved there is_put is_taken shaped case =
      let count = length-set c.remotes j o.remote in
      let linked = links-there setting c shaped j there in
      let own = remote_moved-own there linked is_put is_taken in
      record {
        whole =
            IsWhole-places setting c after.remotes after.links count
            (links_after-count o.put taken c.links) shaped.whole;
        cases =
            cases-but_one setting c after j count (remote_moved-other is_put is_taken)
            (subst (Case setting) (sym own) case) shaped.cases;
      }
