-- A step of the home: the shape holds after it where the part for the whole does and the remote
-- that it names is in a case again, since the records of all remotes are as they were.
use Rattle.std.proofs.Common.{◌≡◌, ◌≢◌, ◌<◌, ℕ, List, length, Option, None}
use Rattle.std.proofs.Common.{slice_index_or, option_map, refl, sym, subst, ◌∙◌}
use Rattle.proto_model.specs.Numbered.{NumberedProtocol}
use Rattle.proto_model.specs.ValueTypes.{AreOfKinds}
use Rattle.slot_reserve.specs.Requests.{first_of}
use Rattle.slot_reserve.specs.declared.held.Held.{Held}
use Rattle.ordered_links.specs.Link.{Link}
use Rattle.ordered_links.specs.Lists.{LinkPair, links_at}
use Rattle.async_shape.specs.Setting.{Setting}
use Rattle.async_shape.specs.Config.{Config, count_of, owed_to}
use Rattle.async_shape.specs.Outcome.{HomeOutcome, at_home}
use Rattle.async_shape.specs.Next.{config_after, home_moved}
use Rattle.async_shape.specs.View.{View, awaited_at, held_request, nobody, view_at}
use Rattle.async_shape.specs.Phase.{Case}
use Rattle.async_shape.specs.Shape.{AreHeld, IsHomePlace, IsWhole, IsShaped}
use Rattle.async_shape.specs.declared.config.HomeState.{HomeState}
use Rattle.async_shape.proofs.LinksAfter.{IsPutAt, IsTakenAt, IsTakenElsewhere, IsPutElsewhere}
use Rattle.async_shape.proofs.LinksAfter.{put-elsewhere, taken-elsewhere, links_after-count}
use Rattle.async_shape.proofs.LinksAfter.{links_after-other, links_after-own, links_after-put_own}
use Rattle.async_shape.proofs.LinksAfter.{links_after-taken_own, pair_after, pair_put, pair_left}
use Rattle.async_shape.proofs.Frame.{view_at-of, view_at-same, SeesSame, cases-all_same}
use Rattle.async_shape.proofs.Frame.{cases-but_one, cases-but_two}
use Rattle.async_shape.proofs.ShapeParts.{links-there}

-- the view of remote q, whose record stays, with these links, where the home stands so and holds
-- these requests
abbrev pub view_left : NumberedProtocol → Config → HomeState → List Held → ℕ → LinkPair → View
view_left protocol c home held q pair = record {
  remote = slice_index_or c.remotes q nobody;
  awaited = awaited_at protocol home home.place q;
  up = pair.up;
  down = pair.down;
  held = option_map held_request (first_of q held);
  owed = owed_to home q;
}

-- what the part for the whole says of the home and of what it holds, with n remotes
pub record IsHomeWhole (setting : Setting) (n : ℕ) (home : HomeState) (held : List Held)
    : Type 0 where
  pub debts : length home.owed ≡ n
  pub place : IsHomePlace setting.protocol setting.slots n home held home.place
  pub vars : AreOfKinds setting.protocol.home.vars home.vars
  pub held_right : AreHeld setting.protocol setting.slots n held

-- the part for the whole has it
pub IsHomeWhole-whole : (setting : Setting) (c : Config) → IsWhole setting c
    → IsHomeWhole setting (count_of c) c.home c.held
IsHomeWhole-whole setting c whole = record {
  debts = whole.debts;
  place = whole.home;
  vars = whole.home_vars;
  held_right = whole.held;
}

-- the part for the whole, from what it says of the home
IsWhole-home : (setting : Setting) (c : Config) (home : HomeState) (held : List Held)
    (links : List LinkPair) → length links ≡ length c.links
    → IsHomeWhole setting (count_of c) home held → IsWhole setting c
    → IsWhole setting
    (record { home = home; held = held; remotes = c.remotes; links = links })
IsWhole-home setting c home held links same part whole = record {
  some_remotes = whole.some_remotes;
  few_remotes = whole.few_remotes;
  some_slots = whole.some_slots;
  few_slots = whole.few_slots;
  links = same ∙ whole.links;
  debts = part.debts;
  home = part.place;
  home_vars = part.vars;
  held = part.held_right;
}

-- The home stands so and holds these requests, and what a view has of both is as it was: the
-- request that remote q is to answer, the one that is held of it, and the message that is owed to
-- it.
pub record LeavesAlone (protocol : NumberedProtocol) (c : Config) (home : HomeState)
    (held : List Held) (q : ℕ) : Type 0 where
  pub awaited : awaited_at protocol home home.place q ≡ awaited_at protocol c.home c.home.place q
  pub first : first_of q held ≡ first_of q c.held
  pub owed : owed_to home q ≡ owed_to c.home q

-- the view of remote q, whose links are these, after a step of the home that leaves this, and takes
-- a packet from this link, if from any
pub home_moved-view : (protocol : NumberedProtocol) (c : Config) (taken : Option Link)
    (o : HomeOutcome) (q : ℕ) (pair : LinkPair)
    → links_at (config_after c (home_moved c taken o)).links q ≡ pair
    → view_at protocol (config_after c (home_moved c taken o)) q
    ≡ view_left protocol c o.home o.held q pair
home_moved-view protocol c taken o q pair same =
    view_at-of protocol (config_after c (home_moved c taken o)) q
    (slice_index_or c.remotes q nobody) (awaited_at protocol o.home o.home.place q) pair
    (first_of q o.held) (owed_to o.home q) refl refl same refl refl

-- what a step of the home leaves, which takes a packet from this link, if from any
module _ (setting : Setting) (c : Config) (taken : Option Link) (o : HomeOutcome) where
  -- the configuration after the step
  abbrev after : Config
  after = config_after c (home_moved c taken o)

  -- all but remote q's links are as the home left them
  abbrev view_with : ℕ → LinkPair → View
  view_with q pair = view_left setting.protocol c o.home o.held q pair

  -- its case, by that view
  home_moved-case : (q : ℕ) (pair : LinkPair) → links_at after.links q ≡ pair
      → Case setting (view_with q pair) → Case setting (view_at setting.protocol after q)
  home_moved-case q pair same case =
      subst (Case setting) (sym (home_moved-view setting.protocol c taken o q pair same)) case

  -- a remote that the home leaves alone, and whose links stay, is seen as before
  home_moved-other : (q : ℕ) → LeavesAlone setting.protocol c o.home o.held q
      → IsPutElsewhere q o.put → IsTakenElsewhere q taken → SeesSame setting c after q
  home_moved-other q alone not_put not_taken =
      view_at-same setting.protocol c after q refl alone.awaited
      (links_after-other o.put taken c.links q not_put not_taken)
      alone.first alone.owed

  -- what the home puts and takes, it puts and takes at j
  pub IsShaped-home_moved : (j : ℕ) → j < count_of c → IsPutAt j o.put → IsTakenAt j taken
      → IsShaped setting c → IsHomeWhole setting (count_of c) o.home o.held
      → ((q : ℕ) → q ≢ j → LeavesAlone setting.protocol c o.home o.held q)
      → Case setting (view_left setting.protocol c o.home o.held j
      (pair_after o.put taken (links_at c.links j)))
      → IsShaped setting (config_after c (home_moved c taken o))
  unfolding IsShaped
  IsShaped-home_moved j there is_put is_taken shaped part alone case =
      let linked = links-there setting c shaped j there in
      record {
        whole =
            IsWhole-home setting c o.home o.held after.links
            (links_after-count o.put taken c.links) part shaped.whole;
        cases =
            cases-but_one setting c after j refl
            (λ q apart. home_moved-other q (alone q apart)
            (put-elsewhere j q o.put apart is_put) (taken-elsewhere j q taken apart is_taken))
            (home_moved-case j (pair_after o.put taken (links_at c.links j))
            (links_after-own o.put taken c.links j is_put is_taken linked) case) shaped.cases;
      }

  -- the home takes a packet of j, and puts one for x
  pub IsShaped-home_between : (j x : ℕ) → j < count_of c → x < count_of c → x ≢ j
      → IsPutAt x o.put → IsTakenAt j taken
      → IsShaped setting c → IsHomeWhole setting (count_of c) o.home o.held
      → ((q : ℕ) → q ≢ j → q ≢ x → LeavesAlone setting.protocol c o.home o.held q)
      → Case setting (view_left setting.protocol c o.home o.held j
      (pair_left taken (links_at c.links j)))
      → Case setting (view_left setting.protocol c o.home o.held x
      (pair_put o.put (links_at c.links x)))
      → IsShaped setting (config_after c (home_moved c taken o))
  unfolding IsShaped
  IsShaped-home_between j x there present differ is_put is_taken shaped part alone first second =
      let linked = links-there setting c shaped j there in
      let joined = links-there setting c shaped x present in
      record {
        whole =
            IsWhole-home setting c o.home o.held after.links
            (links_after-count o.put taken c.links) part shaped.whole;
        cases =
            cases-but_two setting c after j x refl
            (λ q apart away. home_moved-other q (alone q apart away)
            (put-elsewhere x q o.put away is_put) (taken-elsewhere j q taken apart is_taken))
            (home_moved-case j (pair_left taken (links_at c.links j))
            (links_after-taken_own o.put taken c.links j
            (put-elsewhere x j o.put (λ same. differ (sym same)) is_put) is_taken linked) first)
            (home_moved-case x (pair_put o.put (links_at c.links x))
            (links_after-put_own o.put taken c.links x is_put
            (taken-elsewhere j x taken differ is_taken) joined) second) shaped.cases;
      }

-- a local step of the home: nothing is put or taken
pub IsShaped-home_alone : (setting : Setting) (c : Config) (home : HomeState) (held : List Held)
    → IsShaped setting c → IsHomeWhole setting (count_of c) home held
    → ((q : ℕ) → LeavesAlone setting.protocol c home held q)
    → IsShaped setting (config_after c (home_moved c None (at_home home held None)))
unfolding IsShaped
IsShaped-home_alone setting c home held shaped part alone =
    let o = at_home home held None in
    let d = config_after c (home_moved c None o) in
    record {
      whole = IsWhole-home setting c home held c.links refl part shaped.whole;
      cases =
          cases-all_same setting c d refl
          (λ q. home_moved-other setting c None o q (alone q) tt tt) shaped.cases;
    }
