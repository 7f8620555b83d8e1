-- Which steps are enabled after a step as they were before it: all but those of the process that
-- made it, and the arrivals of packets on the links on which it put, or from which it took.
use Rattle.std.proofs.Common.{◌≡◌, ◌≢◌, ℕ, Bool, true, false, List, Option, Some, None}
use Rattle.std.proofs.Common.{is_some, slice_get, nat_lt, length}
use Rattle.std.proofs.Common.{refl, sym, ap, ap₂, if◌then◌else◌, ◌∙◌, ◌==◌}
use Rattle.std.specs.Option.{option_map, option_map_or, option_and_then}
use Rattle.std.proofs.lemmas.Bool.{eqb-false}
use Rattle.slot_reserve.specs.declared.held.Held.{Held}
use Rattle.ordered_links.specs.Link.{Link, Up, Down}
use Rattle.ordered_links.specs.Lists.{LinkPair, links_at, first_packet}
use Rattle.ordered_links.specs.declared.packet.Packet.{Packet}
use Rattle.async_shape.specs.Setting.{Setting}
use Rattle.async_shape.specs.Config.{Config, count_of}
use Rattle.async_shape.specs.Outcome.{HomeOutcome, RemoteOutcome}
use Rattle.async_shape.specs.HomeSteps.{home_tau, home_take, home_send, home_drop, up}
use Rattle.async_shape.specs.RemoteSteps.{remote_tau, remote_send, remote_answer, remote_reply}
use Rattle.async_shape.specs.RemoteSteps.{down}
use Rattle.async_shape.specs.Next.{StepOutcome, arrival, config_after, home_moved, remote_moved}
use Rattle.async_shape.specs.Next.{remote_moves, is_enabled}
use Rattle.async_shape.specs.Run.{after_step}
use Rattle.async_shape.specs.Site.{Site, AtHome, AtRemote, UpFrom, DownTo, site}
use Rattle.async_shape.specs.declared.config.HomeState.{HomeState}
use Rattle.async_shape.specs.declared.config.HomePlace.TheVariants.{Waits}
use Rattle.async_shape.specs.declared.config.RemoteState.{RemoteState}
use Rattle.async_shape.specs.declared.config.Waiting.{Waiting}
use Rattle.async_shape.specs.declared.step.Step.{Step}
use Rattle.async_shape.specs.declared.step.Step.TheVariants as step
use Rattle.drive_report.proofs.MapsSome.{is_some-map}
use Rattle.drive_report.specs.Changes.{changed_at_home, changed_from, changed_by_remote, change_at}
use Rattle.drive_report.specs.Changes.{change_of, IsLeft}
use Rattle.drive_report.specs.Forms.{step_of}
use Rattle.drive_report.specs.Rows.{is_at_home}
use Rattle.drive_report.specs.declared.changes.Change.TheVariants as change
use Rattle.drive_report.specs.declared.forms.Form.{Form}
use Rattle.drive_report.specs.declared.forms.Form.TheVariants as form
use Rattle.drive_report.proofs.EnabledByKind.{HomeTau-enabled}
use Rattle.drive_report.proofs.LeftAlone.{KeepsOthers, KeepsRemotes, KeepsUps, Keeps, IsApart}
use Rattle.drive_report.proofs.LeftAlone.{step-keeps}

-- ---- what decides whether a step is enabled

-- whether a step at the home does something, that names one of n remotes
abbrev home_does : ℕ → ℕ → Option HomeOutcome → Bool
home_does n j does = if nat_lt j n then is_some does else false

-- whether a step at remote j does something
abbrev remote_does : ℕ → ℕ → (RemoteState → Option RemoteOutcome) → Option RemoteState → Bool
remote_does n j does remote =
    if nat_lt j n then is_some (option_and_then does remote) else false

-- whether a packet is under way from remote j, of n
abbrev arrives : ℕ → ℕ → Option Packet → Bool
arrives n j arrived = if nat_lt j n then is_some arrived else false

module _ (c : Config) where
  arrives-is : (there : Bool) (does : Packet → StepOutcome) (arrived : Option Packet)
      → is_some (option_map (config_after c) (if there then option_map does arrived else None))
      ≡ (if there then is_some arrived else false)
  arrives-is true does arrived =
      is_some-map (config_after c) (option_map does arrived) ∙ is_some-map does arrived
  arrives-is false does arrived = refl

  home_does-is : (there : Bool) (link : Option Link) (does : Option HomeOutcome)
      → is_some (option_map (config_after c)
      (if there then option_map (home_moved c link) does else None))
      ≡ (if there then is_some does else false)
  home_does-is true link does =
      is_some-map (config_after c) (option_map (home_moved c link) does)
      ∙ is_some-map (home_moved c link) does
  home_does-is false link does = refl

  remote_does-is : (there : Bool) (link : Option Link) (j : ℕ)
      (does : RemoteState → Option RemoteOutcome) (remote : Option RemoteState)
      → is_some (option_map (config_after c)
      (if there
      then option_and_then (λ r. option_map (remote_moved c link j) (does r)) remote else None))
      ≡ (if there then is_some (option_and_then does remote) else false)
  remote_does-is true link j does None = refl
  remote_does-is true link j does (Some r) =
      is_some-map (config_after c) (option_map (remote_moved c link j) (does r))
      ∙ is_some-map (remote_moved c link j) (does r)
  remote_does-is false link j does remote = refl

module _ (setting : Setting) (c d : Config) where
  -- ---- after a step at a remote

  -- The home and what it holds are as they were, and so is what it may do.
  home-same : (does : ℕ → HomeState → List Held → Bool) → d.home ≡ c.home → d.held ≡ c.held
      → count_of d ≡ count_of c
      → does (count_of d) d.home d.held ≡ does (count_of c) c.home c.held
  home-same does home held count =
      ap (λ (n : ℕ). does n d.home d.held) count
      ∙ ap (λ (h : HomeState). does (count_of c) h d.held) home
      ∙ ap (λ (hs : List Held). does (count_of c) c.home hs) held

  -- A remote is as it was, and so is what it may do.
  remote-same : (link : Option Link) (q : ℕ) (does : RemoteState → Option RemoteOutcome)
      → count_of d ≡ count_of c → slice_get d.remotes q ≡ slice_get c.remotes q
      → is_some (option_map (config_after d)
      (if nat_lt q (count_of d) then remote_moves d link q does else None))
      ≡ is_some (option_map (config_after c)
      (if nat_lt q (count_of c) then remote_moves c link q does else None))
  remote-same link q does count same =
      remote_does-is d (nat_lt q (count_of d)) link q does (slice_get d.remotes q)
      ∙ ap (λ (n : ℕ). remote_does n q does (slice_get d.remotes q)) count
      ∙ ap (remote_does (count_of c) q does) same
      ∙ sym (remote_does-is c (nat_lt q (count_of c)) link q does (slice_get c.remotes q))

  -- a step at the home that names a remote
  home_named-same : (q : ℕ) (does : ℕ → HomeState → List Held → Option HomeOutcome)
      → d.home ≡ c.home → d.held ≡ c.held → count_of d ≡ count_of c
      → is_some (option_map (config_after d)
      (if nat_lt q (count_of d)
      then option_map (home_moved d None) (does (count_of d) d.home d.held) else None))
      ≡ is_some (option_map (config_after c)
      (if nat_lt q (count_of c)
      then option_map (home_moved c None) (does (count_of c) c.home c.held) else None))
  home_named-same q does home held count =
      home_does-is d (nat_lt q (count_of d)) None (does (count_of d) d.home d.held)
      ∙ home-same (λ n h hs. home_does n q (does n h hs)) home held count
      ∙ sym (home_does-is c (nat_lt q (count_of c)) None (does (count_of c) c.home c.held))

  -- Whether a packet is under way to the home from remote q is as it was.
  up-same : (q : ℕ) → count_of d ≡ count_of c
      → (links_at d.links q).up ≡ (links_at c.links q).up
      → is_enabled setting d (step.Up q) ≡ is_enabled setting c (step.Up q)
  up-same q count same =
      arrives-is d (nat_lt q (count_of d))
      (λ arrived. home_moved d (Some (Up q)) (up setting (count_of d) d.home d.held q arrived))
      (arrival d (Some (Up q)))
      ∙ ap₂ (λ (n : ℕ) (packets : List Packet). arrives n q (first_packet packets)) count same
      ∙ sym (arrives-is c (nat_lt q (count_of c))
      (λ arrived. home_moved c (Some (Up q)) (up setting (count_of c) c.home c.held q arrived))
      (arrival c (Some (Up q))))

  -- Remote q is there as it was, and so is a packet that is under way to it.
  down-same : (q : ℕ) → count_of d ≡ count_of c → slice_get d.remotes q ≡ slice_get c.remotes q
      → (links_at d.links q).down ≡ (links_at c.links q).down
      → is_enabled setting d (step.Down q) ≡ is_enabled setting c (step.Down q)
  down-same q count remote same =
      let does : List Packet → RemoteState → Option RemoteOutcome =
      λ packets r. option_map (down setting r) (first_packet packets) in
      let before = (links_at c.links q).down in
      remote_does-is d (nat_lt q (count_of d)) (Some (Down q)) q (does (links_at d.links q).down)
      (slice_get d.remotes q)
      ∙ ap (λ (packets : List Packet). remote_does (count_of d) q (does packets)
      (slice_get d.remotes q)) same
      ∙ ap (λ (n : ℕ). remote_does n q (does before) (slice_get d.remotes q)) count
      ∙ ap (remote_does (count_of c) q (does before)) remote
      ∙ sym (remote_does-is c (nat_lt q (count_of c)) (Some (Down q)) q (does before)
      (slice_get c.remotes q))

  frame-remote : (j : ℕ) → KeepsOthers c d j → (f : Form) (b : ℕ)
      → IsLeft (changed_by_remote j f) b
      → is_enabled setting d (step_of f b) ≡ is_enabled setting c (step_of f b)
  frame-remote j keeps form.HomeTau g left =
      HomeTau-enabled setting d g
      ∙ home-same (λ n h hs. is_some (home_tau setting h hs g)) keeps.home keeps.held keeps.count
      ∙ sym (HomeTau-enabled setting c g)
  frame-remote j keeps form.HomeTake q left =
      home_named-same q (λ n h hs. home_take setting n h hs q) keeps.home keeps.held keeps.count
  frame-remote j keeps (form.HomeSend g) q left =
      home_named-same q (λ n h hs. home_send setting n h hs g q) keeps.home keeps.held keeps.count
  frame-remote j keeps form.HomeDrop q left =
      home_named-same q (λ n h hs. home_drop setting n h hs q) keeps.home keeps.held keeps.count
  frame-remote j keeps (form.RemoteTau i) g left =
      remote-same None i (λ r. remote_tau setting r g) keeps.count
      (keeps.others i (by (i == j) refl left))
    where
      by : (same : Bool) → (i == j) ≡ same
          → IsLeft (if same then change.All else change.Nothing) g → i ≢ j
      by true is all = absurd all
      by false is none = eqb-false i j is
  frame-remote j keeps form.RemoteSend q left =
      remote-same None q (remote_send setting q) keeps.count (keeps.others q left)
  frame-remote j keeps form.RemoteAnswer q left =
      remote-same None q (remote_answer setting q) keeps.count (keeps.others q left)
  frame-remote j keeps form.RemoteReply q left =
      remote-same None q (remote_reply setting q) keeps.count (keeps.others q left)
  frame-remote j keeps form.Up q left =
      up-same q keeps.count (ap (λ (pair : LinkPair). pair.up) (keeps.links q left))
  frame-remote j keeps form.Down q left =
      down-same q keeps.count (keeps.others q left)
      (ap (λ (pair : LinkPair). pair.down) (keeps.links q left))

  -- ---- after a step at the home

  -- the remotes are as they were, and so is what this one may do
  remotes-same : (q : ℕ) (does : RemoteState → Option RemoteOutcome) → d.remotes ≡ c.remotes
      → is_some (option_map (config_after d)
      (if nat_lt q (count_of d) then remote_moves d None q does else None))
      ≡ is_some (option_map (config_after c)
      (if nat_lt q (count_of c) then remote_moves c None q does else None))
  remotes-same q does same =
      remote-same None q does (ap (λ (rs : List RemoteState). length rs) same)
      (ap (λ (rs : List RemoteState). slice_get rs q) same)

  frame-home : (partner : Option ℕ) → KeepsRemotes c d partner → (f : Form) (b : ℕ)
      → IsLeft (changed_at_home partner f) b
      → is_enabled setting d (step_of f b) ≡ is_enabled setting c (step_of f b)
  frame-home partner keeps form.HomeTau b left = absurd left
  frame-home partner keeps form.HomeTake b left = absurd left
  frame-home partner keeps (form.HomeSend g) b left = absurd left
  frame-home partner keeps form.HomeDrop b left = absurd left
  frame-home partner keeps (form.RemoteTau j) g left =
      remotes-same j (λ r. remote_tau setting r g) keeps.remotes
  frame-home partner keeps form.RemoteSend j left =
      remotes-same j (remote_send setting j) keeps.remotes
  frame-home partner keeps form.RemoteAnswer j left =
      remotes-same j (remote_answer setting j) keeps.remotes
  frame-home partner keeps form.RemoteReply j left =
      remotes-same j (remote_reply setting j) keeps.remotes
  frame-home partner keeps form.Up j left =
      up-same j (ap (λ (rs : List RemoteState). length rs) keeps.remotes) (keeps.ups j)
  frame-home partner keeps form.Down j left =
      down-same j (ap (λ (rs : List RemoteState). length rs) keeps.remotes)
      (ap (λ (rs : List RemoteState). slice_get rs j) keeps.remotes)
      (keeps.downs j (by partner left))
    where
      by : (named : Option ℕ) → IsLeft (option_map_or (λ j. change.One j) named change.Nothing) j
          → IsApart j named
      by None apart = tt
      by (Some i) apart = apart

  frame-arrival : (i : ℕ) → KeepsUps c d i → (f : Form) (b : ℕ) → IsLeft (changed_from i f) b
      → is_enabled setting d (step_of f b) ≡ is_enabled setting c (step_of f b)
  frame-arrival i keeps form.HomeTau b left = absurd left
  frame-arrival i keeps form.HomeTake b left = absurd left
  frame-arrival i keeps (form.HomeSend g) b left = absurd left
  frame-arrival i keeps form.HomeDrop b left = absurd left
  frame-arrival i keeps (form.RemoteTau j) g left =
      remotes-same j (λ r. remote_tau setting r g) keeps.remotes
  frame-arrival i keeps form.RemoteSend j left =
      remotes-same j (remote_send setting j) keeps.remotes
  frame-arrival i keeps form.RemoteAnswer j left =
      remotes-same j (remote_answer setting j) keeps.remotes
  frame-arrival i keeps form.RemoteReply j left =
      remotes-same j (remote_reply setting j) keeps.remotes
  frame-arrival i keeps form.Up j left =
      up-same j (ap (λ (rs : List RemoteState). length rs) keeps.remotes) (keeps.ups j left)
  frame-arrival i keeps form.Down j left = absurd left

  frame-at : (at : Site) → Keeps c d at → (f : Form) (b : ℕ) → IsLeft (change_at at f) b
      → is_enabled setting d (step_of f b) ≡ is_enabled setting c (step_of f b)
  frame-at (AtHome partner) keeps f b left = frame-home partner keeps f b left
  frame-at (AtRemote j) keeps f b left = frame-remote j keeps f b left
  frame-at (UpFrom j) keeps f b left = frame-arrival j keeps f b left
  frame-at (DownTo j) keeps f b left = frame-remote j keeps f b left

-- A step leaves each step enabled as it was that is none of those which it can change.
pub frame : (setting : Setting) (c : Config) (s : Step) (f : Form) (b : ℕ)
    → IsLeft (change_of s f) b
    → is_enabled setting (after_step setting c s) (step_of f b)
    ≡ is_enabled setting c (step_of f b)
frame setting c s f b left =
    frame-at setting c (after_step setting c s) (site s) (step-keeps setting c s) f b left

-- ---- while the home waits

-- A step at the home that names a remote is not enabled where the home does nothing.
pub named-none : (c : Config) (there : Bool) (does : Option HomeOutcome) → does ≡ None
    → is_some (option_map (config_after c)
    (if there then option_map (home_moved c None) does else None))
    ≡ false
named-none c there does none =
    home_does-is c there None does
    ∙ ap (λ (o : Option HomeOutcome). if there then is_some o else false) none
    ∙ by there
  where
    by : (b : Bool) → (if b then false else false) ≡ false
    by true = refl
    by false = refl

module _ (setting : Setting) (c : Config) (waiting : Waiting)
    (waits : c.home.place ≡ Waits waiting) where
  waits-tau : (g : ℕ) → home_tau setting c.home c.held g ≡ None
  unfolding home_tau
  waits-tau g = rw waits refl

  waits-take : (n j : ℕ) → home_take setting n c.home c.held j ≡ None
  unfolding home_take
  waits-take n j = rw waits refl

  waits-send : (n g j : ℕ) → home_send setting n c.home c.held g j ≡ None
  unfolding home_send
  waits-send n g j = rw waits refl

  waits-drop : (n j : ℕ) → home_drop setting n c.home c.held j ≡ None
  unfolding home_drop
  waits-drop n j = rw waits refl

  -- No step of the home but an arrival is enabled.
  pub waiting-none : (f : Form) → is_at_home f ≡ true → (b : ℕ)
      → is_enabled setting c (step_of f b) ≡ false
  waiting-none form.HomeTau at g =
      HomeTau-enabled setting c g ∙ ap is_some (waits-tau g)
  waiting-none form.HomeTake at j =
      named-none c (nat_lt j (count_of c)) (home_take setting (count_of c) c.home c.held j)
      (waits-take (count_of c) j)
  waiting-none (form.HomeSend g) at j =
      named-none c (nat_lt j (count_of c)) (home_send setting (count_of c) c.home c.held g j)
      (waits-send (count_of c) g j)
  waiting-none form.HomeDrop at j =
      named-none c (nat_lt j (count_of c)) (home_drop setting (count_of c) c.home c.held j)
      (waits-drop (count_of c) j)
  waiting-none (form.RemoteTau i) at b = absurd (cc)
  waiting-none form.RemoteSend at b = absurd (cc)
  waiting-none form.RemoteAnswer at b = absurd (cc)
  waiting-none form.RemoteReply at b = absurd (cc)
  waiting-none form.Up at b = absurd (cc)
  waiting-none form.Down at b = absurd (cc)
