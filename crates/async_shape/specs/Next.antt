-- The next configuration.
use Rattle.std.specs.Prelude.{ℕ, Bool, true, nat_lt, if◌then◌else◌, List, Option, Some, None}
use Rattle.std.specs.Prelude.{is_some, slice_get, slice_set}
use Rattle.std.specs.Option.{option_map, option_map_or, option_and_then}
use Rattle.slot_reserve.specs.declared.held.Held.{Held}
use Rattle.ordered_links.specs.Link.{Link}
use Rattle.ordered_links.specs.Lists.{LinkPair, packets_on, first_packet}
use Rattle.ordered_links.specs.Lists.{after_put, after_take}
use Rattle.ordered_links.specs.declared.packet.Packet.{Packet}
use Rattle.async_shape.specs.Setting.{Setting}
use Rattle.async_shape.specs.Config.{Config, count_of}
use Rattle.async_shape.specs.Site.{site, remote_named, arrival_link}
use Rattle.async_shape.specs.Outcome.{Put, HomeOutcome, RemoteOutcome}
use Rattle.async_shape.specs.HomeSteps.{home_tau, home_take, home_send, home_drop, up}
use Rattle.async_shape.specs.RemoteSteps.{remote_tau, remote_send, remote_answer}
use Rattle.async_shape.specs.RemoteSteps.{remote_reply, down}
use Rattle.async_shape.specs.declared.config.HomeState.{HomeState}
use Rattle.async_shape.specs.declared.config.RemoteState.{RemoteState}
use Rattle.async_shape.specs.declared.step.Step.{Step}
use Rattle.async_shape.specs.declared.step.Step.TheVariants as step

-- What a step does to the whole: how home and remotes stand after it, what is held, what it puts
-- and takes, and whose request it displaces.
pub record StepOutcome : Type 0 where
  pub home : HomeState
  pub held : List Held
  pub remotes : List RemoteState
  -- the packet that it puts, and its link
  pub put : Option Put
  -- the link from which it takes the first packet
  pub takes_from : Option Link
  -- the sender of the held request that it displaces
  pub displaced_from : Option ℕ

-- the links after a put, if there is one
abbrev pub links_put : Option Put → List LinkPair → List LinkPair
links_put None links = links
links_put (Some put) links = after_put put.on put.packet links

-- the links after a take, if there is one
abbrev pub links_left : Option Link → List LinkPair → List LinkPair
links_left None links = links
links_left (Some link) links = after_take link links

-- The links after a step, which puts one packet at most, and then takes one at most.
abbrev pub links_after : Option Put → Option Link → List LinkPair → List LinkPair
links_after put takes_from links = links_left takes_from (links_put put links)

-- the packet that is the first on this link
abbrev pub arriving : Config → Link → Option Packet
arriving c link = first_packet (packets_on link c.links)

-- the packet that arrives in a step which takes from this link, if from any: the first one on it
abbrev pub arrival : Config → Option Link → Option Packet
arrival c takes_from = option_and_then (arriving c) takes_from

-- the step names no remote that isn't there
abbrev pub is_in_range : Config → Step → Bool
is_in_range c s = option_map_or (λ j. nat_lt j (count_of c)) (remote_named (site s)) true

-- the configuration that an outcome leaves
abbrev pub config_after : Config → StepOutcome → Config
config_after c o = record {
  home = o.home;
  held = o.held;
  remotes = o.remotes;
  links = links_after o.put o.takes_from c.links;
}

-- in this configuration, of a step that takes a packet from this link, if from any
module _ (c : Config) (takes_from : Option Link) where
  -- what a step at the home does to the whole: the remotes stay
  abbrev pub home_moved : HomeOutcome → StepOutcome
  home_moved o = record {
    home = o.home;
    held = o.held;
    remotes = c.remotes;
    put = o.put;
    takes_from = takes_from;
    displaced_from = o.displaced_from;
  }

  -- what a step at remote j does to the whole: the home, what it holds and the other remotes stay
  abbrev pub remote_moved : ℕ → RemoteOutcome → StepOutcome
  remote_moved j o = record {
    home = c.home;
    held = c.held;
    remotes = slice_set c.remotes j o.remote;
    put = o.put;
    takes_from = takes_from;
    displaced_from = None;
  }

  -- what the step does to the whole, by what it does at remote j; none where there is no such
  -- remote, and where it does nothing there
  abbrev pub remote_moves : ℕ → (RemoteState → Option RemoteOutcome) → Option StepOutcome
  remote_moves j does =
      option_and_then (λ remote. option_map (remote_moved j) (does remote)) (slice_get c.remotes j)

module _ (setting : Setting) (c : Config) where
  -- What the step does, where the remote that it names is there. The link is the one from which it
  -- takes a packet; its site says which, so that it stands here once.
  abbrev pub outcome_of : Option Link → Step → Option StepOutcome
  outcome_of link (step.HomeTau g) =
      option_map (home_moved c link) (home_tau setting c.home c.held g)
  outcome_of link (step.HomeTake j) =
      option_map (home_moved c link) (home_take setting (count_of c) c.home c.held j)
  outcome_of link (step.HomeSend g j) =
      option_map (home_moved c link) (home_send setting (count_of c) c.home c.held g j)
  outcome_of link (step.HomeDrop j) =
      option_map (home_moved c link) (home_drop setting (count_of c) c.home c.held j)
  outcome_of link (step.RemoteTau j g) =
      remote_moves c link j (λ remote. remote_tau setting remote g)
  outcome_of link (step.RemoteSend j) = remote_moves c link j (remote_send setting j)
  outcome_of link (step.RemoteAnswer j) = remote_moves c link j (remote_answer setting j)
  outcome_of link (step.RemoteReply j) = remote_moves c link j (remote_reply setting j)
  outcome_of link (step.Up j) =
      option_map (λ arrived. home_moved c link (up setting (count_of c) c.home c.held j arrived))
      (arrival c link)
  outcome_of link (step.Down j) =
      remote_moves c link j (λ remote. option_map (down setting remote) (arrival c link))

  -- What a step does, or none where it is not enabled. A remote number at or past the count of
  -- remotes gives none, and so does a guard number out of range.
  abbrev pub outcome : Step → Option StepOutcome
  outcome s = if is_in_range c s then outcome_of (arrival_link (site s)) s else None

  -- the packet that the step puts, and its link
  abbrev pub put_of : Step → Option Put
  put_of s = option_and_then (λ o. o.put) (outcome s)

  -- the link from which the step takes the first packet
  abbrev pub take_of : Step → Option Link
  take_of s = option_and_then (λ o. o.takes_from) (outcome s)

  -- the sender of the request that the step displaces; none where it displaces none
  abbrev pub displaced_sender : Step → Option ℕ
  displaced_sender s = option_and_then (λ o. o.displaced_from) (outcome s)

  -- the configuration after a step; none where the step is not enabled
  abbrev pub next : Step → Option Config
  next s = option_map (config_after c) (outcome s)

  -- the step is enabled: there is a configuration after it
  abbrev pub is_enabled : Step → Bool
  is_enabled s = is_some (next s)
