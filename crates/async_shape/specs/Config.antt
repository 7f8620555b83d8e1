-- A configuration of the asynchronous machine: where the home and the remotes stand, what the home
-- holds and owes, and what is under way on the links.
use Rattle.std.specs.Prelude.{ℕ, List, [], length, replicate, Option, None, slice_get}
use Rattle.std.specs.Option.{option_and_then}
use Rattle.proto_model.specs.Numbered.{NumberedProtocol}
use Rattle.proto_model.specs.Values.{first_values}
use Rattle.controller_table.specs.declared.rows.Place.TheVariants.{Comm}
use Rattle.slot_reserve.specs.declared.held.Held.{Held}
use Rattle.ordered_links.specs.Lists.{LinkPair, no_packets}
use Rattle.async_shape.specs.declared.config.HomeState.{HomeState}
use Rattle.async_shape.specs.declared.config.HomePlace.TheVariants.{Idle}
use Rattle.async_shape.specs.declared.config.RemoteState.{RemoteState}

-- Where the home stands, with its variables and debts; the requests that it holds; where each
-- remote stands; and the packets on the links.
pub record Config : Type 0 where
  pub home : HomeState
  -- the requests that the home holds, in order of arrival
  pub held : List Held
  pub remotes : List RemoteState
  -- the up link and the down link of each remote
  pub links : List LinkPair

-- the message that the home owes to remote j
abbrev pub owed_to : HomeState → ℕ → Option ℕ
owed_to home j = option_and_then (λ debt. debt) (slice_get home.owed j)

-- how many remotes there are
abbrev pub count_of : Config → ℕ
count_of c = length c.remotes

-- The start with n remotes: start states, first values, and nothing else.
abbrev pub start : NumberedProtocol → ℕ → Config
start protocol n = record {
  home = record {
    place = Idle protocol.home.start;
    vars = first_values protocol.home.vars;
    owed = replicate n None;
  };
  held = [];
  remotes = replicate n (record {
    place = Comm protocol.remote.start;
    vars = first_values protocol.remote.vars;
    slot = None;
  });
  links = replicate n no_packets;
}
