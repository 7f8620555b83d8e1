-- The shape: what holds of each configuration of a run from the start, for a proper protocol, from
-- 1 to 64 remotes and from 2 to 64 slots. It has a part for the whole, and a case for each remote.
use Rattle.std.specs.Prelude.{◌≡◌, ℕ, ◌+◌, ◌<◌, ◌≤◌, true, List, length, Some}
use Rattle.std.specs.List.{AllByRecursion}
use Rattle.proto_model.specs.Numbered.{NumberedProtocol}
use Rattle.proto_model.specs.Values.{is_open, may_meet}
use Rattle.proto_model.specs.ValueTypes.{AreOfKinds}
use Rattle.proto_model.specs.RendezvousNext.{given}
use Rattle.proto_model.specs.declared.numbered.Rule.{Rule}
use Rattle.slot_reserve.specs.Requests.{OneOfEach}
use Rattle.slot_reserve.specs.declared.held.Held.{Held}
use Rattle.async_shape.specs.Setting.{Setting}
use Rattle.async_shape.specs.Config.{Config, count_of}
use Rattle.async_shape.specs.Guards.{guard_by}
use Rattle.async_shape.specs.Requests.{some_completes}
use Rattle.async_shape.specs.View.{view_at}
use Rattle.async_shape.specs.Phase.{IsTypedMessage, Case}
use Rattle.async_shape.specs.declared.config.HomeState.{HomeState}
use Rattle.async_shape.specs.declared.config.HomePlace.{HomePlace}
use Rattle.async_shape.specs.declared.config.HomePlace.TheVariants.{Idle, Waits}
use Rattle.async_shape.specs.declared.config.Waiting.{Waiting}

-- At most k requests are held, each of one of n remotes, one of each remote at most, and of its
-- type.
pub record AreHeld (protocol : NumberedProtocol) (k n : ℕ) (held : List Held) : Type 0 where
  pub few : length held ≤ k
  pub senders : AllByRecursion (λ (request : Held). request.from < n) held
  pub one_of_each : OneOfEach held
  pub typed :
      AllByRecursion (λ (request : Held). IsTypedMessage protocol request.message request.value)
      held

-- The home is idle in a state that is there.
pub record IsIdleHome (protocol : NumberedProtocol) (state : ℕ) : Type 0 where
  pub there : state < length protocol.home.states

-- of k slots and n remotes
module _ (protocol : NumberedProtocol) (k n : ℕ) (home : HomeState) (held : List Held) where
  -- The home waits on a remote by an output that is open and of which the remote is a target, and
  -- it has sent the value that this output sends from the home's variables. At most k - 1 requests
  -- are held; where k - 1 are, some held request completes a guard. So at most k - 2 held requests
  -- complete none: the ack slot is free, and the progress slot was given to no request that
  -- completes nothing.
  pub record IsWaitingHome (waiting : Waiting) : Type 0 where
    pub rule : Rule
    pub there : guard_by protocol.home waiting.by ≡ Some rule
    pub passes : is_open home.vars rule ≡ true
    pub remote : waiting.on < n
    pub target : may_meet home.vars rule.kind waiting.on ≡ true
    pub message : ℕ
    pub sends : given protocol.messages home.vars rule.kind ≡ Some (message, waiting.sent)
    pub few_held : length held + 1 ≤ k
    pub progress : length held + 1 ≡ k → some_completes n protocol.home home held ≡ true

  -- the home's place is in range; where it waits, as above
  abbrev pub IsHomePlace : HomePlace → Type 0
  IsHomePlace (Idle state) = IsIdleHome protocol state
  IsHomePlace (Waits waiting) = IsWaitingHome waiting

-- the part for the whole
pub record IsWhole (setting : Setting) (c : Config) : Type 0 where
  pub some_remotes : 1 ≤ count_of c
  pub few_remotes : count_of c ≤ 64
  pub some_slots : 2 ≤ setting.slots
  pub few_slots : setting.slots ≤ 64
  pub links : length c.links ≡ count_of c
  pub debts : length c.home.owed ≡ count_of c
  pub home : IsHomePlace setting.protocol setting.slots (count_of c) c.home c.held c.home.place
  pub home_vars : AreOfKinds setting.protocol.home.vars c.home.vars
  pub held : AreHeld setting.protocol setting.slots (count_of c) c.held

-- the parts of the shape: that for the whole, and a case for each remote
pub record IsShapedSo (setting : Setting) (c : Config) : Type 0 where
  pub whole : IsWhole setting c
  pub cases : (j : ℕ) → j < count_of c → Case setting (view_at setting.protocol c j)

-- the configuration has the shape
unfoldable pub IsShaped : Setting → Config → Type 0
IsShaped setting c = IsShapedSo setting c
