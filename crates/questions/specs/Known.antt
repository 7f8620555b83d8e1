-- What the reader of questions keeps.
use Rattle.std.specs.Prelude.{◌≡◌, ℕ, ◌≤◌, List, length}
use Rattle.proto_model.specs.Tokens.{Text}
use Rattle.proto_model.specs.Numbered.{NumberedProtocol}
use Rattle.questions.specs.Reading.{Listed, home_scope, remote_scope, states_named}
use Rattle.questions.specs.declared.line.Known.TheInside.{Inside}

-- a set of states, and the words behind the list of them
abbrev pub listed : ℕ → List Text → Listed
listed states rest = record { states = states; rest = rest }

-- The names are those of this protocol, and few.
pub record IsKnown (p : NumberedProtocol) (k : Inside) : Type 0 where
  pub home_states : k.home_states ≡ states_named p.home
  pub remote_states : k.remote_states ≡ states_named p.remote
  pub home_scope : k.home_scope ≡ home_scope p.home
  pub remote_scope : k.remote_scope ≡ remote_scope p.home p.remote
  pub few_home : length k.home_states ≤ 64
  pub few_remote : length k.remote_states ≤ 64
  pub few_seen : length k.home_scope.names ≤ 256
  pub few_seen_with : length k.remote_scope.names ≤ 256
