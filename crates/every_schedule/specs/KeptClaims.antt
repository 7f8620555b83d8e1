-- What a search of the rendezvous meaning decides: that events keep the claims of a file.
use Rattle.std.specs.Prelude.{ℕ}
use Rattle.proto_model.specs.Numbered.{CheckedProtocol}
use Rattle.proto_model.specs.declared.rendezvous.RvConfig.{RvConfig}
use Rattle.rendezvous_meaning.specs.Claims.{AllHold, remote_states}
use Rattle.event_runs.specs.Reached.{IsReached}

-- Each claim holds in each configuration that events reach from the start with n remotes.
abbrev pub EventsKeepClaims : CheckedProtocol → ℕ → Type 0
EventsKeepClaims checked n =
    (at : RvConfig) → IsReached checked.protocol n at
    → AllHold checked.claims (remote_states at)
