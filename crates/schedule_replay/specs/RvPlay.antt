-- How a schedule of events is played on the rendezvous meaning of a protocol, and the trace of what
-- it does at each of them.
--
-- The block of an event is its number, one space, the event, and `: moved` or `: refused`. Where it
-- moved, the rendezvous line of the home follows for every event but TauRemote, and then that of
-- the remote that the event names for every event but TauHome. After the last block come the line
-- `end` and all rendezvous lines, the home's first. All of these lines show the configuration after
-- the event. Where a claim is broken the line that says so stands before `end`, and no further
-- event is played.
use Rattle.std.specs.Prelude.{ℕ, Bool, true, false, List, [], ◌++◌, Option, Some, None}
use Rattle.std.specs.Prelude.{is_some, unwrap_or, slice_get, codes}
use Rattle.std.specs.Option.{option_map_or}
use Rattle.rv_base.specs.Lists.{flat_from}
use Rattle.proto_model.specs.Tokens.{Text}
use Rattle.proto_model.specs.Numbered.{CheckedProtocol}
use Rattle.proto_model.specs.Rendezvous.{rv_start}
use Rattle.proto_model.specs.RendezvousNext.{rv_next}
use Rattle.proto_model.specs.Texts.{event_text, rv_line}
use Rattle.proto_model.specs.declared.numbered.Body.{Body}
use Rattle.proto_model.specs.declared.numbered.NumberedClaim.{NumberedClaim}
use Rattle.proto_model.specs.declared.rendezvous.Part.{Part}
use Rattle.proto_model.specs.declared.rendezvous.Event.{Event}
use Rattle.proto_model.specs.declared.rendezvous.Event.TheVariants as event
use Rattle.rendezvous_meaning.specs.Claims.{remote_states, broken}
use Rattle.rendezvous_meaning.specs.Standing.{Standing}
use Rattle.schedule_replay.specs.EventLines.{event_line}
use Rattle.schedule_replay.specs.Play.{Play}

-- The event takes place where it leads to a configuration.
abbrev pub moves : Standing → Event → Bool
moves standing e = is_some (rv_next standing.protocol standing.config e)

-- The machine stands in the configuration that the event leads to; where there is none, it stays.
abbrev pub after : Standing → Event → Standing
after standing e = record {
  protocol = standing.protocol;
  config = unwrap_or (rv_next standing.protocol standing.config e) standing.config;
}

-- the rendezvous line of the home
abbrev pub home_line : Standing → Text
home_line standing = rv_line standing.protocol.home standing.config.home None

-- the rendezvous line of remote j; no text where there is no such remote
abbrev pub remote_line : Standing → ℕ → Text
remote_line standing j =
    option_map_or (λ part. rv_line standing.protocol.remote part (Some j))
    (slice_get standing.config.remotes j) []

-- the rendezvous line of a remote of this body that stands so, with this number
abbrev pub numbered_line : Body → ℕ → Part → Text
numbered_line body j part = rv_line body part (Some j)

-- the rendezvous lines of all remotes, in the order of their numbers
abbrev pub remote_lines : Standing → Text
remote_lines standing =
    flat_from (numbered_line standing.protocol.remote) 0 standing.config.remotes

-- the lines that follow an event that moved: of the home unless only a remote moved, and of the
-- remote that the event names, if it names one
abbrev pub lines_after : Standing → Event → Text
lines_after standing (event.TauHome g) = home_line standing
lines_after standing (event.TauRemote j g) = remote_line standing j
lines_after standing (event.Up j h r) = home_line standing ++ remote_line standing j
lines_after standing (event.Down j h r) = home_line standing ++ remote_line standing j

-- what follows the event's text: whether it moved, and the lines after it
abbrev pub outcome : Bool → Standing → Event → Text
outcome true standing e = codes ": moved\n" ++ lines_after standing e
outcome false standing e = codes ": refused\n"

-- the block of an event, behind its number
abbrev pub block : Standing → Event → Text
block standing e = event_text e ++ outcome (moves standing e) (after standing e) e

-- what stands after the last block
abbrev pub ending : Standing → Text
ending standing = codes "end\n" ++ (home_line standing ++ remote_lines standing)

-- What contracts see of a machine whose claims are looked at: these claims, the protocol, and the
-- configuration in which the machine stands.
pub record Watched : Type 0 where
  pub claims : List NumberedClaim
  pub standing : Standing

-- The machine stands where the event leads; the claims stay.
abbrev pub watched_after : Watched → Event → Watched
watched_after watched e =
    record { claims = watched.claims; standing = after watched.standing e }

-- the number of the first claim that is broken in the configuration
abbrev pub halts : Watched → Option ℕ
halts watched = broken watched.claims (remote_states watched.standing.config)

-- How a schedule of events is played on the rendezvous meaning. The machine halts where a claim is
-- broken.
abbrev pub rv_play : Play Watched Event
rv_play = record {
  says = event_line;
  after = watched_after;
  block = λ watched e. block watched.standing e;
  ending = λ watched. ending watched.standing;
  halts = halts;
}

-- the protocol with n remotes at the start, and its claims
abbrev pub rv_watched : CheckedProtocol → ℕ → Watched
rv_watched checked n = record {
  claims = checked.claims;
  standing = record { protocol = checked.protocol; config = rv_start checked.protocol n };
}
