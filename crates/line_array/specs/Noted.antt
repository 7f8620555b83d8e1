-- What the parts of a step of an array answer.
use Rattle.std.specs.Prelude.{◌≡◌, ℕ, ◌*◌, List, length, Option, Some, None, unwrap_or}
use Rattle.std.specs.Option.{option_map}
use Rattle.ordered_links.specs.Link.{Link, Up, Down}
use Rattle.ordered_links.specs.Lists.{LinkPair, packets_on}
use Rattle.async_shape.specs.Setting.{Setting}
use Rattle.async_shape.specs.Config.{Config}
use Rattle.async_shape.specs.Next.{next, put_of, displaced_sender}
use Rattle.async_shape.specs.declared.step.Step.{Step}
use Rattle.async_shape.specs.declared.step.Step.TheVariants as step
use Rattle.line_array.specs.SharedLists.{SharedPair}
use Rattle.line_array.specs.declared.noting.Noted.{Noted}
use Rattle.line_array.specs.declared.noting.Noted.TheVariants.{Moved, Refused}
use Rattle.line_array.specs.declared.shared.SharedLink.{SharedLink}
use Rattle.line_array.specs.declared.shared.SharedLink.TheVariants as shared

-- the shared links, with room for so many lines
pub record Shared : Type 0 where
  pub lines : ℕ
  pub pairs : List SharedPair

-- the link that is shared
abbrev pub link_of : SharedLink → Link
link_of (shared.Up j) = Up j
link_of (shared.Down j) = Down j

-- the remote at the end of a link
abbrev pub remote_of : Link → ℕ
remote_of (Up j) = j
remote_of (Down j) = j

-- how many numbers there may be on a link that so many lines share
abbrev pub most_on : ℕ → Link → ℕ
most_on lines (Up j) = 2 * lines
most_on lines (Down j) = 3 * lines

-- the link, if there is one
abbrev pub link_if : Option SharedLink → Option Link
link_if link = option_map link_of link

-- how many packets are on this link, if there is one
abbrev pub count_if : List LinkPair → Option SharedLink → ℕ
count_if links None = 0
count_if links (Some link) = length (packets_on (link_of link) links)

-- The one link on which the step may put a packet, where the request of this remote is displaced in
-- it, if that of any: the home puts packets on the link down to the remote with which it deals, and
-- a remote on its own up link. Where a packet arrives at the home, it nacks the displaced request,
-- or the one that arrives. None where no step of the kind puts a packet.
abbrev pub may_put : Option ℕ → Step → Option Link
may_put displaced (step.HomeTau g) = None
may_put displaced (step.HomeTake j) = Some (Down j)
may_put displaced (step.HomeSend g j) = Some (Down j)
may_put displaced (step.HomeDrop j) = Some (Down j)
may_put displaced (step.RemoteTau j g) = None
may_put displaced (step.RemoteSend j) = Some (Up j)
may_put displaced (step.RemoteAnswer j) = Some (Up j)
may_put displaced (step.RemoteReply j) = Some (Up j)
may_put displaced (step.Up j) = Some (Down (unwrap_or displaced j))
may_put displaced (step.Down j) = None

-- the link on which a step may put a packet, as it is in this configuration
abbrev pub may_put_in : Setting → Config → Step → Option Link
may_put_in setting c s = may_put (displaced_sender setting c s) s

-- A step that moved has a next configuration and leads to it, and it put a packet on this link, if
-- on any; one that was refused has none, and nothing changed.
abbrev pub IsNoted : Noted → (setting : Setting) → (old new : Config) → Step → Type 0
IsNoted (Moved link) setting old new s =
    (next setting old s ≡ Some new)
    × (link_if link ≡ option_map (λ put. put.on) (put_of setting old s))
IsNoted Refused setting old new s = (next setting old s ≡ None) × (new ≡ old)
