-- Where a step takes place.
use Rattle.std.specs.Prelude.{ℕ, Option, Some, None, unwrap_or}
use Rattle.ordered_links.specs.Link.{Link, Up, Down}
use Rattle.async_shape.specs.declared.step.Step.{Step}
use Rattle.async_shape.specs.declared.step.Step.TheVariants as step

-- A step takes place at a process, or where a packet arrives.
pub data Site : Type 0 where
  -- at the home, which deals with this remote, if with any
  AtHome : (partner : Option ℕ) → Site
  -- at this remote
  AtRemote : (remote : ℕ) → Site
  -- at the home, at which a packet of this remote arrives
  UpFrom : (remote : ℕ) → Site
  -- at this remote, at which a packet of the home arrives
  DownTo : (remote : ℕ) → Site

-- where each kind of step takes place
abbrev pub site : Step → Site
site (step.HomeTau g) = AtHome None
site (step.HomeTake j) = AtHome (Some j)
site (step.HomeSend g j) = AtHome (Some j)
site (step.HomeDrop j) = AtHome (Some j)
site (step.RemoteTau j g) = AtRemote j
site (step.RemoteSend j) = AtRemote j
site (step.RemoteAnswer j) = AtRemote j
site (step.RemoteReply j) = AtRemote j
site (step.Up j) = UpFrom j
site (step.Down j) = DownTo j

-- the remote that a step at this site names
abbrev pub remote_named : Site → Option ℕ
remote_named (AtHome partner) = partner
remote_named (AtRemote j) = Some j
remote_named (UpFrom j) = Some j
remote_named (DownTo j) = Some j

-- the link from which the packet comes that arrives at this site
abbrev pub arrival_link : Site → Option Link
arrival_link (AtHome partner) = None
arrival_link (AtRemote j) = None
arrival_link (UpFrom j) = Some (Up j)
arrival_link (DownTo j) = Some (Down j)

-- The remote with which the home completes guards at this site, where it completes any: in HomeDrop
-- it is j too, though no guard is completed. A remote's guard and a local step have no partner; 0
-- stands for it.
abbrev pub partner_at : Site → ℕ
partner_at (AtHome partner) = unwrap_or partner 0
partner_at (AtRemote j) = 0
partner_at (UpFrom j) = j
partner_at (DownTo j) = 0
