-- The fate of a request and the way of a link, as the code has them.
use Rattle.std.specs.Prelude.{ℕ}
use Rattle.ordered_links.specs.Link.{Link, Up, Down}
use Rattle.abstraction_map.specs.Abstraction as abstraction
use Rattle.abstraction_map.specs.declared.fate.Fate.{Fate}
use Rattle.abstraction_map.specs.declared.fate.Fate.TheVariants.{NotGranted, Granted, Replied}
use Rattle.abstraction_map.specs.declared.fate.Way.{Way}
use Rattle.abstraction_map.specs.declared.fate.Way.TheVariants as way

-- the fate that this is
abbrev pub fate_said : Fate → abstraction.Fate
fate_said NotGranted = abstraction.NotGranted
fate_said Granted = abstraction.Granted
fate_said (Replied v) = abstraction.Replied v

-- the link of remote j that leads this way
abbrev pub link_to : Way → ℕ → Link
link_to way.Up j = Up j
link_to way.Down j = Down j
