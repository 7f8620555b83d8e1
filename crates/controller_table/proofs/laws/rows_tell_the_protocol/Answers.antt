-- Each guard goes where the rows tell, and what the bodies said of it is lost.
use Rattle.controller_table.proofs.Told.{home-told, remote-told}
use Rattle.controller_table.proofs.laws.rows_tell_the_protocol.Goals as goal

pub returns : goal.returns
returns c = record { home = home-told; remote = remote-told }
