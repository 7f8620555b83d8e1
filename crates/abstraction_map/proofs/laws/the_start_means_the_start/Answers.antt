-- The start stands for the start of the rendezvous meaning.
use Rattle.abstraction_map.proofs.StartMeans.{abstraction-start}
use Rattle.abstraction_map.proofs.laws.the_start_means_the_start.Goals as goal

pub returns : goal.returns
returns c protocol n = abstraction-start protocol n
