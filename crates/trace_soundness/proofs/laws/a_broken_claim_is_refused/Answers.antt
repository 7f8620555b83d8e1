-- By the lines of the blocks.
use Rattle.proto_model.specs.Numbered.{numbered}
use Rattle.star_check.proofs.WellFormed.{well_formed-proper_checked}
use Rattle.trace_soundness.proofs.ClaimRefused.{claim-trace_refused}
use Rattle.trace_soundness.proofs.SayablePlain.{sayable-plain}
use Rattle.trace_soundness.proofs.laws.a_broken_claim_is_refused.Goals as goal

pub returns : goal.returns
returns c = λ protocol sayable well_formed mode n k some few two most schedule lines claim.
    claim-trace_refused (numbered protocol) mode n k schedule lines claim
    (well_formed-proper_checked protocol well_formed) (sayable-plain protocol sayable) some few two
    most
