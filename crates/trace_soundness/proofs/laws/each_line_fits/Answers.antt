-- By the pieces of which the lines are put together.
use Rattle.std.proofs.Common.{sym, subst}
use Rattle.proto_model.specs.Proper.{IsProper}
use Rattle.star_check.proofs.WellFormed.{well_formed-proper}
use Rattle.trace_soundness.proofs.Plain.{IsPlain}
use Rattle.trace_soundness.proofs.SayablePlain.{sayable-plain}
use Rattle.trace_soundness.proofs.StateLinesFit.{home-shown, remote-shown}
use Rattle.trace_soundness.proofs.laws.each_line_fits.Goals as goal

pub returns : goal.returns
returns c = record {
  home = λ protocol sayable well_formed setting at same.
      home-shown setting at (subst IsProper (sym same) (well_formed-proper protocol well_formed))
      (subst IsPlain (sym same) (sayable-plain protocol sayable));
  remote = λ protocol sayable well_formed setting at j same.
      remote-shown setting at j
      (subst IsProper (sym same) (well_formed-proper protocol well_formed))
      (subst IsPlain (sym same) (sayable-plain protocol sayable));
}
