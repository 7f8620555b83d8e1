-- Each configuration of a run is refined, so each step means what is told of it.
use Rattle.std.proofs.Common.{◌≡◌}
use Rattle.rv_base.proofs.Lists.{AllByRecursion-weaker}
use Rattle.proto_model.specs.Rendezvous.{RvStep}
use Rattle.proto_model.specs.declared.rendezvous.Event.{Event}
use Rattle.async_shape.specs.Config.{Config, start}
use Rattle.async_shape.specs.Run.{run, after_step}
use Rattle.async_shape.specs.declared.step.Step.{Step}
use Rattle.abstraction_map.specs.Abstraction.{abstraction}
use Rattle.abstraction_map.specs.Meant.{IsRefined}
use Rattle.abstraction_map.specs.Told.{told}
use Rattle.abstraction_map.specs.declared.told.Told.TheVariants.{Is}
use Rattle.abstraction_map.proofs.Refined.{IsRefined-run}
use Rattle.every_run.proofs.ToldLeads.{told-takes_place}
use Rattle.every_run.proofs.laws.interleavings_report_no_other_events.Goals as goal

pub returns : goal.returns
returns c setting n proper some few two most steps =
    AllByRecursion-weaker (IsRefined setting)
    (λ (d : Config). (s : Step) (e : Event) → told setting d s ≡ Is e
    → RvStep setting.protocol (abstraction setting.protocol d) e
    (abstraction setting.protocol (after_step setting d s)))
    (run setting (start setting.protocol n) steps) (told-takes_place setting)
    (IsRefined-run setting n proper some few two most steps)
