-- What `run` and `boot` show is a refinement: the protocol that the file holds, or whose control
-- store it is, is proper, so that each configuration of each run from the start is refined. What
-- `drive` says of a deadlock is true of the rendezvous meaning too.
use Rattle.std.proofs.Common.{◌≡◌, ℕ, ◌≤◌, List, Some, true, sym, subst}
use Rattle.std.specs.List.{AllByRecursion}
use Rattle.proto_model.specs.Tokens.{Text}
use Rattle.proto_model.specs.Numbered.{CheckedProtocol}
use Rattle.proto_model.specs.Proper.{IsProper}
use Rattle.proto_model.specs.declared.mode.Mode.{Mode}
use Rattle.star_check.proofs.WellFormed.{well_formed-proper}
use Rattle.async_shape.specs.Config.{start}
use Rattle.async_shape.specs.Run.{run, config_at_end}
use Rattle.async_shape.specs.declared.step.Step.{Step}
use Rattle.abstraction_map.specs.Abstraction.{abstraction}
use Rattle.abstraction_map.specs.Meant.{IsRefined}
use Rattle.abstraction_map.proofs.Refined.{IsRefined-run}
use Rattle.run_replay.specs.RunTrace.{run_start}
use Rattle.drive_report.specs.Drive.{drive_run}
use Rattle.drive_report.specs.Ready.{IsStill}
use Rattle.drive_report.proofs.DrivenTurns.{stopped-still}
use Rattle.rvc_top.specs.Commands.{describe, driven_setting}
use Rattle.rvc_top.specs.Forms.{HoldsProtocol}
use Rattle.rvc_top.specs.Stores.{HoldsImage}
use Rattle.rvc_top.specs.declared.boot.Booted.{Booted}
use Rattle.rvc_top.specs.declared.command.Command.TheVariants.{Run, Boot, Drive}
use Rattle.rvc_top.specs.declared.command.Driving.{Driving}

-- the protocol that a file holds is proper
pub held-proper : (f : Text) (checked : CheckedProtocol) → HoldsProtocol f checked
    → IsProper checked.protocol
held-proper f checked holds =
    subst (λ (c : CheckedProtocol). IsProper c.protocol) (sym holds.4)
    (well_formed-proper holds.0 holds.3)

-- the protocol of an image is proper
pub booted-proper : (f : Text) (booted : Booted) → HoldsImage f booted
    → IsProper booted.checked.protocol
booted-proper f booted holds =
    subst (λ (c : CheckedProtocol). IsProper c.protocol) (sym holds.3)
    (well_formed-proper holds.0 holds.1.well_formed)

-- each configuration of each run of the controllers of a proper protocol is refined
refined-run : (n k : ℕ) (mode : Mode) (checked : CheckedProtocol) → IsProper checked.protocol
    → ((1 ≤ n) × (n ≤ 64)) × ((2 ≤ k) × (k ≤ 64)) → (steps : List Step)
    → AllByRecursion (IsRefined (run_start checked mode n k).setting)
    (run (run_start checked mode n k).setting (run_start checked mode n k).config steps)
refined-run n k mode checked proper numbers steps =
    IsRefined-run (run_start checked mode n k).setting n proper
    numbers.0.0 numbers.0.1 numbers.1.0 numbers.1.1 steps

-- so it is of what these words mean, where the file holds this protocol
pub run-refines : (n k : ℕ) (mode : Mode) → (describe (Some (Run n k mode))).Numbers
    → (f : Text) (checked : CheckedProtocol) → HoldsProtocol f checked → (steps : List Step)
    → AllByRecursion (IsRefined (run_start checked mode n k).setting)
    (run (run_start checked mode n k).setting (run_start checked mode n k).config steps)
run-refines n k mode numbers f checked holds =
    refined-run n k mode checked (held-proper f checked holds) numbers

-- and where the file is this image
pub boot-refines : (n k : ℕ) → (describe (Some (Boot n k))).Numbers
    → (f : Text) (booted : Booted) → HoldsImage f booted → (steps : List Step)
    → AllByRecursion (IsRefined (run_start booted.checked booted.mode n k).setting)
    (run (run_start booted.checked booted.mode n k).setting
    (run_start booted.checked booted.mode n k).config steps)
boot-refines n k numbers f booted holds =
    refined-run n k booted.mode booted.checked (booted-proper f booted holds) numbers

-- Where a run that a number chooses, of what these words mean, stopped before its last turn, no
-- event takes place in what its last configuration means, where the file holds this.
pub driving-still : (d : Driving) → (describe (Some (Drive d))).Numbers
    → (f : Text) (checked : CheckedProtocol) → HoldsProtocol f checked
    → (drive_run (driven_setting d checked) d.remotes d.turns d.seed).stopped ≡ true
    → IsStill checked.protocol (abstraction checked.protocol
    (config_at_end (driven_setting d checked) (start checked.protocol d.remotes)
    (drive_run (driven_setting d checked) d.remotes d.turns d.seed).steps))
driving-still d numbers f checked holds stopped =
    stopped-still (driven_setting d checked) d.remotes (held-proper f checked holds)
    numbers.0.0 numbers.0.1 numbers.1.0 numbers.1.1 d.turns d.seed stopped
