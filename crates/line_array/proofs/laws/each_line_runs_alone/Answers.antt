-- Each line begins at the start of its own controllers, and is led by its own steps.
use Rattle.std.proofs.Common.{◌∙◌, ap, Option}
use Rattle.std.specs.Option.{option_map}
use Rattle.async_shape.specs.Config.{Config, start}
use Rattle.async_shape.specs.Run.{config_at_end}
use Rattle.line_array.specs.ArrayConfig.{array_start}
use Rattle.line_array.specs.ArrayNext.{steps_meant}
use Rattle.line_array.proofs.RunsAlone.{steps-lead, slice_get-replicate}
use Rattle.line_array.proofs.laws.each_line_runs_alone.Goals as goal

pub returns : goal.returns
returns c setting n lines steps a within =
    let first = start setting.protocol n in
    let array = array_start setting.protocol n lines in
    steps-lead setting a array steps
    ∙ ap (λ (line : Option Config). option_map (λ line. config_at_end setting line
    (steps_meant setting a array steps)) line) (slice_get-replicate lines a first within)
