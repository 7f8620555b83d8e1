-- The bodies of a table show a process as those of its protocol do: where guards go is no part of
-- what is shown.
use Rattle.std.proofs.Common.{◌≡◌, ℕ, ◌+◌, ◌<◌, List, [], ◌∷◌, ◌++◌, Option, Some, None, codes}
use Rattle.std.proofs.Common.{refl, sym, ap, subst, ◌∙◌}
use Rattle.std.specs.List.{AllByRecursion}
use Rattle.rv_base.specs.Lists.{flat_from}
use Rattle.rv_base.proofs.Lists.{length-map_from, AllByRecursion-weaker}
use Rattle.proto_model.specs.Tokens.{Text}
use Rattle.proto_model.specs.Rendezvous.{IsPartOf}
use Rattle.proto_model.specs.Texts.{process_text, vars_text, rv_line}
use Rattle.proto_model.specs.declared.numbered.Body.{Body}
use Rattle.proto_model.specs.declared.rendezvous.Part.{Part}
use Rattle.proto_model.specs.declared.rendezvous.RvConfig.{RvConfig}
use Rattle.schedule_replay.specs.RvPlay.{numbered_line}
use Rattle.controller_table.specs.Sound.{Tabled, with_nexts, next_by, protocol_of}
use Rattle.controller_table.specs.declared.rows.GuardId.{GuardId}
use Rattle.controller_table.specs.declared.controller.Controller.{Controller}
use Rattle.async_shape.specs.Config.{Config}
use Rattle.abstraction_map.specs.Abstraction.{abstraction}
use Rattle.run_replay.specs.RunTrace.{abstract_lines}
use Rattle.run_replay.proofs.Shown.{state_name-with_nexts}

module _ (next : GuardId → ℕ) (body : Body) where
  -- A process that stands in the body with other nexts stands in the body.
  pub IsPartOf-with_nexts : (part : Part) → IsPartOf (with_nexts next body) part
      → IsPartOf body part
  IsPartOf-with_nexts part stands = record {
    state = subst (λ (n : ℕ). part.state < n) (length-map_from _ 0 body.states) stands.state;
    vars = stands.vars;
  }

  -- So does each of several processes.
  pub all-with_nexts : (parts : List Part) → AllByRecursion (IsPartOf (with_nexts next body)) parts
      → AllByRecursion (IsPartOf body) parts
  all-with_nexts parts all =
      AllByRecursion-weaker (IsPartOf (with_nexts next body)) (IsPartOf body) parts
      IsPartOf-with_nexts all

  -- Its line is the same.
  rv_line-with_nexts : (part : Part) (remote : Option ℕ)
      → rv_line (with_nexts next body) part remote ≡ rv_line body part remote
  rv_line-with_nexts part remote =
      ap (λ (name : Text). process_text remote
      ++ (name ++ (vars_text body.vars part.vars ++ codes "\n")))
      (state_name-with_nexts next body part.state)

  -- So are those of several processes.
  lines-with_nexts : (from : ℕ) (parts : List Part)
      → flat_from (numbered_line (with_nexts next body)) from parts
      ≡ flat_from (numbered_line body) from parts
  lines-with_nexts from [] = refl
  lines-with_nexts from (part ∷ parts) =
      let rest = flat_from (numbered_line (with_nexts next body)) (from + 1) parts in
      ap (λ (text : Text). text ++ rest) (rv_line-with_nexts part (Some from))
      ∙ ap (λ (text : Text). rv_line body part (Some from) ++ text)
      (lines-with_nexts (from + 1) parts)

-- The lines of what a configuration stands for, by the bodies of the table.
pub abstract_lines-by_table : (table : Tabled) (c : Config) (home remote : Controller)
    (stands : RvConfig) → home ≡ table.home → remote ≡ table.remote
    → stands ≡ abstraction (protocol_of table) c
    → rv_line home.body stands.home None ++ flat_from (numbered_line remote.body) 0 stands.remotes
    ≡ abstract_lines (protocol_of table) c
abstract_lines-by_table table c home remote stands is_home is_remote is =
    let at = abstraction (protocol_of table) c in
    let first : rv_line home.body stands.home None ≡ rv_line (protocol_of table).home at.home None =
    ap (λ (h : Controller). rv_line h.body stands.home None) is_home
    ∙ ap (λ (config : RvConfig). rv_line table.home.body config.home None) is
    ∙ sym (rv_line-with_nexts (next_by table.home.rows) table.home.body at.home None) in
    let rest : flat_from (numbered_line remote.body) 0 stands.remotes
    ≡ flat_from (numbered_line (protocol_of table).remote) 0 at.remotes =
    ap (λ (r : Controller). flat_from (numbered_line r.body) 0 stands.remotes) is_remote
    ∙ ap (λ (config : RvConfig). flat_from (numbered_line table.remote.body) 0 config.remotes) is
    ∙ sym (lines-with_nexts (next_by table.remote.rows) table.remote.body 0 at.remotes) in
    ap (λ (text : Text). text ++ flat_from (numbered_line remote.body) 0 stands.remotes) first
    ∙ ap (λ (text : Text). rv_line (protocol_of table).home at.home None ++ text) rest
