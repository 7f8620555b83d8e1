-- There is one packet more on the link exactly where the step put one.
use Rattle.std.proofs.Common.{◌≤◌, ℕ, List, None, nat_lt, if◌then◌else◌, sym, ap, ap₂, ◌∙◌, subst}
use Rattle.ordered_links.specs.Lists.{LinkPair}
use Rattle.async_machine.specs.Standing.{setting}
use Rattle.line_array.specs.Noted.{link_if, count_if}
use Rattle.line_array.specs.Standing.{ring_config}
use Rattle.line_array.proofs.NotedStep.{noted, few-counted}
use Rattle.line_array.proofs.noting.step_noting.Goals as goal

pub count_on-before-requires : goal.count_on-before-requires
count_on-before-requires c =
    let machine = c.args.machine.now in
    let link = c.put_link-link.result in
    subst (λ (links : List LinkPair). count_if links link ≤ 3) (sym c.links.ensures)
    (few-counted (setting machine) (ring_config machine) link c.shaped.ensures)

pub count_on-requires : goal.count_on-requires
count_on-requires c =
    let machine = c.step.new.self in
    let link = c.put_link-link.result in
    subst (λ (links : List LinkPair). count_if links link ≤ 3) (sym c.links-in-Moved.ensures)
    (few-counted (setting machine) (ring_config machine) link c.shaped-in-Moved.ensures)

pub returns-in-Moved-clause-step : goal.returns-in-Moved-clause-step
returns-in-Moved-clause-step c =
    let link = c.put_link-link.result in
    let count = λ (links : List LinkPair). count_if links link in
    let was = c.count_on-before.ensures ∙ ap count c.links.ensures in
    let is = c.count_on.ensures ∙ ap count c.links-in-Moved.ensures in
    let grown = λ (m n : ℕ). link_if (if nat_lt m n then link else None) in (
      c.in-Moved.ensures.step,
      ap link_if c.grown.ensures ∙ ap₂ grown was is
          ∙ noted (setting c.args.machine.now) (ring_config c.args.machine.now)
          (ring_config c.step.new.self) c.args.step link c.shaped.ensures c.put_link-link.ensures
          c.in-Moved.ensures.step,
    )
