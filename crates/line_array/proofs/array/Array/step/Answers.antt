-- The step of the line that is meant is the step of the array.
use Rattle.std.proofs.Common.{◌≡◌, ℕ, ◌<◌, List, Some, set, sym, ap, ◌∙◌, subst, refl}
use Rattle.std.proofs.lemmas.List.{set-get_or}
use Rattle.ordered_links.specs.Lists.{LinkPair}
use Rattle.async_machine.specs.Standing.{Standing}
use Rattle.line_array.specs.ArrayNext.{meant}
use Rattle.line_array.specs.Standing.{array_config}
use Rattle.line_array.proofs.ArraySteps.{machine-within, put-room_noted, take-room_noted}
use Rattle.line_array.proofs.ArraySteps.{array-next, array-after, array-refused}
use Rattle.line_array.proofs.array.Array.step.Goals as goal
use Rattle.line_array.proofs.array.Array.step.Goals.{In-Some}

-- what is meant
means : (c : In-Some) → meant (array_config c.self.inside.machines.items c.self.inside.shared.pairs)
    c.args.step ≡ Some (c.in-Some.a, c.in-Some.own)
means c = sym (rw (← c.self.view_is) at c.in-Some.ensures)

pub index_mut-requires : goal.index_mut-requires
index_mut-requires c =
    let self = c.self.inside in
    let within =
    machine-within self.table.now self.slots self.machines.items self.shared c.self.invariant
    c.args.step c.in-Some.a c.in-Some.own (means (goal.at.index_mut-requires c).In-Some) in
    subst (λ (n : ℕ). c.in-Some.a < n) (sym self.machines.ok.0) within

pub note-requires-clause-put : goal.note-requires-clause-put
note-requires-clause-put c =
    let self = c.self.inside in
    put-room_noted self.table.now self.slots self.machines.items self.shared c.self.invariant
    c.args.step c.in-Some.a c.in-Some.own (means (goal.at.note-requires-clause-put c).In-Some)
    c.index_mut.result.now c.index_mut.ensures.value c.step_noting.new.machine c.in-Moved.link
    c.in-Moved.ensures.step.0 c.in-Moved.ensures.step.1

pub note-requires-clause-take : goal.note-requires-clause-take
note-requires-clause-take c =
    let self = c.self.inside in
    take-room_noted self.table.now self.slots self.machines.items self.shared c.self.invariant
    c.args.step c.in-Some.a c.in-Some.own (means (goal.at.note-requires-clause-take c).In-Some)
    c.index_mut.result.now c.index_mut.ensures.value c.step_noting.new.machine c.in-Moved.link
    c.in-Moved.ensures.step.0 c.in-Moved.ensures.step.1

pub invariant_of-self : goal.invariant_of-self
invariant_of-self c =
    let self = c.self.inside in
    array-after self.table.now self.slots self.machines.items self.shared c.self.invariant
    c.args.step c.in-Some.a c.in-Some.own (means (goal.at.invariant_of-self c).In-Some)
    c.index_mut.result.now c.index_mut.ensures.value c.step_noting.new.machine c.in-Moved.link
    c.in-Moved.ensures.step.0 c.in-Moved.ensures.step.1 c.note.new.self c.note.ensures.pairs
    c.note.ensures.kept c.in-Moved.ensures.kept

pub returns-in-Moved-clause-step : goal.returns-in-Moved-clause-step
returns-in-Moved-clause-step c =
    let self = c.self.inside in
    rw (← c.self.view_is)
    (array-next self.table.now self.slots self.machines.items self.shared c.self.invariant
    c.args.step c.in-Some.a c.in-Some.own
    (means (goal.at.returns-in-Moved-clause-step c).In-Some) c.index_mut.result.now
    c.index_mut.ensures.value c.step_noting.new.machine c.in-Moved.link
    c.in-Moved.ensures.step.0 c.in-Moved.ensures.step.1 c.note.new.self c.note.ensures.pairs
    c.note.ensures.kept c.in-Moved.ensures.kept)

pub returns-in-Refused-clause-step : goal.returns-in-Refused-clause-step
returns-in-Refused-clause-step c =
    let self = c.self.inside in
    let machines = self.machines.items in
    let a = c.in-Some.a in
    let same : c.step_noting.new.machine ≡ c.index_mut.result.now =
    c.in-Refused.ensures.refused refl in
    let all : set machines a c.step_noting.new.machine ≡ machines =
    ap (λ (m : Standing (List LinkPair)). set machines a m) (same ∙ c.index_mut.ensures.value)
    ∙ set-get_or machines a c.index_mut.result.now in
    rw (← c.self.view_is) (
      array-refused self.table.now self.slots machines self.shared c.self.invariant c.args.step a
          c.in-Some.own (means (goal.at.returns-in-Refused-clause-step c).In-Some)
          c.index_mut.result.now c.index_mut.ensures.value c.in-Refused.ensures.step.0,
      ap (λ (ms : List (Standing (List LinkPair))). array_config ms self.shared.pairs) all,
    )
