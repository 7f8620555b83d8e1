-- A remote with a full slot in a passive state answers.
use Rattle.std.proofs.Common.{◌≡◌, ℕ, Some, None, refl, sym, subst}
use Rattle.proto_model.specs.Guards.{guards_of}
use Rattle.controller_table.specs.declared.rows.Place.TheVariants.{Comm}
use Rattle.async_shape.specs.Setting.{Setting}
use Rattle.async_shape.specs.Guards.{active_guard, answering_guard}
use Rattle.async_shape.specs.RemoteSteps.{answered_by, remote_answer}
use Rattle.async_shape.specs.declared.config.RemoteState.{RemoteState}
use Rattle.async_shape.specs.declared.config.Request.{Request}
use Rattle.async_machine.specs.Planned.{RemotePlans}
use Rattle.async_machine.specs.Standing.{setting_of}
use Rattle.async_machine.proofs.remote.remote_answer.Goals as goal

remote_answer-passive : (setting : Setting) (j : ℕ) (remote : RemoteState) (state : ℕ)
    (request : Request) → remote.place ≡ Comm state → remote.slot ≡ Some request
    → active_guard (guards_of setting.protocol.remote state) ≡ None
    → remote_answer setting j remote
    ≡ Some (answered_by setting j remote request (answering_guard setting.protocol.remote remote))
unfolding remote_answer
remote_answer-passive setting j remote state request at full passive = rw (at, full, passive) refl

pub returns-in-None-clause-value : goal.returns-in-None-clause-value
returns-in-None-clause-value c k =
    let setting = setting_of c.args.table.now k in
    let j = c.args.j in
    subst (RemotePlans j (Some c.answered_by.result))
    (sym (remote_answer-passive setting j c.args.remote.now c.in-Comm.state
    c.in_ok-request.request c.in-Comm.is c.in_ok-request.was (sym c.in-None.ensures)))
    (c.answered_by.ensures.value k)
