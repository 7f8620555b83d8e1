-- A row's place and trigger, of a process, and the value with which it completes its last guard.
use Rattle.proto_model.specs.declared.numbered.Value.{Value}
use Rattle.controller_table.specs.declared.rows.Place.{Place}
use Rattle.controller_table.specs.declared.rows.Trigger.{Trigger}
use Rattle.async_shape.specs.Fired.{Mover, Firing}

-- the process fires the row with this place and trigger, and this value
abbrev pub firing : Mover → Place → Trigger → Value → Firing
firing mover at on v = record { mover = mover; at = at; on = on; value = v }
