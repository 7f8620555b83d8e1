-- What the home sends by a guard and a message that were found.
use Rattle.std.proofs.Common.{◌≡◌, ℕ, true, List, Option, Some, refl}
use Rattle.proto_model.specs.Guards.{guard_at}
use Rattle.proto_model.specs.Values.{is_open}
use Rattle.proto_model.specs.RendezvousNext.{given}
use Rattle.proto_model.specs.declared.numbered.Value.{Value}
use Rattle.proto_model.specs.declared.numbered.Rule.{Rule}
use Rattle.controller_table.specs.Rows.{guard_id}
use Rattle.slot_reserve.specs.declared.held.Held.{Held}
use Rattle.async_shape.specs.Config.{owed_to}
use Rattle.async_shape.specs.HomeSteps.{home_send, sent_to}
use Rattle.async_shape.specs.Requests.{is_target_of}
use Rattle.async_shape.specs.Setting.{Setting}
use Rattle.async_shape.specs.declared.config.HomeState.{HomeState}
use Rattle.async_shape.specs.declared.config.HomePlace.TheVariants.{Idle}

-- The home sends the message by the guard: as a reply where it owes one, else as a request.
pub home_send-found : (setting : Setting) (n : ℕ) (home : HomeState) (held : List Held)
    (g j state : ℕ) (rule : Rule) (message : ℕ × Value) (debt : Option ℕ) → home.place ≡ Idle state
    → guard_at setting.protocol.home state g ≡ Some rule → is_open home.vars rule ≡ true
    → is_target_of n home.vars rule j ≡ true
    → given setting.protocol.messages home.vars rule.kind ≡ Some message → owed_to home j ≡ debt
    → home_send setting n home held g j
    ≡ sent_to setting n home held j (guard_id state g) rule debt message
unfolding home_send
home_send-found setting n home held g j state rule message debt place there opens aims gives owes =
    rw (place, there, opens, aims, gives, owes) refl
