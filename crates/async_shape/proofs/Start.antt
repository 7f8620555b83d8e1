-- The start has the shape.
use Rattle.std.proofs.Common.{◌≡◌, ◌<◌, ◌≤◌, ℕ, zero, suc, Option, None, replicate}
use Rattle.std.proofs.Common.{slice_get, option_and_then, refl, sym, subst, ◌∙◌, arith}
use Rattle.std.proofs.lemmas.List.{length-replicate, get_or-replicate}
use Rattle.proto_model.specs.Numbered.{NumberedProtocol}
use Rattle.proto_model.specs.Proper.{IsProper}
use Rattle.proto_model.specs.Values.{first_values}
use Rattle.proto_model.proofs.TypedRules.{AreOfKinds-first}
use Rattle.controller_table.specs.declared.rows.Place.TheVariants.{Comm}
use Rattle.ordered_links.specs.Lists.{no_packets}
use Rattle.async_shape.specs.Setting.{Setting}
use Rattle.async_shape.specs.Config.{start}
use Rattle.async_shape.specs.View.{View, nobody, view_at}
use Rattle.async_shape.specs.Phase.{Resting, Case}
use Rattle.async_shape.specs.Shape.{IsWhole, IsShaped}
use Rattle.async_shape.specs.declared.config.RemoteState.{RemoteState}
use Rattle.async_shape.proofs.Frame.{view_of, view_at-of}

-- a remote at the start
abbrev resting : NumberedProtocol → RemoteState
resting protocol = record {
  place = Comm protocol.remote.start;
  vars = first_values protocol.remote.vars;
  slot = None;
}

-- the view of each remote at the start
abbrev resting_view : NumberedProtocol → View
resting_view protocol = view_of (resting protocol) None no_packets None None

-- a remote that rests is in a case
Case-resting : (setting : Setting) → IsProper setting.protocol
    → Case setting (resting_view setting.protocol)
Case-resting setting proper = record {
  in_phase = record {
    phase = Resting;
    has = record {
      awaited = refl;
      up = refl;
      down = refl;
      slot = refl;
      held = refl;
      owed = refl;
    };
    fits = refl;
  };
  typed = record {
    place = proper.remote.start;
    vars = AreOfKinds-first setting.protocol.remote.vars proper.remote.vars;
    slot = tt;
    up = tt;
    down = tt;
  };
}

-- at the start nothing is owed
owed-nothing : (n j : ℕ) → ◌≡◌ {A = Option ℕ}
    (option_and_then (λ (debt : Option ℕ). debt) (slice_get (replicate n None) j)) None
owed-nothing zero j = refl
owed-nothing (suc n) zero = refl
owed-nothing (suc n) (suc j) = owed-nothing n j

-- the part for the whole holds at the start
IsWhole-start : (setting : Setting) (n : ℕ) → IsProper setting.protocol → 1 ≤ n → n ≤ 64
    → 2 ≤ setting.slots → setting.slots ≤ 64 → IsWhole setting (start setting.protocol n)
IsWhole-start setting n proper some few two most =
    let count = length-replicate n (resting setting.protocol) in
    let back = sym count in
    let no_debt : Option ℕ = None in
    let nothing : 0 ≤ setting.slots = omega arith in
    record {
      some_remotes = subst (λ (m : ℕ). 1 ≤ m) back some;
      few_remotes = subst (λ (m : ℕ). m ≤ 64) back few;
      some_slots = two;
      few_slots = most;
      links = length-replicate n no_packets ∙ back;
      debts = length-replicate n no_debt ∙ back;
      home = record { there = proper.home.start };
      home_vars = AreOfKinds-first setting.protocol.home.vars proper.home.vars;
      held = record { few = nothing; senders = tt; one_of_each = tt; typed = tt };
    }

-- The start has the shape.
pub IsShaped-start : (setting : Setting) (n : ℕ) → IsProper setting.protocol → 1 ≤ n → n ≤ 64
    → 2 ≤ setting.slots → setting.slots ≤ 64 → IsShaped setting (start setting.protocol n)
unfolding IsShaped
IsShaped-start setting n proper some few two most =
    let count = length-replicate n (resting setting.protocol) in
    record {
      whole = IsWhole-start setting n proper some few two most;
      cases = λ j within.
          let there : j < n = subst (λ (m : ℕ). j < m) count within in
          let same : view_at setting.protocol (start setting.protocol n) j
          ≡ resting_view setting.protocol =
          view_at-of setting.protocol (start setting.protocol n) j (resting setting.protocol) None
          no_packets None None (get_or-replicate n j (resting setting.protocol) nobody there) refl
          (get_or-replicate n j no_packets no_packets there) refl (owed-nothing n j) in
          subst (Case setting) (sym same) (Case-resting setting proper);
    }
