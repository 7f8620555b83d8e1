-- The derived comparison of keys tells whether two keys are the same.
use Rattle.std.proofs.Common.{◌≡◌, true, ◌&&◌, rules, arith, sym, ◌∙◌}
use Rattle.std.proofs.lemmas.Grind.{common_steps}
use Rattle.std.proofs.lemmas.Bool.{and_parts}
use Rattle.controller_table.specs.declared.index.Key.{Key}
use Rattle.controller_table.specs.declared.rows.Place.{Place}
use Rattle.controller_table.specs.declared.rows.Trigger.{Trigger}
use Rattle.controller_table.specs.contracts.index.KeyPartialEq.TheImpl.{ghosts}
use Rattle.controller_table.specs.contracts.rows.PlacePartialEq.TheImpl as place
use Rattle.controller_table.specs.contracts.rows.TriggerPartialEq.TheImpl as trigger

same_place-same : (a b : Place) → place.ghosts.eq a b ≡ true → a ≡ b
same_place-same a b e = grind (arith, common_steps)

same_trigger-same : (a b : Trigger) → trigger.ghosts.eq a b ≡ true → a ≡ b
same_trigger-same a b e = grind (arith, common_steps)

same_place-itself : (a : Place) → place.ghosts.eq a a ≡ true
same_place-itself a = grind (arith, common_steps)

same_trigger-itself : (a : Trigger) → trigger.ghosts.eq a a ≡ true
same_trigger-itself a = grind (arith, common_steps)

same_key-parts : (a b : Key)
    → ghosts.eq a b ≡ (place.ghosts.eq a.at b.at && trigger.ghosts.eq a.on b.on)
same_key-parts a b = search rules

pub same_key-same : (a b : Key) → ghosts.eq a b ≡ true → (a.at ≡ b.at) × (a.on ≡ b.on)
same_key-same a b e =
    let both = and_parts (place.ghosts.eq a.at b.at) (trigger.ghosts.eq a.on b.on)
    (sym (same_key-parts a b) ∙ e) in
    (same_place-same a.at b.at both.0, same_trigger-same a.on b.on both.1)

pub same_key-itself : (a b : Key) → a.at ≡ b.at → a.on ≡ b.on → ghosts.eq a b ≡ true
same_key-itself a b at on =
    rw (same_key-parts a b, at, on, same_place-itself b.at) (same_trigger-itself b.on)
