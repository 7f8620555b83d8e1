-- The derived comparison of rows tells whether two rows are the same.
use Rattle.std.proofs.Common.{◌≡◌, Bool, true, ◌&&◌, rules, arith, sym, ◌∙◌, subst}
use Rattle.std.proofs.lemmas.Grind.{common_steps}
use Rattle.std.proofs.lemmas.Bool.{and_parts}
use Rattle.controller_table.specs.declared.rows.Place.{Place}
use Rattle.controller_table.specs.declared.rows.Trigger.{Trigger}
use Rattle.controller_table.specs.declared.rows.Puts.{Puts}
use Rattle.controller_table.specs.declared.rows.Does.{Does}
use Rattle.controller_table.specs.declared.rows.Row.{Row}
use Rattle.controller_table.specs.contracts.rows.PlacePartialEq.TheImpl as place
use Rattle.controller_table.specs.contracts.rows.TriggerPartialEq.TheImpl as trigger
use Rattle.controller_table.specs.contracts.rows.PutsPartialEq.TheImpl as puts
use Rattle.controller_table.specs.contracts.rows.DoesPartialEq.TheImpl as does
use Rattle.controller_table.specs.contracts.rows.RowPartialEq.TheImpl.{ghosts}
use Rattle.control_store.proofs.Undone.{same-parts}

same_place : (a b : Place) → place.ghosts.eq a b ≡ true → a ≡ b
same_place a b e = grind (arith, common_steps)

same_trigger : (a b : Trigger) → trigger.ghosts.eq a b ≡ true → a ≡ b
same_trigger a b e = grind (arith, common_steps)

same_puts : (a b : Puts) → puts.ghosts.eq a b ≡ true → a ≡ b
same_puts a b e = grind (arith, common_steps)

same_does : (a b : Does) → does.ghosts.eq a b ≡ true → a ≡ b
same_does a b e = grind (arith, common_steps)

place-itself : (a : Place) → place.ghosts.eq a a ≡ true
place-itself a = grind (arith, common_steps)

trigger-itself : (a : Trigger) → trigger.ghosts.eq a a ≡ true
trigger-itself a = grind (arith, common_steps)

puts-itself : (a : Puts) → puts.ghosts.eq a a ≡ true
puts-itself a = grind (arith, common_steps)

does-itself : (a : Does) → does.ghosts.eq a a ≡ true
does-itself a = grind (arith, common_steps)

same_row-parts : (a b : Row) → ghosts.eq a b
    ≡ (place.ghosts.eq a.at b.at && (trigger.ghosts.eq a.on b.on && (puts.ghosts.eq a.puts b.puts
    && (does.ghosts.eq a.does b.does && place.ghosts.eq a.to b.to))))
same_row-parts a b = search rules

pub same_row-same : (a b : Row) → ghosts.eq a b ≡ true → a ≡ b
same_row-same a b e =
    let last : Bool = place.ghosts.eq a.to b.to in
    let fourth : Bool = does.ghosts.eq a.does b.does && last in
    let third : Bool = puts.ghosts.eq a.puts b.puts && fourth in
    let second : Bool = trigger.ghosts.eq a.on b.on && third in
    let at = and_parts (place.ghosts.eq a.at b.at) second (sym (same_row-parts a b) ∙ e) in
    let on = and_parts (trigger.ghosts.eq a.on b.on) third at.1 in
    let what = and_parts (puts.ghosts.eq a.puts b.puts) fourth on.1 in
    let done = and_parts (does.ghosts.eq a.does b.does) last what.1 in
    same-parts b a.at a.on a.puts a.does a.to (same_place a.at b.at at.0)
    (same_trigger a.on b.on on.0) (same_puts a.puts b.puts what.0) (same_does a.does b.does done.0)
    (same_place a.to b.to done.1)

itself : (a : Row) → ghosts.eq a a ≡ true
itself a =
    rw (
      same_row-parts a a,
      place-itself a.at,
      trigger-itself a.on,
      puts-itself a.puts,
      does-itself a.does,
    ) (place-itself a.to)

pub same_row-equal : (a b : Row) → a ≡ b → ghosts.eq a b ≡ true
same_row-equal a b e = subst (λ (r : Row). ghosts.eq a r ≡ true) e (itself a)
