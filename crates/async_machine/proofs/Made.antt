-- What is known of a machine in which a plan is performed: what it puts has room, and once the links
-- follow the machine stands in the next configuration.
use Rattle.std.proofs.Common.{◌≡◌, ℕ, Bool, true, false, if◌then◌else◌, List, length, Option}
use Rattle.std.proofs.Common.{Some, None, sym, subst, ap, ◌∙◌, refl}
use Rattle.std.specs.Option.{option_map, option_and_then}
use Rattle.controller_table.specs.Rows.{home_rows}
use Rattle.controller_table.specs.Sound.{Tabled}
use Rattle.controller_table.specs.declared.rows.Row.{Row}
use Rattle.slot_reserve.specs.declared.held.Held.{Held}
use Rattle.ordered_links.specs.Lists.{LinkPair}
use Rattle.async_shape.specs.Config.{Config}
use Rattle.async_shape.specs.Fired.{ByRow}
use Rattle.async_shape.specs.Next.{StepOutcome, links_put, links_left, is_in_range, outcome_of}
use Rattle.async_shape.specs.Next.{outcome, next, put_of, take_of, config_after}
use Rattle.async_shape.specs.Site.{site, arrival_link}
use Rattle.async_shape.specs.declared.config.HomeState.{HomeState}
use Rattle.async_shape.specs.declared.config.RemoteState.{RemoteState}
use Rattle.async_shape.specs.declared.step.Step.{Step}
use Rattle.async_shape.proofs.LinksAfter.{links_after-count}
use Rattle.async_shape.proofs.EveryStepFires.{shaped-by_row}
use Rattle.async_shape.proofs.EveryStepKeep.{IsShaped-next}
use Rattle.async_shape.proofs.PutsHaveRoom.{HasRoomFor, put-room}
use Rattle.async_machine.specs.Arriving.{IsLinked}
use Rattle.async_machine.specs.Moves.{HasRoom, put_said}
use Rattle.async_machine.specs.Planned.{planned_outcome, home_in, held_in, remotes_in}
use Rattle.async_machine.specs.Standing.{setting_of, config_of, IsStanding}
use Rattle.async_machine.specs.declared.planned.Planned.{Planned}
use Rattle.async_machine.specs.declared.sending.Sends.{Sends}
use Rattle.async_machine.specs.declared.sending.Sends.TheVariants as sends
use Rattle.async_machine.proofs.Bounds.{in_range-on_links}

-- room for what is said to be put is room for what is sent
room-said : (links : List LinkPair) (sends : Sends) → HasRoomFor links (put_said sends)
    → HasRoom links sends
room-said links sends.Nothing room = tt
room-said links (sends.Up j packet) room = room
room-said links (sends.Down j packet) room = room

-- what has an outcome is in range
in_range : (b : Bool) (may : Option StepOutcome) (did : StepOutcome)
    → (if b then may else None) ≡ Some did → b ≡ true
in_range true may did is = refl
in_range false may did is = absurd (cc)

-- From this machine, the plan is that of the step.
pub record IsMade (table : Tabled) (k : ℕ) (c : Config) (s : Step) (plan : Planned) : Type 0 where
  pub standing : IsStanding table k c
  pub did : outcome (setting_of table k) c s ≡ Some (planned_outcome c s plan)

module _ {table : Tabled} {k : ℕ} {c : Config} {s : Step} {plan : Planned}
    (made : IsMade table k c s plan) where
  -- There is room for the put.
  pub made-room : HasRoom c.links plan.sends
  made-room =
      room-said c.links plan.sends
      (put-room (setting_of table k) c made.standing.shaped s (planned_outcome c s plan) made.did)

  -- the step names no remote that isn't there
  made-there : is_in_range c s ≡ true
  made-there =
      in_range (is_in_range c s) (outcome_of (setting_of table k) c (arrival_link (site s)) s)
      (planned_outcome c s plan) made.did

  -- The put keeps the number of links.
  pub made-linked : (links : List LinkPair) → links ≡ links_put (put_said plan.sends) c.links
      → IsLinked (length links) s
  made-linked links put =
      subst (λ (n : ℕ). IsLinked n s)
      (sym (ap length put ∙ links_after-count (put_said plan.sends) None c.links))
      (in_range-on_links (setting_of table k) c s made.standing.shaped made-there)

  -- these are the links after the put and the take
  abbrev pub AreLeft : List LinkPair → Type 0
  AreLeft links = links ≡ links_left (arrival_link (site s)) (links_put (put_said plan.sends) c.links)

  -- The machine stands in the next configuration.
  pub made-next : (home : HomeState) (held : List Held) (remotes : List RemoteState)
      (links : List LinkPair) → home ≡ home_in plan.change c.home
      → held ≡ held_in plan.change c.held → remotes ≡ remotes_in plan.change c.remotes
      → AreLeft links
      → next (setting_of table k) c s ≡ Some (config_of home held remotes links)
  made-next home held remotes links at_home is_held at_remotes left =
      let same : config_after c (planned_outcome c s plan) ≡ config_of home held remotes links =
      rw (at_home, is_held, at_remotes, left) refl in
      ap (option_map (config_after c)) made.did ∙ ap (λ (d : Config). Some d) same

  -- That has the shape.
  pub made-standing : (d : Config) → next (setting_of table k) c s ≡ Some d → IsStanding table k d
  made-standing d leads = record {
    sound = made.standing.sound;
    shaped =
        IsShaped-next (setting_of table k) made.standing.sound.proper c d s made.standing.shaped
        leads;
  }

  -- The step is by a row of the table.
  pub made-by_row : (d : Config) → next (setting_of table k) c s ≡ Some d
      → ByRow (setting_of table k) c d s table.home.rows table.remote.rows
  made-by_row d leads =
      let setting = setting_of table k in
      let sound = made.standing.sound in
      subst (λ (rows : List Row). ByRow setting c d s rows table.remote.rows)
      (sym sound.home_rows)
      (subst (λ (rows : List Row). ByRow setting c d s (home_rows setting.protocol setting.mode) rows)
      (sym sound.remote_rows)
      (shaped-by_row setting sound.proper c d s made.standing.shaped leads))

  -- What was put, and from where a packet was taken, is what the definition says.
  pub made-put : put_of (setting_of table k) c s ≡ put_said plan.sends
  made-put = ap (option_and_then (λ (o : StepOutcome). o.put)) made.did

  -- what is taken is what arrived
  pub made-take : take_of (setting_of table k) c s ≡ arrival_link (site s)
  made-take = ap (option_and_then (λ (o : StepOutcome). o.takes_from)) made.did
