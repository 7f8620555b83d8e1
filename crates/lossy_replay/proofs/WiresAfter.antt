-- The wires after a step are those that its put and its take leave, and where the machine stands is
-- told by its parts.
use Rattle.std.proofs.Common.{◌≡◌, ℕ, zero, suc, List, ◌∷◌, length, replicate, Option, Some, None}
use Rattle.std.proofs.Common.{unwrap_or, refl, sym, ap, ◌∙◌}
use Rattle.std.specs.Option.{option_map, option_and_then}
use Rattle.std.proofs.lemmas.List.{length-map, length-replicate}
use Rattle.controller_table.specs.Sound.{Tabled, protocol_of}
use Rattle.ordered_links.specs.Link.{Link}
use Rattle.async_shape.specs.Setting.{Setting}
use Rattle.ordered_links.specs.Lists.{LinkPair, no_packets}
use Rattle.async_shape.specs.Config.{Config, start}
use Rattle.async_shape.specs.Outcome.{Put}
use Rattle.async_shape.specs.Next.{StepOutcome, config_after, outcome, next, put_of, take_of}
use Rattle.async_shape.specs.declared.step.Step.{Step}
use Rattle.async_machine.specs.Effects.{DidPut, DidTake, Changed, ChangedBy, IsStep}
use Rattle.async_machine.specs.Standing.{Standing, setting_of, setting, config}
use Rattle.async_machine.specs.declared.stepped.Stepped.{Stepped}
use Rattle.async_machine.specs.declared.stepped.Stepped.TheVariants.{Moved, Refused}
use Rattle.faulty_link.specs.Wire.{WirePair, no_wires, pair_lists, wire_lists}
use Rattle.faulty_link.specs.Moves.{IsWirePut, IsWireTaken}
use Rattle.lossy_replay.specs.LossyTrace.{LossyRunning, wires_put, wires_left, wires_after}
use Rattle.lossy_replay.specs.LossyTrace.{after_taken, lossy_start}
use Rattle.lossy_replay.specs.Standing.{running_of}

-- ---- the wires

wires-put : (put : Option Put) (old new : List WirePair) → DidPut IsWirePut old put new
    → new ≡ wires_put put old
wires-put None old new did = did
wires-put (Some put) old new did = did

wires-left : (link : Option Link) (old new : List WirePair) → DidTake IsWireTaken old link new
    → new ≡ wires_left link old
wires-left None old new did = did
wires-left (Some link) old new did = did.1.1

-- This put was made and then this take, so the wires are those after both.
wires-changed : (put : Option Put) (link : Option Link) (old new : List WirePair)
    → Changed IsWirePut IsWireTaken old put link new → new ≡ wires_after put link old
wires-changed put link old new did =
    wires-left link did.0 new did.2 ∙ ap (wires_left link) (wires-put put old did.0 did.1)

-- Where there is no outcome, nothing is put or taken.
none-changed : (c : Config) (wires : List WirePair) (o : Option StepOutcome)
    → option_map (config_after c) o ≡ None
    → wires_after (option_and_then (λ o. o.put) o) (option_and_then (λ o. o.takes_from) o) wires
    ≡ wires
none-changed c wires None none = refl
none-changed c wires (Some o) none = absurd (cc)

-- ---- where the machine stands

-- a machine of these parts
abbrev running_with : Setting → Config → List WirePair → LossyRunning
running_with setting c wires = record { setting = setting; config = c; wires = wires }

pub same-running : (setting setting_at : Setting) (c c_at : Config) (wires wires_at : List WirePair)
    → setting ≡ setting_at → c ≡ c_at → wires ≡ wires_at
    → running_with setting c wires ≡ running_with setting_at c_at wires_at
same-running setting setting_at c c_at wires wires_at is_setting is_config are_wires =
    rw (is_setting, is_config, are_wires) refl

module _ (old new : Standing (List WirePair)) (s : Step)
    (table : new.table ≡ old.table) (slots : new.slots ≡ old.slots) where
  -- the machine runs the same table with as many slots
  same-setting : setting new ≡ setting old
  same-setting =
      ap (λ (t : Tabled). setting_of t new.slots) table ∙ ap (setting_of old.table) slots

  -- The machine took the step, or refused it, and stands where the step leads.
  pub step-leads : (stepped : Stepped)
      → IsStep stepped (config wire_lists old) (config wire_lists new)
      (next (setting old) (config wire_lists old) s)
      → ChangedBy IsWirePut IsWireTaken stepped old.links
      (put_of (setting old) (config wire_lists old) s)
      (take_of (setting old) (config wire_lists old) s) new.links
      → running_of new ≡ after_taken (running_of old) s
  step-leads Moved leads changed =
      let c = config wire_lists old in
      same-running (setting new) (setting old) (config wire_lists new) _ new.links _ same-setting
      (sym (ap (λ (o : Option Config). unwrap_or o c) leads))
      (wires-changed (put_of (setting old) c s) (take_of (setting old) c s) old.links new.links
      changed)
  step-leads Refused leads changed =
      let c = config wire_lists old in
      same-running (setting new) (setting old) (config wire_lists new) _ new.links _ same-setting
      (leads.1 ∙ sym (ap (λ (o : Option Config). unwrap_or o c) leads.0))
      (changed ∙ sym (none-changed c old.links (outcome (setting old) c s) leads.0))

-- ---- the start

-- Where nothing was put on any wire, all links are empty.
pub lists-empty : (n : ℕ) → wire_lists (replicate n no_wires) ≡ replicate n no_packets
lists-empty zero = refl
lists-empty (suc n) = ap (λ (rest : List LinkPair). no_packets ∷ rest) (lists-empty n)

module _ (links : List WirePair) (n : ℕ) (are : links ≡ replicate n no_wires) where
  -- there are as many of them as remotes
  pub lists-count : length (wire_lists links) ≡ n
  lists-count =
      ap (λ (wires : List WirePair). length (wire_lists wires)) are
      ∙ length-map (replicate n no_wires) pair_lists ∙ length-replicate n no_wires

  pub lists-are_empty : wire_lists links ≡ replicate (length (wire_lists links)) no_packets
  lists-are_empty =
      ap wire_lists are ∙ lists-empty n
      ∙ ap (λ (m : ℕ). replicate m no_packets) (sym lists-count)

  -- A machine over such links and this table, at the start.
  pub starts-so : (table : Tabled) (machine : Standing (List WirePair)) (k : ℕ)
      → machine.table ≡ table → machine.slots ≡ k → machine.links ≡ links
      → config wire_lists machine ≡ start (protocol_of table) (length (wire_lists links))
      → running_of machine ≡ lossy_start (protocol_of table) table.mode n k
  starts-so table machine k has_table has_slots has_links starts =
      same-running (setting machine) (setting_of table k) (config wire_lists machine)
      (start (protocol_of table) n) machine.links (replicate n no_wires)
      (ap (λ (t : Tabled). setting_of t machine.slots) has_table ∙ ap (setting_of table) has_slots)
      (starts ∙ ap (start (protocol_of table)) lists-count)
      (has_links ∙ are)
