-- What is told of a move of the network is by the wires to which it leads, and the machine stands
-- where it leads.
use Rattle.std.proofs.Common.{◌≡◌, ◌<◌, ◌++◌, ℕ, Bool, true, false, if◌then◌else◌, nat_lt, List}
use Rattle.std.proofs.Common.{length, codes, Option, Some, None, unwrap_or, refl, sym, ap, ◌∙◌}
use Rattle.std.specs.Option.{option_map}
use Rattle.std.proofs.lemmas.Bool.{ltb-true}
use Rattle.std.proofs.lemmas.List.{length-map}
use Rattle.proto_model.specs.Tokens.{Text}
use Rattle.ordered_links.specs.Link.{Link}
use Rattle.async_machine.specs.Standing.{Standing, setting, config}
use Rattle.faulty_link.specs.Wire.{WirePair, pair_lists, wire_lists, with_wire, wire_on}
use Rattle.faulty_link.specs.Moves.{IsAnswered, IsWireMove, moved, moved_wire, remote_of, way_of}
use Rattle.faulty_link.specs.Moves.{link_on, link_of}
use Rattle.faulty_link.specs.NetLines.{net_text}
use Rattle.faulty_link.specs.declared.net_step.NetStep.{NetStep}
use Rattle.faulty_link.specs.declared.net_step.NetStep.TheVariants as net
use Rattle.faulty_link.specs.declared.net_step.Way.{Way}
use Rattle.lossy_replay.specs.LossyTrace.{after_move, wire_line, net_told, net_block}
use Rattle.lossy_replay.specs.Standing.{running_of}
use Rattle.lossy_replay.proofs.WiresAfter.{same-running}

-- The answer tells whether there are wires after the move, and which.
pub answer-tells : (made : Bool) (old new : List WirePair) (next : Option (List WirePair))
    → IsAnswered made old new next → (if made then Some new else None) ≡ next
answer-tells true old new next is = sym is
answer-tells false old new next is = sym is.0

-- So the wires are those after the move.
answer-leads : (made : Bool) (old new : List WirePair) (next : Option (List WirePair))
    → IsAnswered made old new next → new ≡ unwrap_or next old
answer-leads true old new next is = sym (ap (λ (o : Option (List WirePair)). unwrap_or o old) is)
answer-leads false old new next is =
    is.1 ∙ sym (ap (λ (o : Option (List WirePair)). unwrap_or o old) is.0)

-- Where there are wires after a move, the remote that it names is there.
moved-within : (step : NetStep) (wires new : List WirePair) → moved step wires ≡ Some new
    → remote_of step < length wires
moved-within step wires new is = by (nat_lt (remote_of step) (length wires)) refl is
  where
    by : (within : Bool) → nat_lt (remote_of step) (length wires) ≡ within
        → (if within
        then option_map (λ w. with_wire (link_of step) w wires)
        (moved_wire step (wire_on (link_of step) wires))
        else None) ≡ Some new
        → remote_of step < length wires
    by true within is = ltb-true (remote_of step) (length wires) within
    by false past is = absurd (cc)

-- Where a move was made, the remote that it names is there, of as many as before.
pub made-within : (made : Bool) (step : NetStep) (old new : List WirePair)
    → IsWireMove old step made new → wire_lists new ≡ wire_lists old → made ≡ true
    → remote_of step < length new
made-within false step old new is same not = absurd (cc)
made-within true step old new is same made =
    let count : length new ≡ length old =
    sym (length-map new pair_lists) ∙ ap length same ∙ length-map old pair_lists in
    rw count (moved-within step old new is)

-- A move names a wire by its remote and its way.
link-named : (step : NetStep) → link_on (remote_of step) (way_of step) ≡ link_of step
link-named (net.Resend j on place) = refl
link-named (net.Lose j on place) = refl
link-named (net.Copy j on place) = refl
link-named (net.Pass j on place) = refl

-- What is told of a move that was made is the line of the wire that it names.
pub told-made : (made : Bool) (step : NetStep) (wires : List WirePair) (remote : ℕ) (way : Way)
    → made ≡ true → remote ≡ remote_of step → way ≡ way_of step
    → codes "net\n" ++ wire_line (link_on remote way) (wire_on (link_on remote way) wires)
    ≡ net_told step (if made then Some wires else None)
told-made made step wires remote way is_made is_remote is_way =
    ap (λ (link : Link). codes "net\n" ++ wire_line link (wire_on link wires))
    (ap (λ (j : ℕ). link_on j way) is_remote ∙ ap (link_on (remote_of step)) is_way
    ∙ link-named step)
    ∙ sym (ap (λ (b : Bool). net_told step (if b then Some wires else None)) is_made)

-- The machine made the move, or refused it, and stands where the move leads.
pub move-leads : (made : Bool) (old new : Standing (List WirePair)) (step : NetStep)
    → new ≡ record old { links = new.links } → config wire_lists new ≡ config wire_lists old
    → IsWireMove old.links step made new.links → running_of new ≡ after_move (running_of old) step
move-leads made old new step kept stands moves =
    same-running (setting new) (setting old) (config wire_lists new) (config wire_lists old)
    new.links _ (ap (λ (m : Standing (List WirePair)). setting m) kept) stands
    (answer-leads made old.links new.links (moved step old.links) moves)

-- The block of a move is its words and what is told of it.
pub move-block : (made : Bool) (old new : List WirePair) (step : NetStep) (start all : Text)
    → IsWireMove old step made new
    → all ≡ start ++ (net_text step
    ++ (codes ": " ++ net_told step (if made then Some new else None)))
    → all ≡ start ++ net_block old step
move-block made old new step start all moves written =
    written
    ∙ ap (λ (o : Option (List WirePair)). start ++ (net_text step
    ++ (codes ": " ++ net_told step o)))
    (answer-tells made old new (moved step old) moves)
