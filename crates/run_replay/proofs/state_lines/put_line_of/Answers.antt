-- The line's pieces are written one after the other.
use Rattle.std.proofs.Common.{◌++◌, map, slice_index_or}
use Rattle.std.specs.Prelude.{Some, codes}
use Rattle.proto_model.specs.Texts.{process_text, vars_text}
use Rattle.proto_model.proofs.Continuing.{Continues-append}
use Rattle.controller_table.specs.Sound.{protocol_of}
use Rattle.ordered_links.specs.Lists.{links_at}
use Rattle.async_shape.specs.View.{nobody}
use Rattle.run_replay.specs.StateLines.{remote_place_text, bracketed, slot_texts, packet_text}
use Rattle.run_replay.specs.StateLines.{remote_line_of}
use Rattle.run_replay.proofs.Shown.{line-joined}
use Rattle.schedule_replay.proofs.Chained.{grown}
use Rattle.run_replay.proofs.state_lines.put_line_of.Goals as goal

pub returns : goal.returns
returns g c =
    let machine = c.args.machine.now in
    let j = c.args.j in
    let protocol = protocol_of machine.table in
    let body = protocol.remote in
    let remote = slice_index_or machine.remotes j nobody in
    let links = links_at (g.L.Links.lists machine.links) j in
    let packets = packet_text protocol.messages in
    let process = process_text (Some j) in
    let place = remote_place_text body remote.place in
    let vars = vars_text body.vars remote.vars in
    let slot = bracketed (slot_texts protocol.messages remote.slot) in
    let up = bracketed (map packets links.up) in
    let down = bracketed (map packets links.down) in
    let on_links = codes " up" ++ (up ++ (codes " down" ++ down)) in
    grown (process ++ (place ++ vars)) (codes " slot" ++ (slot ++ (on_links ++ codes "\n")))
    (remote_line_of protocol (g.L.Links.lists machine.links) j remote) _ _ _ _ _ _
    (line-joined process place vars slot up down (codes " slot") (codes " up") (codes " down")
    (codes "\n"))
    c.put_standing-so_far.ensures
    (Continues-append (codes " slot") (slot ++ (on_links ++ codes "\n")) _ _ _ _ _ _
    c.append-so_far.ensures
    (Continues-append slot (on_links ++ codes "\n") _ _ _ _ _ _ c.put_slot_of-so_far.ensures
    (Continues-append on_links (codes "\n") _ _ _ _ _ _ c.put_links-so_far.ensures
    c.append.ensures)))
