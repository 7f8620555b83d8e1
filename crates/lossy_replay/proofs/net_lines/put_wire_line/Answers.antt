-- The line is put together.
use Rattle.std.proofs.Common.{◌++◌, ℕ, codes, decimal, subst}
use Rattle.proto_model.specs.Continued.{Continues}
use Rattle.proto_model.proofs.Continuing.{Continues-append}
use Rattle.faulty_link.specs.Moves.{link_on}
use Rattle.faulty_link.specs.Wire.{wire_on}
use Rattle.run_replay.specs.StateLines.{bracketed}
use Rattle.lossy_replay.specs.LossyTrace.{link_words, frame_texts}
use Rattle.lossy_replay.proofs.net_lines.put_wire_line.Goals as goal

pub returns : goal.returns
returns c =
    let link = link_on c.args.j c.args.way in
    let wire = wire_on link c.args.links.now in
    let last = (codes " flight" ++ bracketed (frame_texts wire.flight)) ++ codes "\n" in
    let behind_put = codes " got " ++ (decimal wire.got ++ last) in
    let behind_link = codes " put " ++ (decimal wire.put ++ behind_put) in
    Continues-append (codes "  link ") (link_words link ++ behind_link) _ _ _ _ _ _
    c.append-so_far.ensures
    (Continues-append (link_words link) behind_link _ _ _ _ _ _ c.put_link_words-so_far.ensures
    (Continues-append (codes " put ") (decimal wire.put ++ behind_put) _ _ _ _ _ _
    c.append-so_far-2.ensures
    (Continues-append (decimal wire.put) behind_put _ _ _ _ _ _
    (subst (λ (n : ℕ). Continues (decimal n) c.append-so_far-2.result
    c.append-so_far-2.new.out.items c.append_number-so_far.result
    c.append_number-so_far.new.out.items) c.put_count.ensures c.append_number-so_far.ensures)
    (Continues-append (codes " got ") (decimal wire.got ++ last) _ _ _ _ _ _
    c.append-so_far-3.ensures
    (Continues-append (decimal wire.got) last _ _ _ _ _ _
    (subst (λ (n : ℕ). Continues (decimal n) c.append-so_far-3.result
    c.append-so_far-3.new.out.items c.append_number-so_far-2.result
    c.append_number-so_far-2.new.out.items) c.got_count.ensures c.append_number-so_far-2.ensures)
    (Continues-append (codes " flight" ++ bracketed (frame_texts wire.flight)) (codes "\n")
    _ _ _ _ _ _ c.put_flight-so_far.ensures c.append.ensures))))))
