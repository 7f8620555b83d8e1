-- A front of the text, and then a front of its rest, are a longer front.
use Rattle.std.proofs.Common.{arith, take, drop, ap, length, ◌-◌, ◌∙◌, length-drop}
use Rattle.std.specs.Io.KnownBytes.{append_known}
use Rattle.std.proofs.lemmas.List.{take_rest}
use Rattle.rv_base.proofs.Moved.{append_known-append, take-append-rest}
use Rattle.rv_base.proofs.whole.write_whole.Goals as goal

pub loop-done-preserved : goal.loop-done-preserved
loop-done-preserved g c =
    let text = c.args.text.now in
    let done = c.loop-done.done in
    let count = c.in-Took.count in
    let before = g.O.Sink.taken c.args.out.now in
    let piece = take count (take (length text - done) (drop done text)) in
    record {
      taken = c.in-Took.ensures.bytes.2
          ∙ (ap (λ known. append_known known piece) c.loop-done.invariant.taken
          ∙ (append_known-append before (take done text) piece
          ∙ ap (append_known before) (take-append-rest text done count)));
      same_count = c.in-Took.ensures.cause ∙ c.loop-done.invariant.same_count;
      same_wants = c.in-Took.ensures.wants ∙ c.loop-done.invariant.same_wants;
      within = let most = c.in-Took.ensures.bytes.1 in omega
          (arith, rw (take_rest text done, length-drop done text) at most);
    }
