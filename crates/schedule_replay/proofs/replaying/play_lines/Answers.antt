-- Each turn keeps what was read and what was played in step, and each answer says how it ends.
use Rattle.std.proofs.Common.{◌≡◌, [], ◌∷◌, ◌++◌, false, refl, sym, ◌∙◌, ap}
use Rattle.schedule_replay.specs.Reading.{Reading}
use Rattle.schedule_replay.proofs.LinesSoFar.{HasRead-start, HasRead-few}
use Rattle.schedule_replay.proofs.PlayedSoFar.{Plays-start, Plays-asked}
use Rattle.schedule_replay.proofs.ReplayEnds.{got, halts-at-once, ask-owes, ask-few, line-owes}
use Rattle.schedule_replay.proofs.ReplayEnds.{line-plays, gets-within, ends-within}
use Rattle.schedule_replay.proofs.replaying.play_lines.Goals as goal

pub returns-in-Some-clause-plays : goal.returns-in-Some-clause-plays
returns-in-Some-clause-plays g c =
    rw c.requires.none (halts-at-once g.P.Player.play c.args.limits c.args.player.now
    (g.Q.Source.left c.args.schedule.now) (g.O.Sink.taken c.args.out.now) c.in-Some.claim
    (sym c.in-Some.ensures))

pub loop-number-init : goal.loop-number-init
loop-number-init g c = record {
  done = [];
  reads = rw c.new-lines.ensures (HasRead-start c.args.limits
      (g.Q.Source.left c.args.schedule.now));
  plays = rw c.requires.none (Plays-start g.P.Player.play c.args.limits c.args.player.now
      (g.O.Sink.taken c.args.out.now) (sym c.in_default.ensures));
  same_limits = ap (λ (r : Reading). r.limits) c.new-lines.ensures;
  at_end = λ over. absurd (let none : c.new-lines.result.ended ≡ false =
      ap (λ (r : Reading). r.ended) c.new-lines.ensures in cc);
  none_halts = sym c.in_default.ensures;
  same_read_wants = refl;
  same_write_wants = refl;
  same_reads = refl;
  same_writes = refl;
}

pub returns-in-Err-clause-plays : goal.returns-in-Err-clause-plays
returns-in-Err-clause-plays g c =
    let so_far = c.loop-number.invariant in
    let moves = ends-within c.args.limits c.loop-number.lines.limits
    c.loop-number.lines c.ask.new.lines
    (g.Q.Source.left c.loop-number.schedule) (g.Q.Source.left c.ask.new.schedule)
    c.in-Err.answer so_far.same_limits c.in-Err.ensures.moves in
    ask-owes g.P.Player.play c.args.limits c.args.player.now (g.Q.Source.left c.ask.new.schedule)
    (g.O.Sink.taken c.ask.new.out) c.ask.new.lines
    c.ask.new.kept.items c.in-Err.answer
    so_far.reads moves so_far.plays c.in-Err.ensures.bytes

pub returns-in-Err-clause-taken : goal.returns-in-Err-clause-taken
returns-in-Err-clause-taken g c =
    let so_far = c.loop-number.invariant in
    ask-few (g.Q.Source.left c.ask.new.schedule) c.ask.new.lines
    c.in-Err.answer so_far.reads (ends-within c.args.limits c.loop-number.lines.limits
    c.loop-number.lines c.ask.new.lines
    (g.Q.Source.left c.loop-number.schedule) (g.Q.Source.left c.ask.new.schedule)
    c.in-Err.answer so_far.same_limits c.in-Err.ensures.moves)

pub returns-in-Some-play_line-clause-plays : goal.returns-in-Some-play_line-clause-plays
returns-in-Some-play_line-clause-plays g c =
    let so_far = c.loop-number.invariant in
    let line = got so_far.reads (gets-within so_far.same_limits c.in-Ok.ensures.moves) in
    let plays = Plays-asked g.P.Player.play c.args.limits c.args.player.now
    (g.O.Sink.taken c.args.out.now) (g.O.Sink.taken c.loop-number.out)
    (g.O.Sink.taken c.ask.new.out) c.loop-number.kept.items c.ask.new.kept.items
    c.loop-number.player c.loop-number.played so_far.done so_far.plays c.in-Ok.ensures.bytes in
    line-owes g.P.Player.play c.args.limits c.args.player.now c.play_line.new.kept.items
    c.play_line.new.player c.in-Some-play_line.answer line plays
    (rw c.text.ensures at c.in-Some-play_line.ensures)

pub returns-in-Some-play_line-clause-taken : goal.returns-in-Some-play_line-clause-taken
returns-in-Some-play_line-clause-taken g c =
    let so_far = c.loop-number.invariant in
    HasRead-few c.args.limits (got so_far.reads
    (gets-within so_far.same_limits c.in-Ok.ensures.moves)).reads

pub loop-number-preserved : goal.loop-number-preserved
loop-number-preserved g c =
    let so_far = c.loop-number.invariant in
    let asked = c.in-Ok.ensures in
    let line = got so_far.reads (gets-within so_far.same_limits asked.moves) in
    let plays = Plays-asked g.P.Player.play c.args.limits c.args.player.now
    (g.O.Sink.taken c.args.out.now) (g.O.Sink.taken c.loop-number.out)
    (g.O.Sink.taken c.ask.new.out) c.loop-number.kept.items c.ask.new.kept.items
    c.loop-number.player c.loop-number.played so_far.done so_far.plays asked.bytes in
    record {
      done = so_far.done ++ c.ask.new.lines.text ∷ [];
      reads = line.reads;
      plays = line-plays g.P.Player.play c.args.limits c.args.player.now line plays
          (rw c.text.ensures at c.in_default-play_line.ensures);
      same_limits = asked.limits ∙ so_far.same_limits;
      at_end = asked.ends;
      none_halts = so_far.none_halts;
      same_read_wants = asked.read_wants ∙ so_far.same_read_wants;
      same_write_wants = asked.write_wants ∙ so_far.same_write_wants;
      same_reads = asked.reads ∙ so_far.same_reads;
      same_writes = asked.writes ∙ so_far.same_writes;
    }
