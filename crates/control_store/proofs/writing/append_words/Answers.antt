-- One more word is written.
use Rattle.control_store.proofs.WordsWritten.{word-written}
use Rattle.control_store.proofs.writing.append_words.Goals as goal

pub loop-row-preserved : goal.loop-row-preserved
loop-row-preserved c =
    word-written c.args.rows.now c.loop-row.row-index _ c.encode_row.result c.args.so_far
    c.loop-row.so_far c.append-so_far.result c.args.out.now.items c.loop-row.out.items
    c.append-so_far.new.out.items c.loop-row-test.true c.encode_row.ensures c.loop-row.invariant
    c.append-so_far.ensures
