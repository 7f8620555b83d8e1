-- The bytes of the parts, one after the other, are the word.
use Rattle.control_store.proofs.WordsMade.{word-made}
use Rattle.control_store.proofs.row_words.encode_row.Goals as goal

pub returns : goal.returns
returns c =
    word-made c.args.row.now c.place_bytes.result c.trigger_bytes.result c.puts_bytes.result
    c.does_bytes.result c.place_bytes-2.result c.place_bytes.ensures c.trigger_bytes.ensures
    c.puts_bytes.ensures c.does_bytes.ensures c.place_bytes-2.ensures
