-- The items so far, and those that follow, are the items passed and those that followed there.
use Rattle.std.proofs.Common.{length}
use Rattle.protocol_reader.specs.Reading.{many_at}
use Rattle.protocol_reader.proofs.OneByOne.{Goes, behind_items}
use Rattle.protocol_reader.proofs.grammar.repeated.each.Given as goal

abbrev pub invariant-each : goal.invariant-each
invariant-each g l =
    let comes = g.T.Repeated.comes in
    let read = g.T.Repeated.reader in
    Goes comes read l.items l.cursor (behind_items l.fn.items (many_at comes read l.fn.cursor))

abbrev pub decreases-each : goal.decreases-each
decreases-each g l = length l.cursor.lexemes
