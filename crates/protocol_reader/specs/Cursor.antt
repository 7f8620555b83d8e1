-- What contracts see of a `Cursor`, and what it keeps.
use Rattle.std.specs.Prelude.{◌+◌, ◌<◌, ◌^◌, length}
use Rattle.protocol_reader.specs.declared.cursor.Cursor.TheInside.{Inside}
use Rattle.protocol_reader.specs.Front.{lexemes_from}
use Rattle.protocol_reader.specs.Reading.{At}

-- the lexemes from the next one on, and the lines of the items so far
abbrev pub at_of : Inside → At
at_of c = record { lexemes = lexemes_from c.text.now c.line c.rest.now; lines = c.lines }

-- Each LF that is left can begin a further line.
abbrev pub IsCursor : Inside → Type 0
IsCursor c = c.line + length c.rest.now < 2 ^ 32
