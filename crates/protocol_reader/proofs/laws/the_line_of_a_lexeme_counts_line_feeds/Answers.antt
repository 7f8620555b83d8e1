-- Each lexeme stands on the line that the LFs before it give.
use Rattle.protocol_reader.proofs.LexemeLines.{lexeme_stands}
use Rattle.protocol_reader.proofs.laws.the_line_of_a_lexeme_counts_line_feeds.Goals as goal

pub returns : goal.returns
returns c = lexeme_stands
