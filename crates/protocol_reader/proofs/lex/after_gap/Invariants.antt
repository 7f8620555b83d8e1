use Rattle.std.proofs.Common.{◌≡◌, ◌+◌, ◌<◌, ◌^◌, length, false}
use Rattle.proto_model.specs.Lexemes.{cut}
use Rattle.protocol_reader.proofs.lex.after_gap.Given as goal

abbrev pub invariant-gap : goal.invariant-gap
invariant-gap l = record {
  cut : cut false l.line l.bytes ≡ cut false l.here l.rest;
  lines : l.here + length l.rest < 2 ^ 32;
}

abbrev pub decreases-gap : goal.decreases-gap
decreases-gap l = length l.rest
