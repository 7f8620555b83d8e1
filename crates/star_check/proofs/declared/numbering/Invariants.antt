-- So far the names of the first declarations are numbered.
use Rattle.std.proofs.Common.{map, take}
use Rattle.star_check.specs.Numbering.{IsNumbering}
use Rattle.star_check.proofs.declared.numbering.Given as goal

abbrev pub invariant-loop-place : goal.invariant-loop-place
invariant-loop-place g l = IsNumbering l.places (map g.T.Declaration.name_of (take l.place l.items))
