-- The first rules are noted.
use Rattle.std.proofs.Common.{◌≡◌, take}
use Rattle.request_reply.specs.Candidates.{noted_all}
use Rattle.request_reply.proofs.look.Look.note_rules.Given as goal

abbrev pub invariant-loop-rule : goal.invariant-loop-rule
invariant-loop-rule l = l.candidates ≡ noted_all l.self l.body l.initial.candidates
    (take l.rule-index l.rules)
