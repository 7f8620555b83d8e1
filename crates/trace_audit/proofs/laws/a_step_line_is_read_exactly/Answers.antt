-- What is read off a step's line is what the line tells.
use Rattle.trace_audit.proofs.StepLines.{told_of-tells, tells-told_of}
use Rattle.trace_audit.proofs.laws.a_step_line_is_read_exactly.Goals as goal

pub returns : goal.returns
returns c = λ number line words.
    (told_of-tells number line words, tells-told_of number line words)
