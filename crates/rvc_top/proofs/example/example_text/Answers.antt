-- The bytes of the example are its lines.
use Rattle.std.proofs.Common.{refl}
use Rattle.rvc_top.proofs.example.example_text.Goals as goal

pub returns-in-Invalidate : goal.returns-in-Invalidate
returns-in-Invalidate c = rw c.in-Invalidate.is refl
