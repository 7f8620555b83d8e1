-- The bytes of a name are text.
use Rattle.std.proofs.Common.{Result, Ok, Err, refl}
use Rattle.std.specs.Result.{MatchResult, IsOk}
use Rattle.table_printer.proofs.AsciiNames.{AllWord-text}
use Rattle.table_printer.proofs.names.name_text.Goals as goal

ok_of : {A B : Type 0} (result : Result A B) (P : A → Type 0) (Q : B → Type 0)
    → ((error : B) → Q error → ⊥) → MatchResult result P Q → IsOk result
ok_of (Ok value) P Q none cases = refl
ok_of (Err error) P Q none cases = absurd (none error cases)

pub unwrap-requires : goal.unwrap-requires
unwrap-requires c =
    ok_of c.from_utf8.result _ _
    (λ error cases. cases.0 (AllWord-text c.args.name.now c.requires))
    c.from_utf8.ensures.cases
