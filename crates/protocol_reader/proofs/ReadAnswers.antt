-- What `read` answers, by what the reading of the file comes to.
use Rattle.std.proofs.Common.{◌≡◌, ◌≤◌, ℕ, Ok, Err, length, sym, ◌∙◌}
use Rattle.rv_base.specs.Whole.{file_limit}
use Rattle.proto_model.specs.Tokens.{Text}
use Rattle.proto_model.specs.Spelled.{Spells, IsFaultLine}
use Rattle.proto_model.specs.declared.protocol.Protocol.{Protocol}
use Rattle.protocol_reader.specs.Reading.{At, file}
use Rattle.protocol_reader.specs.Reads.{Fails}
use Rattle.protocol_reader.specs.Answer.{HasCause, ReadsAs, IsRefusedAt}
use Rattle.protocol_reader.specs.declared.error.ReadError.{ReadError}
use Rattle.protocol_reader.specs.declared.error.ReadError.TheVariants.{TooLong, Syntax, NoMemory}
use Rattle.protocol_reader.proofs.Rule.{done_is, not_failed}
use Rattle.protocol_reader.proofs.File.{start_of, file_takes, file_again, file_stuck}
use Rattle.protocol_reader.proofs.OneFaultLine.{one-fault-line}

-- a cursor that has taken nothing stands where reading the file begins
pub at_is : (a : At) (bytes : Text) → a.lexemes ≡ (start_of bytes).lexemes
    → a.lines ≡ (start_of bytes).lines → a ≡ start_of bytes
at_is a bytes e f = λ i. record { lexemes = e i; lines = f i }

pub refused_cause : (bytes : Text) (e : ReadError) → length bytes ≤ file_limit
    → Fails (file (start_of bytes)) e → HasCause bytes e
refused_cause bytes TooLong le h = absurd h
refused_cause bytes (Syntax line) le h = (le, file_stuck bytes line h)
refused_cause bytes NoMemory le h = tt

pub refused_only : (bytes : Text) (e : ReadError) → Fails (file (start_of bytes)) e → (p : Protocol)
    → Spells bytes p → ReadsAs p (Err e)
refused_only bytes TooLong h p s = h
refused_only bytes (Syntax line) h p s =
    let a = file_again bytes p s in
    not_failed p a.0 line (sym a.1 ∙ h)
refused_only bytes NoMemory h p s = tt

pub refused_at : (bytes : Text) (e : ReadError) → Fails (file (start_of bytes)) e → (line : ℕ)
    → IsFaultLine bytes line → IsRefusedAt line (Err e)
refused_at bytes TooLong h line f = h
refused_at bytes (Syntax n) h line f = one-fault-line bytes n line (file_stuck bytes n h) f
refused_at bytes NoMemory h line f = tt

pub read_only : (bytes : Text) (q : Protocol) (new : At) → file (start_of bytes) ≡ Ok (q, new)
    → (p : Protocol) → Spells bytes p → q ≡ p
read_only bytes q new e p s = let a = file_again bytes p s in (done_is q p new a.0 (sym e ∙ a.1)).0

pub read_no_fault : (bytes : Text) (q : Protocol) (new : At) → file (start_of bytes) ≡ Ok (q, new)
    → (line : ℕ) → IsFaultLine bytes line → ⊥
read_no_fault bytes q new e line f = f.spells_none q (file_takes bytes q new e).0
