-- Bytes that move in two steps move as in one, at a source and at a sink.
use Rattle.std.proofs.Common.{◌≡◌, ℕ, ◌+◌, ◌-◌, List, ◌++◌, length, take, drop, sym, ap}
use Rattle.std.proofs.Common.{append_assoc, None, Some, refl, take-add}
use Rattle.std.proofs.lemmas.List.{take_rest, take-append-drop, drop-drop}
use Rattle.std.specs.declared.option.Option.{Option}
use Rattle.std.specs.Io.KnownBytes.{prepend_known, append_known}

pub prepend_known-append : (front more : List ℕ) (known : Option (List ℕ))
    → prepend_known front (prepend_known more known) ≡ prepend_known (front ++ more) known
prepend_known-append front more None = refl
prepend_known-append front more (Some left) = ap (λ bytes. Some bytes)
    (sym (append_assoc front more left))

pub append_known-append : (known : Option (List ℕ)) (front more : List ℕ)
    → append_known (append_known known front) more ≡ append_known known (front ++ more)
append_known-append None front more = refl
append_known-append (Some taken) front more = ap (λ bytes. Some bytes)
    (append_assoc taken front more)

-- A front, and then the first bytes of the rest, are a longer front.
pub take-append-rest : (text : List ℕ) (done count : ℕ)
    → take done text ++ take count (take (length text - done) (drop done text))
    ≡ take (done + count) text
take-append-rest text done count = rw (take_rest text done) (sym (take-add done count text))

-- What is left from a place on is its first bytes, and what is left after them.
pub take-append-drop-on : (bytes : List ℕ) (at count : ℕ)
    → take count (drop at bytes) ++ drop (at + count) bytes ≡ drop at bytes
take-append-drop-on bytes at count = rw (← drop-drop count at bytes)
    (take-append-drop count (drop at bytes))
