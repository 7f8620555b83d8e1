-- The lines of the abstraction that were taken are the rendezvous lines of all processes.
use Rattle.std.proofs.Common.{◌≡◌, ℕ, zero, suc, ◌+◌, List, [], ◌∷◌, ◌++◌, length, Some, slice_get}
use Rattle.std.proofs.Common.{arith, refl, sym, ◌∙◌, ap, append_assoc, length-append}
use Rattle.std.specs.Prelude.{codes, Option}
use Rattle.std.specs.Option.{option_map_or}
use Rattle.rv_base.specs.Lists.{flat_from}
use Rattle.proto_model.specs.Tokens.{Text}
use Rattle.proto_model.specs.Texts.{rv_line}
use Rattle.proto_model.specs.declared.rendezvous.Part.{Part}
use Rattle.rendezvous_meaning.specs.Standing.{Standing}
use Rattle.schedule_replay.specs.TextLines.{joined}
use Rattle.schedule_replay.specs.RvPlay.{home_line, remote_line, remote_lines, numbered_line}
use Rattle.trace_audit.specs.Auditing.{abstraction_text}

-- so many texts of processes from this one on
abbrev pub texts_from : Standing → ℕ → ℕ → Text
texts_from standing first zero = []
texts_from standing first (suc count) =
    abstraction_text standing first ++ texts_from standing (suc first) count

-- a line in front
pub line-shown : (standing : Standing) (seen : ℕ) (line : Text) (lines : List Text)
    → line ++ codes "\n" ≡ abstraction_text standing seen
    → joined lines ≡ texts_from standing (suc seen) (length lines)
    → joined (line ∷ lines) ≡ texts_from standing seen (length (line ∷ lines))
line-shown standing seen line lines first later =
    sym (append_assoc line (codes "\n") (joined lines))
    ∙ (ap (λ text. text ++ joined lines) first
    ∙ ap (λ text. abstraction_text standing seen ++ text) later)

get-seam : (before : List Part) (part : Part) (after : List Part)
    → slice_get (before ++ part ∷ after) (length before) ≡ Some part
get-seam [] part after = refl
get-seam (p ∷ before) part after = get-seam before part after

-- the texts of the remotes from this one on
remotes-from : (standing : Standing) (before remotes : List Part)
    → standing.config.remotes ≡ before ++ remotes
    → texts_from standing (suc (length before)) (length remotes)
    ≡ flat_from (numbered_line standing.protocol.remote) (length before) remotes
remotes-from standing before [] all = refl
remotes-from standing before (part ∷ remotes) all =
    let body = standing.protocol.remote in
    let there : slice_get standing.config.remotes (length before) ≡ Some part =
    ap (λ (parts : List Part). slice_get parts (length before)) all
    ∙ get-seam before part remotes in
    let first : remote_line standing (length before) ≡ numbered_line body (length before) part =
    ap (λ (o : Option Part). option_map_or (λ p. rv_line body p (Some (length before))) o []) there
    in
    let next : length (before ++ part ∷ []) ≡ length before + 1 = omega (
      arith,
      length-append before (part ∷ []),
    ) in
    let count : length before + 1 ≡ suc (length before) = omega arith in
    let later = remotes-from standing (before ++ part ∷ []) remotes (all
    ∙ sym (append_assoc before (part ∷ []) remotes)) in
    let rest : texts_from standing (suc (suc (length before))) (length remotes)
    ≡ flat_from (numbered_line body) (length before + 1) remotes =
    ap (λ n. texts_from standing (suc n) (length remotes)) (sym (next ∙ count))
    ∙ (later ∙ ap (λ n. flat_from (numbered_line body) n remotes) next) in
    ap (λ text. text ++ texts_from standing (suc (suc (length before))) (length remotes)) first
    ∙ ap (λ text. numbered_line body (length before) part ++ text) rest

-- the texts of all processes
pub all-texts : (standing : Standing)
    → texts_from standing 0 (suc (length standing.config.remotes))
    ≡ home_line standing ++ remote_lines standing
all-texts standing = ap (λ text. home_line standing ++ text)
    (remotes-from standing [] standing.config.remotes refl)
