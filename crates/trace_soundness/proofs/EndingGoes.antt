-- The end of a trace: where the controllers stand, and what they stand for. The auditor takes its
-- lines, and then the trace may end.
use Rattle.std.proofs.Common.{◌≡◌, ◌≤◌, ◌<◌, ◌==◌, ◌+◌, ℕ, suc, Bool, true, List}
use Rattle.std.proofs.Common.{[]}
use Rattle.std.proofs.Common.{◌∷◌, ◌++◌, length, Option, Some, None, arith, refl, sym, ap, ◌∙◌}
use Rattle.std.proofs.Common.{codes, subst, slice_get, bytes_eq}
use Rattle.std.proofs.Common.{if◌then◌else◌}
use Rattle.std.specs.Option.{option_map_or}
use Rattle.std.proofs.lemmas.Grind.{common_steps}
use Rattle.std.proofs.lemmas.Option.{slice_get_within}
use Rattle.std.proofs.lemmas.Slice.Eq.{bytes_eq-Decides}
use Rattle.rv_base.specs.Lists.{flat_from}
use Rattle.rv_base.proofs.Lists.{AllByRecursion-at}
use Rattle.proto_model.specs.Tokens.{Text}
use Rattle.proto_model.specs.Proper.{IsProper, IsProperBody}
use Rattle.proto_model.specs.Rendezvous.{IsConfigOf, IsPartOf}
use Rattle.proto_model.specs.Texts.{rv_line}
use Rattle.proto_model.specs.declared.numbered.Body.{Body}
use Rattle.proto_model.specs.declared.numbered.Side.{Side}
use Rattle.proto_model.specs.declared.numbered.Side.TheVariants as side
use Rattle.proto_model.specs.declared.numbered.MessageInfo.{MessageInfo}
use Rattle.proto_model.specs.declared.rendezvous.Part.{Part}
use Rattle.rendezvous_meaning.specs.Standing.{Standing}
use Rattle.schedule_replay.specs.RvPlay.{home_line, numbered_line}
use Rattle.async_shape.specs.Setting.{Setting}
use Rattle.async_shape.specs.Config.{Config, count_of}
use Rattle.async_shape.specs.Shape.{IsShaped}
use Rattle.async_shape.specs.declared.config.RemoteState.{RemoteState}
use Rattle.async_shape.proofs.ShapeParts.{IsShaped-whole}
use Rattle.abstraction_map.specs.Abstraction.{abstraction}
use Rattle.abstraction_map.proofs.Refined.{shaped-refined}
use Rattle.run_replay.specs.StateLines.{remote_line_of, remote_state_lines}
use Rattle.run_replay.specs.RunTrace.{run_ending, abstract_lines}
use Rattle.trace_audit.specs.Auditing.{Auditing, is_whole, abstraction_text}
use Rattle.trace_audit.specs.declared.auditor.Section.TheVariants.{States, Abstraction}
use Rattle.trace_soundness.proofs.Plain.{IsPlain, IsPlainBody}
use Rattle.trace_soundness.specs.ShownLines.{IsShownLine}
use Rattle.trace_soundness.proofs.Fits.{Fits, fits-append, fits-literal, fits-decimal}
use Rattle.trace_soundness.proofs.ValuesFit.{state_name-fits, body_vars-fit}
use Rattle.trace_soundness.proofs.StateLinesFit.{Ends, ends-here, ends-after, ends-less, home-shown}
use Rattle.trace_soundness.proofs.StateLinesFit.{remote-shown}
use Rattle.trace_soundness.proofs.Goes.{Goes, IsTraceLine, goes-line, goes-none, goes-append}
use Rattle.trace_soundness.proofs.Goes.{goes-more}
use Rattle.trace_soundness.proofs.StepLine.{at_steps}
use Rattle.trace_soundness.proofs.BlocksGo.{shown-line}

-- the auditor in the part of the states
abbrev pub at_states : ℕ → Standing → Auditing
at_states events standing = record { section = States; events = events; standing = standing }

-- the auditor in the part of the abstraction
abbrev pub at_abstraction : ℕ → ℕ → Standing → Auditing
at_abstraction seen events standing =
    record { section = Abstraction seen; events = events; standing = standing }

-- a line that is written out
literal-line : (line : Text) → Fits (length line) line → length line ≤ 65536 → IsTraceLine line
literal-line line fits few = record { few = few; one_line = fits.one_line }

-- `end` ends the part of the steps
end-goes : (told events : ℕ) (standing : Standing)
    → Goes 1 (at_steps told events standing) (at_states events standing) (codes "end\n")
end-goes told events standing =
    goes-line (codes "end")
    (literal-line (codes "end") (fits-literal (codes "end") refl) (omega arith))
    refl

-- `abstract` ends the part of the states
abstract-goes : (events : ℕ) (standing : Standing)
    → Goes 1 (at_states events standing) (at_abstraction 0 events standing) (codes "abstract\n")
abstract-goes events standing =
    goes-line (codes "abstract")
    (literal-line (codes "abstract") (fits-literal (codes "abstract") refl) (omega arith)) refl

-- ---- where the controllers stand

-- A line that begins with two spaces leaves the auditor where it is, among the states.
state-goes : (events : ℕ) (standing : Standing) (text : Text) → IsShownLine text
    → Goes 1 (at_states events standing) (at_states events standing) text
state-goes events standing text is =
    subst (Goes 1 (at_states events standing) (at_states events standing)) (sym is.is)
    (goes-line (32 ∷ 32 ∷ is.rest) (shown-line is.rest is.few is.one_line) refl)

-- the lines of some remotes, of which each has a line
states-go : (events : ℕ) (standing : Standing) (line : ℕ → RemoteState → Text) (from : ℕ)
    (remotes : List RemoteState)
    → ((place : ℕ) (remote : RemoteState) → slice_get remotes place ≡ Some remote
    → IsShownLine (line (from + place) remote))
    → Goes (length remotes) (at_states events standing) (at_states events standing)
    (flat_from line from remotes)
states-go events standing line from [] shown = goes-none 0 (at_states events standing)
states-go events standing line from (remote ∷ remotes) shown =
    let here : IsShownLine (line from remote) =
    subst (λ (j : ℕ). IsShownLine (line j remote))
    (let same : from + 0 ≡ from = omega arith in same) (shown 0 remote refl) in
    let rest = states-go events standing line (from + 1) remotes
    (λ place (r : RemoteState) there. subst (λ (j : ℕ). IsShownLine (line j r))
    (let same : from + suc place ≡ from + 1 + place = omega arith in same)
    (shown (suc place) r there)) in
    goes-more (suc (length remotes)) (goes-append (state-goes events standing _ here) rest)
    (omega arith)

-- ---- what they stand for

-- the rendezvous line of a process
rv-ends : (s : Side) (messages : List MessageInfo) (body : Body) (part : Part) (which : Option ℕ)
    → IsProperBody s messages body → IsPlainBody body → IsPartOf body part
    → ((j : ℕ) → which ≡ Some j → j < 64) → Ends 4000 (rv_line body part which)
rv-ends s messages body part None proper plain is few =
    ends-less 4000 (ends-after (fits-literal (codes "  home ") refl)
    (ends-after (state_name-fits s messages body part.state proper plain)
    (ends-after (body_vars-fit s messages body part.vars proper plain is.vars) ends-here)))
    (omega arith)
rv-ends s messages body part (Some j) proper plain is few =
    let small : j < 64 = few j refl in
    ends-less 4000 (ends-after (fits-append (fits-literal (codes "  remote ") refl)
    (fits-append (fits-decimal 2 j (omega arith) (omega (arith, small)) (omega (arith, small)))
    (fits-literal (codes " ") refl)))
    (ends-after (state_name-fits s messages body part.state proper plain)
    (ends-after (body_vars-fit s messages body part.vars proper plain is.vars) ends-here)))
    (omega arith)

-- The auditor takes the line of the next process.
abstraction-goes : (seen events : ℕ) (standing : Standing) (text : Text) → Ends 4000 text
    → text ≡ abstraction_text standing seen
    → Goes 1 (at_abstraction seen events standing) (at_abstraction (seen + 1) events standing) text
abstraction-goes seen events standing text ends is =
    let at = at_abstraction seen events standing in
    let next = at_abstraction (seen + 1) events standing in
    let line = ends.line ++ codes "\n" in
    let same : bytes_eq line (abstraction_text standing seen) ≡ true =
    (bytes_eq-Decides line (abstraction_text standing seen)).1 (sym ends.is ∙ is) in
    let short : length ends.line ≤ 4000 = ends.fits.few in
    subst (Goes 1 at next) (sym ends.is)
    (goes-line ends.line (record { few = omega (arith, short); one_line = ends.fits.one_line })
    (ap (λ (equal : Bool). if equal then Some next else None) same))

-- the rendezvous lines of some remotes
abstractions-go : (events : ℕ) (standing : Standing) (line : ℕ → Part → Text) (from : ℕ)
    (parts : List Part)
    → ((place : ℕ) (part : Part) → slice_get parts place ≡ Some part
    → Ends 4000 (line (from + place) part)
    × (line (from + place) part
    ≡ abstraction_text standing (suc (from + place))))
    → Goes (length parts) (at_abstraction (suc from) events standing)
    (at_abstraction (suc (from + length parts)) events standing) (flat_from line from parts)
abstractions-go events standing line from [] shown =
    subst (λ (seen : ℕ). Goes 0 (at_abstraction (suc from) events standing)
    (at_abstraction seen events standing) [])
    (let same : suc from ≡ suc (from + 0) = omega arith in same)
    (goes-none 0 (at_abstraction (suc from) events standing))
abstractions-go events standing line from (part ∷ parts) shown =
    let at_place : ℕ → ℕ → Part → Type 0 = λ base place p.
    Ends 4000 (line (base + place) p)
    × (line (base + place) p
    ≡ abstraction_text standing
    (suc (base + place))) in
    let first : Ends 4000 (line from part)
    × (line from part
    ≡ abstraction_text standing (suc from)) =
    subst (λ (j : ℕ). Ends 4000 (line j part)
    × (line j part ≡ abstraction_text standing (suc j)))
    (let same : from + 0 ≡ from = omega arith in same) (shown 0 part refl) in
    let rest = abstractions-go events standing line (from + 1) parts
    (λ place (p : Part) there. subst (λ (j : ℕ). Ends 4000 (line j p)
    × (line j p ≡ abstraction_text standing (suc j)))
    (let same : from + suc place ≡ from + 1 + place = omega arith in same)
    (shown (suc place) p there)) in
    let one : Goes 1 (at_abstraction (suc from) events standing)
    (at_abstraction (suc (from + 1)) events standing) (line from part) =
    subst (λ (seen : ℕ). Goes 1 (at_abstraction (suc from) events standing)
    (at_abstraction seen events standing) (line from part))
    (let same : suc from + 1 ≡ suc (from + 1) = omega arith in same)
    (abstraction-goes (suc from) events standing (line from part) first.0 first.1) in
    subst (λ (seen : ℕ). Goes (suc (length parts)) (at_abstraction (suc from) events standing)
    (at_abstraction seen events standing) (line from part ++ flat_from line (from + 1) parts))
    (let same : suc (from + 1 + length parts) ≡ suc (from + suc (length parts)) = omega arith in
    same)
    (goes-more (suc (length parts)) (goes-append one rest) (omega arith))

module _ (setting : Setting) (proper : IsProper setting.protocol) (plain : IsPlain setting.protocol)
    (c : Config) (shaped : IsShaped setting c) where
  -- what the controllers stand for
  abbrev stands : Standing
  stands = record { protocol = setting.protocol; config = abstraction setting.protocol c }

  -- the lines of the controllers
  remotes-go : (events : ℕ)
      → Goes (count_of c) (at_states events stands) (at_states events stands)
      (remote_state_lines setting.protocol c)
  remotes-go events =
      states-go events stands (remote_line_of setting.protocol c.links) 0 c.remotes
      (λ place (remote : RemoteState) there.
      subst (λ (j : ℕ). IsShownLine (remote_line_of setting.protocol c.links j remote))
      (let same : place ≡ 0 + place = omega arith in same)
      (subst (λ (found : Option RemoteState).
      IsShownLine (option_map_or (remote_line_of setting.protocol c.links place) found [])) there
      (remote-shown setting c place proper plain shaped
      (slice_get_within c.remotes place remote there))))

  -- the lines of what they stand for
  parts-go : (events : ℕ) → IsConfigOf setting.protocol stands.config
      → Goes (1 + length stands.config.remotes) (at_abstraction 0 events stands)
      (at_abstraction (suc (0 + length stands.config.remotes)) events stands)
      (abstract_lines setting.protocol c)
  parts-go events is =
      let few = is.few_remotes in
      goes-append
      (abstraction-goes 0 events stands (home_line stands)
      (rv-ends side.Home setting.protocol.messages setting.protocol.home stands.config.home None
      proper.home plain.home is.home (λ j none. absurd (cc))) refl)
      (abstractions-go events stands (numbered_line setting.protocol.remote) 0 stands.config.remotes
      (λ place (part : Part) there.
      let within = slice_get_within stands.config.remotes place part there in
      let same : 0 + place ≡ place = omega arith in
      subst (λ (j : ℕ). Ends 4000 (numbered_line setting.protocol.remote j part)
      × (numbered_line setting.protocol.remote j part
      ≡ abstraction_text stands (suc j))) (sym same) (
        rv-ends side.Remote setting.protocol.messages setting.protocol.remote part (Some place)
            proper.remote plain.remote
            (AllByRecursion-at (IsPartOf setting.protocol.remote) stands.config.remotes place part
            is.remotes
            there)
            (λ j at. let equal : place ≡ j = cc in omega (arith, within, few, equal)),
        ap (λ (found : Option Part). option_map_or (λ (p : Part).
            rv_line setting.protocol.remote p (Some place)) found []) (sym there),
      )))

  -- All of it, and then the trace may end.
  pub ending-goes : (told events : ℕ)
      → Goes 200 (at_steps told events stands)
      (at_abstraction (suc (0 + length stands.config.remotes)) events stands)
      (run_ending setting.protocol c)
  ending-goes told events =
      let is = (shaped-refined setting c shaped proper).config in
      let few = is.few_remotes in
      let few_states : count_of c ≤ 64 = (IsShaped-whole setting c shaped).few_remotes in
      goes-more 200
      (goes-append (end-goes told events stands)
      (goes-append (state-goes events stands _ (home-shown setting c proper plain shaped))
      (goes-append (remotes-go events)
      (goes-append (abstract-goes events stands) (parts-go events is)))))
      (omega (arith, few, few_states))

  pub ending-whole : (events : ℕ)
      → is_whole (at_abstraction (suc (0 + length stands.config.remotes)) events stands) ≡ true
  ending-whole events = whole-at (length stands.config.remotes)
    where
      whole-at : (n : ℕ) → (suc (0 + n) == n + 1) ≡ true
      whole-at n = grind (arith, common_steps)
