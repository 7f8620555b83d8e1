-- The auditor hears an event that takes place: it reads it off the words that tell it.
use Rattle.std.proofs.Common.{◌≡◌, ◌+◌, ◌||◌, ℕ, Bool, true, false, ◌++◌, Option, Some, None, arith}
use Rattle.std.proofs.Common.{refl, ap, ◌∙◌, codes, if◌then◌else◌, bytes_eq, get_or}
use Rattle.std.specs.Option.{option_and_then, option_map}
use Rattle.std.proofs.lemmas.Slice.Eq.{bytes_eq-Decides}
use Rattle.proto_model.specs.Tokens.{Text}
use Rattle.proto_model.specs.Texts.{event_text}
use Rattle.proto_model.specs.RendezvousNext.{rv_next}
use Rattle.proto_model.specs.declared.rendezvous.RvConfig.{RvConfig}
use Rattle.proto_model.specs.declared.rendezvous.Event.{Event}
use Rattle.proto_model.specs.declared.rendezvous.Event.TheVariants as event
use Rattle.rendezvous_meaning.specs.GivenMessage.{event_told, given_text, given_in}
use Rattle.rendezvous_meaning.specs.Standing.{Standing}
use Rattle.schedule_replay.specs.EventLines.{HasNumbers, leading_event}
use Rattle.trace_audit.specs.Auditing.{hear, is_quiet, after_words, after_event}
use Rattle.trace_audit.specs.declared.auditor.Section.TheVariants.{Steps}
use Rattle.trace_audit.proofs.LeadingWords.{leading_event-told}
use Rattle.trace_soundness.proofs.StepLine.{at_steps}

-- The words are not `refused`, and not `stutter`: an event begins with another byte.
loud : (e : Event) (tail : Text) → is_quiet (event_text e ++ tail) ≡ false
loud e tail =
    ap (λ (refused : Bool). refused || bytes_eq (event_text e ++ tail) (codes "stutter"))
    (by-refused (bytes_eq (event_text e ++ tail) (codes "refused")) refl)
    ∙ by-stutter (bytes_eq (event_text e ++ tail) (codes "stutter")) refl
  where
    first : (a b : Text) → a ≡ b → get_or a 0 0 ≡ get_or b 0 0
    first a b same = ap (λ (text : Text). get_or text 0 0) same

    no-refused : (e : Event) → event_text e ++ tail ≡ codes "refused" → ⊥
    no-refused (event.TauHome g) same =
        let t : 116 ≡ 114 = first _ _ same in absurd (omega (arith, t))
    no-refused (event.TauRemote j g) same =
        let t : 116 ≡ 114 = first _ _ same in absurd (omega (arith, t))
    no-refused (event.Up j h r) same =
        let u : 117 ≡ 114 = first _ _ same in absurd (omega (arith, u))
    no-refused (event.Down j h r) same =
        let d : 100 ≡ 114 = first _ _ same in absurd (omega (arith, d))

    no-stutter : (e : Event) → event_text e ++ tail ≡ codes "stutter" → ⊥
    no-stutter (event.TauHome g) same =
        let t : 116 ≡ 115 = first _ _ same in absurd (omega (arith, t))
    no-stutter (event.TauRemote j g) same =
        let t : 116 ≡ 115 = first _ _ same in absurd (omega (arith, t))
    no-stutter (event.Up j h r) same =
        let u : 117 ≡ 115 = first _ _ same in absurd (omega (arith, u))
    no-stutter (event.Down j h r) same =
        let d : 100 ≡ 115 = first _ _ same in absurd (omega (arith, d))

    by-refused : (is : Bool) → bytes_eq (event_text e ++ tail) (codes "refused") ≡ is → is ≡ false
    by-refused true same =
        absurd (no-refused e ((bytes_eq-Decides (event_text e ++ tail) (codes "refused")).0 same))
    by-refused false same = refl

    by-stutter : (is : Bool) → bytes_eq (event_text e ++ tail) (codes "stutter") ≡ is → is ≡ false
    by-stutter true same =
        absurd (no-stutter e ((bytes_eq-Decides (event_text e ++ tail) (codes "stutter")).0 same))
    by-stutter false same = refl

-- The event leads the auditor on.
pub event-heard : (told events number : ℕ) (standing : Standing) (e : Event) (next : RvConfig)
    → HasNumbers e → rv_next standing.protocol standing.config e ≡ Some next
    → hear (at_steps told events standing) number
    (event_told standing.protocol standing.config e)
    ≡ Some (at_steps number (events + 1)
    (record { protocol = standing.protocol; config = next }))
event-heard told events number standing e next small moves =
    let text = event_told standing.protocol standing.config e in
    let tail = given_text standing.protocol.messages
    (given_in standing.protocol standing.config e) in
    let at = at_steps told events standing in
    let same : bytes_eq text text ≡ true = (bytes_eq-Decides text text).1 refl in
    let reads : leading_event text ≡ Some e =
    leading_event-told standing.protocol standing.config e small in
    let leads : after_words standing text ≡ Some next =
    ap (λ (found : Option Event). option_and_then (after_event standing text) found) reads
    ∙ ap (λ (is : Bool). if is then rv_next standing.protocol standing.config e else None) same
    ∙ moves in
    ap (λ (quiet : Bool). if quiet then Some (record at { section = Steps number })
    else option_map (λ (config : RvConfig). at_steps number (events + 1)
    (record { protocol = standing.protocol; config = config })) (after_words standing text))
    (loud e tail)
    ∙ ap (λ (found : Option RvConfig). option_map (λ (config : RvConfig).
    at_steps number (events + 1)
    (record { protocol = standing.protocol; config = config })) found) leads
