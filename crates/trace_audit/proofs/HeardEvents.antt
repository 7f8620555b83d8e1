-- The event that is carried out is the one that the words tell, in both directions.
use Rattle.std.proofs.Common.{◌≡◌, List, [], ◌∷◌, Bool, true, false, Some, refl, ◌∙◌, ap}
use Rattle.std.specs.Prelude.{bytes_eq, codes, if◌then◌else◌}
use Rattle.std.specs.Option.{option_and_then}
use Rattle.std.proofs.lemmas.Slice.Eq.{bytes_eq-Decides}
use Rattle.rv_base.proofs.Lists.{some_and_then}
use Rattle.proto_model.specs.Tokens.{Text}
use Rattle.proto_model.specs.RendezvousNext.{rv_next}
use Rattle.proto_model.specs.declared.rendezvous.Event.{Event}
use Rattle.proto_model.specs.declared.rendezvous.RvConfig.{RvConfig}
use Rattle.proto_model.proofs.Steps.{RvStep-next, rv_next-step}
use Rattle.rendezvous_meaning.specs.GivenMessage.{event_told}
use Rattle.rendezvous_meaning.specs.Standing.{Standing}
use Rattle.rv_base.specs.Words.{words}
use Rattle.schedule_replay.specs.EventLines.{HasNumbers, tau_event, meeting_of_first}
use Rattle.schedule_replay.specs.EventLines.{event_of_first, leading_event}
use Rattle.schedule_replay.proofs.EventWords.{says-event}
use Rattle.trace_audit.specs.Auditing.{after_event, after_words}
use Rattle.trace_audit.specs.PrintedRun.{TellsEvent}
use Rattle.rv_base.proofs.SameWords.{same-bytes}
use Rattle.trace_audit.proofs.Heard.{some_if}
use Rattle.trace_audit.proofs.LeadingWords.{leading_event-told}

-- ---- the numbers that are read have few digits

tau-numbers : (name second third : Text) (e : Event) → bytes_eq name (codes "tau") ≡ true
    → tau_event second third ≡ Some e → HasNumbers e
tau-numbers name second third e tau said =
    (says-event (name ∷ second ∷ third ∷ []) e (rw tau said)).1

meeting-numbers : (name second third : Text) (ws : List Text) (e : Event)
    → meeting_of_first name second third ws ≡ Some e → HasNumbers e
meeting-numbers name second third [] e said = absurd (cc)
meeting-numbers name second third (fourth ∷ ws) e said =
    (says-event (name ∷ second ∷ third ∷ fourth ∷ []) e said).1

either-numbers : (name second third : Text) (ws : List Text) (e : Event) (tau : Bool)
    → bytes_eq name (codes "tau") ≡ tau
    → (if tau then tau_event second third else meeting_of_first name second third ws) ≡ Some e
    → HasNumbers e
either-numbers name second third ws e true tau said = tau-numbers name second third e tau said
either-numbers name second third ws e false tau said = meeting-numbers name second third ws e said

first-numbers : (ws : List Text) (e : Event) → event_of_first ws ≡ Some e → HasNumbers e
first-numbers [] e said = absurd (cc)
first-numbers (name ∷ []) e said = absurd (cc)
first-numbers (name ∷ second ∷ []) e said = absurd (cc)
first-numbers (name ∷ second ∷ third ∷ ws) e said =
    either-numbers name second third ws e (bytes_eq name (codes "tau")) refl said

-- ---- both directions

pub after_words-tells : (standing : Standing) (told : Text) (next : RvConfig)
    → after_words standing told ≡ Some next → TellsEvent standing told next
after_words-tells standing told next leads =
    let read = some_and_then (after_event standing told) (leading_event told) next leads in
    let text = event_told standing.protocol standing.config read.0 in
    let taken = some_if (bytes_eq told text) (rv_next standing.protocol standing.config read.0)
    next read.2 in
    record {
      event = read.0;
      numbers = first-numbers (words told) read.0 read.1;
      words_are = same-bytes told text taken.0;
      step = RvStep-next standing.protocol standing.config read.0 next taken.1;
    }

same-text : (xs ys : Text) → xs ≡ ys → bytes_eq xs ys ≡ true
same-text xs ys same = (bytes_eq-Decides xs ys).1 same

pub tells-after_words : (standing : Standing) (told : Text) (next : RvConfig)
    → TellsEvent standing told next → after_words standing told ≡ Some next
tells-after_words standing told next tells =
    let e = tells.event in
    let read : leading_event told ≡ Some e = ap leading_event tells.words_are
    ∙ leading_event-told standing.protocol standing.config e tells.numbers in
    let leads : rv_next standing.protocol standing.config e ≡ Some next =
    rv_next-step standing.protocol standing.config e next tells.step in
    ap (option_and_then (after_event standing told)) read
    ∙ rw (same-text told (event_told standing.protocol standing.config e) tells.words_are) leads
