-- What a line of a schedule of events says.
use Rattle.std.specs.Prelude.{◌≡◌, ◌≢◌, ℕ, List, [], ◌∷◌, Option, Some, None, if◌then◌else◌}
use Rattle.std.specs.Prelude.{bytes_eq, codes}
use Rattle.std.specs.Option.{option_map, option_and_then}
use Rattle.rv_base.specs.Words.{words}
use Rattle.proto_model.specs.ScheduleNumbers.{number}
use Rattle.proto_model.specs.Tokens.{Text, IsNumber}
use Rattle.proto_model.specs.Texts.{event_words}
use Rattle.proto_model.specs.declared.rendezvous.Event.{Event}
use Rattle.proto_model.specs.declared.rendezvous.Event.TheVariants as event
use Rattle.schedule_replay.specs.declared.player.Meaning.{Meaning}
use Rattle.schedule_replay.specs.declared.player.Meaning.TheVariants as meaning

-- Each number of the event is one that a line can write: its decimal text has at most five digits.
abbrev pub HasNumbers : Event → Type 0
HasNumbers (event.TauHome g) = IsNumber g
HasNumbers (event.TauRemote j g) = IsNumber j × IsNumber g
HasNumbers (event.Up j h r) = IsNumber j × IsNumber h × IsNumber r
HasNumbers (event.Down j h r) = IsNumber j × IsNumber h × IsNumber r

-- What the words of a line say. A line without words is blank. A line says an event where its words
-- are those of the event, whose numbers are ones that a line can write. Each other line is
-- malformed.
abbrev pub Says : List Text → Meaning Event → Type 0
Says ws meaning.Blank = ws ≡ []
Says ws (meaning.Says e) = (ws ≡ event_words e) × HasNumbers e
Says ws meaning.Bad = (ws ≢ []) × ((e : Event) → HasNumbers e → ws ≢ event_words e)

-- The event of `tau` and these two words: the home, or the remote with this number, takes the local
-- step of the guard with this number.
abbrev pub tau_event : Text → Text → Option Event
tau_event who g =
    if bytes_eq who (codes "home")
    then option_map (λ guard. event.TauHome guard) (number g)
    else option_and_then (λ j. option_map (λ guard. event.TauRemote j guard) (number g))
    (number who)

-- The event of this name, `up` or `down`, in which these two guards of the home and of this remote
-- meet.
abbrev pub meeting : Text → ℕ → ℕ → ℕ → Option Event
meeting name j h r =
    if bytes_eq name (codes "up") then Some (event.Up j h r)
    else (if bytes_eq name (codes "down") then Some (event.Down j h r) else None)

-- The event of `up` or `down` and these three words: the numbers of the remote, of the home's guard
-- and of the remote's.
abbrev pub meeting_event : Text → Text → Text → Text → Option Event
meeting_event name j h r =
    option_and_then (λ remote. option_and_then (λ home_guard. option_and_then (λ remote_guard.
    meeting name remote home_guard remote_guard) (number r)) (number h)) (number j)

-- The event that the words of a line say, if they say one.
abbrev pub event_of : List Text → Option Event
event_of [] = None
event_of (name ∷ []) = None
event_of (name ∷ second ∷ []) = None
event_of (name ∷ second ∷ third ∷ []) =
    if bytes_eq name (codes "tau") then tau_event second third else None
event_of (name ∷ second ∷ third ∷ fourth ∷ []) = meeting_event name second third fourth
event_of (name ∷ second ∷ third ∷ fourth ∷ w ∷ ws) = None

-- The event of this name, `up` or `down`, and the first three words behind it.
abbrev pub meeting_of_first : Text → Text → Text → List Text → Option Event
meeting_of_first name second third [] = None
meeting_of_first name second third (fourth ∷ ws) = meeting_event name second third fourth

-- The event that the first words say, whatever words follow: the first three where the first one is
-- `tau`, and else the first four.
abbrev pub event_of_first : List Text → Option Event
event_of_first [] = None
event_of_first (name ∷ []) = None
event_of_first (name ∷ second ∷ []) = None
event_of_first (name ∷ second ∷ third ∷ ws) =
    if bytes_eq name (codes "tau")
    then tau_event second third else meeting_of_first name second third ws

-- The event that the first words of a text say.
abbrev pub leading_event : Text → Option Event
leading_event text = event_of_first (words text)

-- What a line with words says: this event, or it is malformed.
abbrev pub said : Option Event → Meaning Event
said (Some e) = meaning.Says e
said None = meaning.Bad

-- What a line says, by its words.
abbrev pub line_of_words : List Text → Meaning Event
line_of_words [] = meaning.Blank
line_of_words (w ∷ ws) = said (event_of (w ∷ ws))

-- What the line says, computed.
abbrev pub event_line : List ℕ → Meaning Event
event_line bytes = line_of_words (words bytes)
