-- The texts of values, messages with their values, variables, rendezvous lines and events, and the
-- names of states and messages.
use Rattle.std.specs.Prelude.{ℕ, Bool, true, false, List, [], ◌∷◌, ◌++◌, Option, Some, None}
use Rattle.std.specs.Prelude.{slice_get, map, codes, decimal}
use Rattle.std.specs.Option.{option_map_or}
use Rattle.std.specs.List.{join_with_byte}
use Rattle.proto_model.specs.Tokens.{Text}
use Rattle.proto_model.specs.NumberSets.{members}
use Rattle.proto_model.specs.declared.protocol.Carry.{Carry}
use Rattle.proto_model.specs.declared.protocol.Carry.TheVariants as carry
use Rattle.proto_model.specs.declared.numbered.Value.{Value}
use Rattle.proto_model.specs.declared.numbered.Value.TheVariants as value
use Rattle.proto_model.specs.declared.numbered.VarInfo.{VarInfo}
use Rattle.proto_model.specs.declared.numbered.MessageInfo.{MessageInfo}
use Rattle.proto_model.specs.declared.numbered.Body.{Body}
use Rattle.proto_model.specs.declared.rendezvous.Part.{Part}
use Rattle.proto_model.specs.declared.rendezvous.Event.{Event}
use Rattle.proto_model.specs.declared.rendezvous.Event.TheVariants as event

-- the numbers of the remotes in the set, in ascending order, joined by `,`
abbrev pub members_text : ℕ → Text
members_text set = join_with_byte 44 (map decimal (members set))

-- what stands before a member: nothing before the first one
abbrev pub separator : Bool → Text
separator true = []
separator false = codes ","

-- a member of a set, with what stands before it
abbrev pub member_text : Bool → ℕ → Text
member_text first j = separator first ++ decimal j

-- An int is its decimal text. A node is `#` and its number, or `none`. A set is its members in
-- braces.
abbrev pub value_text : Value → Text
value_text value.Unit = []
value_text (value.Int k) = decimal k
value_text value.Nowhere = codes "none"
value_text (value.Node j) = codes "#" ++ decimal j
value_text (value.Set s) = codes "{" ++ (members_text s ++ codes "}")

-- the value in brackets, where the message carries one
abbrev pub carried_text : Carry → Value → Text
carried_text carry.Nothing v = []
carried_text (carry.Int n) v = codes "(" ++ (value_text v ++ codes ")")
carried_text carry.Node v = codes "(" ++ (value_text v ++ codes ")")
carried_text carry.Set v = codes "(" ++ (value_text v ++ codes ")")

-- a message with its value
abbrev pub message_text : MessageInfo → Value → Text
message_text message v = message.name ++ carried_text message.carries v

-- a variable: one space, its name, `=` and its value
abbrev pub var_text : VarInfo → Value → Text
var_text info v = codes " " ++ (info.name ++ (codes "=" ++ value_text v))

-- the variables, in file order
abbrev pub vars_text : List VarInfo → List Value → Text
vars_text [] vs = []
vars_text (i ∷ is) [] = []
vars_text (i ∷ is) (v ∷ vs) = var_text i v ++ vars_text is vs

-- what a line of the home, or of a remote, begins with
abbrev pub process_text : Option ℕ → Text
process_text None = codes "  home "
process_text (Some j) = codes "  remote " ++ (decimal j ++ codes " ")

-- the name of the state with this number; no text where there is none
abbrev pub state_name : Body → ℕ → Text
state_name body state = option_map_or (λ info. info.name) (slice_get body.states state) []

-- the name of the message with this number; no text where there is none
abbrev pub message_name : List MessageInfo → ℕ → Text
message_name messages m = option_map_or (λ info. info.name) (slice_get messages m) []

-- the rendezvous line of the home, or of a remote: its state and its variables
abbrev pub rv_line : Body → Part → Option ℕ → Text
rv_line body part remote =
    process_text remote
    ++ (state_name body part.state ++ (vars_text body.vars part.vars ++ codes "\n"))

-- a number behind an event's first words
abbrev pub argument : ℕ → Text
argument number = codes " " ++ decimal number

-- the words of an event
abbrev pub event_words : Event → List Text
event_words (event.TauHome g) = codes "tau" ∷ codes "home" ∷ decimal g ∷ []
event_words (event.TauRemote j g) = codes "tau" ∷ decimal j ∷ decimal g ∷ []
event_words (event.Up j h r) = codes "up" ∷ decimal j ∷ decimal h ∷ decimal r ∷ []
event_words (event.Down j h r) = codes "down" ∷ decimal j ∷ decimal h ∷ decimal r ∷ []

-- an event: its words with one space between them
abbrev pub event_text : Event → Text
event_text what = join_with_byte 32 (event_words what)
