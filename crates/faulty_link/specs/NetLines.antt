-- The text of a move of the network, and what a line of a schedule says of one.
use Rattle.std.specs.Prelude.{◌≡◌, ◌≢◌, ℕ, List, [], ◌∷◌, Option, Some, None, if◌then◌else◌}
use Rattle.std.specs.Prelude.{bytes_eq, codes, decimal}
use Rattle.std.specs.List.{join_with_byte}
use Rattle.std.specs.Option.{option_and_then}
use Rattle.rv_base.specs.Words.{words}
use Rattle.proto_model.specs.ScheduleNumbers.{number}
use Rattle.proto_model.specs.Tokens.{Text, IsNumber}
use Rattle.faulty_link.specs.declared.net_step.NetStep.{NetStep}
use Rattle.faulty_link.specs.declared.net_step.NetStep.TheVariants as net
use Rattle.faulty_link.specs.declared.net_step.Way.{Way}
use Rattle.faulty_link.specs.declared.net_step.Way.TheVariants as way

-- the word of a way
abbrev pub way_word : Way → Text
way_word way.Up = codes "up"
way_word way.Down = codes "down"

-- the words of a move of this remote's wire that goes this way: `net`, the remote, the way, what
-- the move is, and its place
abbrev pub words_of : ℕ → Way → Text → ℕ → List Text
words_of j on what place =
    codes "net" ∷ decimal j ∷ way_word on ∷ what ∷ decimal place ∷ []

-- the words of a move
abbrev pub net_words : NetStep → List Text
net_words (net.Resend j on place) = words_of j on (codes "resend") place
net_words (net.Lose j on place) = words_of j on (codes "lose") place
net_words (net.Copy j on place) = words_of j on (codes "copy") place
net_words (net.Pass j on place) = words_of j on (codes "pass") place

-- a move: its words with one space between them
abbrev pub net_text : NetStep → Text
net_text step = join_with_byte 32 (net_words step)

-- Each number of the move is one that a line can write: its decimal text has at most five digits.
abbrev pub HasNumbers : NetStep → Type 0
HasNumbers (net.Resend j on place) = IsNumber j × IsNumber place
HasNumbers (net.Lose j on place) = IsNumber j × IsNumber place
HasNumbers (net.Copy j on place) = IsNumber j × IsNumber place
HasNumbers (net.Pass j on place) = IsNumber j × IsNumber place

-- What the words of a line say. It says a move where its words are those of the move, whose numbers
-- are ones that a line can write. Each other line says none.
abbrev pub Says : List Text → Option NetStep → Type 0
Says ws (Some step) = (ws ≡ net_words step) × HasNumbers step
Says ws None = (step : NetStep) → HasNumbers step → ws ≢ net_words step

-- The way that this word says.
abbrev pub way_said : Text → Option Way
way_said word =
    if bytes_eq word (codes "up") then Some way.Up
    else (if bytes_eq word (codes "down") then Some way.Down else None)

-- The move that this word says of a remote's wire and a place.
abbrev pub move_of : Text → ℕ → Way → ℕ → Option NetStep
move_of what j on place =
    if bytes_eq what (codes "resend") then Some (net.Resend j on place)
    else (if bytes_eq what (codes "lose") then Some (net.Lose j on place)
    else (if bytes_eq what (codes "copy") then Some (net.Copy j on place)
    else (if bytes_eq what (codes "pass") then Some (net.Pass j on place) else None)))

-- The move that the words behind `net` say.
abbrev pub named_move : Text → Text → Text → Text → Option NetStep
named_move j on what place =
    option_and_then (λ remote. option_and_then (λ goes. option_and_then (λ at.
    move_of what remote goes at) (number place)) (way_said on)) (number j)

-- The move that the words of a line say, if they say one.
abbrev pub net_step_of : List Text → Option NetStep
net_step_of [] = None
net_step_of (first ∷ []) = None
net_step_of (first ∷ second ∷ []) = None
net_step_of (first ∷ second ∷ third ∷ []) = None
net_step_of (first ∷ second ∷ third ∷ fourth ∷ []) = None
net_step_of (first ∷ second ∷ third ∷ fourth ∷ fifth ∷ []) =
    if bytes_eq first (codes "net") then named_move second third fourth fifth else None
net_step_of (first ∷ second ∷ third ∷ fourth ∷ fifth ∷ w ∷ ws) = None

-- The move that the line says, computed.
abbrev pub net_line : List ℕ → Option NetStep
net_line bytes = net_step_of (words bytes)
