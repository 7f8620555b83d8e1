-- The five texts of a row: where it stands, what makes it move, what it puts, what it completes,
-- and where it stands then. The table's text and its JSON both show a row by these.
use Rattle.std.specs.Prelude.{List, ◌++◌, codes, decimal}
use Rattle.proto_model.specs.Tokens.{Text}
use Rattle.proto_model.specs.Texts.{state_name, message_name}
use Rattle.proto_model.specs.declared.numbered.MessageInfo.{MessageInfo}
use Rattle.proto_model.specs.declared.numbered.Body.{Body}
use Rattle.controller_table.specs.declared.rows.GuardId.{GuardId}
use Rattle.controller_table.specs.declared.rows.Place.{Place}
use Rattle.controller_table.specs.declared.rows.Place.TheVariants.{Comm, Trans, Due}
use Rattle.controller_table.specs.declared.rows.Trigger.{Trigger}
use Rattle.controller_table.specs.declared.rows.Trigger.TheVariants.{Tau, Send, Pay, Take, Answer}
use Rattle.controller_table.specs.declared.rows.Trigger.TheVariants.{AnswerNone, GotAck, GotNack}
use Rattle.controller_table.specs.declared.rows.Trigger.TheVariants.{GotReply, GotRequest}
use Rattle.controller_table.specs.declared.rows.Puts.{Puts}
use Rattle.controller_table.specs.declared.rows.Puts.TheVariants as puts
use Rattle.controller_table.specs.declared.rows.Does.{Does}
use Rattle.controller_table.specs.declared.rows.Does.TheVariants as does

-- a guard: the name of its state, `/` and its number within the state
abbrev pub guard_text : Body → GuardId → Text
guard_text body g = state_name body g.state ++ (codes "/" ++ decimal g.guard)

-- A communication state is its name. A transient state is the guard whose request was sent, and
-- `*`. A due state is the guard that sends the reply, and `!`.
abbrev pub place_text : Body → Place → Text
place_text body (Comm state) = state_name body state
place_text body (Trans g) = guard_text body g ++ codes "*"
place_text body (Due g) = guard_text body g ++ codes "!"

-- What makes the controller move: a step by a guard, whose number stands behind the word, or
-- `answer none` where no guard answers; or what came, and of a reply the name of the message.
abbrev pub trigger_text : List MessageInfo → Trigger → Text
trigger_text messages (Tau g) = codes "tau " ++ decimal g
trigger_text messages (Send g) = codes "send " ++ decimal g
trigger_text messages (Pay g) = codes "pay " ++ decimal g
trigger_text messages (Take g) = codes "take " ++ decimal g
trigger_text messages (Answer g) = codes "answer " ++ decimal g
trigger_text messages AnswerNone = codes "answer none"
trigger_text messages GotAck = codes "got ack"
trigger_text messages GotNack = codes "got nack"
trigger_text messages (GotReply m) = codes "got reply " ++ message_name messages m
trigger_text messages GotRequest = codes "got request"

-- What the controller puts on a link, or owes: a request, a reply and a debt are told with the name
-- of the message.
abbrev pub puts_text : List MessageInfo → Puts → Text
puts_text messages puts.Nothing = codes "nothing"
puts_text messages (puts.Request m) = codes "request " ++ message_name messages m
puts_text messages puts.Ack = codes "ack"
puts_text messages puts.Nack = codes "nack"
puts_text messages (puts.Reply m) = codes "reply " ++ message_name messages m
puts_text messages (puts.Owe m) = codes "owe " ++ message_name messages m

-- The guards that the controller completes: `none`, one guard, or two with one space between them.
abbrev pub does_text : Body → Does → Text
does_text body does.Nothing = codes "none"
does_text body (does.One g) = guard_text body g
does_text body (does.Two g h) = guard_text body g ++ (codes " " ++ guard_text body h)
