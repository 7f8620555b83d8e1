-- A protocol that a file can say has names that stand in one line.
use Rattle.std.proofs.Common.{◌≡◌, ◌≢◌, ℕ, true, false, List, [], ◌∷◌, map, ap}
use Rattle.std.specs.List.{AllByRecursion}
use Rattle.std.proofs.lemmas.List.Elements.{All-nil, All-cons}
use Rattle.proto_model.specs.Tokens.{Text, IsName, AllWord, is_word}
use Rattle.proto_model.specs.Numbered.{numbered, numbered_message, numbered_declaration}
use Rattle.proto_model.specs.Numbered.{numbered_state}
use Rattle.proto_model.specs.Numbered.{numbered_process}
use Rattle.proto_model.specs.Sayable.{IsSayable, IsSayableMessage, IsSayableVar, IsSayableState}
use Rattle.proto_model.specs.Sayable.{IsSayableProcess}
use Rattle.proto_model.specs.declared.protocol.Message.{Message}
use Rattle.proto_model.specs.declared.protocol.Var.{Var}
use Rattle.proto_model.specs.declared.protocol.State.{State}
use Rattle.proto_model.specs.declared.protocol.Process.{Process}
use Rattle.proto_model.specs.declared.protocol.Protocol.{Protocol}
use Rattle.proto_model.specs.declared.numbered.MessageInfo.{MessageInfo}
use Rattle.proto_model.specs.declared.numbered.VarInfo.{VarInfo}
use Rattle.proto_model.specs.declared.numbered.StateInfo.{StateInfo}
use Rattle.schedule_replay.specs.TextLines.{HasNoLf}
use Rattle.trace_soundness.proofs.Plain.{IsPlain, IsPlainBody}

-- An LF is no byte of a word.
word-no_lf : (b : ℕ) → is_word b ≡ true → b ≢ 10
unfolding is_word
word-no_lf b word = λ same. let no : is_word b ≡ false = ap is_word same in cc

-- nor of words
words-no_lf : (text : Text) → AllWord text → HasNoLf text
words-no_lf [] all = All-nil (λ b. b ≢ 10)
words-no_lf (b ∷ bs) all = All-cons (λ b. b ≢ 10) b bs (word-no_lf b all.0) (words-no_lf bs all.1)

name-no_lf : (text : Text) → IsName text → HasNoLf text
name-no_lf text name = words-no_lf text name.each

messages-plain : (messages : List Message) → AllByRecursion IsSayableMessage messages
    → AllByRecursion (λ (m : MessageInfo). HasNoLf m.name) (map numbered_message messages)
messages-plain [] each = tt
messages-plain (m ∷ messages) each =
    (name-no_lf m.name each.0.name, messages-plain messages each.1)

vars-plain : (vars : List Var) → AllByRecursion IsSayableVar vars
    → AllByRecursion (λ (v : VarInfo). HasNoLf v.name) (map numbered_declaration vars)
vars-plain [] each = tt
vars-plain (v ∷ vars) each = (name-no_lf v.name each.0.name, vars-plain vars each.1)

states-plain : (messages : List Message) (vars : List Var) (all states : List State)
    → AllByRecursion IsSayableState states
    → AllByRecursion (λ (s : StateInfo). HasNoLf s.name)
    (map (numbered_state messages vars all) states)
states-plain messages vars all [] each = tt
states-plain messages vars all (s ∷ states) each =
    (name-no_lf s.name each.0.name, states-plain messages vars all states each.1)

process-plain : (messages : List Message) (p : Process) → IsSayableProcess p
    → IsPlainBody (numbered_process messages p)
process-plain messages p is = record {
  vars = vars-plain p.vars is.vars;
  states = states-plain messages p.vars p.states p.states is.states;
}

-- so it is in numbered form
pub sayable-plain : (p : Protocol) → IsSayable p → IsPlain (numbered p).protocol
sayable-plain p is = record {
  messages = messages-plain p.messages is.messages;
  home = process-plain p.messages p.home is.home;
  remote = process-plain p.messages p.remote is.remote;
}
