-- The text of a step, as a line of a schedule has it.
use Rattle.std.specs.Prelude.{List, [], ◌∷◌, codes, decimal}
use Rattle.std.specs.List.{join_with_byte}
use Rattle.proto_model.specs.Tokens.{Text}
use Rattle.async_shape.specs.declared.step.Step.{Step}
use Rattle.async_shape.specs.declared.step.Step.TheVariants as step

-- the words of a step: its process, of a remote its number, what the step is, and its numbers
abbrev pub step_words : Step → List Text
step_words (step.HomeTau g) = codes "home" ∷ codes "tau" ∷ decimal g ∷ []
step_words (step.HomeTake j) = codes "home" ∷ codes "take" ∷ decimal j ∷ []
step_words (step.HomeSend g j) = codes "home" ∷ codes "send" ∷ decimal g ∷ decimal j ∷ []
step_words (step.HomeDrop j) = codes "home" ∷ codes "drop" ∷ decimal j ∷ []
step_words (step.RemoteTau j g) = codes "remote" ∷ decimal j ∷ codes "tau" ∷ decimal g ∷ []
step_words (step.RemoteSend j) = codes "remote" ∷ decimal j ∷ codes "send" ∷ []
step_words (step.RemoteAnswer j) = codes "remote" ∷ decimal j ∷ codes "answer" ∷ []
step_words (step.RemoteReply j) = codes "remote" ∷ decimal j ∷ codes "reply" ∷ []
step_words (step.Up j) = codes "up" ∷ decimal j ∷ []
step_words (step.Down j) = codes "down" ∷ decimal j ∷ []

-- a step: its words with one space between them
abbrev pub step_text : Step → Text
step_text what = join_with_byte 32 (step_words what)
