-- What asking for the next line comes to.
use Rattle.std.proofs.Common.{◌≡◌, ℕ, List, [], length, inr, arith, refl}
use Rattle.std.proofs.Common.{sym, ◌∙◌, ap}
use Rattle.std.proofs.lemmas.List.{take_all}
use Rattle.std.specs.Prelude.{Result}
use Rattle.std.specs.declared.option.Option.{Option}
use Rattle.std.specs.Io.KnownBytes.{append_known}
use Rattle.schedule_replay.specs.Reading.{Reading}
use Rattle.schedule_replay.specs.NextLine.{NextMoves}
use Rattle.schedule_replay.specs.Turns.{said, AskMoves, AskWrites}
use Rattle.schedule_replay.specs.declared.limits.Limits.{Limits}
use Rattle.schedule_replay.specs.declared.lines.NextLine.{NextLine}
use Rattle.schedule_replay.specs.declared.lines.NextLine.TheVariants.{Got, End, TooLong, TooMany}
use Rattle.schedule_replay.specs.declared.lines.NextLine.TheVariants.{ReadFault, NoMemory}
use Rattle.schedule_replay.specs.declared.replaying.Replayed.{Replayed}

said-moves : (limits : Limits) (old new : Reading) (before after : Option (List ℕ))
    (answer : NextLine) → NextMoves limits old new before after answer
    → AskMoves limits old new before after (said answer)
said-moves limits old new before after (Got number) moves = moves
said-moves limits old new before after End moves = moves
said-moves limits old new before after (TooLong number) moves = moves
said-moves limits old new before after TooMany moves = moves
said-moves limits old new before after ReadFault moves = moves
said-moves limits old new before after NoMemory moves = moves

pub asked-moves : (limits : Limits) (old new : Reading) (before after : Option (List ℕ))
    (answer : NextLine) (result : Result ℕ Replayed) → result ≡ said answer
    → NextMoves limits old new before after answer → AskMoves limits old new before after result
asked-moves limits old new before after answer result same moves =
    rw same (said-moves limits old new before after answer moves)

-- all that was kept was written
said-wrote : (old : List ℕ) (before now : Option (List ℕ)) (answer : NextLine)
    → now ≡ append_known before old → AskWrites old [] before now (said answer)
said-wrote old before now (Got number) wrote = inr (refl, wrote)
said-wrote old before now End wrote = inr (refl, wrote)
said-wrote old before now (TooLong number) wrote = inr (refl, wrote)
said-wrote old before now TooMany wrote = inr (refl, wrote)
said-wrote old before now ReadFault wrote = (refl, wrote)
said-wrote old before now NoMemory wrote = (
  length old,
  wrote
      ∙ ap (append_known before) (sym (take_all (length old) old (omega arith))),
)

pub asked-wrote : (old new : List ℕ) (before now : Option (List ℕ)) (answer : NextLine)
    (result : Result ℕ Replayed) → result ≡ said answer → new ≡ [] → now ≡ append_known before old
    → AskWrites old new before now result
asked-wrote old new before now answer result same none wrote =
    rw (same, none) (said-wrote old before now answer wrote)
