-- What the words of a line of a schedule of steps say.
use Rattle.std.proofs.Common.{◌≡◌, ◌≢◌, ℕ, List, [], ◌∷◌, Some, None}
use Rattle.std.proofs.Common.{decimal, if◌then◌else◌, refl, sym, ◌∙◌, ap, subst}
use Rattle.std.specs.Prelude.{bytes_eq, codes}
use Rattle.std.specs.Option.{option_map, option_and_then}
use Rattle.std.proofs.lemmas.Option.{same_Some}
use Rattle.rv_base.proofs.Lists.{some_map, some_and_then}
use Rattle.proto_model.specs.Tokens.{Text, IsNumber}
use Rattle.async_shape.specs.declared.step.Step.{Step}
use Rattle.async_shape.specs.declared.step.Step.TheVariants as step
use Rattle.async_machine.specs.StepText.{step_words}
use Rattle.proto_model.specs.ScheduleNumbers.{number}
use Rattle.proto_model.proofs.ScheduleNumbers.{number-is, number-decimal}
use Rattle.rv_base.proofs.SameWords.{two, three, four, tested}
use Rattle.run_replay.specs.StepLines.{HasNumbers, arrival_step, home_step, remote_step}
use Rattle.run_replay.specs.StepLines.{short_step, long_step, step_of}

-- These are the words of the step, whose numbers a line can write.
abbrev IsSaid : List Text → Step → Type 0
IsSaid ws s = (ws ≡ step_words s) × HasNumbers s

-- A word of one of two, and a number.
says-arrival : (way j : Text) (s : Step) → arrival_step way j ≡ Some s → IsSaid (way ∷ j ∷ []) s
says-arrival way j s says =
    tested way (codes "up") (option_map (λ n. step.Up n) (number j))
    (if bytes_eq way (codes "down") then option_map (λ n. step.Down n) (number j) else None) s says
    (λ up is.
    let at = some_map (λ n. step.Up n) (number j) s is in
    let written = number-is j at.0 at.1 in
    subst (IsSaid (way ∷ j ∷ [])) at.2 (two up written.0, written.1))
    (λ rest. tested way (codes "down") (option_map (λ n. step.Down n) (number j)) None s rest
    (λ down is.
    let at = some_map (λ n. step.Down n) (number j) s is in
    let written = number-is j at.0 at.1 in
    subst (IsSaid (way ∷ j ∷ [])) at.2 (two down written.0, written.1))
    (λ none. absurd (cc)))

-- The home, a word and a number.
says-home : (what word : Text) (n : ℕ) (s : Step) → word ≡ decimal n → IsNumber n
    → home_step what n ≡ Some s → IsSaid (codes "home" ∷ what ∷ word ∷ []) s
says-home what word n s written small says =
    let ws = codes "home" ∷ what ∷ word ∷ [] in
    let drops = if bytes_eq what (codes "drop") then Some (step.HomeDrop n) else None in
    let takes = if bytes_eq what (codes "take") then Some (step.HomeTake n) else drops in
    tested what (codes "tau") (Some (step.HomeTau n)) takes s says
    (λ is same.
    subst (IsSaid ws) (same_Some (step.HomeTau n) s same) (three refl is written, small))
    (λ others. tested what (codes "take") (Some (step.HomeTake n)) drops s others
    (λ is same.
    subst (IsSaid ws) (same_Some (step.HomeTake n) s same) (three refl is written, small))
    (λ last. tested what (codes "drop") (Some (step.HomeDrop n)) None s last
    (λ is same.
    subst (IsSaid ws) (same_Some (step.HomeDrop n) s same) (three refl is written, small))
    (λ none. absurd (cc))))

-- A remote, its number and a word.
says-remote : (what word : Text) (n : ℕ) (s : Step) → word ≡ decimal n → IsNumber n
    → remote_step n what ≡ Some s → IsSaid (codes "remote" ∷ word ∷ what ∷ []) s
says-remote what word n s written small says =
    let ws = codes "remote" ∷ word ∷ what ∷ [] in
    let replies = if bytes_eq what (codes "reply") then Some (step.RemoteReply n) else None in
    let answers = if bytes_eq what (codes "answer") then Some (step.RemoteAnswer n) else replies in
    tested what (codes "send") (Some (step.RemoteSend n)) answers s says
    (λ is same.
    subst (IsSaid ws) (same_Some (step.RemoteSend n) s same) (three refl written is, small))
    (λ others. tested what (codes "answer") (Some (step.RemoteAnswer n)) replies s others
    (λ is same.
    subst (IsSaid ws) (same_Some (step.RemoteAnswer n) s same) (three refl written is, small))
    (λ last. tested what (codes "reply") (Some (step.RemoteReply n)) None s last
    (λ is same.
    subst (IsSaid ws) (same_Some (step.RemoteReply n) s same) (three refl written is, small))
    (λ none. absurd (cc))))

-- Three words.
says-short : (a b c : Text) (s : Step) → short_step a b c ≡ Some s → IsSaid (a ∷ b ∷ c ∷ []) s
says-short a b c s says =
    let remotes = option_and_then (λ j. remote_step j c) (number b) in
    let others = if bytes_eq a (codes "remote") then remotes else None in
    tested a (codes "home") (option_and_then (home_step b) (number c)) others s says
    (λ home is.
    let at = some_and_then (home_step b) (number c) s is in
    let written = number-is c at.0 at.1 in
    subst (λ w. IsSaid (w ∷ b ∷ c ∷ []) s) (sym home)
    (says-home b c at.0 s written.0 written.1 at.2))
    (λ rest. tested a (codes "remote") remotes None s rest
    (λ remote is.
    let at = some_and_then (λ j. remote_step j c) (number b) s is in
    let written = number-is b at.0 at.1 in
    subst (λ w. IsSaid (w ∷ b ∷ c ∷ []) s) (sym remote)
    (says-remote c b at.0 s written.0 written.1 at.2))
    (λ none. absurd (cc)))

-- Two numbers make a step.
both_written : (x y : Text) (make : ℕ → ℕ → Step) (s : Step)
    → option_and_then (λ m. option_map (make m) (number y)) (number x) ≡ Some s
    → (m n : ℕ) × (x ≡ decimal m) × IsNumber m × (y ≡ decimal n) × IsNumber n × (make m n ≡ s)
both_written x y make s says =
    let at = some_and_then (λ m. option_map (make m) (number y)) (number x) s says in
    let next = some_map (make at.0) (number y) s at.2 in
    let first = number-is x at.0 at.1 in
    let second = number-is y next.0 next.1 in
    (at.0, next.0, first.0, first.1, second.0, second.1, next.2)

-- Four words.
says-long : (a b c d : Text) (s : Step) → long_step a b c d ≡ Some s
    → IsSaid (a ∷ b ∷ c ∷ d ∷ []) s
says-long a b c d s says =
    let ws = a ∷ b ∷ c ∷ d ∷ [] in
    let sends = option_and_then (λ g. option_map (λ j. step.HomeSend g j) (number d)) (number c) in
    let taus = option_and_then (λ j. option_map (λ g. step.RemoteTau j g) (number d)) (number b) in
    let of_home = if bytes_eq b (codes "send") then sends else None in
    let of_remote = if bytes_eq c (codes "tau") then taus else None in
    let others = if bytes_eq a (codes "remote") then of_remote else None in
    tested a (codes "home") of_home others s says
    (λ home is. tested b (codes "send") sends None s is
    (λ send both.
    let at = both_written c d (λ g j. step.HomeSend g j) s both in
    subst (IsSaid ws) at.6 (four home send at.2 at.4, (at.3, at.5)))
    (λ none. absurd (cc)))
    (λ rest. tested a (codes "remote") of_remote None s rest
    (λ remote is. tested c (codes "tau") taus None s is
    (λ tau both.
    let at = both_written b d (λ j g. step.RemoteTau j g) s both in
    subst (IsSaid ws) at.6 (four remote at.2 tau at.4, (at.3, at.5)))
    (λ none. absurd (cc)))
    (λ none. absurd (cc)))

-- Words that say a step are its words.
pub says-step : (ws : List Text) (s : Step) → step_of ws ≡ Some s
    → (ws ≡ step_words s) × HasNumbers s
says-step [] s says = absurd (cc)
says-step (a ∷ []) s says = absurd (cc)
says-step (a ∷ b ∷ []) s says = says-arrival a b s says
says-step (a ∷ b ∷ c ∷ []) s says = says-short a b c s says
says-step (a ∷ b ∷ c ∷ d ∷ []) s says = says-long a b c d s says
says-step (a ∷ b ∷ c ∷ d ∷ w ∷ ws) s says = absurd (cc)

-- A step's words say it.
pub step_of-words : (s : Step) → HasNumbers s → step_of (step_words s) ≡ Some s
step_of-words (step.HomeTau g) small = rw (number-decimal g small) refl
step_of-words (step.HomeTake j) small = rw (number-decimal j small) refl
step_of-words (step.HomeSend g j) small =
    rw (number-decimal g small.0, number-decimal j small.1) refl
step_of-words (step.HomeDrop j) small = rw (number-decimal j small) refl
step_of-words (step.RemoteTau j g) small =
    rw (number-decimal j small.0, number-decimal g small.1) refl
step_of-words (step.RemoteSend j) small = rw (number-decimal j small) refl
step_of-words (step.RemoteAnswer j) small = rw (number-decimal j small) refl
step_of-words (step.RemoteReply j) small = rw (number-decimal j small) refl
step_of-words (step.Up j) small = rw (number-decimal j small) refl
step_of-words (step.Down j) small = rw (number-decimal j small) refl

-- So words that say no step are those of none.
pub says-none : (ws : List Text) → step_of ws ≡ None → (s : Step) → HasNumbers s
    → ws ≢ step_words s
says-none ws none s small same = let some = ap step_of same ∙ step_of-words s small in absurd (cc)
