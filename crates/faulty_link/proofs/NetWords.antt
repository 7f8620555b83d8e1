-- What the words of a line say of a move of the network.
use Rattle.std.proofs.Common.{◌≡◌, ℕ, List, [], ◌∷◌, Some, None, Option}
use Rattle.std.proofs.Common.{decimal, if◌then◌else◌, refl, sym, ◌∙◌, ap, subst, bytes_eq, codes}
use Rattle.std.proofs.lemmas.Option.{same_Some}
use Rattle.std.specs.Option.{option_and_then}
use Rattle.rv_base.proofs.Lists.{some_and_then}
use Rattle.rv_base.proofs.SameWords.{tested}
use Rattle.proto_model.specs.ScheduleNumbers.{number}
use Rattle.proto_model.specs.Tokens.{Text, IsNumber}
use Rattle.proto_model.proofs.ScheduleNumbers.{number-is, number-decimal}
use Rattle.faulty_link.specs.NetLines.{way_word, words_of, net_words, HasNumbers, Says}
use Rattle.faulty_link.specs.NetLines.{way_said, move_of, named_move, net_step_of}
use Rattle.faulty_link.specs.declared.net_step.NetStep.{NetStep}
use Rattle.faulty_link.specs.declared.net_step.NetStep.TheVariants as net
use Rattle.faulty_link.specs.declared.net_step.Way.{Way}
use Rattle.faulty_link.specs.declared.net_step.Way.TheVariants as way

way-is : (word : Text) (on : Way) → way_said word ≡ Some on → word ≡ way_word on
way-is word on says =
    let rest = if bytes_eq word (codes "down") then Some way.Down else None in
    tested word (codes "up") (Some way.Up) rest on says
    (λ up is. subst (λ on. word ≡ way_word on) (same_Some way.Up on is) up)
    (λ others. tested word (codes "down") (Some way.Down) None on others
    (λ down is. subst (λ on. word ≡ way_word on) (same_Some way.Down on is) down)
    (λ none. absurd (cc)))

way-word : (on : Way) → way_said (way_word on) ≡ Some on
way-word way.Up = refl
way-word way.Down = refl

-- These are the words of the move, whose numbers a line can write.
abbrev IsSaid : List Text → NetStep → Type 0
IsSaid ws step = (ws ≡ net_words step) × HasNumbers step

-- Equal words make equal lines.
five : {a b c d e x y z w v : Text} → a ≡ x → b ≡ y → c ≡ z → d ≡ w → e ≡ v
    → a ∷ b ∷ c ∷ d ∷ e ∷ [] ≡ x ∷ y ∷ z ∷ w ∷ v ∷ []
five p q r s t = cc

-- the words of a move of this kind
said-words : (make : ℕ → Way → ℕ → NetStep) (name : Text) (what j on place : Text) (remote : ℕ)
    (goes : Way) (at : ℕ) (step : NetStep)
    → ((j : ℕ) (on : Way) (p : ℕ) → net_words (make j on p) ≡ words_of j on name p)
    → ((j : ℕ) (on : Way) (p : ℕ) → IsNumber j → IsNumber p → HasNumbers (make j on p))
    → what ≡ name → (j ≡ decimal remote) × IsNumber remote → on ≡ way_word goes
    → (place ≡ decimal at) × IsNumber at → Some (make remote goes at) ≡ Some step
    → IsSaid (codes "net" ∷ j ∷ on ∷ what ∷ place ∷ []) step
said-words make name what j on place remote goes at step its_words its_numbers named of to by is =
    subst (IsSaid (codes "net" ∷ j ∷ on ∷ what ∷ place ∷ [])) (same_Some _ step is) (
      five refl of.0 to named by.0 ∙ sym (its_words remote goes at),
      its_numbers remote goes at of.1 by.1,
    )

says-move : (what j on place : Text) (remote : ℕ) (goes : Way) (at : ℕ) (step : NetStep)
    → (j ≡ decimal remote) × IsNumber remote → on ≡ way_word goes
    → (place ≡ decimal at) × IsNumber at → move_of what remote goes at ≡ Some step
    → IsSaid (codes "net" ∷ j ∷ on ∷ what ∷ place ∷ []) step
says-move what j on place remote goes at step of to by says =
    let passes = if bytes_eq what (codes "pass") then Some (net.Pass remote goes at) else None in
    let copies =
    if bytes_eq what (codes "copy") then Some (net.Copy remote goes at) else passes in
    let loses = if bytes_eq what (codes "lose") then Some (net.Lose remote goes at) else copies in
    tested what (codes "resend") (Some (net.Resend remote goes at)) loses step says
    (λ named is. said-words (λ j on p. net.Resend j on p) (codes "resend") what j on place remote
    goes at step (λ _ _ _. refl) (λ _ _ _ a b. (a, b)) named of to by is)
    (λ later. tested what (codes "lose") (Some (net.Lose remote goes at)) copies step later
    (λ named is. said-words (λ j on p. net.Lose j on p) (codes "lose") what j on place remote
    goes at step (λ _ _ _. refl) (λ _ _ _ a b. (a, b)) named of to by is)
    (λ later. tested what (codes "copy") (Some (net.Copy remote goes at)) passes step later
    (λ named is. said-words (λ j on p. net.Copy j on p) (codes "copy") what j on place remote
    goes at step (λ _ _ _. refl) (λ _ _ _ a b. (a, b)) named of to by is)
    (λ later. tested what (codes "pass") (Some (net.Pass remote goes at)) None step later
    (λ named is. said-words (λ j on p. net.Pass j on p) (codes "pass") what j on place remote
    goes at step (λ _ _ _. refl) (λ _ _ _ a b. (a, b)) named of to by is)
    (λ none. absurd (cc)))))

says-named : (j on what place : Text) (step : NetStep)
    → named_move j on what place ≡ Some step
    → IsSaid (codes "net" ∷ j ∷ on ∷ what ∷ place ∷ []) step
says-named j on what place step says =
    let of = some_and_then (λ remote. option_and_then (λ goes. option_and_then (λ at.
    move_of what remote goes at) (number place)) (way_said on)) (number j) step says in
    let to = some_and_then (λ goes. option_and_then (λ at. move_of what of.0 goes at)
    (number place)) (way_said on) step of.2 in
    let by = some_and_then (λ at. move_of what of.0 to.0 at) (number place) step to.2 in
    says-move what j on place of.0 to.0 by.0 step (number-is j of.0 of.1) (way-is on to.0 to.1)
    (number-is place by.0 by.1) by.2

-- Words that say a move are its words.
says-step : (ws : List Text) (step : NetStep) → net_step_of ws ≡ Some step → IsSaid ws step
says-step [] step says = absurd (cc)
says-step (a ∷ []) step says = absurd (cc)
says-step (a ∷ b ∷ []) step says = absurd (cc)
says-step (a ∷ b ∷ c ∷ []) step says = absurd (cc)
says-step (a ∷ b ∷ c ∷ d ∷ []) step says = absurd (cc)
says-step (a ∷ b ∷ c ∷ d ∷ e ∷ []) step says =
    tested a (codes "net") (named_move b c d e) None step says
    (λ net is. subst (λ w. IsSaid (w ∷ b ∷ c ∷ d ∷ e ∷ []) step) (sym net)
    (says-named b c d e step is))
    (λ none. absurd (cc))
says-step (a ∷ b ∷ c ∷ d ∷ e ∷ w ∷ ws) step says = absurd (cc)

-- A move's words say it.
step_of-words : (step : NetStep) → HasNumbers step → net_step_of (net_words step) ≡ Some step
step_of-words (net.Resend j on place) small =
    rw (number-decimal j small.0, way-word on, number-decimal place small.1) refl
step_of-words (net.Lose j on place) small =
    rw (number-decimal j small.0, way-word on, number-decimal place small.1) refl
step_of-words (net.Copy j on place) small =
    rw (number-decimal j small.0, way-word on, number-decimal place small.1) refl
step_of-words (net.Pass j on place) small =
    rw (number-decimal j small.0, way-word on, number-decimal place small.1) refl

-- So words say exactly what they are those of.
pub says-words : (ws : List Text) (answer : Option NetStep) → answer ≡ net_step_of ws
    → Says ws answer
says-words ws (Some step) is = says-step ws step (sym is)
says-words ws None is = λ step small same.
    let some = ap net_step_of same ∙ step_of-words step small in absurd (cc)
