-- What the words of a line say.
use Rattle.std.proofs.Common.{◌≡◌, ◌≢◌, ℕ, List, [], ◌∷◌, Bool, true, false, Some, None, arith}
use Rattle.std.proofs.Common.{decimal, refl, sym, ◌∙◌, ap, subst}
use Rattle.std.specs.Prelude.{bytes_eq, codes}
use Rattle.std.specs.declared.option.Option.{Option}
use Rattle.rv_base.proofs.DecimalText.{decimal-LeadsWell}
use Rattle.rv_base.proofs.SameWords.{same-bytes, four}
use Rattle.proto_model.specs.ScheduleNumbers.{number}
use Rattle.proto_model.specs.Tokens.{Text, IsNumber}
use Rattle.proto_model.specs.Texts.{event_words}
use Rattle.proto_model.specs.declared.rendezvous.Event.{Event}
use Rattle.proto_model.specs.declared.rendezvous.Event.TheVariants as event
use Rattle.proto_model.proofs.ScheduleNumbers.{number-is, number-decimal}
use Rattle.schedule_replay.specs.EventLines.{HasNumbers, tau_event, meeting_event, event_of}

pub has-word : (word : Text) (others : List Text) → word ∷ others ≢ []
has-word word others none = cc

-- the numbers that words write, and the event of them
says-tau : (who g : Text) (home : Bool) (rule remote : Option ℕ) (e : Event)
    → bytes_eq who (codes "home") ≡ home → number g ≡ rule → number who ≡ remote
    → tau_event who g ≡ Some e
    → (codes "tau" ∷ who ∷ g ∷ [] ≡ event_words e) × HasNumbers e
says-tau who g true (Some n) remote e h r j s =
    let is : event.TauHome n ≡ e = cc (rw (h, r) at s) in
    let rule = number-is g n r in
    subst (λ (e : Event). (codes "tau" ∷ who ∷ g ∷ [] ≡ event_words e) × HasNumbers e) is (
      ap (λ w. codes "tau" ∷ w ∷ g ∷ []) (same-bytes who (codes "home") h)
          ∙ ap (λ w. codes "tau" ∷ codes "home" ∷ w ∷ []) rule.0,
      rule.1,
    )
says-tau who g true None remote e h r j s = absurd (cc (rw (h, r) at s))
says-tau who g false (Some n) (Some m) e h r j s =
    let is : event.TauRemote m n ≡ e = cc (rw (h, j, r) at s) in
    let rule = number-is g n r in
    let remote = number-is who m j in
    subst (λ (e : Event). (codes "tau" ∷ who ∷ g ∷ [] ≡ event_words e) × HasNumbers e) is (
      ap (λ w. codes "tau" ∷ w ∷ g ∷ []) remote.0
          ∙ ap (λ w. codes "tau" ∷ decimal m ∷ w ∷ []) rule.0,
      (remote.1, rule.1),
    )
says-tau who g false None (Some m) e h r j s = absurd (cc (rw (h, j, r) at s))
says-tau who g false rule None e h r j s = absurd (cc (rw (h, j) at s))

says-meeting : (name j h r : Text) (up down : Bool) (remote home_rule remote_rule : Option ℕ)
    (e : Event) → bytes_eq name (codes "up") ≡ up → bytes_eq name (codes "down") ≡ down
    → number j ≡ remote → number h ≡ home_rule → number r ≡ remote_rule
    → meeting_event name j h r ≡ Some e → (name ∷ j ∷ h ∷ r ∷ [] ≡ event_words e) × HasNumbers e
says-meeting name j h r true down (Some a) (Some b) (Some c) e u d x y z s =
    let is : event.Up a b c ≡ e = cc (rw (x, y, z, u) at s) in
    let remote = number-is j a x in
    let home_rule = number-is h b y in
    let remote_rule = number-is r c z in
    subst (λ (e : Event). (name ∷ j ∷ h ∷ r ∷ [] ≡ event_words e)
    × HasNumbers e) is (
      four (same-bytes name (codes "up") u) remote.0 home_rule.0 remote_rule.0,
      (remote.1, home_rule.1, remote_rule.1),
    )
says-meeting name j h r false true (Some a) (Some b) (Some c) e u d x y z s =
    let is : event.Down a b c ≡ e = cc (rw (x, y, z, u, d) at s) in
    let remote = number-is j a x in
    let home_rule = number-is h b y in
    let remote_rule = number-is r c z in
    subst (λ (e : Event). (name ∷ j ∷ h ∷ r ∷ [] ≡ event_words e)
    × HasNumbers e) is (
      four (same-bytes name (codes "down") d) remote.0 home_rule.0 remote_rule.0,
      (remote.1, home_rule.1, remote_rule.1),
    )
says-meeting name j h r false false (Some a) (Some b) (Some c) e u d x y z s = absurd (cc (rw
    (x, y, z, u, d) at s))
says-meeting name j h r up down (Some a) (Some b) None e u d x y z s = absurd (cc (rw
    (x, y, z) at s))
says-meeting name j h r up down (Some a) None remote_rule e u d x y z s = absurd (cc (rw
    (x, y) at s))
says-meeting name j h r up down None home_rule remote_rule e u d x y z s = absurd (cc (rw x at s))

says-three : (name who g : Text) (tau : Bool) (e : Event) → bytes_eq name (codes "tau") ≡ tau
    → event_of (name ∷ who ∷ g ∷ []) ≡ Some e → (name ∷ who ∷ g ∷ [] ≡ event_words e) × HasNumbers e
says-three name who g true e t s =
    let says = says-tau who g (bytes_eq who (codes "home")) (number g) (number who) e refl refl refl
    (rw t at s) in
    (ap (λ w. w ∷ who ∷ g ∷ []) (same-bytes name (codes "tau") t) ∙ says.0, says.1)
says-three name who g false e t s = absurd (cc (rw t at s))

-- words that say an event are its words
pub says-event : (ws : List Text) (e : Event) → event_of ws ≡ Some e
    → (ws ≡ event_words e) × HasNumbers e
says-event [] e s = absurd (cc)
says-event (a ∷ []) e s = absurd (cc)
says-event (a ∷ b ∷ []) e s = absurd (cc)
says-event (a ∷ b ∷ c ∷ []) e s = says-three a b c (bytes_eq a (codes "tau")) e refl s
says-event (a ∷ b ∷ c ∷ d ∷ []) e s = says-meeting a b c d (bytes_eq a (codes "up")) (bytes_eq a
    (codes "down")) (number b) (number c) (number d) e refl refl refl refl refl s
says-event (a ∷ b ∷ c ∷ d ∷ w ∷ ws) e s = absurd (cc)

-- no number is written `home`
not-home : (j : ℕ) → IsNumber j → decimal j ≡ codes "home" → ⊥
not-home j small e =
    let leads = decimal-LeadsWell (codes "home") j (omega (arith, small)) (sym e) in
    absurd (omega (arith, leads.1))

number-not-home : (j : ℕ) (home : Bool) → IsNumber j → bytes_eq (decimal j) (codes "home") ≡ home
    → home ≡ false
number-not-home j true small e = absurd (not-home j small (same-bytes (decimal j) (codes "home") e))
number-not-home j false small e = refl

-- an event's words say it
pub event_of-words : (e : Event) → HasNumbers e → event_of (event_words e) ≡ Some e
event_of-words (event.TauHome g) small = rw (number-decimal g small) refl
event_of-words (event.TauRemote j g) small = rw (
  number-not-home j (bytes_eq (decimal j)
      (codes "home")) small.0 refl,
  number-decimal j small.0,
  number-decimal g small.1,
) refl
event_of-words (event.Up j h r) small = rw
    (number-decimal j small.0, number-decimal h small.1, number-decimal r small.2) refl
event_of-words (event.Down j h r) small = rw
    (number-decimal j small.0, number-decimal h small.1, number-decimal r small.2) refl

-- so words that say no event are those of none
pub says-none : (ws : List Text) → event_of ws ≡ None → (e : Event) → HasNumbers e
    → ws ≢ event_words e
says-none ws none e small same = let some = ap event_of same ∙ event_of-words e small in absurd (cc)
