-- The bytes of the parts of a row, one after the other, are its word.
use Rattle.std.proofs.Common.{◌≡◌, ℕ, List, [], ◌∷◌, ◌++◌, get_or, refl, ap, ◌∙◌}
use Rattle.controller_table.specs.declared.rows.Place.{Place}
use Rattle.controller_table.specs.declared.rows.Place.TheVariants.{Comm, Trans, Due}
use Rattle.controller_table.specs.declared.rows.Trigger.{Trigger}
use Rattle.controller_table.specs.declared.rows.Trigger.TheVariants.{Tau, Send, Pay, Take, Answer}
use Rattle.controller_table.specs.declared.rows.Trigger.TheVariants.{AnswerNone, GotAck, GotNack}
use Rattle.controller_table.specs.declared.rows.Trigger.TheVariants.{GotReply, GotRequest}
use Rattle.controller_table.specs.declared.rows.Puts.{Puts}
use Rattle.controller_table.specs.declared.rows.Puts.TheVariants as puts
use Rattle.controller_table.specs.declared.rows.Does.{Does}
use Rattle.controller_table.specs.declared.rows.Does.TheVariants as does
use Rattle.controller_table.specs.declared.rows.Row.{Row}
use Rattle.control_store.specs.RowWord.{place_bytes, trigger_bytes, puts_bytes, does_bytes}
use Rattle.control_store.specs.RowWord.{row_word}

-- so many numbers of a list, from its first on
abbrev two : List ℕ → List ℕ
two w = get_or w 0 0 ∷ get_or w 1 0 ∷ []

abbrev three : List ℕ → List ℕ
three w = get_or w 0 0 ∷ get_or w 1 0 ∷ get_or w 2 0 ∷ []

abbrev five : List ℕ → List ℕ
five w = get_or w 0 0 ∷ get_or w 1 0 ∷ get_or w 2 0 ∷ get_or w 3 0 ∷ get_or w 4 0 ∷ []

three-place : (p : Place) → three (place_bytes p) ≡ place_bytes p
three-place (Comm state) = refl
three-place (Trans g) = refl
three-place (Due g) = refl

two-trigger : (t : Trigger) → two (trigger_bytes t) ≡ trigger_bytes t
two-trigger (Tau guard) = refl
two-trigger (Send guard) = refl
two-trigger (Pay guard) = refl
two-trigger (Take guard) = refl
two-trigger (Answer guard) = refl
two-trigger AnswerNone = refl
two-trigger GotAck = refl
two-trigger GotNack = refl
two-trigger (GotReply message) = refl
two-trigger GotRequest = refl

two-puts : (p : Puts) → two (puts_bytes p) ≡ puts_bytes p
two-puts puts.Nothing = refl
two-puts (puts.Request message) = refl
two-puts puts.Ack = refl
two-puts puts.Nack = refl
two-puts (puts.Reply message) = refl
two-puts (puts.Owe message) = refl

five-does : (d : Does) → five (does_bytes d) ≡ does_bytes d
five-does does.Nothing = refl
five-does (does.One g) = refl
five-does (does.Two g h) = refl

pub joined : (a b c d e p q r s t : List ℕ) → a ≡ p → b ≡ q → c ≡ r → d ≡ s → e ≡ t
    → a ++ (b ++ (c ++ (d ++ (e ++ 0 ∷ [])))) ≡ p ++ (q ++ (r ++ (s ++ (t ++ 0 ∷ []))))
joined a b c d e p q r s t ea eb ec ed ee = rw (ea, eb, ec, ed, ee) refl

pub word-made : (row : Row) (a o p d t : List ℕ) → a ≡ place_bytes row.at
    → o ≡ trigger_bytes row.on → p ≡ puts_bytes row.puts → d ≡ does_bytes row.does
    → t ≡ place_bytes row.to
    → get_or a 0 0 ∷ get_or a 1 0 ∷ get_or a 2 0 ∷ get_or o 0 0 ∷ get_or o 1 0 ∷ get_or p 0 0
    ∷ get_or p 1 0 ∷ get_or d 0 0 ∷ get_or d 1 0 ∷ get_or d 2 0 ∷ get_or d 3 0 ∷ get_or d 4 0
    ∷ get_or t 0 0 ∷ get_or t 1 0 ∷ get_or t 2 0 ∷ 0 ∷ [] ≡ row_word row
word-made row a o p d t ea eo ep ed et =
    joined (three a) (two o) (two p) (five d) (three t) (place_bytes row.at)
    (trigger_bytes row.on) (puts_bytes row.puts) (does_bytes row.does) (place_bytes row.to)
    (ap (λ (w : List ℕ). three w) ea ∙ three-place row.at)
    (ap (λ (w : List ℕ). two w) eo ∙ two-trigger row.on)
    (ap (λ (w : List ℕ). two w) ep ∙ two-puts row.puts)
    (ap (λ (w : List ℕ). five w) ed ∙ five-does row.does)
    (ap (λ (w : List ℕ). three w) et ∙ three-place row.to)
