-- The rules of messages and variables.
use Rattle.std.proofs.Common.{◌≡◌, ℕ, Bool, true, false, not, ◌&&◌, List, [], ◌∷◌, refl, inl, inr}
use Rattle.std.proofs.Common.{codes}
use Rattle.std.specs.Prelude.{◌⊎◌}
use Rattle.std.specs.Str.{bytes_eq}
use Rattle.proto_model.specs.Tokens.{Text, Token, item, part, IsName}
use Rattle.proto_model.specs.Grammar.{semicolon, direction_token, carry_tokens, message_tokens}
use Rattle.proto_model.specs.Grammar.{kind_tokens, initial_token, var_tokens}
use Rattle.proto_model.specs.Sayable.{IsSayableCarry, IsSayableMessage, IsSayableKind}
use Rattle.proto_model.specs.Sayable.{IsSayableInitial, IsSayableVar}
use Rattle.proto_model.specs.declared.protocol.Carry.{Carry}
use Rattle.proto_model.specs.declared.protocol.Carry.TheVariants as carry
use Rattle.proto_model.specs.declared.protocol.Message.{Message}
use Rattle.proto_model.specs.declared.protocol.VarKind.{VarKind}
use Rattle.proto_model.specs.declared.protocol.VarKind.TheVariants as kind
use Rattle.proto_model.specs.declared.protocol.Initial.{Initial}
use Rattle.proto_model.specs.declared.protocol.Initial.TheVariants as first
use Rattle.proto_model.specs.declared.protocol.Var.{Var}
use Rattle.protocol_reader.specs.Reading.{direction_of, direction, carry_of, carried, message_of}
use Rattle.protocol_reader.specs.Reading.{message, kind_of, var_kind, initial_of, initial, var_of}
use Rattle.protocol_reader.specs.Reading.{variable}
use Rattle.protocol_reader.proofs.Rule.{IsRule}
use Rattle.protocol_reader.proofs.Choices.{free, Anything, nothing_rule, token_rule, mapped_rule}
use Rattle.protocol_reader.proofs.Choices.{choice_rule}
use Rattle.protocol_reader.proofs.Words.{name_rule, number_rule}
use Rattle.protocol_reader.proofs.Sequences.{filled, both_free, then_token, differs_nothing}
use Rattle.protocol_reader.proofs.Sequences.{differs_token, differs_choice, differs_number}

-- ---- 'up' | 'down'

abbrev direction_parts : Bool → Unit {0} ⊎ Unit {0}
direction_parts true = inl tt
direction_parts false = inr tt

abbrev direction_tokens : Bool → List Token
direction_tokens up = direction_token up ∷ []

pub direction_rule : IsRule direction direction_tokens Anything free
unfolding direction
direction_rule =
    mapped_rule
    (choice_rule (part (codes "up")) (filled _ refl) nothing_rule
    (token_rule (part (codes "down")) (filled _ refl)) (differs_token _ _ refl))
    direction_of direction_parts
    (elim [ true ↦ refl | false ↦ refl ])
    (elim [ inl _ ↦ refl | inr _ ↦ refl ])
    (elim [ true ↦ refl | false ↦ refl ])
    (elim [ true ↦ λ _. tt | false ↦ λ _. tt ])
    (λ _ _. tt)
    (elim [ true ↦ λ _. refl | false ↦ λ _. refl ])

-- ---- [ 'int' NUMBER | 'node' | 'set' ]

abbrev carry_parts : Carry → ℕ ⊎ (Unit {0} ⊎ (Unit {0} ⊎ Unit {0}))
carry_parts (carry.Int n) = inl n
carry_parts carry.Node = inr (inl tt)
carry_parts carry.Set = inr (inr (inl tt))
carry_parts carry.Nothing = inr (inr (inr tt))

-- where there is no type, none may come next
abbrev pub carry_stops : Carry → Text → Bool
carry_stops (carry.Int n) t = true
carry_stops carry.Node t = true
carry_stops carry.Set t = true
carry_stops carry.Nothing t =
    not (bytes_eq t (codes "set")) && not (bytes_eq t (codes "node")) && not
    (bytes_eq t (codes "int"))

pub carried_rule : IsRule carried carry_tokens IsSayableCarry carry_stops
unfolding carried
carried_rule =
    mapped_rule
    (choice_rule (part (codes "int")) (filled _ refl) number_rule
    (choice_rule (part (codes "node")) (filled _ refl) nothing_rule
    (choice_rule (part (codes "set")) (filled _ refl) nothing_rule nothing_rule (differs_nothing _))
    (differs_choice _ _ refl (differs_nothing _)))
    (differs_choice _ _ refl (differs_choice _ _ refl (differs_nothing _))))
    carry_of carry_parts
    (elim [ carry.Int n ↦ refl | carry.Node ↦ refl | carry.Set ↦ refl | carry.Nothing ↦ refl ])
    (elim [
      | inl n ↦ refl
      | inr (inl u) ↦ refl
      | inr (inr (inl u)) ↦ refl
      | inr (inr (inr u)) ↦ refl
    ])
    (elim [ carry.Int n ↦ refl | carry.Node ↦ refl | carry.Set ↦ refl | carry.Nothing ↦ refl ])
    (elim [
      | carry.Int n ↦ λ ok. ok
      | carry.Node ↦ λ ok. ok
      | carry.Set ↦ λ ok. ok
      | carry.Nothing ↦ λ ok. ok
    ])
    (elim [
      | carry.Int n ↦ λ ok. ok
      | carry.Node ↦ λ ok. ok
      | carry.Set ↦ λ ok. ok
      | carry.Nothing ↦ λ ok. ok
    ])
    (elim [
      | carry.Int n ↦ λ t. refl
      | carry.Node ↦ λ t. refl
      | carry.Set ↦ λ t. refl
      | carry.Nothing ↦ λ t. refl
    ])

semicolon_stops : (c : Carry) → IsSayableCarry c → carry_stops c (codes ";") ≡ true
semicolon_stops (carry.Int n) ok = refl
semicolon_stops carry.Node ok = refl
semicolon_stops carry.Set ok = refl
semicolon_stops carry.Nothing ok = refl

-- ---- 'message' NAME ( 'up' | 'down' ) [ type ] ';'

abbrev message_parts : Message → Unit {0} × (Text × (Bool × (Carry × Unit {0})))
message_parts m = (tt, (m.name, (m.up, (m.carries, tt))))

abbrev MessageOk : Message → Type 0
MessageOk m = Unit {0} × (IsName m.name × (Unit {0} × (IsSayableCarry m.carries × Unit {0})))

message_ok : (m : Message) → MessageOk m → IsSayableMessage m
message_ok m (_, (name, (_, (carries, _)))) = record { name = name; carries = carries }

pub message_rule : IsRule message message_tokens IsSayableMessage free
unfolding message
message_rule =
    mapped_rule
    (both_free (token_rule (item (codes "message")) (filled _ refl))
    (both_free name_rule
    (both_free direction_rule
    (then_token semicolon carried_rule (filled _ refl) semicolon_stops))))
    message_of message_parts
    (λ m. refl)
    (λ p. refl)
    (λ m. refl)
    (λ m ok. (tt, (ok.name, (tt, (ok.carries, tt)))))
    message_ok
    (λ m t. refl)

-- ---- 'int' NUMBER | 'node' | 'set'

abbrev kind_parts : VarKind → ℕ ⊎ (Unit {0} ⊎ Unit {0})
kind_parts (kind.Int n) = inl n
kind_parts kind.Node = inr (inl tt)
kind_parts kind.Set = inr (inr tt)

pub kind_rule : IsRule var_kind kind_tokens IsSayableKind free
unfolding var_kind
kind_rule =
    mapped_rule
    (choice_rule (part (codes "int")) (filled _ refl) number_rule
    (choice_rule (part (codes "node")) (filled _ refl) nothing_rule
    (token_rule (part (codes "set")) (filled _ refl)) (differs_token _ _ refl))
    (differs_choice _ _ refl (differs_token _ _ refl)))
    kind_of kind_parts
    (elim [ kind.Int n ↦ refl | kind.Node ↦ refl | kind.Set ↦ refl ])
    (elim [ inl n ↦ refl | inr (inl u) ↦ refl | inr (inr u) ↦ refl ])
    (elim [ kind.Int n ↦ refl | kind.Node ↦ refl | kind.Set ↦ refl ])
    (elim [ kind.Int n ↦ λ ok. ok | kind.Node ↦ λ ok. ok | kind.Set ↦ λ ok. ok ])
    (elim [ kind.Int n ↦ λ ok. ok | kind.Node ↦ λ ok. ok | kind.Set ↦ λ ok. ok ])
    (elim [ kind.Int n ↦ λ t. refl | kind.Node ↦ λ t. refl | kind.Set ↦ λ t. refl ])

-- ---- NUMBER | 'none' | 'empty'

abbrev initial_parts : Initial → Unit {0} ⊎ (Unit {0} ⊎ ℕ)
initial_parts (first.Number n) = inr (inr n)
initial_parts first.Nowhere = inl tt
initial_parts first.Empty = inr (inl tt)

abbrev pub initial_tokens : Initial → List Token
initial_tokens i = initial_token i ∷ []

pub initial_rule : IsRule initial initial_tokens IsSayableInitial free
unfolding initial
initial_rule =
    mapped_rule
    (choice_rule (part (codes "none")) (filled _ refl) nothing_rule
    (choice_rule (part (codes "empty")) (filled _ refl) nothing_rule number_rule
    (differs_number _ refl))
    (differs_choice _ _ refl (differs_number _ refl)))
    initial_of initial_parts
    (elim [ first.Number n ↦ refl | first.Nowhere ↦ refl | first.Empty ↦ refl ])
    (elim [ inl u ↦ refl | inr (inl u) ↦ refl | inr (inr n) ↦ refl ])
    (elim [ first.Number n ↦ refl | first.Nowhere ↦ refl | first.Empty ↦ refl ])
    (elim [ first.Number n ↦ λ ok. ok | first.Nowhere ↦ λ ok. ok | first.Empty ↦ λ ok. ok ])
    (elim [ first.Number n ↦ λ ok. ok | first.Nowhere ↦ λ ok. ok | first.Empty ↦ λ ok. ok ])
    (elim [ first.Number n ↦ λ t. refl | first.Nowhere ↦ λ t. refl | first.Empty ↦ λ t. refl ])

-- ---- 'var' NAME type '=' initial ';'

abbrev var_parts : Var → Unit {0} × (Text × (VarKind × (Unit {0} × (Initial × Unit {0}))))
var_parts v = (tt, (v.name, (v.kind, (tt, (v.first, tt)))))

abbrev VarOk : Var → Type 0
VarOk v =
    Unit {0}
    × (IsName v.name
    × (IsSayableKind v.kind × (Unit {0} × (IsSayableInitial v.first × Unit {0}))))

var_ok : (v : Var) → VarOk v → IsSayableVar v
var_ok v (_, (name, (kind, (_, (first, _))))) = record { name = name; kind = kind; first = first }

pub var_rule : IsRule variable var_tokens IsSayableVar free
unfolding variable
var_rule =
    mapped_rule
    (both_free (token_rule (item (codes "var")) (filled _ refl))
    (both_free name_rule (both_free kind_rule
    (both_free (token_rule (part (codes "=")) (filled _ refl))
    (then_token semicolon initial_rule (filled _ refl) (λ i ok. refl))))))
    var_of var_parts
    (λ v. refl)
    (λ p. refl)
    (λ v. refl)
    (λ v ok. (tt, (ok.name, (ok.kind, (tt, (ok.first, tt))))))
    var_ok
    (λ v t. refl)
