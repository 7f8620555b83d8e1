-- The rules of guards.
use Rattle.std.proofs.Common.{◌≡◌, ℕ, Bool, true, false, not, ◌&&◌, List, [], ◌∷◌, ◌++◌, Option}
use Rattle.std.proofs.Common.{Some, None, refl, sym, ap, ◌∙◌, inl, inr, codes}
use Rattle.std.specs.Prelude.{◌⊎◌}
use Rattle.std.specs.List.{AllByRecursion, list_all}
use Rattle.std.specs.Str.{bytes_eq}
use Rattle.proto_model.specs.Tokens.{Text, Token, item, part, is_word, is_reserved, IsName}
use Rattle.proto_model.specs.Grammar.{semicolon, term_token, expr_tokens, rel_token, atom_tokens}
use Rattle.proto_model.specs.Grammar.{conds_tokens, assign_tokens, assigns_tokens, partner_tokens}
use Rattle.proto_model.specs.Grammar.{bound_tokens, value_tokens, action_tokens, guard_tokens}
use Rattle.proto_model.specs.Sayable.{IsSayableTerm, IsSayableExpr, IsSayableAtom, IsSayableAssign}
use Rattle.proto_model.specs.Sayable.{IsSayablePartner, IsSayableBound, IsSayableValue}
use Rattle.proto_model.specs.Sayable.{IsSayableAction, IsSayableGuard}
use Rattle.proto_model.specs.declared.guard.Term.{Term}
use Rattle.proto_model.specs.declared.guard.Term.TheVariants as term
use Rattle.proto_model.specs.declared.guard.Expr.{Expr}
use Rattle.proto_model.specs.declared.guard.Expr.TheVariants as expr
use Rattle.proto_model.specs.declared.guard.Rel.{Rel}
use Rattle.proto_model.specs.declared.guard.Rel.TheVariants as rel
use Rattle.proto_model.specs.declared.guard.Atom.{Atom}
use Rattle.proto_model.specs.declared.guard.Assign.{Assign}
use Rattle.proto_model.specs.declared.guard.Partner.{Partner}
use Rattle.proto_model.specs.declared.guard.Partner.TheVariants as partners
use Rattle.proto_model.specs.declared.guard.GuardKind.{GuardKind}
use Rattle.proto_model.specs.declared.guard.GuardKind.TheVariants as action
use Rattle.proto_model.specs.declared.guard.Guard.{Guard}
use Rattle.protocol_reader.specs.Reading.{both, token, word, name, is_name, term_of, operand}
use Rattle.protocol_reader.specs.Reading.{expr_of, expression, rel_of, relation, atom_of, atom}
use Rattle.protocol_reader.specs.Reading.{and_atom, conditions, assign_of, assignment}
use Rattle.protocol_reader.specs.Reading.{comma_assignment, assignments, partner_of, partner}
use Rattle.protocol_reader.specs.Reading.{option_of, bound, value, Meeting, input, output}
use Rattle.protocol_reader.specs.Reading.{action_of, guard_action, guard_of, guard, guard_words}
use Rattle.protocol_reader.specs.Reading.{is_among}
use Rattle.protocol_reader.proofs.Rule.{IsRule, both_tokens, BothOk, is_none}
use Rattle.protocol_reader.proofs.Choices.{free, Anything, nothing_rule, the_token, token_rule}
use Rattle.protocol_reader.proofs.Choices.{mapped_rule, choice_rule}
use Rattle.protocol_reader.proofs.Words.{name_rule, name_tokens, either_rule}
use Rattle.protocol_reader.proofs.Repeated.{Begins}
use Rattle.protocol_reader.proofs.Separated.{led_by, led_by_rule, between, separated_rule}
use Rattle.protocol_reader.proofs.Separated.{separated_stops, separated_stop}
use Rattle.protocol_reader.proofs.Sequences.{filled, FirstAmong, first_token, follows_among}
use Rattle.protocol_reader.proofs.Sequences.{both_free, both_filled, then_token, differs_nothing}
use Rattle.protocol_reader.proofs.Sequences.{differs_token, differs_choice, differs_name}
use Rattle.protocol_reader.proofs.Sequences.{differs_either_word, differs_begun, same_first}

-- ---- NUMBER | NAME | 'none' | 'empty'

abbrev term_parts : Term → Unit {0} ⊎ (Unit {0} ⊎ (ℕ ⊎ Text))
term_parts (term.Number n) = inr (inr (inl n))
term_parts (term.Named x) = inr (inr (inr x))
term_parts term.Nowhere = inl tt
term_parts term.Empty = inr (inl tt)

abbrev pub term_tokens : Term → List Token
term_tokens t = term_token t ∷ []

pub term_rule : IsRule operand term_tokens IsSayableTerm free
unfolding operand is_name is_reserved is_word
term_rule =
    mapped_rule
    (choice_rule (part (codes "none")) (filled _ refl) nothing_rule
    (choice_rule (part (codes "empty")) (filled _ refl) nothing_rule either_rule
    (differs_either_word _ refl refl))
    (differs_choice _ _ refl (differs_either_word _ refl refl)))
    term_of term_parts
    (elim [ term.Number n ↦ refl | term.Named x ↦ refl | term.Nowhere ↦ refl | term.Empty ↦ refl ])
    (elim [
      | inl u ↦ refl
      | inr (inl u) ↦ refl
      | inr (inr (inl n)) ↦ refl
      | inr (inr (inr x)) ↦ refl
    ])
    (elim [ term.Number n ↦ refl | term.Named x ↦ refl | term.Nowhere ↦ refl | term.Empty ↦ refl ])
    (elim [
      | term.Number n ↦ λ ok. ok
      | term.Named x ↦ λ ok. ok
      | term.Nowhere ↦ λ ok. ok
      | term.Empty ↦ λ ok. ok
    ])
    (elim [
      | term.Number n ↦ λ ok. ok
      | term.Named x ↦ λ ok. ok
      | term.Nowhere ↦ λ ok. ok
      | term.Empty ↦ λ ok. ok
    ])
    (elim [
      | term.Number n ↦ λ t. refl
      | term.Named x ↦ λ t. refl
      | term.Nowhere ↦ λ t. refl
      | term.Empty ↦ λ t. refl
    ])

-- ---- term [ ( '+' | '-' ) term ]

abbrev expr_parts : Expr → Term × (Term ⊎ (Term ⊎ Unit {0}))
expr_parts (expr.One t) = (t, inr (inr tt))
expr_parts (expr.Plus t u) = (t, inl u)
expr_parts (expr.Minus t u) = (t, inr (inl u))

expr_part : (p : Term × (Term ⊎ (Term ⊎ Unit {0}))) → expr_parts (expr_of p) ≡ p
expr_part (t, inl u) = refl
expr_part (t, inr (inl u)) = refl
expr_part (t, inr (inr u)) = refl

-- one term alone stops where no operator comes next
abbrev pub expr_stops : Expr → Text → Bool
expr_stops (expr.One t) u = not (bytes_eq u (codes "-")) && not (bytes_eq u (codes "+"))
expr_stops (expr.Plus t v) u = true
expr_stops (expr.Minus t v) u = true

pub expr_rule : IsRule expression expr_tokens IsSayableExpr expr_stops
unfolding expression
expr_rule =
    mapped_rule
    (both_free term_rule (choice_rule (part (codes "+")) (filled _ refl) term_rule
    (choice_rule (part (codes "-")) (filled _ refl) term_rule nothing_rule (differs_nothing _))
    (differs_choice _ _ refl (differs_nothing _))))
    expr_of expr_parts
    (elim [ expr.One t ↦ refl | expr.Plus t u ↦ refl | expr.Minus t u ↦ refl ])
    expr_part
    (elim [ expr.One t ↦ refl | expr.Plus t u ↦ refl | expr.Minus t u ↦ refl ])
    (elim [ expr.One t ↦ λ ok. (ok, tt) | expr.Plus t u ↦ λ ok. ok | expr.Minus t u ↦ λ ok. ok ])
    (elim [ expr.One t ↦ λ ok. ok.0 | expr.Plus t u ↦ λ ok. ok | expr.Minus t u ↦ λ ok. ok ])
    (elim [ expr.One t ↦ λ u. refl | expr.Plus t v ↦ λ u. refl | expr.Minus t v ↦ λ u. refl ])

-- an expression stops before a word that is no operator
expr_stops_before : (u : Text) → not (bytes_eq u (codes "-")) && not (bytes_eq u (codes "+")) ≡ true
    → (e : Expr) → expr_stops e u ≡ true
expr_stops_before u other (expr.One t) = other
expr_stops_before u other (expr.Plus t v) = refl
expr_stops_before u other (expr.Minus t v) = refl

-- ---- 'eq' | 'ne' | 'lt' | 'le' | 'in' | 'notin'

abbrev rel_parts : Rel → Unit {0} ⊎ (Unit {0} ⊎ (Unit {0} ⊎ (Unit {0} ⊎ (Unit {0} ⊎ Unit {0}))))
rel_parts rel.Eq = inl tt
rel_parts rel.Ne = inr (inl tt)
rel_parts rel.Lt = inr (inr (inl tt))
rel_parts rel.Le = inr (inr (inr (inl tt)))
rel_parts rel.Inside = inr (inr (inr (inr (inl tt))))
rel_parts rel.Outside = inr (inr (inr (inr (inr tt))))

abbrev pub rel_tokens : Rel → List Token
rel_tokens r = rel_token r ∷ []

pub rel_rule : IsRule relation rel_tokens Anything free
unfolding relation
rel_rule =
    mapped_rule
    (choice_rule (part (codes "eq")) (filled _ refl) nothing_rule
    (choice_rule (part (codes "ne")) (filled _ refl) nothing_rule
    (choice_rule (part (codes "lt")) (filled _ refl) nothing_rule
    (choice_rule (part (codes "le")) (filled _ refl) nothing_rule
    (choice_rule (part (codes "in")) (filled _ refl) nothing_rule
    (token_rule (part (codes "notin")) (filled _ refl)) (differs_token _ _ refl))
    (differs_choice _ _ refl (differs_token _ _ refl)))
    (differs_choice _ _ refl (differs_choice _ _ refl (differs_token _ _ refl))))
    (differs_choice _ _ refl
    (differs_choice _ _ refl (differs_choice _ _ refl (differs_token _ _ refl)))))
    (differs_choice _ _ refl
    (differs_choice _ _ refl
    (differs_choice _ _ refl (differs_choice _ _ refl (differs_token _ _ refl))))))
    rel_of rel_parts
    (elim [
      | rel.Eq ↦ refl
      | rel.Ne ↦ refl
      | rel.Lt ↦ refl
      | rel.Le ↦ refl
      | rel.Inside ↦ refl
      | rel.Outside ↦ refl
    ])
    (elim [
      | inl u ↦ refl
      | inr (inl u) ↦ refl
      | inr (inr (inl u)) ↦ refl
      | inr (inr (inr (inl u))) ↦ refl
      | inr (inr (inr (inr (inl u)))) ↦ refl
      | inr (inr (inr (inr (inr u)))) ↦ refl
    ])
    (elim [
      | rel.Eq ↦ refl
      | rel.Ne ↦ refl
      | rel.Lt ↦ refl
      | rel.Le ↦ refl
      | rel.Inside ↦ refl
      | rel.Outside ↦ refl
    ])
    (elim [
      | rel.Eq ↦ λ ok. ok
      | rel.Ne ↦ λ ok. ok
      | rel.Lt ↦ λ ok. ok
      | rel.Le ↦ λ ok. ok
      | rel.Inside ↦ λ ok. ok
      | rel.Outside ↦ λ ok. ok
    ])
    (λ _ _. tt)
    (elim [
      | rel.Eq ↦ λ t. refl
      | rel.Ne ↦ λ t. refl
      | rel.Lt ↦ λ t. refl
      | rel.Le ↦ λ t. refl
      | rel.Inside ↦ λ t. refl
      | rel.Outside ↦ λ t. refl
    ])

-- ---- expr rel expr

abbrev atom_parts : Atom → Expr × (Rel × Expr)
atom_parts a = (a.left, (a.rel, a.right))

abbrev pub atom_stops : Atom → Text → Bool
atom_stops a t = expr_stops a.right t

abbrev rel_words : List Text
rel_words = codes "eq" ∷ codes "ne" ∷ codes "lt" ∷ codes "le" ∷ codes "in" ∷ codes "notin" ∷ []

rel_among : (r : Rel) → is_among rel_words (rel_token r).text ≡ true
rel_among rel.Eq = refl
rel_among rel.Ne = refl
rel_among rel.Lt = refl
rel_among rel.Le = refl
rel_among rel.Inside = refl
rel_among rel.Outside = refl

first_rel : FirstAmong rel_words (BothOk Anything IsSayableExpr)
    (both_tokens rel_tokens expr_tokens)
first_rel =
    record {
      first =
          λ b t ts ok e.
          ap (λ (u : Token). is_among rel_words u.text)
          (sym (same_first (rel_token b.0) (expr_tokens b.1) t ts e)) ∙ rel_among b.0;
    }

before_rel : (e : Expr) → list_all (expr_stops e) rel_words ≡ true
before_rel (expr.One t) = refl
before_rel (expr.Plus t u) = refl
before_rel (expr.Minus t u) = refl

pub atom_rule : IsRule atom atom_tokens IsSayableAtom atom_stops
unfolding atom
atom_rule =
    mapped_rule
    (both_filled expr_rule (both_free rel_rule expr_rule)
    (follows_among rel_words first_rel (λ e ok. before_rel e)) (λ y ok. refl))
    atom_of atom_parts
    (λ a. refl)
    (λ p. refl)
    (λ a. refl)
    (λ a ok. (ok.left, (tt, ok.right)))
    (λ a ok. record { left = ok.0; right = ok.1.1 })
    (λ a t. refl)

-- ---- [ 'when' atom ( 'and' atom )* ]

pub and_rule : IsRule and_atom (led_by (codes "and") atom_tokens) IsSayableAtom atom_stops
unfolding and_atom
and_rule = led_by_rule (codes "and") refl atom_rule

pub and_begins : Begins (is_among (codes "and" ∷ []))
    (led_by (codes "and") atom_tokens) IsSayableAtom atom_stops
and_begins = between (codes "and") refl (λ a. expr_stops_before (codes "and") refl a.right)

abbrev pub conds_stops : List Atom → Text → Bool
conds_stops = separated_stops (codes "when") (codes "and") atom_tokens atom_stops

pub conds_rule : IsRule conditions conds_tokens (AllByRecursion IsSayableAtom) conds_stops
unfolding conditions
conds_rule =
    separated_rule (codes "when") (codes "and") refl refl atom_rule and_rule
    (λ a. expr_stops_before (codes "and") refl a.right)

-- ---- NAME '=' expr

abbrev assign_parts : Assign → Text × (Unit {0} × Expr)
assign_parts a = (a.var, (tt, a.value))

abbrev pub assign_stops : Assign → Text → Bool
assign_stops a t = expr_stops a.value t

pub assign_rule : IsRule assignment assign_tokens IsSayableAssign assign_stops
unfolding assignment
assign_rule =
    mapped_rule
    (both_free name_rule (both_free (token_rule (part (codes "=")) (filled _ refl)) expr_rule))
    assign_of assign_parts
    (λ a. refl)
    (λ p. refl)
    (λ a. refl)
    (λ a ok. (ok.var, (tt, ok.value)))
    (λ a ok. record { var = ok.0; value = ok.1.1 })
    (λ a t. refl)

-- ---- [ 'do' assign ( ',' assign )* ]

pub comma_rule : IsRule comma_assignment
    (led_by (codes ",") assign_tokens) IsSayableAssign assign_stops
unfolding comma_assignment
comma_rule = led_by_rule (codes ",") refl assign_rule

pub comma_begins : Begins (is_among (codes "," ∷ []))
    (led_by (codes ",") assign_tokens) IsSayableAssign assign_stops
comma_begins = between (codes ",") refl (λ a. expr_stops_before (codes ",") refl a.value)

abbrev pub assigns_stops : List Assign → Text → Bool
assigns_stops = separated_stops (codes "do") (codes ",") assign_tokens assign_stops

pub assigns_rule : IsRule assignments assigns_tokens (AllByRecursion IsSayableAssign) assigns_stops
unfolding assignments
assigns_rule =
    separated_rule (codes "do") (codes ",") refl refl assign_rule comma_rule
    (λ a. expr_stops_before (codes ",") refl a.value)

-- ---- 'home' | 'any' NAME [ 'in' NAME ] | NAME

abbrev partner_parts : Partner → Unit {0} ⊎ ((Text × (Text ⊎ Unit {0})) ⊎ Text)
partner_parts partners.Home = inl tt
partner_parts (partners.Any x) = inr (inl (x, inr tt))
partner_parts (partners.Member x s) = inr (inl (x, inl s))
partner_parts (partners.Named x) = inr (inr x)

partner_part : (p : Unit {0} ⊎ ((Text × (Text ⊎ Unit {0})) ⊎ Text))
    → partner_parts (partner_of p) ≡ p
partner_part (inl u) = refl
partner_part (inr (inl (x, inl s))) = refl
partner_part (inr (inl (x, inr u))) = refl
partner_part (inr (inr x)) = refl

abbrev pub partner_stops : Partner → Text → Bool
partner_stops partners.Home t = true
partner_stops (partners.Any x) t = not (bytes_eq t (codes "in"))
partner_stops (partners.Member x s) t = true
partner_stops (partners.Named x) t = true

pub and_true : (b : Bool) → b ≡ (b && true)
and_true true = refl
and_true false = refl

pub partner_rule : IsRule partner partner_tokens IsSayablePartner partner_stops
unfolding partner is_name is_reserved is_word
partner_rule =
    mapped_rule
    (choice_rule (part (codes "home")) (filled _ refl) nothing_rule
    (choice_rule (part (codes "any")) (filled _ refl)
    (both_free name_rule
    (choice_rule (part (codes "in")) (filled _ refl) name_rule nothing_rule
    (differs_nothing _)))
    name_rule (differs_name _ refl))
    (differs_choice _ _ refl (differs_name _ refl)))
    partner_of partner_parts
    (elim [
      | partners.Home ↦ refl
      | partners.Any x ↦ refl
      | partners.Member x s ↦ refl
      | partners.Named x ↦ refl
    ])
    partner_part
    (elim [
      | partners.Home ↦ refl
      | partners.Any x ↦ refl
      | partners.Member x s ↦ refl
      | partners.Named x ↦ refl
    ])
    (elim [
      | partners.Home ↦ λ ok. ok
      | partners.Any x ↦ λ ok. (ok, tt)
      | partners.Member x s ↦ λ ok. ok
      | partners.Named x ↦ λ ok. ok
    ])
    (elim [
      | partners.Home ↦ λ ok. ok
      | partners.Any x ↦ λ ok. ok.0
      | partners.Member x s ↦ λ ok. ok
      | partners.Named x ↦ λ ok. ok
    ])
    (elim [
      | partners.Home ↦ λ t. refl
      | partners.Any x ↦ λ t. and_true (not (bytes_eq t (codes "in")))
      | partners.Member x s ↦ λ t. refl
      | partners.Named x ↦ λ t. refl
    ])

-- ---- [ '(' NAME ')' ] and [ '(' expr ')' ]

abbrev option_parts : {A : Type 0} → Option A → (A × Unit {0}) ⊎ Unit {0}
option_parts None = inr tt
option_parts (Some a) = inl (a, tt)

abbrev pub option_stops : {A : Type 0} → Option A → Text → Bool
option_stops None t = not (bytes_eq t (codes "("))
option_stops (Some a) t = true

pub bound_rule : IsRule bound bound_tokens IsSayableBound option_stops
unfolding bound
bound_rule =
    mapped_rule
    (choice_rule
    (part (codes "(")) (filled _ refl) (then_token (part (codes ")")) name_rule (filled _ refl)
    (λ x ok. refl)) nothing_rule (differs_nothing _))
    option_of option_parts
    (elim [ None ↦ refl | Some x ↦ refl ])
    (elim [ inl p ↦ refl | inr u ↦ refl ])
    (elim [ None ↦ refl | Some x ↦ refl ])
    (elim [ None ↦ λ ok. ok | Some x ↦ λ ok. (ok, tt) ])
    (elim [ None ↦ λ ok. ok | Some x ↦ λ ok. ok.0 ])
    (elim [ None ↦ λ t. refl | Some x ↦ λ t. refl ])

pub value_rule : IsRule value value_tokens IsSayableValue option_stops
unfolding value
value_rule =
    mapped_rule
    (choice_rule
    (part (codes "(")) (filled _ refl) (then_token (part (codes ")")) expr_rule (filled _ refl)
    (λ e ok. expr_stops_before (codes ")") refl e)) nothing_rule (differs_nothing _))
    option_of option_parts
    (elim [ None ↦ refl | Some e ↦ refl ])
    (elim [ inl p ↦ refl | inr u ↦ refl ])
    (elim [ None ↦ refl | Some e ↦ refl ])
    (elim [ None ↦ λ ok. ok | Some e ↦ λ ok. (ok, tt) ])
    (elim [ None ↦ λ ok. ok | Some e ↦ λ ok. ok.0 ])
    (elim [ None ↦ λ t. refl | Some e ↦ λ t. refl ])

-- ---- 'tau' | 'from' partner '?' NAME [ '(' NAME ')' ] | 'to' partner '!' NAME [ '(' expr ')' ]

question_before : (p : Partner) → IsSayablePartner p
    → list_all (partner_stops p) (codes "?" ∷ []) ≡ true
question_before partners.Home ok = refl
question_before (partners.Any x) ok = refl
question_before (partners.Member x s) ok = refl
question_before (partners.Named x) ok = refl

exclamation_before : (p : Partner) → IsSayablePartner p
    → list_all (partner_stops p) (codes "!" ∷ []) ≡ true
exclamation_before partners.Home ok = refl
exclamation_before (partners.Any x) ok = refl
exclamation_before (partners.Member x s) ok = refl
exclamation_before (partners.Named x) ok = refl

abbrev meeting_tokens : {A : Type 0} → Text → (A → List Token) → Meeting A → List Token
meeting_tokens mark tokens =
    both_tokens partner_tokens
    (both_tokens (the_token (part mark)) (both_tokens name_tokens tokens))

abbrev MeetingOk : {A : Type 0} → (A → Type 0) → Meeting A → Type 0
MeetingOk P = BothOk IsSayablePartner (BothOk Anything (BothOk IsName P))

abbrev meeting_stops : {A : Type 0} → Meeting (Option A) → Text → Bool
meeting_stops (_, (_, (_, brought))) t = option_stops brought t

pub input_rule : IsRule input (meeting_tokens (codes "?") bound_tokens)
    (MeetingOk IsSayableBound) meeting_stops
unfolding input
input_rule =
    both_filled partner_rule
    (both_free (token_rule (part (codes "?")) (filled _ refl)) (both_free name_rule bound_rule))
    (follows_among (codes "?" ∷ [])
    (first_token (part (codes "?")) (codes "?" ∷ []) _ _ refl) question_before) (λ y ok. refl)

pub output_rule : IsRule output (meeting_tokens (codes "!") value_tokens)
    (MeetingOk IsSayableValue) meeting_stops
unfolding output
output_rule =
    both_filled partner_rule
    (both_free (token_rule (part (codes "!")) (filled _ refl)) (both_free name_rule value_rule))
    (follows_among (codes "!" ∷ [])
    (first_token (part (codes "!")) (codes "!" ∷ []) _ _ refl) exclamation_before)
    (λ y ok. refl)

abbrev action_parts : GuardKind
    → Unit {0} ⊎ (Meeting (Option Text) ⊎ (Unit {0} × Meeting (Option Expr)))
action_parts action.Tau = inl tt
action_parts (action.Input p m b) = inr (inl (p, (tt, (m, b))))
action_parts (action.Output p m v) = inr (inr (tt, (p, (tt, (m, v)))))

abbrev ActionOk : Unit {0} ⊎ (Meeting (Option Text) ⊎ (Unit {0} × Meeting (Option Expr))) → Type 0
ActionOk (inl _) = Unit {0}
ActionOk (inr (inl p)) = MeetingOk IsSayableBound p
ActionOk (inr (inr (_, p))) = Unit {0} × MeetingOk IsSayableValue p

action_ok : (a : GuardKind) → ActionOk (action_parts a) → IsSayableAction a
action_ok action.Tau ok = ok
action_ok (action.Input p m b) (partner, (_, (message, bound))) = (partner, message, bound)
action_ok (action.Output p m v) (_, (partner, (_, (message, value)))) = (partner, message, value)

abbrev pub action_stops : GuardKind → Text → Bool
action_stops action.Tau t = true
action_stops (action.Input p m b) t = option_stops b t
action_stops (action.Output p m v) t = option_stops v t

pub action_rule : IsRule guard_action action_tokens IsSayableAction action_stops
unfolding guard_action
action_rule =
    mapped_rule
    (choice_rule (item (codes "tau")) (filled _ refl) nothing_rule
    (choice_rule (item (codes "from")) (filled _ refl) input_rule
    (both_free (token_rule (item (codes "to")) (filled _ refl)) output_rule)
    (differs_begun (item (codes "from")) (item (codes "to")) _ _ refl))
    (differs_choice _ _ refl (differs_begun (item (codes "tau")) (item (codes "to")) _ _ refl)))
    action_of action_parts
    (elim [ action.Tau ↦ refl | action.Input p m b ↦ refl | action.Output p m v ↦ refl ])
    (elim [ inl u ↦ refl | inr (inl p) ↦ refl | inr (inr q) ↦ refl ])
    (elim [ action.Tau ↦ refl | action.Input p m b ↦ refl | action.Output p m v ↦ refl ])
    (elim [
      | action.Tau ↦ λ ok. ok
      | action.Input p m b ↦ λ ok. (ok.0, (tt, (ok.1, ok.2)))
      | action.Output p m v ↦ λ ok. (tt, (ok.0, (tt, (ok.1, ok.2))))
    ])
    action_ok
    (elim [
      | action.Tau ↦ λ t. refl
      | action.Input p m b ↦ λ t. and_true (option_stops b t)
      | action.Output p m v ↦ λ t. and_true (option_stops v t) ∙ and_true (option_stops v t && true)
    ])

-- ---- what follows

-- conditions stop before a word that is neither an operator nor one of theirs
conds_stop : (t : Text) → (not (bytes_eq t (codes "-")) && not (bytes_eq t (codes "+"))) ≡ true
    → not (is_among (codes "and" ∷ []) t) ≡ true → not (bytes_eq t (codes "when")) ≡ true
    → (atoms : List Atom) → conds_stops atoms t ≡ true
conds_stop t e f g atoms =
    separated_stop (codes "when") (codes "and") atom_tokens atom_stops t
    (λ a. expr_stops_before t e a.right) f g atoms

-- and so do assignments
assigns_stop : (t : Text) → (not (bytes_eq t (codes "-")) && not (bytes_eq t (codes "+"))) ≡ true
    → not (is_among (codes "," ∷ []) t) ≡ true → not (bytes_eq t (codes "do")) ≡ true
    → (assigns : List Assign) → assigns_stops assigns t ≡ true
assigns_stop t e f g assigns =
    separated_stop (codes "do") (codes ",") assign_tokens assign_stops t
    (λ a. expr_stops_before t e a.value) f g assigns

-- ---- action [ 'when' atom ( 'and' atom )* ] [ 'do' assign ( ',' assign )* ] 'goto' NAME ';'

option_stop : {A : Type 0} (o : Option A) (t : Text)
    → not (bytes_eq t (codes "(")) ≡ true → option_stops o t ≡ true
option_stop None t e = e
option_stop (Some a) t e = refl

action_stop : (t : Text)
    → not (bytes_eq t (codes "(")) ≡ true → (a : GuardKind) → action_stops a t ≡ true
action_stop t e action.Tau = refl
action_stop t e (action.Input p m b) = option_stop b t e
action_stop t e (action.Output p m v) = option_stop v t e

both_stop : (a b : Bool) → a ≡ true → b ≡ true → (a && (b && true)) ≡ true
both_stop a b e f = rw (e, f) refl

three_stop : (a b c : Bool) → a ≡ true → b ≡ true → c ≡ true → (a && (b && (c && true))) ≡ true
three_stop a b c e f g = rw (e, f, g) refl

abbrev ending_tokens : Unit {0} × (Text × Unit {0}) → List Token
ending_tokens =
    both_tokens (the_token (part (codes "goto"))) (both_tokens name_tokens (the_token semicolon))

abbrev EndingOk : Unit {0} × (Text × Unit {0}) → Type 0
EndingOk = BothOk Anything (BothOk IsName Anything)

first_assigns : (assigns : List Assign) (rest : List Token) (t : Token) (ts : List Token)
    → assigns_tokens assigns ++ (part (codes "goto") ∷ rest) ≡ t ∷ ts
    → is_among (codes "do" ∷ codes "goto" ∷ []) t.text ≡ true
first_assigns [] rest t ts e =
    ap (λ (u : Token). is_among (codes "do" ∷ codes "goto" ∷ []) u.text)
    (sym (same_first (part (codes "goto")) rest t ts e))
first_assigns (a ∷ more) rest t ts e =
    ap (λ (u : Token). is_among (codes "do" ∷ codes "goto" ∷ []) u.text)
    (sym (same_first (part (codes "do")) _ t ts e))

first_conds : (atoms : List Atom) (assigns : List Assign) (rest : List Token) (t : Token)
    (ts : List Token)
    → conds_tokens atoms ++ (assigns_tokens assigns ++ (part (codes "goto") ∷ rest)) ≡ t ∷ ts
    → is_among (codes "when" ∷ codes "do" ∷ codes "goto" ∷ []) t.text ≡ true
first_conds [] [] rest t ts e =
    ap (λ (u : Token). is_among (codes "when" ∷ codes "do" ∷ codes "goto" ∷ []) u.text)
    (sym (same_first (part (codes "goto")) rest t ts e))
first_conds [] (a ∷ more) rest t ts e =
    ap (λ (u : Token). is_among (codes "when" ∷ codes "do" ∷ codes "goto" ∷ []) u.text)
    (sym (same_first (part (codes "do")) _ t ts e))
first_conds (a ∷ more) assigns rest t ts e =
    ap (λ (u : Token). is_among (codes "when" ∷ codes "do" ∷ codes "goto" ∷ []) u.text)
    (sym (same_first (part (codes "when")) _ t ts e))

assigns_filled : (assigns : List Assign) (rest : List Token)
    → is_none (assigns_tokens assigns ++ (part (codes "goto") ∷ rest)) ≡ false
assigns_filled [] rest = refl
assigns_filled (a ∷ more) rest = refl

conds_filled : (atoms : List Atom) (assigns : List Assign) (rest : List Token)
    → is_none (conds_tokens atoms ++ (assigns_tokens assigns ++ (part (codes "goto") ∷ rest)))
    ≡ false
conds_filled [] assigns rest = assigns_filled assigns rest
conds_filled (a ∷ more) assigns rest = refl

ending_rule : IsRule (both (word (codes "goto")) (both name (token semicolon))) ending_tokens
    EndingOk free
ending_rule =
    both_free (token_rule (part (codes "goto")) (filled _ refl))
    (both_free name_rule (token_rule semicolon (filled _ refl)))

effects_rule : IsRule (both assignments (both (word (codes "goto")) (both name (token semicolon))))
    (both_tokens assigns_tokens ending_tokens)
    (BothOk (AllByRecursion IsSayableAssign) EndingOk) free
effects_rule =
    both_filled assigns_rule ending_rule
    (follows_among (codes "goto" ∷ [])
    (first_token (part (codes "goto")) (codes "goto" ∷ []) _ _ refl)
    (λ x ok. sym (and_true _) ∙ assigns_stop (codes "goto") refl refl refl x))
    (λ y ok. refl)

tail_rule : IsRule
    (both conditions (both assignments (both (word (codes "goto")) (both name (token semicolon)))))
    (both_tokens conds_tokens (both_tokens assigns_tokens ending_tokens))
    (BothOk (AllByRecursion IsSayableAtom) (BothOk (AllByRecursion IsSayableAssign) EndingOk))
    free
tail_rule =
    both_filled conds_rule effects_rule
    (follows_among (codes "do" ∷ codes "goto" ∷ [])
    (record { first = λ b t ts ok e. first_assigns b.0 _ t ts e })
    (λ x ok.
    both_stop _ _ (conds_stop (codes "do") refl refl refl x)
    (conds_stop (codes "goto") refl refl refl x)))
    (λ y ok. assigns_filled y.0 _)

abbrev guard_parts : Guard
    → GuardKind × (List Atom × (List Assign × (Unit {0} × (Text × Unit {0}))))
guard_parts g = (g.kind, (g.conds, (g.assigns, (tt, (g.next, tt)))))

abbrev GuardOk : Guard → Type 0
GuardOk g =
    IsSayableAction g.kind
    × (AllByRecursion IsSayableAtom g.conds
    × (AllByRecursion IsSayableAssign g.assigns × EndingOk (tt, (g.next, tt))))

guard_ok : (g : Guard) → GuardOk g → IsSayableGuard g
guard_ok g (kind, (conds, (assigns, (_, (next, _))))) =
    record { kind = kind; conds = conds; assigns = assigns; next = next }

pub guard_rule : IsRule guard guard_tokens IsSayableGuard free
unfolding guard
guard_rule =
    mapped_rule
    (both_filled action_rule tail_rule
    (follows_among (codes "when" ∷ codes "do" ∷ codes "goto" ∷ [])
    (record { first = λ b t ts ok e. first_conds b.0 b.1.0 _ t ts e })
    (λ x ok. three_stop _ _ _ (action_stop (codes "when") refl x) (action_stop (codes "do") refl x)
    (action_stop (codes "goto") refl x)))
    (λ y ok. conds_filled y.0 y.1.0 _))
    guard_of guard_parts
    (λ g. refl)
    (λ p. refl)
    (λ g. refl)
    (λ g ok. (ok.kind, (ok.conds, (ok.assigns, (tt, (ok.next, tt))))))
    guard_ok
    (λ g t. refl)

-- a guard begins with one of three words
abbrev kind_first : GuardKind → Token
kind_first action.Tau = item (codes "tau")
kind_first (action.Input p m b) = item (codes "from")
kind_first (action.Output p m v) = item (codes "to")

abbrev kind_rest : GuardKind → List Token
kind_rest action.Tau = []
kind_rest (action.Input p m b) = partner_tokens p ++ part (codes "?") ∷ part m ∷ bound_tokens b
kind_rest (action.Output p m v) = partner_tokens p ++ part (codes "!") ∷ part m ∷ value_tokens v

kind_split : (a : GuardKind) (rest : List Token)
    → action_tokens a ++ rest ≡ kind_first a ∷ (kind_rest a ++ rest)
kind_split action.Tau rest = refl
kind_split (action.Input p m b) rest = refl
kind_split (action.Output p m v) rest = refl

kind_among : (a : GuardKind) → is_among guard_words (kind_first a).text ≡ true
kind_among action.Tau = refl
kind_among (action.Input p m b) = refl
kind_among (action.Output p m v) = refl

pub guard_begins : Begins (is_among guard_words) guard_tokens IsSayableGuard free
guard_begins = record {
  first = λ g. kind_first g.kind;
  rest = λ g.
      kind_rest g.kind
      ++ (conds_tokens g.conds
      ++ (assigns_tokens g.assigns ++ part (codes "goto") ∷ part g.next ∷ semicolon ∷ []));
  parts = λ g ok. kind_split g.kind _;
  first_comes = λ g ok. kind_among g.kind;
  stops = λ g t ok e. refl;
}
