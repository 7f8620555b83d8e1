-- Reading from left to right: what each rule of the grammar takes from the lexemes, and where it
-- stops. The comment of a rule is its line of the grammar: square brackets mark a part that may be
-- missing, * a part that stands any number of times, | a choice, NAME a name and NUMBER a number.
use Rattle.std.specs.Prelude.{refl, ℕ, zero, suc, ◌+◌, Bool, true, false, not, ◌&&◌, if◌then◌else◌}
use Rattle.std.specs.Prelude.{◌⊎◌, List, [], ◌∷◌, ◌++◌, length, Option, Some, None, is_some}
use Rattle.std.specs.Prelude.{Result, Ok, Err, codes}
use Rattle.std.proofs.Common.{inl, inr}
use Rattle.std.specs.Coded.{Coded, code_by, coded×, coded_ℕ, coded_list}
use Rattle.std.specs.List.{list_all, list_any}
use Rattle.std.specs.Str.{bytes_eq}
use Rattle.rv_base.specs.Numbers.{number_of}
use Rattle.proto_model.specs.Tokens.{Text, is_word, begins_name, is_reserved, Token, item, part}
use Rattle.proto_model.specs.Lexemes.{Lexeme}
use Rattle.proto_model.specs.Grammar.{semicolon, opening, closing}
use Rattle.proto_model.specs.declared.protocol.Carry.{Carry}
use Rattle.proto_model.specs.declared.protocol.Carry.TheVariants as carry
use Rattle.proto_model.specs.declared.protocol.Message.{Message}
use Rattle.proto_model.specs.declared.protocol.VarKind.{VarKind}
use Rattle.proto_model.specs.declared.protocol.VarKind.TheVariants as kind
use Rattle.proto_model.specs.declared.protocol.Initial.{Initial}
use Rattle.proto_model.specs.declared.protocol.Initial.TheVariants as first
use Rattle.proto_model.specs.declared.protocol.Var.{Var}
use Rattle.proto_model.specs.declared.protocol.State.{State}
use Rattle.proto_model.specs.declared.protocol.Process.{Process}
use Rattle.proto_model.specs.declared.protocol.Claim.{Claim}
use Rattle.proto_model.specs.declared.protocol.Claim.TheVariants as claims
use Rattle.proto_model.specs.declared.protocol.Protocol.{Protocol}
use Rattle.proto_model.specs.declared.guard.Term.{Term}
use Rattle.proto_model.specs.declared.guard.Term.TheVariants as term
use Rattle.proto_model.specs.declared.guard.Expr.{Expr}
use Rattle.proto_model.specs.declared.guard.Expr.TheVariants as expr
use Rattle.proto_model.specs.declared.guard.Rel.{Rel}
use Rattle.proto_model.specs.declared.guard.Rel.TheVariants as rel
use Rattle.proto_model.specs.declared.guard.Atom.{Atom}
use Rattle.proto_model.specs.declared.guard.Assign.{Assign}
use Rattle.proto_model.specs.declared.guard.Partner.{Partner}
use Rattle.proto_model.specs.declared.guard.Partner.TheVariants as partners
use Rattle.proto_model.specs.declared.guard.GuardKind.{GuardKind}
use Rattle.proto_model.specs.declared.guard.GuardKind.TheVariants as action
use Rattle.proto_model.specs.declared.guard.Guard.{Guard}

-- ---- where reading stands

-- Where reading stands: the lexemes from the next one on, and the lines of the items that were
-- begun so far, in file order.
pub record At : Type 0 where
  pub lexemes : List Lexeme
  pub lines : List ℕ

-- a lexeme as a pair, by which values of this type are coded
abbrev pub coded_lexeme : Coded Lexeme
coded_lexeme =
    code_by (Text × ℕ) (coded× (coded_list coded_ℕ) coded_ℕ)
    (λ l. (l.text, l.line)) (λ p. record { text = p.0; line = p.1 }) (λ _. refl)

-- a place as a pair, by which values of this type are coded
abbrev pub coded_at : Coded At
coded_at =
    code_by (List Lexeme × List ℕ) (coded× (coded_list coded_lexeme) (coded_list coded_ℕ))
    (λ a. (a.lexemes, a.lines)) (λ p. record { lexemes = p.0; lines = p.1 }) (λ _. refl)

-- the first of some lexemes; where there is none, an empty one on line 0
abbrev pub first_of_all : List Lexeme → Lexeme
first_of_all [] = record { text = []; line = 0 }
first_of_all (l ∷ _) = l

-- the text of the next lexeme, which is empty at the end of the file
unfoldable pub text_at : At → Text
text_at at = (first_of_all at.lexemes).text

-- the line of the next lexeme
unfoldable pub line_at : At → ℕ
line_at at = (first_of_all at.lexemes).line

-- all lexemes but the first
abbrev pub behind : List Lexeme → List Lexeme
behind [] = []
behind (_ ∷ ls) = ls

-- Behind the next lexeme, which is this token. Where the token begins an item, its line is kept.
unfoldable pub after : Token → At → At
after t at = record {
  lexemes = behind at.lexemes;
  lines = if t.begins then at.lines ++ line_at at ∷ [] else at.lines;
}

-- a lexeme stands first, and it is this text
abbrev pub is_first : Text → List Lexeme → Bool
is_first text [] = false
is_first text (l ∷ _) = bytes_eq l.text text

-- the next lexeme is this text
unfoldable pub sees : Text → At → Bool
sees text at = is_first text at.lexemes

-- one lexeme is left
abbrev pub is_end : List Lexeme → Bool
is_end (_ ∷ []) = true
is_end _ = false

-- Only the end of the file is left, which is the last lexeme.
unfoldable pub at_end : At → Bool
at_end at = is_end at.lexemes

-- the text is one of these words
abbrev pub is_among : List Text → Text → Bool
is_among words text = list_any (bytes_eq text) words

-- ---- readers

-- what reading gives: a value and where reading then stands, or the line at which it stopped
abbrev pub Outcome : Type 0 → Type 0
Outcome A = Result (A × At) ℕ

-- what is read from a place on
abbrev pub Reader : Type 0 → Type 0
Reader A = At → Outcome A

-- goes on with the value, from where reading then stands; a stop stays
abbrev pub and_then : {A B : Type 0} → Outcome A → (A → Reader B) → Outcome B
and_then (Ok p) f = f p.0 p.1
and_then (Err n) f = Err n

-- this value, of which no lexeme is taken
abbrev pub pure : {A : Type 0} → A → Reader A
pure a = λ at. Ok (a, at)

-- the value of the one is made into another
abbrev pub mapped : {A B : Type 0} → (A → B) → Reader A → Reader B
mapped f p = λ at. and_then (p at) (λ a. pure (f a))

-- the one and then the other, and the values of both
abbrev pub both : {A B : Type 0} → Reader A → Reader B → Reader (A × B)
both p q = λ at. and_then (p at) (λ a at2. and_then (q at2) (λ b. pure (a, b)))

-- The token, where the next lexeme is its text. Else reading stops there.
unfoldable pub token : Token → Reader (Unit {0})
token t = λ at. if sees t.text at then Ok (tt, after t at) else Err (line_at at)

-- the first behind the token where it comes next, else the second
abbrev pub choice : {A B : Type 0} → Token → Reader A → Reader B → Reader (A ⊎ B)
choice t p q = λ at. if sees t.text at then mapped inl p (after t at) else mapped inr q at

-- any number of things, as long as the next text is one with which a further thing comes, and at
-- most so many
unfoldable pub many : {A : Type 0} → (Text → Bool) → Reader A → ℕ → Reader (List A)
many comes p zero = pure []
many comes p (suc n) = λ at.
    if comes (text_at at) then mapped (λ x. x.0 ∷ x.1) (both p (many comes p n)) at
    else Ok ([], at)

-- Any number of things, as long as the next text is one with which a further thing comes. Each
-- thing takes a lexeme at least, so the bound is never met.
unfoldable pub many_at : {A : Type 0} → (Text → Bool) → Reader A → Reader (List A)
many_at comes p = λ at. many comes p (length at.lexemes + 1) at

-- The next lexeme, with what was made of its text. Where nothing was, reading stops there.
abbrev pub taken : {A : Type 0} → Option A → Reader A
taken (Some a) = λ at. Ok (a, after (part (text_at at)) at)
taken None = λ at. Err (line_at at)

-- ---- names and numbers

-- a letter or _ and then letters, digits and _, but no reserved word
unfoldable pub is_name : Text → Bool
is_name text = begins_name text && list_all is_word text && not (is_reserved text)

-- a name
unfoldable pub name : Reader Text
name = λ at.
    if is_name (text_at at) then Ok (text_at at, after (part (text_at at)) at)
    else Err (line_at at)

-- the number of at most five digits, without leading zeros, whose decimal text this is
unfoldable pub number_in : Text → Option ℕ
number_in text = number_of text 99999

-- the text is that of a number
abbrev pub is_number : Text → Bool
is_number text = is_some (number_in text)

-- a number
unfoldable pub number : Reader ℕ
number = λ at. taken (number_in (text_at at)) at

-- ---- rules

-- no token
abbrev pub nothing : Reader (Unit {0})
nothing = pure tt

-- this word or sign, which begins no item
abbrev pub word : Text → Reader (Unit {0})
word text = token (part text)

-- up: true
abbrev pub direction_of : Unit {0} ⊎ Unit {0} → Bool
direction_of (inl _) = true
direction_of (inr _) = false

-- 'up' | 'down'
unfoldable pub direction : Reader Bool
direction = mapped direction_of (choice (part (codes "up")) nothing (word (codes "down")))

-- what a message carries, by the word that was read, or by none
abbrev pub carry_of : ℕ ⊎ (Unit {0} ⊎ (Unit {0} ⊎ Unit {0})) → Carry
carry_of (inl n) = carry.Int n
carry_of (inr (inl _)) = carry.Node
carry_of (inr (inr (inl _))) = carry.Set
carry_of (inr (inr (inr _))) = carry.Nothing

-- [ 'int' NUMBER | 'node' | 'set' ]
unfoldable pub carried : Reader Carry
carried =
    mapped carry_of
    (choice (part (codes "int")) number
    (choice (part (codes "node")) nothing
    (choice (part (codes "set")) nothing nothing)))

-- the message of the parts that were read
abbrev pub message_of : Unit {0} × (Text × (Bool × (Carry × Unit {0}))) → Message
message_of (_, (name, (up, (carries, _)))) = record { name = name; up = up; carries = carries }

-- 'message' NAME direction carried ';'
unfoldable pub message : Reader Message
message =
    mapped message_of
    (both (token (item (codes "message")))
    (both name (both direction (both carried (token semicolon)))))

-- the type of a variable, by the word that was read
abbrev pub kind_of : ℕ ⊎ (Unit {0} ⊎ Unit {0}) → VarKind
kind_of (inl n) = kind.Int n
kind_of (inr (inl _)) = kind.Node
kind_of (inr (inr _)) = kind.Set

-- 'int' NUMBER | 'node' | 'set'
unfoldable pub var_kind : Reader VarKind
var_kind =
    mapped kind_of
    (choice (part (codes "int")) number (choice (part (codes "node")) nothing (word (codes "set"))))

-- the first value of a variable, by the word or the number that was read
abbrev pub initial_of : Unit {0} ⊎ (Unit {0} ⊎ ℕ) → Initial
initial_of (inl _) = first.Nowhere
initial_of (inr (inl _)) = first.Empty
initial_of (inr (inr n)) = first.Number n

-- 'none' | 'empty' | NUMBER
unfoldable pub initial : Reader Initial
initial =
    mapped initial_of
    (choice (part (codes "none")) nothing (choice (part (codes "empty")) nothing number))

-- the variable of the parts that were read
abbrev pub var_of : Unit {0} × (Text × (VarKind × (Unit {0} × (Initial × Unit {0})))) → Var
var_of (_, (name, (kind, (_, (first, _))))) = record { name = name; kind = kind; first = first }

-- 'var' NAME var_kind '=' initial ';'
unfoldable pub variable : Reader Var
variable =
    mapped var_of
    (both (token (item (codes "var"))) (both name (both var_kind
    (both (word (codes "=")) (both initial (token semicolon))))))

-- a number where one comes next, else a name
unfoldable pub number_or_name : Reader (ℕ ⊎ Text)
number_or_name = λ at.
    if is_number (text_at at) then mapped inl number at else mapped inr name at

-- the term, by the word, the number or the name that was read
abbrev pub term_of : Unit {0} ⊎ (Unit {0} ⊎ (ℕ ⊎ Text)) → Term
term_of (inl _) = term.Nowhere
term_of (inr (inl _)) = term.Empty
term_of (inr (inr (inl n))) = term.Number n
term_of (inr (inr (inr name))) = term.Named name

-- 'none' | 'empty' | NUMBER | NAME
unfoldable pub operand : Reader Term
operand =
    mapped term_of
    (choice (part (codes "none")) nothing (choice (part (codes "empty")) nothing number_or_name))

-- the expression of a term and what was read behind it: + and a term, - and a term, or nothing
abbrev pub expr_of : Term × (Term ⊎ (Term ⊎ Unit {0})) → Expr
expr_of (t, inl u) = expr.Plus t u
expr_of (t, inr (inl u)) = expr.Minus t u
expr_of (t, inr (inr _)) = expr.One t

-- operand [ ( '+' | '-' ) operand ]
unfoldable pub expression : Reader Expr
expression =
    mapped expr_of
    (both operand (choice (part (codes "+")) operand (choice (part (codes "-")) operand nothing)))

-- the relation, by the word that was read
abbrev pub rel_of :
    Unit {0} ⊎ (Unit {0} ⊎ (Unit {0} ⊎ (Unit {0} ⊎ (Unit {0} ⊎ Unit {0})))) → Rel
rel_of (inl _) = rel.Eq
rel_of (inr (inl _)) = rel.Ne
rel_of (inr (inr (inl _))) = rel.Lt
rel_of (inr (inr (inr (inl _)))) = rel.Le
rel_of (inr (inr (inr (inr (inl _))))) = rel.Inside
rel_of (inr (inr (inr (inr (inr _))))) = rel.Outside

-- 'eq' | 'ne' | 'lt' | 'le' | 'in' | 'notin'
unfoldable pub relation : Reader Rel
relation =
    mapped rel_of
    (choice (part (codes "eq")) nothing
    (choice (part (codes "ne")) nothing
    (choice (part (codes "lt")) nothing
    (choice (part (codes "le")) nothing
    (choice (part (codes "in")) nothing (word (codes "notin")))))))

-- the atom of the parts that were read
abbrev pub atom_of : Expr × (Rel × Expr) → Atom
atom_of (left, (rel, right)) = record { left = left; rel = rel; right = right }

-- expression relation expression
unfoldable pub atom : Reader Atom
atom = mapped atom_of (both expression (both relation expression))

-- what was read behind a word
abbrev pub second_of : {A : Type 0} → Unit {0} × A → A
second_of (_, a) = a

-- 'and' atom
unfoldable pub and_atom : Reader Atom
and_atom = mapped second_of (both (word (codes "and")) atom)

-- the first and the others, or none
abbrev pub list_of : {A : Type 0} → (A × List A) ⊎ Unit {0} → List A
list_of (inl (a, more)) = a ∷ more
list_of (inr _) = []

-- [ 'when' atom ( 'and' atom )* ]
unfoldable pub conditions : Reader (List Atom)
conditions =
    mapped list_of
    (choice (part (codes "when"))
    (both atom (many_at (is_among (codes "and" ∷ [])) and_atom)) nothing)

-- the assignment of the parts that were read
abbrev pub assign_of : Text × (Unit {0} × Expr) → Assign
assign_of (var, (_, value)) = record { var = var; value = value }

-- NAME '=' expression
unfoldable pub assignment : Reader Assign
assignment = mapped assign_of (both name (both (word (codes "=")) expression))

-- ',' assignment
unfoldable pub comma_assignment : Reader Assign
comma_assignment = mapped second_of (both (word (codes ",")) assignment)

-- [ 'do' assignment ( ',' assignment )* ]
unfoldable pub assignments : Reader (List Assign)
assignments =
    mapped list_of
    (choice (part (codes "do"))
    (both assignment (many_at (is_among (codes "," ∷ [])) comma_assignment)) nothing)

-- any x, where s is read too any x in s
abbrev pub any_of : Text × (Text ⊎ Unit {0}) → Partner
any_of (x, inl s) = partners.Member x s
any_of (x, inr _) = partners.Any x

-- the partner, by what was read: home, any with what follows, or the name of a variable
abbrev pub partner_of : Unit {0} ⊎ ((Text × (Text ⊎ Unit {0})) ⊎ Text) → Partner
partner_of (inl _) = partners.Home
partner_of (inr (inl p)) = any_of p
partner_of (inr (inr x)) = partners.Named x

-- 'home' | 'any' NAME [ 'in' NAME ] | NAME
unfoldable pub partner : Reader Partner
partner =
    mapped partner_of
    (choice (part (codes "home")) nothing
    (choice (part (codes "any")) (both name (choice (part (codes "in")) name nothing)) name))

-- what was read in parentheses, or none
abbrev pub option_of : {A : Type 0} → (A × Unit {0}) ⊎ Unit {0} → Option A
option_of (inl (a, _)) = Some a
option_of (inr _) = None

-- [ '(' NAME ')' ]
unfoldable pub bound : Reader (Option Text)
bound =
    mapped option_of (choice (part (codes "(")) (both name (word (codes ")"))) nothing)

-- [ '(' expression ')' ]
unfoldable pub value : Reader (Option Expr)
value =
    mapped option_of (choice (part (codes "(")) (both expression (word (codes ")"))) nothing)

-- what is read of a rendezvous: a partner, ? or !, the message and what comes with it
abbrev pub Meeting : Type 0 → Type 0
Meeting A = Partner × (Unit {0} × (Text × A))

-- partner '?' NAME bound
unfoldable pub input : Reader (Meeting (Option Text))
input = both partner (both (word (codes "?")) (both name bound))

-- partner '!' NAME value
unfoldable pub output : Reader (Meeting (Option Expr))
output = both partner (both (word (codes "!")) (both name value))

-- the input of the parts that were read
abbrev pub input_of : Meeting (Option Text) → GuardKind
input_of (partner, (_, (message, bound))) = action.Input partner message bound

-- the output of the parts that were read
abbrev pub output_of : Meeting (Option Expr) → GuardKind
output_of (partner, (_, (message, value))) = action.Output partner message value

-- what a guard does, by what was read: tau, from with an input, or to with an output
abbrev pub action_of :
    Unit {0} ⊎ (Meeting (Option Text) ⊎ (Unit {0} × Meeting (Option Expr))) → GuardKind
action_of (inl _) = action.Tau
action_of (inr (inl p)) = input_of p
action_of (inr (inr (_, q))) = output_of q

-- 'tau' | 'from' input | 'to' output
unfoldable pub guard_action : Reader GuardKind
guard_action =
    mapped action_of
    (choice (item (codes "tau")) nothing
    (choice (item (codes "from")) input (both (token (item (codes "to"))) output)))

-- the guard of the parts that were read
abbrev pub guard_of :
    GuardKind × (List Atom × (List Assign × (Unit {0} × (Text × Unit {0})))) → Guard
guard_of (kind, (conds, (assigns, (_, (next, _))))) =
    record { kind = kind; conds = conds; assigns = assigns; next = next }

-- guard_action conditions assignments 'goto' NAME ';'
unfoldable pub guard : Reader Guard
guard =
    mapped guard_of
    (both guard_action (both conditions (both assignments
    (both (word (codes "goto")) (both name (token semicolon))))))

-- the words with one of which a guard begins
abbrev pub guard_words : List Text
guard_words = codes "tau" ∷ codes "from" ∷ codes "to" ∷ []

-- the state of the parts that were read
abbrev pub state_of : Unit {0} × (Text × (Unit {0} × (List Guard × Unit {0}))) → State
state_of (_, (name, (_, (guards, _)))) = record { name = name; guards = guards }

-- 'state' NAME '{' guard* '}'
unfoldable pub state : Reader State
state =
    mapped state_of
    (both (token (item (codes "state"))) (both name
    (both (token opening) (both (many_at (is_among guard_words) guard) (token closing)))))

-- the process of the parts that were read
abbrev pub process_of :
    Unit {0} × (List Var × (Unit {0} × (Text × (Unit {0} × (List State × Unit {0}))))) → Process
process_of (_, (vars, (_, (start, (_, (states, _)))))) =
    record { vars = vars; start = start; states = states }

-- '{' variable* 'start' NAME ';' state* '}'
unfoldable pub process : Reader Process
process =
    mapped process_of
    (both (token opening) (both (many_at (is_among (codes "var" ∷ [])) variable)
    (both (token (item (codes "start"))) (both name (both (token semicolon)
    (both (many_at (is_among (codes "state" ∷ [])) state) (token closing)))))))

-- the first and the others
abbrev pub in_front_of : {A : Type 0} → A × List A → List A
in_front_of (a, more) = a ∷ more

-- NAME NAME*
unfoldable pub names : Reader (List Text)
names = mapped in_front_of (both name (many_at is_name name))

-- the parts of a claim, by the word that was read: the number and the names behind `atmost`, or the
-- two names behind `not`
abbrev pub ClaimParts : Type 0
ClaimParts =
    (ℕ × (Unit {0} × (List Text × Unit {0})))
    ⊎ (Unit {0} × (Text × (Unit {0} × (Text × Unit {0}))))

-- the claim of the parts that were read
abbrev pub claim_of : Unit {0} × ClaimParts → Claim
claim_of (_, inl (most, (_, (states, _)))) = claims.AtMost most states
claim_of (_, inr (_, (x, (_, (y, _))))) = claims.Apart x y

-- 'claim' ( 'atmost' NUMBER 'in' names ';' | 'not' NAME 'with' NAME ';' )
unfoldable pub claim : Reader Claim
claim =
    mapped claim_of
    (both (token (item (codes "claim")))
    (choice (part (codes "atmost"))
    (both number (both (word (codes "in")) (both names (token semicolon))))
    (both (word (codes "not"))
    (both name (both (word (codes "with")) (both name (token semicolon)))))))

-- what a protocol says in each version: its messages, its home and its remote
abbrev pub Body : Type 0
Body = List Message × Process × Process

-- the body of the parts that were read
abbrev pub body_of : List Message × (Unit {0} × (Process × (Unit {0} × Process))) → Body
body_of (messages, (_, (home, (_, remote)))) = (messages, home, remote)

-- message* 'home' process 'remote' process
unfoldable pub body : Reader Body
body =
    mapped body_of
    (both (many_at (is_among (codes "message" ∷ [])) message)
    (both (token (item (codes "home"))) (both process
    (both (token (item (codes "remote"))) process))))

-- What is read behind the name of a protocol: where the version stands there, a body and claims,
-- else a body alone.
abbrev pub Versions : Type 0
Versions = (Unit {0} × (Unit {0} × (Body × List Claim))) ⊎ (Unit {0} × Body)

-- the protocol of this name and version, of the body that was read, with these claims
abbrev pub with_claims : Text → ℕ → Body → List Claim → Protocol
with_claims name version (messages, home, remote) claims = record {
  name = name;
  version = version;
  messages = messages;
  home = home;
  remote = remote;
  claims = claims;
}

-- the protocol of the parts that were read: of version 2, or of version 1, which has no claims
abbrev pub protocol_of : Unit {0} × (Text × Versions) → Protocol
protocol_of (_, (name, inl (_, (_, (body, claims))))) = with_claims name 2 body claims
protocol_of (_, (name, inr (_, body))) = with_claims name 1 body []

-- 'protocol' NAME ( 'version' '2' ';' body claim* | ';' body )
unfoldable pub protocol : Reader Protocol
protocol =
    mapped protocol_of
    (both (token (item (codes "protocol"))) (both name
    (choice (part (codes "version"))
    (both (word (codes "2")) (both (token semicolon)
    (both body (many_at (is_among (codes "claim" ∷ [])) claim))))
    (both (token semicolon) body))))

-- A protocol, and nothing behind it. Where something is, reading stops there.
unfoldable pub file : Reader Protocol
file = λ at. and_then (protocol at) (λ p new. if at_end new then Ok (p, new) else Err (line_at new))
