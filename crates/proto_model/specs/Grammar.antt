-- The grammar: the tokens of a protocol, by its parts. Square brackets in a rule mark a part that
-- may be missing, * a part that stands any number of times, | a choice.
use Rattle.std.specs.Prelude.{ℕ, Bool, true, false, ◌==◌, if◌then◌else◌, List, [], ◌∷◌, ◌++◌, map}
use Rattle.std.specs.Prelude.{Option, Some, None, codes}
use Rattle.std.specs.List.{flat_map}
use Rattle.std.specs.Fmt.{decimal}
use Rattle.proto_model.specs.Tokens.{Text, Token, item, part}
use Rattle.proto_model.specs.declared.protocol.Carry.{Carry}
use Rattle.proto_model.specs.declared.protocol.Carry.TheVariants as carry
use Rattle.proto_model.specs.declared.protocol.Message.{Message}
use Rattle.proto_model.specs.declared.protocol.VarKind.{VarKind}
use Rattle.proto_model.specs.declared.protocol.VarKind.TheVariants as kind
use Rattle.proto_model.specs.declared.protocol.Initial.{Initial}
use Rattle.proto_model.specs.declared.protocol.Initial.TheVariants as first
use Rattle.proto_model.specs.declared.protocol.Var.{Var}
use Rattle.proto_model.specs.declared.protocol.State.{State}
use Rattle.proto_model.specs.declared.protocol.Process.{Process}
use Rattle.proto_model.specs.declared.protocol.Claim.{Claim}
use Rattle.proto_model.specs.declared.protocol.Claim.TheVariants as claim
use Rattle.proto_model.specs.declared.protocol.Protocol.{Protocol}
use Rattle.proto_model.specs.declared.guard.Term.{Term}
use Rattle.proto_model.specs.declared.guard.Term.TheVariants as term
use Rattle.proto_model.specs.declared.guard.Expr.{Expr}
use Rattle.proto_model.specs.declared.guard.Expr.TheVariants as expr
use Rattle.proto_model.specs.declared.guard.Rel.{Rel}
use Rattle.proto_model.specs.declared.guard.Rel.TheVariants as rel
use Rattle.proto_model.specs.declared.guard.Atom.{Atom}
use Rattle.proto_model.specs.declared.guard.Assign.{Assign}
use Rattle.proto_model.specs.declared.guard.Partner.{Partner}
use Rattle.proto_model.specs.declared.guard.Partner.TheVariants as partner
use Rattle.proto_model.specs.declared.guard.GuardKind.{GuardKind}
use Rattle.proto_model.specs.declared.guard.GuardKind.TheVariants as action
use Rattle.proto_model.specs.declared.guard.Guard.{Guard}

-- ';'
abbrev pub semicolon : Token
semicolon = part (codes ";")

-- '{'
abbrev pub opening : Token
opening = part (codes "{")

-- '}'
abbrev pub closing : Token
closing = part (codes "}")

-- NUMBER: the decimal text
abbrev pub number_token : ℕ → Token
number_token n = part (decimal n)

-- 'up' | 'down'
abbrev pub direction_token : Bool → Token
direction_token true = part (codes "up")
direction_token false = part (codes "down")

-- [ 'int' NUMBER | 'node' | 'set' ]; a message that carries nothing has no type
abbrev pub carry_tokens : Carry → List Token
carry_tokens carry.Nothing = []
carry_tokens (carry.Int n) = part (codes "int") ∷ number_token n ∷ []
carry_tokens carry.Node = part (codes "node") ∷ []
carry_tokens carry.Set = part (codes "set") ∷ []

-- 'message' NAME ( 'up' | 'down' ) [ type ] ';'
abbrev pub message_tokens : Message → List Token
message_tokens m =
    item (codes "message") ∷ part m.name ∷ direction_token m.up
    ∷ (carry_tokens m.carries ++ semicolon ∷ [])

-- 'int' NUMBER | 'node' | 'set'
abbrev pub kind_tokens : VarKind → List Token
kind_tokens (kind.Int n) = part (codes "int") ∷ number_token n ∷ []
kind_tokens kind.Node = part (codes "node") ∷ []
kind_tokens kind.Set = part (codes "set") ∷ []

-- NUMBER | 'none' | 'empty'
abbrev pub initial_token : Initial → Token
initial_token (first.Number n) = number_token n
initial_token first.Nowhere = part (codes "none")
initial_token first.Empty = part (codes "empty")

-- 'var' NAME type '=' initial ';'
abbrev pub var_tokens : Var → List Token
var_tokens v =
    item (codes "var") ∷ part v.name
    ∷ (kind_tokens v.kind ++ part (codes "=") ∷ initial_token v.first ∷ semicolon ∷ [])

-- NUMBER | NAME | 'none' | 'empty'
abbrev pub term_token : Term → Token
term_token (term.Number n) = number_token n
term_token (term.Named name) = part name
term_token term.Nowhere = part (codes "none")
term_token term.Empty = part (codes "empty")

-- term [ ( '+' | '-' ) term ]
abbrev pub expr_tokens : Expr → List Token
expr_tokens (expr.One t) = term_token t ∷ []
expr_tokens (expr.Plus t u) = term_token t ∷ part (codes "+") ∷ term_token u ∷ []
expr_tokens (expr.Minus t u) = term_token t ∷ part (codes "-") ∷ term_token u ∷ []

-- 'eq' | 'ne' | 'lt' | 'le' | 'in' | 'notin'
abbrev pub rel_token : Rel → Token
rel_token rel.Eq = part (codes "eq")
rel_token rel.Ne = part (codes "ne")
rel_token rel.Lt = part (codes "lt")
rel_token rel.Le = part (codes "le")
rel_token rel.Inside = part (codes "in")
rel_token rel.Outside = part (codes "notin")

-- expr rel expr
abbrev pub atom_tokens : Atom → List Token
atom_tokens a = expr_tokens a.left ++ (rel_token a.rel ∷ expr_tokens a.right)

-- [ 'when' atom ( 'and' atom )* ]; a guard without atoms has no 'when'
abbrev pub conds_tokens : List Atom → List Token
conds_tokens [] = []
conds_tokens (a ∷ more) =
    part (codes "when")
    ∷ (atom_tokens a ++ flat_map (λ b. part (codes "and") ∷ atom_tokens b) more)

-- NAME '=' expr
abbrev pub assign_tokens : Assign → List Token
assign_tokens a = part a.var ∷ part (codes "=") ∷ expr_tokens a.value

-- [ 'do' assign ( ',' assign )* ]; a guard without assignments has no 'do'
abbrev pub assigns_tokens : List Assign → List Token
assigns_tokens [] = []
assigns_tokens (a ∷ more) =
    part (codes "do")
    ∷ (assign_tokens a ++ flat_map (λ b. part (codes ",") ∷ assign_tokens b) more)

-- 'home' | 'any' NAME [ 'in' NAME ] | NAME
abbrev pub partner_tokens : Partner → List Token
partner_tokens partner.Home = part (codes "home") ∷ []
partner_tokens (partner.Any x) = part (codes "any") ∷ part x ∷ []
partner_tokens (partner.Member x s) = part (codes "any") ∷ part x ∷ part (codes "in") ∷ part s ∷ []
partner_tokens (partner.Named x) = part x ∷ []

-- [ '(' NAME ')' ]
abbrev pub bound_tokens : Option Text → List Token
bound_tokens None = []
bound_tokens (Some x) = part (codes "(") ∷ part x ∷ part (codes ")") ∷ []

-- [ '(' expr ')' ]
abbrev pub value_tokens : Option Expr → List Token
value_tokens None = []
value_tokens (Some e) = part (codes "(") ∷ (expr_tokens e ++ part (codes ")") ∷ [])

-- 'tau' | 'from' partner '?' NAME [ '(' NAME ')' ] | 'to' partner '!' NAME [ '(' expr ')' ]
abbrev pub action_tokens : GuardKind → List Token
action_tokens action.Tau = item (codes "tau") ∷ []
action_tokens (action.Input p m bound) =
    item (codes "from") ∷ (partner_tokens p ++ part (codes "?") ∷ part m ∷ bound_tokens bound)
action_tokens (action.Output p m value) =
    item (codes "to") ∷ (partner_tokens p ++ part (codes "!") ∷ part m ∷ value_tokens value)

-- action [ 'when' atom ( 'and' atom )* ] [ 'do' assign ( ',' assign )* ] 'goto' NAME ';'
abbrev pub guard_tokens : Guard → List Token
guard_tokens g =
    action_tokens g.kind
    ++ (conds_tokens g.conds
    ++ (assigns_tokens g.assigns ++ part (codes "goto") ∷ part g.next ∷ semicolon ∷ []))

-- 'state' NAME '{' guard* '}'
abbrev pub state_tokens : State → List Token
state_tokens s =
    item (codes "state") ∷ part s.name ∷ opening
    ∷ (flat_map guard_tokens s.guards ++ closing ∷ [])

-- '{' var* 'start' NAME ';' state* '}'
abbrev pub process_tokens : Process → List Token
process_tokens p =
    opening
    ∷ (flat_map var_tokens p.vars
    ++ item (codes "start") ∷ part p.start ∷ semicolon
    ∷ (flat_map state_tokens p.states ++ closing ∷ []))

-- [ 'version' NUMBER ]; version 1 is not written
abbrev pub version_tokens : ℕ → List Token
version_tokens version =
    if version == 1 then [] else part (codes "version") ∷ number_token version ∷ []

-- 'protocol' NAME [ 'version' NUMBER ] ';'
abbrev pub header_tokens : Text → ℕ → List Token
header_tokens name version =
    item (codes "protocol") ∷ part name ∷ (version_tokens version ++ semicolon ∷ [])

-- 'claim' 'atmost' NUMBER 'in' NAME NAME* ';' | 'claim' 'not' NAME 'with' NAME ';'
abbrev pub claim_tokens : Claim → List Token
claim_tokens (claim.AtMost most states) =
    item (codes "claim") ∷ part (codes "atmost") ∷ number_token most ∷ part (codes "in")
    ∷ (map part states ++ semicolon ∷ [])
claim_tokens (claim.Apart x y) =
    item (codes "claim") ∷ part (codes "not") ∷ part x ∷ part (codes "with") ∷ part y
    ∷ semicolon ∷ []

-- header message* 'home' process 'remote' process claim*
abbrev pub tokens_of : Protocol → List Token
tokens_of p =
    header_tokens p.name p.version
    ++ (flat_map message_tokens p.messages
    ++ item (codes "home") ∷ (process_tokens p.home
    ++ item (codes "remote") ∷ (process_tokens p.remote ++ flat_map claim_tokens p.claims)))
