-- Each token of a protocol that a file can say is a lexeme.
use Rattle.std.proofs.Common.{ℕ, Bool, true, false, List, [], ◌∷◌, ◌++◌, map, Option, Some, None}
use Rattle.std.proofs.Common.{refl, sym, subst, inl, inr, arith, codes}
use Rattle.std.specs.List.{flat_map, AllByRecursion}
use Rattle.proto_model.specs.Tokens.{Text, is_word, is_space, IsName, Token, item, part, spellings}
use Rattle.proto_model.specs.Grammar.{semicolon, closing, direction_token, carry_tokens}
use Rattle.proto_model.specs.Grammar.{message_tokens, kind_tokens, initial_token, var_tokens}
use Rattle.proto_model.specs.Grammar.{term_token, expr_tokens, rel_token, atom_tokens, conds_tokens}
use Rattle.proto_model.specs.Grammar.{assign_tokens, assigns_tokens, partner_tokens, bound_tokens}
use Rattle.proto_model.specs.Grammar.{value_tokens, action_tokens, guard_tokens, state_tokens}
use Rattle.proto_model.specs.Grammar.{process_tokens, version_tokens, header_tokens, claim_tokens}
use Rattle.proto_model.specs.Grammar.{tokens_of}
use Rattle.proto_model.specs.Sayable.{IsSayableCarry, IsSayableMessage, IsSayableKind}
use Rattle.proto_model.specs.Sayable.{IsSayableInitial, IsSayableVar, IsSayableTerm, IsSayableExpr}
use Rattle.proto_model.specs.Sayable.{IsSayableAtom, IsSayableAssign, IsSayablePartner}
use Rattle.proto_model.specs.Sayable.{IsSayableBound, IsSayableValue, IsSayableAction}
use Rattle.proto_model.specs.Sayable.{IsSayableGuard, IsSayableState, IsSayableProcess, AreNames}
use Rattle.proto_model.specs.Sayable.{IsSayableClaim, IsSayableVersion, IsSayable}
use Rattle.proto_model.specs.declared.protocol.Carry.{Carry}
use Rattle.proto_model.specs.declared.protocol.Carry.TheVariants as carry
use Rattle.proto_model.specs.declared.protocol.Message.{Message}
use Rattle.proto_model.specs.declared.protocol.VarKind.{VarKind}
use Rattle.proto_model.specs.declared.protocol.VarKind.TheVariants as kind
use Rattle.proto_model.specs.declared.protocol.Initial.{Initial}
use Rattle.proto_model.specs.declared.protocol.Initial.TheVariants as first
use Rattle.proto_model.specs.declared.protocol.Var.{Var}
use Rattle.proto_model.specs.declared.protocol.State.{State}
use Rattle.proto_model.specs.declared.protocol.Process.{Process}
use Rattle.proto_model.specs.declared.protocol.Claim.{Claim}
use Rattle.proto_model.specs.declared.protocol.Claim.TheVariants as claim
use Rattle.proto_model.specs.declared.protocol.Protocol.{Protocol}
use Rattle.proto_model.specs.declared.guard.Term.{Term}
use Rattle.proto_model.specs.declared.guard.Term.TheVariants as term
use Rattle.proto_model.specs.declared.guard.Expr.{Expr}
use Rattle.proto_model.specs.declared.guard.Expr.TheVariants as expr
use Rattle.proto_model.specs.declared.guard.Rel.{Rel}
use Rattle.proto_model.specs.declared.guard.Rel.TheVariants as rel
use Rattle.proto_model.specs.declared.guard.Atom.{Atom}
use Rattle.proto_model.specs.declared.guard.Assign.{Assign}
use Rattle.proto_model.specs.declared.guard.Partner.{Partner}
use Rattle.proto_model.specs.declared.guard.Partner.TheVariants as partner
use Rattle.proto_model.specs.declared.guard.GuardKind.{GuardKind}
use Rattle.proto_model.specs.declared.guard.GuardKind.TheVariants as action
use Rattle.proto_model.specs.declared.guard.Guard.{Guard}
use Rattle.protocol_reader.proofs.LexemeTexts.{IsLexeme, AllLexemes, lexeme_is, name_lexeme}
use Rattle.protocol_reader.proofs.Numbers.{number_lexeme}

abbrev pub AreLexemes : List Token → Type 0
AreLexemes ts = AllLexemes (spellings ts)

AreLexemes-append : (ts us : List Token) → AreLexemes ts → AreLexemes us → AreLexemes (ts ++ us)
AreLexemes-append [] us are more = more
AreLexemes-append (t ∷ ts) us are more = (are.0, AreLexemes-append ts us are.1 more)

AreLexemes-flat_map : {A : Type 0} (tokens : A → List Token) (IsOk : A → Type 0)
    → ((a : A) → IsOk a → AreLexemes (tokens a))
    → (xs : List A) → AllByRecursion IsOk xs → AreLexemes (flat_map tokens xs)
AreLexemes-flat_map tokens IsOk one [] ok = tt
AreLexemes-flat_map tokens IsOk one (a ∷ more) ok =
    AreLexemes-append (tokens a) (flat_map tokens more) (one a ok.0)
    (AreLexemes-flat_map tokens IsOk one more ok.1)

-- ---- the words and signs of the grammar

semicolon_lexeme : AreLexemes (semicolon ∷ [])
unfolding is_word is_space
semicolon_lexeme = (lexeme_is (codes ";") refl, tt)

direction_lexeme : (up : Bool) → IsLexeme (direction_token up).text
unfolding is_word is_space
direction_lexeme true = lexeme_is (codes "up") refl
direction_lexeme false = lexeme_is (codes "down") refl

rel_lexeme : (r : Rel) → IsLexeme (rel_token r).text
unfolding is_word is_space
rel_lexeme rel.Eq = lexeme_is (codes "eq") refl
rel_lexeme rel.Ne = lexeme_is (codes "ne") refl
rel_lexeme rel.Lt = lexeme_is (codes "lt") refl
rel_lexeme rel.Le = lexeme_is (codes "le") refl
rel_lexeme rel.Inside = lexeme_is (codes "in") refl
rel_lexeme rel.Outside = lexeme_is (codes "notin") refl

-- ---- messages and variables

carry_lexemes : (c : Carry) → IsSayableCarry c → AreLexemes (carry_tokens c)
unfolding is_word is_space
carry_lexemes carry.Nothing ok = tt
carry_lexemes (carry.Int n) ok = (lexeme_is (codes "int") refl, (number_lexeme n ok, tt))
carry_lexemes carry.Node ok = (lexeme_is (codes "node") refl, tt)
carry_lexemes carry.Set ok = (lexeme_is (codes "set") refl, tt)

message_lexemes : (m : Message) → IsSayableMessage m → AreLexemes (message_tokens m)
unfolding is_word is_space
message_lexemes m ok =
    let carried =
    AreLexemes-append (carry_tokens m.carries) (semicolon ∷ [])
    (carry_lexemes m.carries ok.carries) semicolon_lexeme in (
      lexeme_is (codes "message") refl,
      (name_lexeme m.name ok.name, (direction_lexeme m.up, carried)),
    )

kind_lexemes : (k : VarKind) → IsSayableKind k → AreLexemes (kind_tokens k)
unfolding is_word is_space
kind_lexemes (kind.Int n) ok = (lexeme_is (codes "int") refl, (number_lexeme n ok, tt))
kind_lexemes kind.Node ok = (lexeme_is (codes "node") refl, tt)
kind_lexemes kind.Set ok = (lexeme_is (codes "set") refl, tt)

initial_lexeme : (i : Initial) → IsSayableInitial i → IsLexeme (initial_token i).text
unfolding is_word is_space
initial_lexeme (first.Number n) ok = number_lexeme n ok
initial_lexeme first.Nowhere ok = lexeme_is (codes "none") refl
initial_lexeme first.Empty ok = lexeme_is (codes "empty") refl

var_lexemes : (v : Var) → IsSayableVar v → AreLexemes (var_tokens v)
unfolding is_word is_space
var_lexemes v ok =
    let given : AreLexemes (part (codes "=") ∷ initial_token v.first ∷ semicolon ∷ []) =
    (lexeme_is (codes "=") refl, (initial_lexeme v.first ok.first, semicolon_lexeme)) in (
      lexeme_is (codes "var") refl,
      (
        name_lexeme v.name ok.name,
        AreLexemes-append (kind_tokens v.kind) _ (kind_lexemes v.kind ok.kind) given,
      ),
    )

-- ---- expressions, conditions and assignments

term_lexeme : (t : Term) → IsSayableTerm t → IsLexeme (term_token t).text
unfolding is_word is_space
term_lexeme (term.Number n) ok = number_lexeme n ok
term_lexeme (term.Named name) ok = name_lexeme name ok
term_lexeme term.Nowhere ok = lexeme_is (codes "none") refl
term_lexeme term.Empty ok = lexeme_is (codes "empty") refl

expr_lexemes : (e : Expr) → IsSayableExpr e → AreLexemes (expr_tokens e)
unfolding is_word is_space
expr_lexemes (expr.One t) ok = (term_lexeme t ok, tt)
expr_lexemes (expr.Plus t u) ok =
    (term_lexeme t ok.0, (lexeme_is (codes "+") refl, (term_lexeme u ok.1, tt)))
expr_lexemes (expr.Minus t u) ok =
    (term_lexeme t ok.0, (lexeme_is (codes "-") refl, (term_lexeme u ok.1, tt)))

atom_lexemes : (a : Atom) → IsSayableAtom a → AreLexemes (atom_tokens a)
atom_lexemes a ok =
    AreLexemes-append (expr_tokens a.left) _ (expr_lexemes a.left ok.left)
    (rel_lexeme a.rel, expr_lexemes a.right ok.right)

conds_lexemes : (atoms : List Atom) → AllByRecursion IsSayableAtom atoms
    → AreLexemes (conds_tokens atoms)
unfolding is_word is_space
conds_lexemes [] ok = tt
conds_lexemes (a ∷ more) ok =
    let and_more =
    AreLexemes-flat_map (λ b. part (codes "and") ∷ atom_tokens b) IsSayableAtom
    (λ b is. (lexeme_is (codes "and") refl, atom_lexemes b is)) more ok.1 in (
      lexeme_is (codes "when") refl,
      AreLexemes-append (atom_tokens a) _ (atom_lexemes a ok.0) and_more,
    )

assign_lexemes : (a : Assign) → IsSayableAssign a → AreLexemes (assign_tokens a)
unfolding is_word is_space
assign_lexemes a ok =
    (name_lexeme a.var ok.var, (lexeme_is (codes "=") refl, expr_lexemes a.value ok.value))

assigns_lexemes : (assigns : List Assign) → AllByRecursion IsSayableAssign assigns
    → AreLexemes (assigns_tokens assigns)
unfolding is_word is_space
assigns_lexemes [] ok = tt
assigns_lexemes (a ∷ more) ok =
    let comma_more =
    AreLexemes-flat_map (λ b. part (codes ",") ∷ assign_tokens b) IsSayableAssign
    (λ b is. (lexeme_is (codes ",") refl, assign_lexemes b is)) more ok.1 in (
      lexeme_is (codes "do") refl,
      AreLexemes-append (assign_tokens a) _ (assign_lexemes a ok.0) comma_more,
    )

-- ---- guards

partner_lexemes : (p : Partner) → IsSayablePartner p → AreLexemes (partner_tokens p)
unfolding is_word is_space
partner_lexemes partner.Home ok = (lexeme_is (codes "home") refl, tt)
partner_lexemes (partner.Any x) ok = (lexeme_is (codes "any") refl, (name_lexeme x ok, tt))
partner_lexemes (partner.Member x s) ok = (
  lexeme_is (codes "any") refl,
  (name_lexeme x ok.0, (lexeme_is (codes "in") refl, (name_lexeme s ok.1, tt))),
)
partner_lexemes (partner.Named x) ok = (name_lexeme x ok, tt)

bound_lexemes : (b : Option Text) → IsSayableBound b → AreLexemes (bound_tokens b)
unfolding is_word is_space
bound_lexemes None ok = tt
bound_lexemes (Some x) ok =
    (lexeme_is (codes "(") refl, (name_lexeme x ok, (lexeme_is (codes ")") refl, tt)))

value_lexemes : (v : Option Expr) → IsSayableValue v → AreLexemes (value_tokens v)
unfolding is_word is_space
value_lexemes None ok = tt
value_lexemes (Some e) ok = (
  lexeme_is
      (codes "(") refl,
  AreLexemes-append (expr_tokens e) _ (expr_lexemes e ok) (lexeme_is (codes ")") refl, tt),
)

action_lexemes : (a : GuardKind) → IsSayableAction a → AreLexemes (action_tokens a)
unfolding is_word is_space
action_lexemes action.Tau ok = (lexeme_is (codes "tau") refl, tt)
action_lexemes (action.Input p m b) ok =
    let asked : AreLexemes (part (codes "?") ∷ part m ∷ bound_tokens b) =
    (lexeme_is (codes "?") refl, (name_lexeme m ok.1, bound_lexemes b ok.2)) in (
      lexeme_is (codes "from") refl,
      AreLexemes-append (partner_tokens p) _ (partner_lexemes p ok.0) asked,
    )
action_lexemes (action.Output p m v) ok =
    let sent : AreLexemes (part (codes "!") ∷ part m ∷ value_tokens v) =
    (lexeme_is (codes "!") refl, (name_lexeme m ok.1, value_lexemes v ok.2)) in (
      lexeme_is (codes "to") refl,
      AreLexemes-append (partner_tokens p) _ (partner_lexemes p ok.0) sent,
    )

guard_lexemes : (g : Guard) → IsSayableGuard g → AreLexemes (guard_tokens g)
unfolding is_word is_space
guard_lexemes g ok =
    let goto : AreLexemes (part (codes "goto") ∷ part g.next ∷ semicolon ∷ []) =
    (lexeme_is (codes "goto") refl, (name_lexeme g.next ok.next, semicolon_lexeme)) in
    let from_assigns =
    AreLexemes-append (assigns_tokens g.assigns) _
    (assigns_lexemes g.assigns ok.assigns) goto in
    let from_conds =
    AreLexemes-append (conds_tokens g.conds) _ (conds_lexemes g.conds ok.conds) from_assigns in
    AreLexemes-append (action_tokens g.kind) _ (action_lexemes g.kind ok.kind) from_conds

-- ---- states, processes

state_lexemes : (s : State) → IsSayableState s → AreLexemes (state_tokens s)
unfolding is_word is_space
state_lexemes s ok =
    let guards = AreLexemes-flat_map guard_tokens IsSayableGuard guard_lexemes s.guards ok.guards in
    let closed =
    AreLexemes-append (flat_map guard_tokens s.guards) (closing ∷ []) guards
    (lexeme_is (codes "}") refl, tt) in (
      lexeme_is (codes "state") refl,
      (name_lexeme s.name ok.name, (lexeme_is (codes "{") refl, closed)),
    )

process_lexemes : (p : Process) → IsSayableProcess p → AreLexemes (process_tokens p)
unfolding is_word is_space
process_lexemes p ok =
    let states = AreLexemes-flat_map state_tokens IsSayableState state_lexemes p.states ok.states in
    let closed =
    AreLexemes-append (flat_map state_tokens p.states) (closing ∷ []) states
    (lexeme_is (codes "}") refl, tt) in
    let start : AreLexemes
    (item (codes "start") ∷ part p.start ∷ semicolon
    ∷ (flat_map state_tokens p.states ++ closing ∷ [])) = (
      lexeme_is (codes "start") refl,
      (name_lexeme p.start ok.start, (lexeme_is (codes ";") refl, closed)),
    ) in
    let vars = AreLexemes-flat_map var_tokens IsSayableVar var_lexemes p.vars ok.vars in
    (lexeme_is (codes "{") refl, AreLexemes-append (flat_map var_tokens p.vars) _ vars start)

-- ---- claims, the protocol

names_lexemes : (names : List Text) → AllByRecursion IsName names → AreLexemes (map part names)
names_lexemes [] ok = tt
names_lexemes (name ∷ names) ok = (name_lexeme name ok.0, names_lexemes names ok.1)

some_names : (names : List Text) → AreNames names → AllByRecursion IsName names
some_names [] ok = absurd ok
some_names (name ∷ names) ok = ok

claim_lexemes : (c : Claim) → IsSayableClaim c → AreLexemes (claim_tokens c)
unfolding is_word is_space
claim_lexemes (claim.AtMost most states) ok =
    let named =
    AreLexemes-append (map part states) (semicolon ∷ [])
    (names_lexemes states (some_names states ok.1)) semicolon_lexeme in (
      lexeme_is (codes "claim") refl,
      (
        lexeme_is (codes "atmost") refl,
        (number_lexeme most ok.0, (lexeme_is (codes "in") refl, named)),
      ),
    )
claim_lexemes (claim.Apart x y) ok =
    let with_other : AreLexemes (part (codes "with") ∷ part y ∷ semicolon ∷ []) =
    (lexeme_is (codes "with") refl, (name_lexeme y ok.1, semicolon_lexeme)) in (
      lexeme_is (codes "claim") refl,
      (lexeme_is (codes "not") refl, (name_lexeme x ok.0, with_other)),
    )

version_lexemes : (version : ℕ) (claims : List Claim) → IsSayableVersion version claims
    → AreLexemes (version_tokens version)
unfolding is_word is_space
version_lexemes version claims (inl one) =
    subst (λ (v : ℕ). AreLexemes (version_tokens v)) (sym one.0) tt
version_lexemes version claims (inr two) =
    let second : AreLexemes (version_tokens 2) =
    (lexeme_is (codes "version") refl, (number_lexeme 2 (omega arith), tt)) in
    subst (λ (v : ℕ). AreLexemes (version_tokens v)) (sym two) second

header_lexemes : (p : Protocol) → IsSayable p → AreLexemes (header_tokens p.name p.version)
unfolding is_word is_space
header_lexemes p ok =
    let version =
    AreLexemes-append (version_tokens p.version) (semicolon ∷ [])
    (version_lexemes p.version p.claims ok.version) semicolon_lexeme in
    (lexeme_is (codes "protocol") refl, (name_lexeme p.name ok.name, version))

pub protocol_lexemes : (p : Protocol) → IsSayable p → AllLexemes (spellings (tokens_of p))
unfolding is_word is_space
protocol_lexemes p ok =
    let claims = AreLexemes-flat_map claim_tokens IsSayableClaim claim_lexemes p.claims ok.claims in
    let behind =
    AreLexemes-append (process_tokens p.remote) (flat_map claim_tokens p.claims)
    (process_lexemes p.remote ok.remote) claims in
    let remote : AreLexemes
    (item (codes "remote") ∷ (process_tokens p.remote ++ flat_map claim_tokens p.claims)) =
    (lexeme_is (codes "remote") refl, behind) in
    let home : AreLexemes
    (item (codes "home")
    ∷ (process_tokens p.home
    ++ item (codes "remote") ∷ (process_tokens p.remote ++ flat_map claim_tokens p.claims))) = (
      lexeme_is (codes "home") refl,
      AreLexemes-append (process_tokens p.home) _ (process_lexemes p.home ok.home) remote,
    ) in
    let messages =
    AreLexemes-flat_map message_tokens IsSayableMessage message_lexemes p.messages
    ok.messages in
    let body = AreLexemes-append (flat_map message_tokens p.messages) _ messages home in
    AreLexemes-append (header_tokens p.name p.version) _ (header_lexemes p ok) body
