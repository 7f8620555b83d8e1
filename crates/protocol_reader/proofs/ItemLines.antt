-- Each item of a protocol that a file spells has a line.
use Rattle.std.proofs.Common.{◌≡◌, ℕ, ◌+◌, eqb, Bool, true, false, cond, List, [], ◌∷◌, ◌++◌}
use Rattle.std.proofs.Common.{length, map, codes, Option, Some, None, refl, sym, ap, ◌∙◌, inl, inr}
use Rattle.std.proofs.Common.{arith, length-append}
use Rattle.std.proofs.lemmas.Bool.{cases_Bool}
use Rattle.std.specs.List.{flat_map}
use Rattle.rv_base.specs.Lists.{map_from}
use Rattle.rv_base.proofs.Lists.{length-map_from}
use Rattle.proto_model.specs.Tokens.{Text, Token, item, part, spellings}
use Rattle.proto_model.specs.Lexemes.{Lexeme, lexemes}
use Rattle.proto_model.specs.Grammar.{semicolon, closing, carry_tokens, conds_tokens}
use Rattle.proto_model.specs.Grammar.{assigns_tokens, partner_tokens, bound_tokens, value_tokens}
use Rattle.proto_model.specs.Grammar.{action_tokens, expr_tokens, atom_tokens, assign_tokens}
use Rattle.proto_model.specs.Grammar.{kind_tokens, direction_token, initial_token, rel_token}
use Rattle.proto_model.specs.Grammar.{message_tokens, var_tokens, guard_tokens, state_tokens}
use Rattle.proto_model.specs.Grammar.{process_tokens, version_tokens, header_tokens, claim_tokens}
use Rattle.proto_model.specs.Grammar.{tokens_of}
use Rattle.proto_model.specs.Spelled.{Spells, texts, marked_lines, item_lines}
use Rattle.proto_model.specs.Faults.{Scope, states_from, message_codes, var_codes, claim_codes}
use Rattle.proto_model.specs.Faults.{start_codes, guard_codes, scope_of, process_codes, item_codes}
use Rattle.proto_model.specs.declared.numbered.Side.TheVariants as side
use Rattle.proto_model.specs.declared.protocol.Carry.{Carry}
use Rattle.proto_model.specs.declared.protocol.Carry.TheVariants as carry
use Rattle.proto_model.specs.declared.protocol.Message.{Message}
use Rattle.proto_model.specs.declared.protocol.VarKind.{VarKind}
use Rattle.proto_model.specs.declared.protocol.VarKind.TheVariants as kind
use Rattle.proto_model.specs.declared.protocol.Initial.{Initial}
use Rattle.proto_model.specs.declared.protocol.Initial.TheVariants as first
use Rattle.proto_model.specs.declared.protocol.Var.{Var}
use Rattle.proto_model.specs.declared.protocol.State.{State}
use Rattle.proto_model.specs.declared.protocol.Process.{Process}
use Rattle.proto_model.specs.declared.protocol.Claim.{Claim}
use Rattle.proto_model.specs.declared.protocol.Claim.TheVariants as claim
use Rattle.proto_model.specs.declared.protocol.Protocol.{Protocol}
use Rattle.proto_model.specs.declared.guard.Term.{Term}
use Rattle.proto_model.specs.declared.guard.Expr.{Expr}
use Rattle.proto_model.specs.declared.guard.Expr.TheVariants as expr
use Rattle.proto_model.specs.declared.guard.Term.TheVariants as term
use Rattle.proto_model.specs.declared.guard.Rel.{Rel}
use Rattle.proto_model.specs.declared.guard.Rel.TheVariants as rel
use Rattle.proto_model.specs.declared.guard.Atom.{Atom}
use Rattle.proto_model.specs.declared.guard.Assign.{Assign}
use Rattle.proto_model.specs.declared.guard.Partner.{Partner}
use Rattle.proto_model.specs.declared.guard.Partner.TheVariants as partners
use Rattle.proto_model.specs.declared.guard.GuardKind.{GuardKind}
use Rattle.proto_model.specs.declared.guard.GuardKind.TheVariants as action
use Rattle.proto_model.specs.declared.guard.Guard.{Guard}
use Rattle.protocol_reader.proofs.TokensAreLexemes.{protocol_lexemes}
use Rattle.protocol_reader.proofs.LaidIsCut.{laid_cut}

-- ---- how many tokens begin an item

abbrev marks : List Token → ℕ
marks [] = 0
marks (t ∷ ts) = cond t.begins (1 + marks ts) (marks ts)

marks-cons : (b : Bool) (m n : ℕ) → cond b (1 + (m + n)) (m + n) ≡ cond b (1 + m) m + n
marks-cons true m n = omega arith
marks-cons false m n = refl

marks-append : (xs ys : List Token) → marks (xs ++ ys) ≡ marks xs + marks ys
marks-append [] ys = omega arith
marks-append (t ∷ ts) ys =
    let more = marks-append ts ys in
    ap (λ (n : ℕ). cond t.begins (1 + n) n) more ∙ marks-cons t.begins (marks ts) (marks ys)

-- things with one such token each
marks-each : {A : Type 0} (tokens : A → List Token) → ((x : A) → marks (tokens x) ≡ 1)
    → (xs : List A) → marks (flat_map tokens xs) ≡ length xs
marks-each tokens one [] = refl
marks-each tokens one (x ∷ xs) =
    let whole = marks-append (tokens x) (flat_map tokens xs) in
    let here = one x in
    let more = marks-each tokens one xs in
    omega arith

-- things without
marks-none : {A : Type 0} (tokens : A → List Token) → ((x : A) → marks (tokens x) ≡ 0)
    → (xs : List A) → marks (flat_map tokens xs) ≡ 0
marks-none tokens none [] = refl
marks-none tokens none (x ∷ xs) =
    let whole = marks-append (tokens x) (flat_map tokens xs) in
    let here = none x in
    let more = marks-none tokens none xs in
    omega arith

-- ---- of each rule of the grammar

marks-direction : (up : Bool) → (direction_token up).begins ≡ false
marks-direction true = refl
marks-direction false = refl

marks-carry : (c : Carry) → marks (carry_tokens c) ≡ 0
marks-carry carry.Nothing = refl
marks-carry (carry.Int n) = refl
marks-carry carry.Node = refl
marks-carry carry.Set = refl

marks-message : (m : Message) → marks (message_tokens m) ≡ 1
marks-message m =
    rw (marks-direction m.up, marks-append (carry_tokens m.carries) _, marks-carry m.carries) refl

marks-kind : (k : VarKind) → marks (kind_tokens k) ≡ 0
marks-kind (kind.Int n) = refl
marks-kind kind.Node = refl
marks-kind kind.Set = refl

marks-initial : (i : Initial) → (initial_token i).begins ≡ false
marks-initial (first.Number n) = refl
marks-initial first.Nowhere = refl
marks-initial first.Empty = refl

marks-var : (v : Var) → marks (var_tokens v) ≡ 1
marks-var v =
    rw (marks-append (kind_tokens v.kind) _, marks-kind v.kind, marks-initial v.first) refl

marks-term : (t : Term) → marks (expr_tokens (expr.One t)) ≡ 0
marks-term (term.Number n) = refl
marks-term (term.Named x) = refl
marks-term term.Nowhere = refl
marks-term term.Empty = refl

marks-two : (t u : Term) → marks (expr_tokens (expr.Plus t u)) ≡ 0
marks-two t u =
    let one = marks-term t in
    let two = marks-term u in
    let parts =
    marks-append (expr_tokens (expr.One t)) (part (codes "+") ∷ expr_tokens (expr.One u)) in
    omega arith

marks-less : (t u : Term) → marks (expr_tokens (expr.Minus t u)) ≡ 0
marks-less t u =
    let one = marks-term t in
    let two = marks-term u in
    let parts =
    marks-append (expr_tokens (expr.One t)) (part (codes "-") ∷ expr_tokens (expr.One u)) in
    omega arith

marks-expr : (e : Expr) → marks (expr_tokens e) ≡ 0
marks-expr (expr.One t) = marks-term t
marks-expr (expr.Plus t u) = marks-two t u
marks-expr (expr.Minus t u) = marks-less t u

marks-rel : (r : Rel) → (rel_token r).begins ≡ false
marks-rel rel.Eq = refl
marks-rel rel.Ne = refl
marks-rel rel.Lt = refl
marks-rel rel.Le = refl
marks-rel rel.Inside = refl
marks-rel rel.Outside = refl

marks-atom : (a : Atom) → marks (atom_tokens a) ≡ 0
marks-atom a =
    rw (marks-append (expr_tokens a.left) _, marks-expr a.left, marks-rel a.rel, marks-expr a.right)
    refl

marks-conds : (atoms : List Atom) → marks (conds_tokens atoms) ≡ 0
marks-conds [] = refl
marks-conds (a ∷ more) =
    rw (
      marks-append (atom_tokens a) _,
      marks-atom a,
      marks-none (λ b. part (codes "and") ∷ atom_tokens b) marks-atom more,
    ) refl

marks-assign : (a : Assign) → marks (assign_tokens a) ≡ 0
marks-assign a = marks-expr a.value

marks-assigns : (assigns : List Assign) → marks (assigns_tokens assigns) ≡ 0
marks-assigns [] = refl
marks-assigns (a ∷ more) =
    rw (
      marks-append (assign_tokens a) _,
      marks-assign a,
      marks-none (λ b. part (codes ",") ∷ assign_tokens b) marks-assign more,
    ) refl

marks-partner : (p : Partner) → marks (partner_tokens p) ≡ 0
marks-partner partners.Home = refl
marks-partner (partners.Any x) = refl
marks-partner (partners.Member x s) = refl
marks-partner (partners.Named x) = refl

marks-bound : (b : Option Text) → marks (bound_tokens b) ≡ 0
marks-bound None = refl
marks-bound (Some x) = refl

marks-value : (v : Option Expr) → marks (value_tokens v) ≡ 0
marks-value None = refl
marks-value (Some e) = rw (marks-append (expr_tokens e) _, marks-expr e) refl

marks-action : (a : GuardKind) → marks (action_tokens a) ≡ 1
marks-action action.Tau = refl
marks-action (action.Input p m b) =
    rw (marks-append (partner_tokens p) _, marks-partner p, marks-bound b) refl
marks-action (action.Output p m v) =
    rw (marks-append (partner_tokens p) _, marks-partner p, marks-value v) refl

marks-guard : (g : Guard) → marks (guard_tokens g) ≡ 1
marks-guard g =
    rw (
      marks-append (action_tokens g.kind) _,
      marks-action g.kind,
      marks-append (conds_tokens g.conds) _,
      marks-conds g.conds,
      marks-append (assigns_tokens g.assigns) _,
      marks-assigns g.assigns,
    ) refl

marks-names : (names : List Text) → marks (map part names) ≡ 0
marks-names [] = refl
marks-names (name ∷ names) = marks-names names

marks-claim : (c : Claim) → marks (claim_tokens c) ≡ 1
marks-claim (claim.AtMost most states) =
    rw (marks-append (map part states) _, marks-names states) refl
marks-claim (claim.Apart x y) = refl

marks-version : (version : ℕ) → marks (version_tokens version) ≡ 0
marks-version version =
    elim (cases_Bool (eqb version 1)) [ inl so ↦ rw so refl | inr so ↦ rw so refl ]

marks-header : (name : Text) (version : ℕ) → marks (header_tokens name version) ≡ 1
marks-header name version =
    rw (marks-append (version_tokens version) _, marks-version version) refl

-- ---- and how many items there are

states-marked : (s : Scope) (n : ℕ) (states : List State)
    → marks (flat_map state_tokens states) ≡ length (states_from s n states)
states-marked s n [] = refl
states-marked s n (state ∷ states) =
    let guards = flat_map guard_tokens state.guards in
    let one = marks-append (state_tokens state) (flat_map state_tokens states) in
    let two = marks-append guards (closing ∷ []) in
    let three = marks-each guard_tokens marks-guard state.guards in
    let four = states-marked s (n + 1) states in
    let five =
    length-append (map_from (guard_codes s) 0 state.guards) (states_from s (n + 1) states) in
    let six = length-map_from (guard_codes s) 0 state.guards in
    omega arith

process-marked : (s : Scope) (p : Process) → s.vars ≡ p.vars → s.states ≡ p.states
    → marks (process_tokens p) ≡ length (process_codes s p.start)
process-marked s p same_vars same_states =
    let vars = flat_map var_tokens p.vars in
    let states = flat_map state_tokens p.states in
    let one =
    marks-append vars
    (item (codes "start") ∷ part p.start ∷ semicolon ∷ (states ++ closing ∷ [])) in
    let two = marks-each var_tokens marks-var p.vars in
    let three = marks-append states (closing ∷ []) in
    let four : marks states ≡ length (states_from s 0 s.states) =
    states-marked s 0 p.states
    ∙ ap (λ (xs : List State). length (states_from s 0 xs)) (sym same_states) in
    let five =
    length-append (map_from (var_codes s.vars) 0 s.vars)
    (start_codes s.states p.start ∷ states_from s 0 s.states) in
    let six : length (map_from (var_codes s.vars) 0 s.vars) ≡ length p.vars =
    length-map_from (var_codes s.vars) 0 s.vars ∙ ap length same_vars in
    omega arith

-- the first tokens of items are as many as the items
pub items-marked : (p : Protocol) → marks (tokens_of p) ≡ length (item_codes p)
items-marked p =
    let messages = flat_map message_tokens p.messages in
    let claims = flat_map claim_tokens p.claims in
    let home = scope_of side.Home p.messages p.home in
    let remote = scope_of side.Remote p.messages p.remote in
    let remote_tokens = process_tokens p.remote ++ claims in
    let home_tokens = process_tokens p.home ++ item (codes "remote") ∷ remote_tokens in
    let body = messages ++ item (codes "home") ∷ home_tokens in
    let header = marks-append (header_tokens p.name p.version) body in
    let first = marks-header p.name p.version in
    let one = marks-append messages (item (codes "home") ∷ home_tokens) in
    let two = marks-each message_tokens marks-message p.messages in
    let three = marks-append (process_tokens p.home) (item (codes "remote") ∷ remote_tokens) in
    let four = marks-append (process_tokens p.remote) claims in
    let five = marks-each claim_tokens marks-claim p.claims in
    let six = process-marked home p.home refl refl in
    let seven = process-marked remote p.remote refl refl in
    let claim_items = map_from (claim_codes p.remote.states) 0 p.claims in
    let remote_items = process_codes remote p.remote.start ++ claim_items in
    let home_items = process_codes home p.home.start ++ [] ∷ remote_items in
    let eight =
    length-append (map_from (message_codes p.messages) 0 p.messages) ([] ∷ home_items) in
    let nine = length-map_from (message_codes p.messages) 0 p.messages in
    let ten = length-append (process_codes home p.home.start) ([] ∷ remote_items) in
    let eleven = length-append (process_codes remote p.remote.start) claim_items in
    let twelve = length-map_from (claim_codes p.remote.states) 0 p.claims in
    omega arith

-- ---- lines

by_mark : (b : Bool) (line : ℕ) (lines : List ℕ) (n : ℕ) → length lines ≡ n
    → length (cond b (line ∷ lines) lines) ≡ cond b (1 + n) n
by_mark true line lines n e = omega arith
by_mark false line lines n e = e

marked-lines : (ts : List Token) (ls : List Lexeme) (rest : List Text)
    → texts ls ≡ spellings ts ++ rest → length (marked_lines ts ls) ≡ marks ts
marked-lines [] ls rest e = refl
marked-lines (t ∷ ts) [] rest e = absurd cc
marked-lines (t ∷ ts) (l ∷ ls) rest e =
    by_mark t.begins l.line (marked_lines ts ls) (marks ts)
    (marked-lines ts ls rest (let h : texts ls ≡ spellings ts ++ rest = cc in h))

pub item_lines-length : (bytes : Text) (p : Protocol) → Spells bytes p
    → length (item_lines bytes p) ≡ length (item_codes p)
item_lines-length bytes p s =
    marked-lines (tokens_of p) (lexemes bytes) ([] ∷ [])
    (laid_cut bytes (spellings (tokens_of p)) (protocol_lexemes p s.sayable) s.laid)
    ∙ items-marked p
