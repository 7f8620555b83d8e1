-- What a line of questions says.
--
--     home S1 S2 .. : CONDITION and CONDITION ..
--     with T1 T2 .. : CONDITION and CONDITION ..
--     home S1 .. with T1 .. : CONDITION and CONDITION ..
--
-- The states behind `home` are the home's, those behind `with` the remotes'. A condition has the
-- form of one of the language, cut into words, where `home.X` is the variable X of the home,
-- `remote.X` that of the remote, and `remote` the remote itself; the latter two only behind `with`.
use Rattle.std.specs.Prelude.{ℕ, Bool, ◌||◌, nat_le, nat_lt, List, []}
use Rattle.std.specs.Prelude.{◌∷◌, ◌++◌, length, map, Option, Some, None, if◌then◌else◌, slice_get}
use Rattle.std.specs.Prelude.{bytes_eq, codes}
use Rattle.std.specs.Option.{option_map, option_and_then}
use Rattle.rv_base.specs.Numbers.{number_of}
use Rattle.proto_model.specs.Tokens.{Text}
use Rattle.proto_model.specs.Names.{place_of}
use Rattle.proto_model.specs.NumberSets.{with_number}
use Rattle.proto_model.specs.Numbered.{NumberedProtocol}
use Rattle.proto_model.specs.Types.{kind_type, operation_type, relation_agrees}
use Rattle.proto_model.specs.declared.guard.Rel.{Rel}
use Rattle.proto_model.specs.declared.guard.Rel.TheVariants as rel
use Rattle.proto_model.specs.declared.numbered.Body.{Body}
use Rattle.proto_model.specs.declared.numbered.ValueType.{ValueType}
use Rattle.proto_model.specs.declared.numbered.ValueType.TheVariants as type
use Rattle.proto_model.specs.declared.numbered.RuleTerm.{RuleTerm}
use Rattle.proto_model.specs.declared.numbered.RuleTerm.TheVariants as term
use Rattle.proto_model.specs.declared.numbered.RuleExpr.{RuleExpr}
use Rattle.proto_model.specs.declared.numbered.RuleExpr.TheVariants as expr
use Rattle.proto_model.specs.declared.numbered.RuleAtom.{RuleAtom}
use Rattle.questions.specs.declared.question.Question.{Question}
use Rattle.questions.specs.declared.scope.Scope.{Scope}

-- ---- what may be named

-- the names of the states of a process, in file order
abbrev pub states_named : Body → List Text
states_named body = map (λ s. s.name) body.states

-- the names of the variables of a process behind this front, in file order
abbrev pub vars_named : Text → Body → List Text
vars_named front body = map (λ v. front ++ v.name) body.vars

-- the types of the variables of a process, in file order
abbrev pub vars_typed : Body → List ValueType
vars_typed body = map (λ v. kind_type v.kind) body.vars

-- of a question of the home alone: the variables of the home
abbrev pub home_scope : Body → Scope
home_scope home = record { names = vars_named (codes "home.") home; types = vars_typed home }

-- of a question of remotes: those of the home, those of the remote, and the remote
abbrev pub remote_scope : Body → Body → Scope
remote_scope home remote = record {
  names = vars_named (codes "home.") home
      ++ (vars_named (codes "remote.") remote ++ (codes "remote" ∷ []));
  types = vars_typed home ++ (vars_typed remote ++ (type.Node ∷ []));
}

-- ---- conditions

-- a relation
abbrev pub rel_of : Text → Option Rel
rel_of word =
    if bytes_eq word (codes "eq") then Some rel.Eq
    else (if bytes_eq word (codes "ne") then Some rel.Ne
    else (if bytes_eq word (codes "lt") then Some rel.Lt
    else (if bytes_eq word (codes "le") then Some rel.Le
    else (if bytes_eq word (codes "in") then Some rel.Inside
    else (if bytes_eq word (codes "notin") then Some rel.Outside else None)))))

-- the word stands for a sum or a difference
abbrev pub is_operator : Text → Bool
is_operator word = bytes_eq word (codes "+") || bytes_eq word (codes "-")

-- the sum or the difference of these two, by the word between them
abbrev pub sum_of : Text → RuleTerm → RuleTerm → Option RuleExpr
sum_of word t u =
    if bytes_eq word (codes "+") then Some (expr.Plus t u)
    else (if bytes_eq word (codes "-") then Some (expr.Minus t u) else None)

-- the condition of two expressions with this word between them
abbrev pub related : Option RuleExpr → Text → Option RuleExpr → Option RuleAtom
related left word right =
    option_and_then (λ a. option_and_then (λ b. option_map
    (λ r. record { left = a; rel = r; right = b }) (rel_of word)) right) left

-- a condition before others
abbrev pub cond_before : Option RuleAtom → Option (List RuleAtom) → Option (List RuleAtom)
cond_before cond later = option_and_then (λ a. option_map (λ more. a ∷ more) later) cond

-- the word `and`
abbrev pub is_and : Text → Bool
is_and word = bytes_eq word (codes "and")

module _ (scope : Scope) where
  -- a number up to 65,535, or what is named
  abbrev pub number_or_named : Option ℕ → Text → Option RuleTerm
  number_or_named (Some n) word = Some (term.Number n)
  number_or_named None word = option_map (λ place. term.Var place) (place_of word scope.names)

  -- `none`, `empty`, a number up to 65,535, or what is named
  abbrev pub term_of : Text → Option RuleTerm
  term_of word =
      if bytes_eq word (codes "none") then Some term.Nowhere
      else (if bytes_eq word (codes "empty") then Some term.Empty
      else number_or_named (number_of word 65535) word)

  -- one term; or two with `+` or `-` between them
  abbrev pub one_term : Text → Option RuleExpr
  one_term word = option_map (λ t. expr.One t) (term_of word)

  abbrev pub two_terms : Text → Text → Text → Option RuleExpr
  two_terms left op right =
      option_and_then (λ t. option_and_then (λ u. sum_of op t u) (term_of right)) (term_of left)

  -- The condition that these words say: an expression has one word or three, so a condition has
  -- three, five or seven.
  abbrev pub cond_of : List Text → Option RuleAtom
  cond_of (a ∷ r ∷ b ∷ []) = related (one_term a) r (one_term b)
  cond_of (a ∷ w1 ∷ b ∷ w2 ∷ c ∷ []) =
      if is_operator w1 then related (two_terms a w1 b) w2 (one_term c)
      else related (one_term a) w1 (two_terms b w2 c)
  cond_of (a ∷ w1 ∷ b ∷ r ∷ c ∷ w2 ∷ d ∷ []) = related (two_terms a w1 b) r (two_terms c w2 d)
  cond_of _ = None

  -- the type of a term: a number is an int, none is a node, empty is a set
  abbrev pub type_of_term : RuleTerm → Option ValueType
  type_of_term (term.Number n) = Some type.Int
  type_of_term (term.Var place) = slice_get scope.types place
  type_of_term term.Nowhere = Some type.Node
  type_of_term term.Empty = Some type.Set

  -- a term has its own type; a sum or a difference that which its operands give
  abbrev pub type_of_expr : RuleExpr → Option ValueType
  type_of_expr (expr.One t) = type_of_term t
  type_of_expr (expr.Plus t u) = operation_type (type_of_term t) (type_of_term u)
  type_of_expr (expr.Minus t u) = operation_type (type_of_term t) (type_of_term u)

  -- the relation compares values of these types
  abbrev pub agrees : RuleAtom → Bool
  agrees a = relation_agrees a.rel (type_of_expr a.left) (type_of_expr a.right)

  -- the condition that these words say, if its types agree
  abbrev pub typed_cond : List Text → Option RuleAtom
  typed_cond ws = option_and_then (λ a. if agrees a then Some a else None) (cond_of ws)

  -- The conditions of these words, with `and` between them, where the words of the first one begin
  -- with this part.
  abbrev pub conds_behind : List Text → List Text → Option (List RuleAtom)
  conds_behind part [] = cond_before (typed_cond part) (Some [])
  conds_behind part (w ∷ ws) =
      if is_and w then cond_before (typed_cond part) (conds_behind [] ws)
      else conds_behind (part ++ w ∷ []) ws

  -- at most eight conditions, with `and` between them
  abbrev pub conds_of : List Text → Option (List RuleAtom)
  conds_of ws =
      option_and_then (λ conds. if nat_le (length conds) 8 then Some conds else None)
      (conds_behind [] ws)

-- ---- states

-- What is behind a list of states, and the set of these states.
pub record Listed : Type 0 where
  pub states : ℕ
  pub rest : List Text

-- a list of states ends at `:` and at `with`
abbrev pub ends_states : Text → Bool
ends_states word = bytes_eq word (codes ":") || bytes_eq word (codes "with")

-- The states with these names that the words in front name, beside a set of states, and the words
-- behind them. None where a word is the name of no state, and where no word ends the list.
abbrev pub states_from : List Text → ℕ → List Text → Option Listed
states_from names set [] = None
states_from names set (w ∷ ws) =
    if ends_states w then Some (record { states = set; rest = w ∷ ws })
    else option_and_then (λ place. states_from names (with_number set place) ws)
    (place_of w names)

-- the same, with at least one state
abbrev pub states_of : List Text → List Text → Option Listed
states_of names ws =
    option_and_then (λ l. if nat_lt 0 l.states then Some l else None) (states_from names 0 ws)

-- ---- questions

-- the conditions behind `:`
abbrev pub behind_colon : Scope → List Text → Option (List RuleAtom)
behind_colon scope [] = None
behind_colon scope (w ∷ ws) = if bytes_eq w (codes ":") then conds_of scope ws else None

module _ (p : NumberedProtocol) where
  -- the question about remotes in the states of this list, and about a home that stands so
  abbrev pub with_question : Option ℕ → Listed → Option Question
  with_question home l =
      option_map (λ conds. record { home = home; with = Some l.states; conds = conds })
      (behind_colon (remote_scope p.home p.remote) l.rest)

  -- the question behind `with`
  abbrev pub remotes_question : Option ℕ → List Text → Option Question
  remotes_question home ws =
      option_and_then (with_question home) (states_of (states_named p.remote) ws)

  -- the question about the home alone
  abbrev pub alone_question : ℕ → List Text → Option Question
  alone_question states ws =
      option_map (λ conds. record { home = Some states; with = None; conds = conds })
      (behind_colon (home_scope p.home) ws)

  -- The question about a home in these states, by what is behind the list of them: `with` and the
  -- states of remotes, or the conditions.
  abbrev pub home_question_at : ℕ → List Text → Option Question
  home_question_at states [] = None
  home_question_at states (w ∷ ws) =
      if bytes_eq w (codes "with") then remotes_question (Some states) ws
      else alone_question states (w ∷ ws)

  -- the question about a home in the states of this list
  abbrev pub home_question : Listed → Option Question
  home_question l = home_question_at l.states l.rest

  -- the question that these words say
  abbrev pub question_of : List Text → Option Question
  question_of [] = None
  question_of (w ∷ ws) =
      if bytes_eq w (codes "home")
      then option_and_then home_question (states_of (states_named p.home) ws)
      else (if bytes_eq w (codes "with") then remotes_question None ws else None)
