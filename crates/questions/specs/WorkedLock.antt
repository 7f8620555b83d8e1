-- A lock that one remote has at a time, with its names and variables alone, and questions about it.
use Rattle.std.specs.Prelude.{ℕ, [], ◌∷◌, Some, None, codes}
use Rattle.proto_model.specs.Tokens.{Text}
use Rattle.proto_model.specs.Numbered.{NumberedProtocol}
use Rattle.proto_model.specs.declared.guard.Rel.{Rel}
use Rattle.proto_model.specs.declared.guard.Rel.TheVariants as rel
use Rattle.proto_model.specs.declared.protocol.VarKind.{VarKind}
use Rattle.proto_model.specs.declared.protocol.VarKind.TheVariants as kind
use Rattle.proto_model.specs.declared.numbered.Value.{Value}
use Rattle.proto_model.specs.declared.numbered.Value.TheVariants as value
use Rattle.proto_model.specs.declared.numbered.RuleTerm.{RuleTerm}
use Rattle.proto_model.specs.declared.numbered.RuleTerm.TheVariants as term
use Rattle.proto_model.specs.declared.numbered.RuleExpr.TheVariants as expr
use Rattle.proto_model.specs.declared.numbered.RuleAtom.{RuleAtom}
use Rattle.proto_model.specs.declared.numbered.StateInfo.{StateInfo}
use Rattle.proto_model.specs.declared.numbered.VarInfo.{VarInfo}
use Rattle.proto_model.specs.declared.rendezvous.Part.{Part}
use Rattle.proto_model.specs.declared.rendezvous.RvConfig.{RvConfig}
use Rattle.questions.specs.declared.question.Question.{Question}

-- a state, and a variable
abbrev pub state : Text → StateInfo
state name = record { name = name; rules = [] }

abbrev pub var : Text → VarKind → Value → VarInfo
var name kind first = record { name = name; kind = kind; first = first }

-- The names of the lock. Its guards say nothing about what a line means.
abbrev pub lock : NumberedProtocol
lock = record {
  name = codes "lock";
  messages = [];
  home = record {
    vars = var (codes "holder") kind.Node value.Nowhere
        ∷ (var (codes "count") (kind.Int 4) (value.Int 0) ∷ []);
    start = 0;
    states = state (codes "Free") ∷ (state (codes "Asked") ∷ (state (codes "Taken") ∷ []));
  };
  remote = record {
    vars = var (codes "count") (kind.Int 4) (value.Int 0) ∷ [];
    start = 0;
    states = state (codes "Idle") ∷ (state (codes "Ask") ∷ (state (codes "Wait")
        ∷ (state (codes "Use") ∷ (state (codes "Back") ∷ []))));
  };
}

-- two terms with a relation between them
abbrev pub relates : RuleTerm → Rel → RuleTerm → RuleAtom
relates left r right = record { left = expr.One left; rel = r; right = expr.One right }

-- While a remote uses the lock or gives it back, the home knows that it has it.
abbrev pub holder_is_known : Question
holder_is_known = record {
  home = Some 4;
  with = Some 24;
  conds = relates (term.Var 0) rel.Eq (term.Var 3) ∷ [];
}

-- While a remote uses the lock, it counts as the home does.
abbrev pub counts_agree : Question
counts_agree = record {
  home = Some 4;
  with = Some 8;
  conds = relates (term.Var 2) rel.Eq (term.Var 1) ∷ [];
}

-- While the lock is free, no remote holds it.
abbrev pub none_holds : Question
none_holds = record {
  home = Some 1;
  with = None;
  conds = relates (term.Var 0) rel.Eq term.Nowhere ∷ [];
}

-- The first remote has the lock and counts so far; the second is idle.
abbrev pub used : ℕ → RvConfig
used count = record {
  home = record { state = 2; vars = value.Node 0 ∷ (value.Int 0 ∷ []) };
  remotes = record { state = 3; vars = value.Int count ∷ [] }
      ∷ (record { state = 0; vars = value.Int 0 ∷ [] } ∷ []);
}
