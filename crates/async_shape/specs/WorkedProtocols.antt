-- Protocols of the worked runs, in numbered form; above each guard stands its text.
use Rattle.std.specs.Prelude.{ℕ, Bool, true, false, List, [], ◌∷◌, Some, None, codes}
use Rattle.proto_model.specs.Tokens.{Text}
use Rattle.proto_model.specs.Numbered.{NumberedProtocol}
use Rattle.proto_model.specs.declared.mode.Mode.TheVariants.{Lean, Plain}
use Rattle.proto_model.specs.declared.protocol.Carry.{Carry}
use Rattle.proto_model.specs.declared.protocol.Carry.TheVariants as carry
use Rattle.proto_model.specs.declared.protocol.VarKind.{VarKind}
use Rattle.proto_model.specs.declared.protocol.VarKind.TheVariants as kind
use Rattle.proto_model.specs.declared.guard.Rel.TheVariants as rel
use Rattle.proto_model.specs.declared.numbered.Value.{Value}
use Rattle.proto_model.specs.declared.numbered.Value.TheVariants as value
use Rattle.proto_model.specs.declared.numbered.RuleTerm.TheVariants as term
use Rattle.proto_model.specs.declared.numbered.RuleExpr.{RuleExpr}
use Rattle.proto_model.specs.declared.numbered.RuleExpr.TheVariants as expr
use Rattle.proto_model.specs.declared.numbered.RuleAtom.{RuleAtom}
use Rattle.proto_model.specs.declared.numbered.RuleAssign.{RuleAssign}
use Rattle.proto_model.specs.declared.numbered.RulePartner.TheVariants as partner
use Rattle.proto_model.specs.declared.numbered.RuleKind.{RuleKind}
use Rattle.proto_model.specs.declared.numbered.RuleKind.TheVariants as action
use Rattle.proto_model.specs.declared.numbered.Rule.{Rule}
use Rattle.proto_model.specs.declared.numbered.StateInfo.{StateInfo}
use Rattle.proto_model.specs.declared.numbered.VarInfo.{VarInfo}
use Rattle.proto_model.specs.declared.numbered.MessageInfo.{MessageInfo}
use Rattle.async_shape.specs.Setting.{Setting}

-- the protocol in mode lean, with so many slots
abbrev pub lean : NumberedProtocol → ℕ → Setting
lean protocol slots = record { protocol = protocol; mode = Lean; slots = slots }

-- the protocol in mode plain, with so many slots
abbrev pub plain : NumberedProtocol → ℕ → Setting
plain protocol slots = record { protocol = protocol; mode = Plain; slots = slots }

-- a message, the way that it goes, and what it carries
abbrev pub message : Text → Bool → Carry → MessageInfo
message name up carries = record { name = name; up = up; carries = carries }

-- a variable with its type and first value
abbrev pub declared : Text → VarKind → Value → VarInfo
declared name kind first = record { name = name; kind = kind; first = first }

-- a state with its guards
abbrev pub state : Text → List Rule → StateInfo
state name rules = record { name = name; rules = rules }

-- the variable at this place gets what the expression is worth
abbrev pub gets : ℕ → RuleExpr → RuleAssign
gets var value = record { var = var; value = value }

-- a guard with conditions, assignments and next state
abbrev pub goes_when : RuleKind → List RuleAtom → List RuleAssign → ℕ → Rule
goes_when kind conds assigns next =
    record { kind = kind; conds = conds; assigns = assigns; next = next }

-- a guard without conditions
abbrev pub goes : RuleKind → List RuleAssign → ℕ → Rule
goes kind assigns next = goes_when kind [] assigns next

-- A cache line has one owner at a time, which gets it with the right to write.
abbrev pub migratory : NumberedProtocol
migratory = record {
  name = codes "migratory";
  messages =
      message (codes "req") true carry.Nothing ∷
      message (codes "gr") false (carry.Int 2) ∷
      message (codes "lr") true (carry.Int 2) ∷
      message (codes "inv") false carry.Nothing ∷
      message (codes "id") true (carry.Int 2) ∷
      [];
  home = record {
    vars =
        declared (codes "o") kind.Node value.Nowhere ∷
        declared (codes "j") kind.Node value.Nowhere ∷
        declared (codes "d") (kind.Int 2) (value.Int 0) ∷
        [];
    start = 0;
    states =
        -- 0
        state (codes "F") (
        -- from any j ? req goto G;
        goes (action.Input (partner.Any 1) 0 None) [] 1 ∷
        []) ∷
        -- 1
        state (codes "G") (
        -- to j ! gr(d) do o = j goto E;
        goes (action.Output (partner.Named 1) 1 (Some (expr.One (term.Var 2))))
        (gets 0 (expr.One (term.Var 1)) ∷ []) 2 ∷
        []) ∷
        -- 2
        state (codes "E") (
        -- from any j ? req goto I1;
        goes (action.Input (partner.Any 1) 0 None) [] 3 ∷
        -- from o ? lr(d) do o = none goto F;
        goes (action.Input (partner.Named 0) 2 (Some 2)) (gets 0 (expr.One term.Nowhere) ∷ []) 0 ∷
        []) ∷
        -- 3
        state (codes "I1") (
        -- to o ! inv goto I2;
        goes (action.Output (partner.Named 0) 3 None) [] 4 ∷
        -- from o ? lr(d) goto G;
        goes (action.Input (partner.Named 0) 2 (Some 2)) [] 1 ∷
        []) ∷
        -- 4
        state (codes "I2") (
        -- from o ? id(d) goto G;
        goes (action.Input (partner.Named 0) 4 (Some 2)) [] 1 ∷
        []) ∷
        [];
  };
  remote = record {
    vars =
        declared (codes "d") (kind.Int 2) (value.Int 0) ∷
        [];
    start = 0;
    states =
        -- 0
        state (codes "I") (
        -- tau goto R;
        goes action.Tau [] 1 ∷
        []) ∷
        -- 1
        state (codes "R") (
        -- to home ! req goto W;
        goes (action.Output partner.Home 0 None) [] 2 ∷
        []) ∷
        -- 2
        state (codes "W") (
        -- from home ? gr(d) goto V;
        goes (action.Input partner.Home 1 (Some 0)) [] 3 ∷
        []) ∷
        -- 3
        state (codes "V") (
        -- tau do d = d + 1 goto V;
        goes action.Tau (gets 0 (expr.Plus (term.Var 0) (term.Number 1)) ∷ []) 3 ∷
        -- tau goto L;
        goes action.Tau [] 4 ∷
        -- from home ? inv goto D;
        goes (action.Input partner.Home 3 None) [] 5 ∷
        []) ∷
        -- 4
        state (codes "L") (
        -- to home ! lr(d) goto I;
        goes (action.Output partner.Home 2 (Some (expr.One (term.Var 0)))) [] 0 ∷
        []) ∷
        -- 5
        state (codes "D") (
        -- to home ! id(d) goto I;
        goes (action.Output partner.Home 4 (Some (expr.One (term.Var 0)))) [] 0 ∷
        []) ∷
        [];
  };
}

-- The home asks whom it likes, and takes each request.
abbrev pub three : NumberedProtocol
three = record {
  name = codes "three";
  messages =
      message (codes "a") false carry.Nothing ∷
      message (codes "b") true carry.Nothing ∷
      [];
  home = record {
    vars =
        declared (codes "j") kind.Node value.Nowhere ∷
        [];
    start = 0;
    states =
        -- 0
        state (codes "H") (
        -- to any j ! a goto H;
        goes (action.Output (partner.Any 0) 0 None) [] 0 ∷
        -- from any j ? b goto H;
        goes (action.Input (partner.Any 0) 1 None) [] 0 ∷
        []) ∷
        [];
  };
  remote = record {
    vars = [];
    start = 0;
    states =
        -- 0
        state (codes "P") (
        -- tau goto Q;
        goes action.Tau [] 1 ∷
        -- from home ? a goto P;
        goes (action.Input partner.Home 0 None) [] 0 ∷
        []) ∷
        -- 1
        state (codes "Q") (
        -- to home ! b goto P;
        goes (action.Output partner.Home 1 None) [] 0 ∷
        []) ∷
        [];
  };
}

-- The home takes requests of one kind, and after a local step one of the other kind.
abbrev pub tide : NumberedProtocol
tide = record {
  name = codes "tide";
  messages =
      message (codes "a") true carry.Nothing ∷
      message (codes "b") true carry.Nothing ∷
      [];
  home = record {
    vars =
        declared (codes "j") kind.Node value.Nowhere ∷
        [];
    start = 0;
    states =
        -- 0
        state (codes "A") (
        -- from any j ? a goto A;
        goes (action.Input (partner.Any 0) 0 None) [] 0 ∷
        -- tau goto B;
        goes action.Tau [] 1 ∷
        []) ∷
        -- 1
        state (codes "B") (
        -- from any j ? b goto A;
        goes (action.Input (partner.Any 0) 1 None) [] 0 ∷
        []) ∷
        [];
  };
  remote = record {
    vars = [];
    start = 0;
    states =
        -- 0
        state (codes "R") (
        -- tau goto SA;
        goes action.Tau [] 1 ∷
        -- tau goto SB;
        goes action.Tau [] 2 ∷
        []) ∷
        -- 1
        state (codes "SA") (
        -- to home ! a goto R;
        goes (action.Output partner.Home 0 None) [] 0 ∷
        []) ∷
        -- 2
        state (codes "SB") (
        -- to home ! b goto R;
        goes (action.Output partner.Home 1 None) [] 0 ∷
        []) ∷
        [];
  };
}

-- The home asks whom it likes, and takes no request.
abbrev pub hold : NumberedProtocol
hold = record {
  name = codes "hold";
  messages =
      message (codes "a") false carry.Nothing ∷
      message (codes "b") true carry.Nothing ∷
      [];
  home = record {
    vars =
        declared (codes "j") kind.Node value.Nowhere ∷
        [];
    start = 0;
    states =
        -- 0
        state (codes "H") (
        -- to any j ! a goto H;
        goes (action.Output (partner.Any 0) 0 None) [] 0 ∷
        []) ∷
        [];
  };
  remote = record {
    vars = [];
    start = 0;
    states =
        -- 0
        state (codes "Q") (
        -- to home ! b goto P;
        goes (action.Output partner.Home 1 None) [] 1 ∷
        []) ∷
        -- 1
        state (codes "P") (
        -- from home ? a goto P;
        goes (action.Input partner.Home 0 None) [] 1 ∷
        []) ∷
        [];
  };
}

-- A cache line has many readers or one writer.
abbrev pub invalidate : NumberedProtocol
invalidate = record {
  name = codes "invalidate";
  messages =
      message (codes "rs") true carry.Nothing ∷
      message (codes "rx") true carry.Nothing ∷
      message (codes "gs") false (carry.Int 2) ∷
      message (codes "gx") false (carry.Int 2) ∷
      message (codes "ev") true carry.Nothing ∷
      message (codes "wb") true (carry.Int 2) ∷
      message (codes "inv") false carry.Nothing ∷
      message (codes "ia") true carry.Nothing ∷
      message (codes "fetch") false carry.Nothing ∷
      message (codes "fd") true (carry.Int 2) ∷
      [];
  home = record {
    vars =
        declared (codes "j") kind.Node value.Nowhere ∷
        declared (codes "o") kind.Node value.Nowhere ∷
        declared (codes "v") kind.Node value.Nowhere ∷
        declared (codes "s") kind.Set (value.Set 0) ∷
        declared (codes "d") (kind.Int 2) (value.Int 0) ∷
        [];
    start = 0;
    states =
        -- 0
        state (codes "U") (
        -- from any j ? rs goto GS;
        goes (action.Input (partner.Any 0) 0 None) [] 1 ∷
        -- from any j ? rx goto INV;
        goes (action.Input (partner.Any 0) 1 None) [] 2 ∷
        -- from any v in s ? ev do s = s - v goto U;
        goes (action.Input (partner.Member 2 3) 4 None)
        (gets 3 (expr.Minus (term.Var 3) (term.Var 2)) ∷ []) 0 ∷
        []) ∷
        -- 1
        state (codes "GS") (
        -- to j ! gs(d) do s = s + j goto U;
        goes (action.Output (partner.Named 0) 2 (Some (expr.One (term.Var 4))))
        (gets 3 (expr.Plus (term.Var 3) (term.Var 0)) ∷ []) 0 ∷
        []) ∷
        -- 2
        state (codes "INV") (
        -- to any v in s ! inv goto IA;
        goes (action.Output (partner.Member 2 3) 6 None) [] 3 ∷
        -- from any v in s ? ev do s = s - v goto INV;
        goes (action.Input (partner.Member 2 3) 4 None)
        (gets 3 (expr.Minus (term.Var 3) (term.Var 2)) ∷ []) 2 ∷
        -- tau when s eq empty goto GX;
        goes_when action.Tau
        (record {
          left = expr.One (term.Var 3);
          rel = rel.Eq;
          right = expr.One term.Empty;
        } ∷ [])
        [] 4 ∷
        []) ∷
        -- 3
        state (codes "IA") (
        -- from v ? ia do s = s - v goto INV;
        goes (action.Input (partner.Named 2) 7 None)
        (gets 3 (expr.Minus (term.Var 3) (term.Var 2)) ∷ []) 2 ∷
        []) ∷
        -- 4
        state (codes "GX") (
        -- to j ! gx(d) do o = j goto X;
        goes (action.Output (partner.Named 0) 3 (Some (expr.One (term.Var 4))))
        (gets 1 (expr.One (term.Var 0)) ∷ []) 5 ∷
        []) ∷
        -- 5
        state (codes "X") (
        -- from any j ? rs goto FS;
        goes (action.Input (partner.Any 0) 0 None) [] 6 ∷
        -- from any j ? rx goto FX;
        goes (action.Input (partner.Any 0) 1 None) [] 8 ∷
        -- from o ? wb(d) do o = none goto U;
        goes (action.Input (partner.Named 1) 5 (Some 4)) (gets 1 (expr.One term.Nowhere) ∷ []) 0 ∷
        []) ∷
        -- 6
        state (codes "FS") (
        -- to o ! fetch goto WS;
        goes (action.Output (partner.Named 1) 8 None) [] 7 ∷
        -- from o ? wb(d) do o = none goto GS;
        goes (action.Input (partner.Named 1) 5 (Some 4)) (gets 1 (expr.One term.Nowhere) ∷ []) 1 ∷
        []) ∷
        -- 7
        state (codes "WS") (
        -- from o ? fd(d) do o = none goto GS;
        goes (action.Input (partner.Named 1) 9 (Some 4)) (gets 1 (expr.One term.Nowhere) ∷ []) 1 ∷
        []) ∷
        -- 8
        state (codes "FX") (
        -- to o ! fetch goto WX;
        goes (action.Output (partner.Named 1) 8 None) [] 9 ∷
        -- from o ? wb(d) do o = none goto GX;
        goes (action.Input (partner.Named 1) 5 (Some 4)) (gets 1 (expr.One term.Nowhere) ∷ []) 4 ∷
        []) ∷
        -- 9
        state (codes "WX") (
        -- from o ? fd(d) goto GX;
        goes (action.Input (partner.Named 1) 9 (Some 4)) [] 4 ∷
        []) ∷
        [];
  };
  remote = record {
    vars =
        declared (codes "d") (kind.Int 2) (value.Int 0) ∷
        [];
    start = 0;
    states =
        -- 0
        state (codes "I") (
        -- tau goto RS;
        goes action.Tau [] 1 ∷
        -- tau goto RX;
        goes action.Tau [] 3 ∷
        []) ∷
        -- 1
        state (codes "RS") (
        -- to home ! rs goto WS;
        goes (action.Output partner.Home 0 None) [] 2 ∷
        []) ∷
        -- 2
        state (codes "WS") (
        -- from home ? gs(d) goto S;
        goes (action.Input partner.Home 2 (Some 0)) [] 5 ∷
        []) ∷
        -- 3
        state (codes "RX") (
        -- to home ! rx goto WX;
        goes (action.Output partner.Home 1 None) [] 4 ∷
        []) ∷
        -- 4
        state (codes "WX") (
        -- from home ? gx(d) goto M;
        goes (action.Input partner.Home 3 (Some 0)) [] 8 ∷
        []) ∷
        -- 5
        state (codes "S") (
        -- tau goto E;
        goes action.Tau [] 6 ∷
        -- from home ? inv goto A;
        goes (action.Input partner.Home 6 None) [] 7 ∷
        []) ∷
        -- 6
        state (codes "E") (
        -- to home ! ev goto I;
        goes (action.Output partner.Home 4 None) [] 0 ∷
        []) ∷
        -- 7
        state (codes "A") (
        -- to home ! ia goto I;
        goes (action.Output partner.Home 7 None) [] 0 ∷
        []) ∷
        -- 8
        state (codes "M") (
        -- tau do d = d + 1 goto M;
        goes action.Tau (gets 0 (expr.Plus (term.Var 0) (term.Number 1)) ∷ []) 8 ∷
        -- tau goto B;
        goes action.Tau [] 9 ∷
        -- from home ? fetch goto F;
        goes (action.Input partner.Home 8 None) [] 10 ∷
        []) ∷
        -- 9
        state (codes "B") (
        -- to home ! wb(d) goto I;
        goes (action.Output partner.Home 5 (Some (expr.One (term.Var 0)))) [] 0 ∷
        []) ∷
        -- 10
        state (codes "F") (
        -- to home ! fd(d) goto I;
        goes (action.Output partner.Home 9 (Some (expr.One (term.Var 0)))) [] 0 ∷
        []) ∷
        [];
  };
}
