-- The rules of states and processes.
use Rattle.std.proofs.Common.{List, [], ◌∷◌, ◌++◌, refl, sym, ◌∙◌, codes}
use Rattle.std.specs.List.{flat_map, AllByRecursion}
use Rattle.proto_model.specs.Tokens.{Text, item, part, IsName}
use Rattle.proto_model.specs.Grammar.{semicolon, opening, closing, kind_tokens, initial_token}
use Rattle.proto_model.specs.Grammar.{var_tokens, guard_tokens, state_tokens, process_tokens}
use Rattle.proto_model.specs.Sayable.{IsSayableVar, IsSayableGuard, IsSayableState}
use Rattle.proto_model.specs.Sayable.{IsSayableProcess}
use Rattle.proto_model.specs.declared.protocol.Var.{Var}
use Rattle.proto_model.specs.declared.protocol.State.{State}
use Rattle.proto_model.specs.declared.protocol.Process.{Process}
use Rattle.proto_model.specs.declared.guard.Guard.{Guard}
use Rattle.protocol_reader.specs.Reading.{guard_words, state_of, state, process_of, process}
use Rattle.protocol_reader.specs.Reading.{is_among}
use Rattle.protocol_reader.proofs.Rule.{IsRule}
use Rattle.protocol_reader.proofs.Choices.{free, token_rule, mapped_rule}
use Rattle.protocol_reader.proofs.Words.{name_rule}
use Rattle.protocol_reader.proofs.Repeated.{Begins, many_rule}
use Rattle.protocol_reader.proofs.Sequences.{filled, first_token, follows_among, many_stop}
use Rattle.protocol_reader.proofs.Sequences.{both_free, both_filled, then_token}
use Rattle.protocol_reader.proofs.DeclarationRules.{var_rule}
use Rattle.protocol_reader.proofs.GuardRules.{guard_rule, guard_begins, and_true}

-- ---- 'state' NAME '{' guard* '}'

abbrev state_parts : State → Unit {0} × (Text × (Unit {0} × (List Guard × Unit {0})))
state_parts s = (tt, (s.name, (tt, (s.guards, tt))))

abbrev StateOk : State → Type 0
StateOk s =
    Unit {0} × (IsName s.name × (Unit {0} × (AllByRecursion IsSayableGuard s.guards × Unit {0})))

state_ok : (s : State) → StateOk s → IsSayableState s
state_ok s (_, (name, (_, (guards, _)))) = record { name = name; guards = guards }

pub state_rule : IsRule state state_tokens IsSayableState free
unfolding state
state_rule =
    mapped_rule
    (both_free (token_rule (item (codes "state")) (filled _ refl))
    (both_free name_rule (both_free (token_rule opening (filled _ refl))
    (then_token closing (many_rule (is_among guard_words) guard_rule guard_begins) (filled _ refl)
    (λ xs ok. many_stop (is_among guard_words) (codes "}") refl xs)))))
    state_of state_parts
    (λ s. refl)
    (λ p. refl)
    (λ s. refl)
    (λ s ok. (tt, (ok.name, (tt, (ok.guards, tt)))))
    state_ok
    (λ s t. refl)

-- ---- '{' var* 'start' NAME ';' state* '}'

pub var_begins : Begins (is_among (codes "var" ∷ [])) var_tokens IsSayableVar free
var_begins = record {
  first = λ v. item (codes "var");
  rest = λ v.
      part v.name
      ∷ (kind_tokens v.kind ++ part (codes "=") ∷ initial_token v.first ∷ semicolon ∷ []);
  parts = λ v ok. refl;
  first_comes = λ v ok. refl;
  stops = λ v t ok e. refl;
}

pub state_begins : Begins (is_among (codes "state" ∷ [])) state_tokens IsSayableState free
state_begins = record {
  first = λ s. item (codes "state");
  rest = λ s. part s.name ∷ opening ∷ (flat_map guard_tokens s.guards ++ closing ∷ []);
  parts = λ s ok. refl;
  first_comes = λ s ok. refl;
  stops = λ s t ok e. refl;
}

abbrev process_parts : Process
    → Unit {0} × (List Var × (Unit {0} × (Text × (Unit {0} × (List State × Unit {0})))))
process_parts p = (tt, (p.vars, (tt, (p.start, (tt, (p.states, tt))))))

abbrev ProcessOk : Process → Type 0
ProcessOk p =
    Unit {0}
    × (AllByRecursion IsSayableVar p.vars
    × (Unit {0}
    × (IsName p.start × (Unit {0} × (AllByRecursion IsSayableState p.states × Unit {0})))))

process_ok : (p : Process) → ProcessOk p → IsSayableProcess p
process_ok p (_, (vars, (_, (start, (_, (states, _)))))) =
    record { vars = vars; start = start; states = states }

pub process_rule : IsRule process process_tokens IsSayableProcess free
unfolding process
process_rule =
    mapped_rule
    (both_free (token_rule opening (filled _ refl))
    (both_filled (many_rule (is_among (codes "var" ∷ [])) var_rule var_begins)
    (both_free (token_rule (item (codes "start")) (filled _ refl))
    (both_free name_rule (both_free (token_rule semicolon (filled _ refl))
    (then_token closing (many_rule (is_among (codes "state" ∷ [])) state_rule state_begins)
    (filled _ refl) (λ xs ok. many_stop (is_among (codes "state" ∷ [])) (codes "}") refl xs)))))
    (follows_among (codes "start" ∷ [])
    (first_token (item (codes "start")) (codes "start" ∷ []) _ _ refl)
    (λ xs ok. sym (and_true _) ∙ many_stop (is_among (codes "var" ∷ [])) (codes "start") refl xs))
    (λ y ok. refl)))
    process_of process_parts
    (λ p. refl)
    (λ q. refl)
    (λ p. refl)
    (λ p ok. (tt, (ok.vars, (tt, (ok.start, (tt, (ok.states, tt)))))))
    process_ok
    (λ p t. refl)
