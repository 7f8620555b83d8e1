-- A body with other nexts.
use Rattle.std.proofs.Common.{◌≡◌, ℕ, suc, ◌+◌, List, [], ◌∷◌, map, Some, slice_get, refl, sym, ap}
use Rattle.std.proofs.Common.{◌∙◌, arith, subst}
use Rattle.rv_base.specs.Lists.{map_from}
use Rattle.proto_model.specs.Guards.{bare_rule, bare_state, bare_body}
use Rattle.proto_model.specs.declared.numbered.Rule.{Rule}
use Rattle.proto_model.specs.declared.numbered.StateInfo.{StateInfo}
use Rattle.proto_model.specs.declared.numbered.Body.{Body}
use Rattle.controller_table.specs.Rows.{guard_id}
use Rattle.controller_table.specs.Sound.{with_nexts}
use Rattle.controller_table.specs.declared.rows.GuardId.{GuardId}

-- each item gives itself
map_from-same : {A : Type 0} (give : ℕ → A → A) (from : ℕ) (items : List A)
    → ((i : ℕ) (item : A) → slice_get items i ≡ Some item → give (from + i) item ≡ item)
    → map_from give from items ≡ items
map_from-same give from [] same = refl
map_from-same give from (item ∷ items) same =
    let first : from + 0 ≡ from = omega arith in
    let here = subst (λ (n : ℕ). give n item ≡ item) first (same 0 item refl) in
    let rest =
    map_from-same give (from + 1) items
    (λ i x there. subst (λ (n : ℕ). give n x ≡ x) (omega arith) (same (suc i) x there)) in
    cc

-- the second gives the same, whatever the first gave
map_from-map_from : {A : Type 0} (first second : ℕ → A → A) (from : ℕ) (items : List A)
    → ((i : ℕ) (item : A) → second i (first i item) ≡ second i item)
    → map_from second from (map_from first from items) ≡ map_from second from items
map_from-map_from first second from [] same = refl
map_from-map_from first second from (item ∷ items) same =
    let here = same from item in
    let rest = map_from-map_from first second (from + 1) items same in
    cc

abbrev with_states : Body → List StateInfo → Body
with_states body states = record { vars = body.vars; start = body.start; states = states }

abbrev pub with_rules : StateInfo → List Rule → StateInfo
with_rules info rules = record { name = info.name; rules = rules }

abbrev to_next : Rule → ℕ → Rule
to_next rule next = record
    { kind = rule.kind; conds = rule.conds; assigns = rule.assigns; next = next }

abbrev rule_with : (GuardId → ℕ) → ℕ → ℕ → Rule → Rule
rule_with next state guard rule = to_next rule (next (guard_id state guard))

abbrev state_with : (GuardId → ℕ) → ℕ → StateInfo → StateInfo
state_with next state info = with_rules info (map_from (rule_with next state) 0 info.rules)

-- The nexts that a body had are lost.
pub with_nexts-with_nexts : (next before : GuardId → ℕ) (body : Body)
    → with_nexts next (with_nexts before body) ≡ with_nexts next body
with_nexts-with_nexts next before body =
    ap (λ (states : List StateInfo). with_states body states)
    (map_from-map_from (state_with before) (state_with next) 0 body.states
    (λ s info. ap (λ (rules : List Rule). with_rules info rules)
    (map_from-map_from (rule_with before s) (rule_with next s) 0 info.rules (λ g rule. refl))))

-- each item gives itself at its own place
map_from-same_start : {A : Type 0} (give : ℕ → A → A) (items : List A)
    → ((i : ℕ) (item : A) → slice_get items i ≡ Some item → give i item ≡ item)
    → map_from give 0 items ≡ items
map_from-same_start give items same =
    map_from-same give 0 items
    (λ i item there. subst (λ (n : ℕ). give n item ≡ item) (omega arith) (same i item there))

-- what each item gives, wherever it stands
map_from-map : {A B : Type 0} (give : A → B) (from : ℕ) (items : List A)
    → map_from (λ place item. give item) from items ≡ map give items
map_from-map give from [] = refl
map_from-map give from (item ∷ items) =
    ap (λ rest. give item ∷ rest) (map_from-map give (from + 1) items)

map_from-alike : {A B : Type 0} (f g : ℕ → A → B) (from : ℕ) (items : List A)
    → ((i : ℕ) (item : A) → f i item ≡ g i item) → map_from f from items ≡ map_from g from items
map_from-alike f g from [] same = refl
map_from-alike f g from (item ∷ items) same =
    let here = same from item in
    let rest = map_from-alike f g (from + 1) items same in
    cc

-- in the body of bare guards each goes to 0
pub bare_body-with_nexts : (body : Body) → bare_body body ≡ with_nexts (λ g. 0) body
bare_body-with_nexts body =
    ap (λ (states : List StateInfo). with_states body states)
    (sym (map_from-map bare_state 0 body.states)
    ∙ map_from-alike (λ s info. bare_state info) (state_with (λ g. 0)) 0 body.states
    (λ s info. ap (λ (rules : List Rule). with_rules info rules)
    (sym (map_from-map bare_rule 0 info.rules))))

-- So are those that a body of bare guards had.
pub with_nexts-bare : (next : GuardId → ℕ) (body : Body)
    → with_nexts next (bare_body body) ≡ with_nexts next body
with_nexts-bare next body =
    ap (with_nexts next) (bare_body-with_nexts body) ∙ with_nexts-with_nexts next (λ g. 0) body

-- A body in which each guard goes where it is said is that body.
pub with_nexts-same : (next : GuardId → ℕ) (body : Body)
    → ((s g : ℕ) (info : StateInfo) (rule : Rule)
    → slice_get body.states s ≡ Some info → slice_get info.rules g ≡ Some rule
    → next (guard_id s g) ≡ rule.next)
    → with_nexts next body ≡ body
with_nexts-same next body told =
    ap (λ (states : List StateInfo). with_states body states)
    (map_from-same_start (state_with next) body.states
    (λ s info state. ap (λ (rules : List Rule). with_rules info rules)
    (map_from-same_start (rule_with next s) info.rules
    (λ g rule there. ap (λ (n : ℕ). to_next rule n) (told s g info rule state there)))))
