-- What a sound table says of its bodies, as the machine reads them.
use Rattle.std.proofs.Common.{◌≡◌, ℕ, ◌<◌, List, length, Some, slice_get, sym, ap, ◌∙◌, arith}
use Rattle.std.proofs.lemmas.Option.{slice_get_within}
use Rattle.rv_base.proofs.Lists.{AllByRecursion-at, AllByRecursion-weaker, some_and_then, some_map}
use Rattle.proto_model.specs.Guards.{guard_at, bare_rule, bare_body}
use Rattle.proto_model.specs.Proper.{IsProperVar, IsProperKind, AreProperKinds, IsProperBody}
use Rattle.proto_model.specs.Proper.{IsProperState}
use Rattle.proto_model.specs.declared.numbered.Side.{Side}
use Rattle.proto_model.specs.declared.numbered.MessageInfo.{MessageInfo}
use Rattle.proto_model.specs.declared.numbered.Rule.{Rule}
use Rattle.proto_model.specs.declared.numbered.StateInfo.{StateInfo}
use Rattle.proto_model.specs.declared.numbered.VarInfo.{VarInfo}
use Rattle.proto_model.specs.declared.numbered.Body.{Body}
use Rattle.proto_model.proofs.Bare.{guard_at-bare}
use Rattle.controller_table.specs.Sound.{Tabled, IsSound, protocol_of, with_nexts, next_by}
use Rattle.controller_table.specs.declared.rows.GuardId.{GuardId}
use Rattle.controller_table.proofs.WithNexts.{bare_body-with_nexts, with_nexts-with_nexts}

-- what its guards say of where they go is lost
bare_body-again : (next : GuardId → ℕ) (body : Body)
    → bare_body (with_nexts next body) ≡ bare_body body
bare_body-again next body =
    bare_body-with_nexts (with_nexts next body)
    ∙ with_nexts-with_nexts (λ g. 0) next body
    ∙ sym (bare_body-with_nexts body)

-- The body of the home is the protocol's, of bare guards.
pub home-bare : (table : Tabled) → IsSound table
    → table.home.body ≡ bare_body (protocol_of table).home
home-bare table sound =
    sound.home_nexts ∙ sym (bare_body-again (next_by table.home.rows) table.home.body)

-- So is that of a remote.
pub remote-bare : (table : Tabled) → IsSound table
    → table.remote.body ≡ bare_body (protocol_of table).remote
remote-bare table sound =
    sound.remote_nexts ∙ sym (bare_body-again (next_by table.remote.rows) table.remote.body)

-- the variables of a proper body have proper kinds
pub proper_kinds : (side : Side) (messages : List MessageInfo) (body : Body)
    → IsProperBody side messages body → AreProperKinds body.vars
proper_kinds side messages body proper =
    AllByRecursion-weaker IsProperVar (λ (v : VarInfo). IsProperKind v.kind) body.vars
    (λ v is. is.kind) proper.vars

-- a guard of a proper body has a small number
small_number : (side : Side) (messages : List MessageInfo) (body : Body) (s g : ℕ) (rule : Rule)
    → IsProperBody side messages body → guard_at body s g ≡ Some rule → g < 16
small_number side messages body s g rule proper there =
    let found = some_and_then (λ (info : StateInfo). slice_get info.rules g)
    (slice_get body.states s) rule there in
    let state = AllByRecursion-at
    (IsProperState side messages body.vars (length body.states)) body.states s found.0
    proper.states found.1 in
    let within = slice_get_within found.0.rules g rule found.2 in
    let few = state.few_rules in
    omega arith

-- the guard of a bare body is the bare one of a guard of the body
pub guard-found : (body bare : Body) (s g : ℕ) (found : Rule) → bare ≡ bare_body body
    → Some found ≡ guard_at bare s g
    → (rule : Rule) × (guard_at body s g ≡ Some rule) × (bare_rule rule ≡ found)
guard-found body bare s g found is_bare there =
    some_map bare_rule (guard_at body s g) found
    (sym (guard_at-bare body s g) ∙ ap (λ (b : Body). guard_at b s g) (sym is_bare) ∙ sym there)

module _ (table : Tabled) (sound : IsSound table) (bare : Body) (s g : ℕ) (found : Rule) where
  -- a guard that is found in the bare body of the home has a small number
  pub home-small : bare ≡ bare_body (protocol_of table).home → Some found ≡ guard_at bare s g
      → g < 16
  home-small is_bare there =
      let guard = guard-found (protocol_of table).home bare s g found is_bare there in
      small_number _ (protocol_of table).messages (protocol_of table).home s g guard.0
      sound.proper.home guard.1

  -- so has one in that of a remote
  pub remote-small : bare ≡ bare_body (protocol_of table).remote → Some found ≡ guard_at bare s g
      → g < 16
  remote-small is_bare there =
      let guard = guard-found (protocol_of table).remote bare s g found is_bare there in
      small_number _ (protocol_of table).messages (protocol_of table).remote s g guard.0
      sound.proper.remote guard.1
