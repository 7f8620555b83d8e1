-- What a step must show to be explained by a row, or by none: of what it leaves at the home or at a
-- remote alone.
use Rattle.std.proofs.Common.{◌≡◌, ℕ, ◌<◌, List, Option, Some}
use Rattle.std.proofs.Common.{slice_get, slice_set, refl, sym, ap, subst, ◌∙◌}
use Rattle.std.specs.Option.{option_map, option_map_or, option_and_then}
use Rattle.std.proofs.lemmas.List.{map-set, set-get_or}
use Rattle.std.proofs.lemmas.Option.{slice_get-map, get_or_from_slice_get}
use Rattle.proto_model.specs.Guards.{guard_at, after_guard}
use Rattle.proto_model.specs.declared.numbered.Value.{Value}
use Rattle.proto_model.specs.declared.numbered.Value.TheVariants as value
use Rattle.proto_model.specs.declared.numbered.Rule.{Rule}
use Rattle.proto_model.specs.declared.numbered.Body.{Body}
use Rattle.controller_table.specs.Rows.{guard_id, home_rows, remote_rows}
use Rattle.controller_table.specs.declared.rows.GuardId.{GuardId}
use Rattle.controller_table.specs.declared.rows.Trigger.{Trigger}
use Rattle.controller_table.specs.declared.rows.Does.TheVariants as does
use Rattle.ordered_links.specs.Link.{Link}
use Rattle.async_shape.specs.Setting.{Setting}
use Rattle.async_shape.specs.Config.{Config, count_of}
use Rattle.async_shape.specs.Site.{site}
use Rattle.async_shape.specs.Guards.{guard_by}
use Rattle.async_shape.specs.Outcome.{Put, HomeOutcome, RemoteOutcome}
use Rattle.async_shape.specs.Next.{StepOutcome, links_after, config_after, home_moved, remote_moved}
use Rattle.async_shape.specs.Next.{outcome, put_of, take_of}
use Rattle.async_shape.specs.Fired.{Firing, Situation, row_place, home_situation, remote_situation}
use Rattle.async_shape.specs.Fired.{remote_situations, vars_after_one, vars_after, Explains}
use Rattle.async_shape.specs.Fired.{HomeByRow, RemoteByRow, ByNoRow, ByRowOf, remote_fires, fired}
use Rattle.async_shape.specs.View.{nobody}
use Rattle.async_shape.specs.Phase.{IsRemotePlace}
use Rattle.async_shape.specs.Shape.{IsShaped}
use Rattle.async_shape.specs.declared.config.HomeState.{HomeState}
use Rattle.async_shape.specs.declared.config.RemoteState.{RemoteState}
use Rattle.async_shape.specs.declared.step.Step.{Step}
use Rattle.async_shape.proofs.Completed.{second_part}
use Rattle.async_shape.proofs.ShapeParts.{IsShaped-case}

-- ---- a place

-- the place of a remote, which is in range
pub shaped-place : (setting : Setting) (c : Config) (j : ℕ) (remote : RemoteState)
    → IsShaped setting c → j < count_of c → slice_get c.remotes j ≡ Some remote
    → IsRemotePlace setting.protocol remote.place
shaped-place setting c j remote shaped within there =
    let same = get_or_from_slice_get c.remotes j remote nobody there in
    subst (λ (r : RemoteState). IsRemotePlace setting.protocol r.place) same
    (IsShaped-case setting c shaped j within).typed.place

-- ---- the variables after the guards of a row

module _ (body : Body) (vars : List Value) (g : GuardId) (partner : ℕ) (rule : Rule)
    (there : guard_by body g ≡ Some rule) where
  -- after one guard
  pub after_guard-vars : (v : Value)
      → (after_guard body vars rule rule.next partner v).vars
      ≡ vars_after body vars (does.One g) partner v
  after_guard-vars v =
      let after : Rule → List Value = λ r. (after_guard body vars r r.next partner v).vars in
      sym (ap (λ (o : Option Rule). option_map_or after o vars) there)

  -- after it and the first guard of the next state, with the value of a reply
  pub second_part-vars : (next : Rule) (v : Value) → guard_at body rule.next 0 ≡ Some next
      → (second_part body vars g partner rule there next v).vars
      ≡ vars_after body vars (does.Two g (guard_id rule.next 0)) partner v
  second_part-vars next v then =
      let first = (after_guard body vars rule rule.next partner value.Unit).vars in
      let after : Rule → List Value = λ r. (after_guard body first r r.next partner v).vars in
      sym (ap (λ (o : Option Rule). option_map_or after o first) then)
      ∙ ap (λ (now : List Value). vars_after_one body now (guard_id rule.next 0) partner v)
      (after_guard-vars value.Unit)

-- ---- what a step leaves

-- the place and the variables of a home that stands so
abbrev pub situation_of : HomeState → Situation
situation_of home = record { place = row_place home.place; vars = home.vars }

-- of a step
module _ (setting : Setting) (c : Config) (s : Step) where
  -- a row of the home explains this, which the step leaves at the home
  abbrev pub HomeExplained : Firing → HomeOutcome → Type 0
  HomeExplained firing left =
      Explains (home_rows setting.protocol setting.mode) setting.protocol.home firing (site s)
      left.put (home_situation c) (situation_of left.home) c.home.owed left.home.owed

  -- a row of a remote explains this, which the step leaves at the remote that stood so
  abbrev pub RemoteExplained : RemoteState → Firing → RemoteOutcome → Type 0
  RemoteExplained remote firing left =
      Explains (remote_rows setting.protocol setting.mode) setting.protocol.remote firing (site s)
      left.put (remote_situation remote) (remote_situation left.remote) c.home.owed c.home.owed

-- where a step leaves this outcome
module _ (setting : Setting) (c : Config) (o : StepOutcome) (s : Step) where
  -- the row of what fires one explains the step, or nobody changes place or variables
  abbrev pub FiresBy : Option Firing → Type 0
  FiresBy firing =
      ByRowOf setting c (config_after c o) s (home_rows setting.protocol setting.mode)
      (remote_rows setting.protocol setting.mode) firing

  -- so it is with what the step is said to fire
  abbrev pub FiresSo : Type 0
  FiresSo = FiresBy (fired setting.protocol c s)

-- of an enabled step, with its outcome
module _ (setting : Setting) (c : Config) (s : Step) (o : StepOutcome)
    (did : outcome setting c s ≡ Some o) where
  -- what the step puts is what its outcome says
  put_of-is : put_of setting c s ≡ o.put
  put_of-is = ap (option_and_then (λ (so : StepOutcome). so.put)) did

  -- so is the link from which it takes
  take_of-is : take_of setting c s ≡ o.takes_from
  take_of-is = ap (option_and_then (λ (so : StepOutcome). so.takes_from)) did

  -- the links are those after one put and one take at most
  pub links-follow : (config_after c o).links
      ≡ links_after (put_of setting c s) (take_of setting c s) c.links
  links-follow =
      let put = put_of setting c s in
      ap (λ (p : Option Put). links_after p o.takes_from c.links) (sym put_of-is)
      ∙ ap (λ (taken : Option Link). links_after put taken c.links) (sym take_of-is)

  -- what the step leaves at the home
  module _ (link : Option Link) (left : HomeOutcome) (moved : o ≡ home_moved c link left) where
    -- then the step is by a row of the home
    pub home-by_row : (firing : Firing) → HomeExplained setting c s firing left
        → HomeByRow setting c (config_after c o) s (home_rows setting.protocol setting.mode) firing
    home-by_row firing explained =
        let rows = home_rows setting.protocol setting.mode in
        let put : put_of setting c s ≡ left.put =
        put_of-is ∙ ap (λ (so : StepOutcome). so.put) moved in
        subst (λ (so : StepOutcome). HomeByRow setting c (config_after c so) s rows firing)
        (sym moved)
        (record {
          explained =
              subst
              (λ (p : Option Put). Explains rows setting.protocol.home firing (site s) p
              (home_situation c) (situation_of left.home) c.home.owed left.home.owed)
              (sym put) explained;
          others = refl;
        })

    -- a step that leaves the home where it is is by no row
    pub home-stays : left.home ≡ c.home → ByNoRow c (config_after c o)
    home-stays same =
        subst (λ (so : StepOutcome). ByNoRow c (config_after c so)) (sym moved) (record {
          home = ap situation_of same;
          debts = ap (λ (home : HomeState). home.owed) same;
          remotes = refl;
        })

  -- what the step leaves at remote j
  module _ (link : Option Link) (j : ℕ) (remote : RemoteState) (left : RemoteOutcome)
      (there : slice_get c.remotes j ≡ Some remote)
      (moved : o ≡ remote_moved c link j left) where
    -- the situation of the remote is the one at its place
    situation_there : slice_get (remote_situations c) j ≡ Some (remote_situation remote)
    situation_there =
        slice_get-map remote_situation c.remotes j ∙ ap (option_map remote_situation) there

    -- the situations of the other remotes are as they were
    others_stay : remote_situations (config_after c (remote_moved c link j left))
        ≡ slice_set (remote_situations c) j (remote_situation left.remote)
    others_stay = map-set remote_situation c.remotes j left.remote

    -- then the step is by a row of the remote
    pub remote-by_row : (firing : Firing) → RemoteExplained setting c s remote firing left
        → RemoteByRow setting c (config_after c o) s (remote_rows setting.protocol setting.mode)
        firing j
    remote-by_row firing explained =
        let rows = remote_rows setting.protocol setting.mode in
        let put : put_of setting c s ≡ left.put =
        put_of-is ∙ ap (λ (so : StepOutcome). so.put) moved in
        subst (λ (so : StepOutcome). RemoteByRow setting c (config_after c so) s rows firing j)
        (sym moved)
        (record {
          before = remote_situation remote;
          after = remote_situation left.remote;
          there = situation_there;
          explained =
              subst
              (λ (p : Option Put). Explains rows setting.protocol.remote firing (site s) p
              (remote_situation remote) (remote_situation left.remote) c.home.owed c.home.owed)
              (sym put) explained;
          home = refl;
          others = others_stay;
        })

    -- so it is where the trigger and the value are those of the remote at its place
    pub remote-fires : (on : RemoteState → Trigger) (v : RemoteState → Value)
        → RemoteExplained setting c s remote (remote_fires j (on remote) (v remote) remote) left
        → FiresBy setting c o s
        (option_map (λ r. remote_fires j (on r) (v r) r) (slice_get c.remotes j))
    remote-fires on v explained =
        let fire : RemoteState → Firing = λ r. remote_fires j (on r) (v r) r in
        subst (FiresBy setting c o s) (sym (ap (option_map fire) there))
        (remote-by_row (fire remote) explained)

    -- a step that leaves the remote where it is is by no row
    pub remote-stays : remote_situation left.remote ≡ remote_situation remote
        → ByNoRow c (config_after c o)
    remote-stays same =
        let at =
        get_or_from_slice_get (remote_situations c) j (remote_situation remote)
        (remote_situation remote) situation_there in
        let unchanged : slice_set (remote_situations c) j (remote_situation left.remote)
        ≡ remote_situations c =
        ap (slice_set (remote_situations c) j) (same ∙ sym at)
        ∙ set-get_or (remote_situations c) j (remote_situation remote) in
        subst (λ (so : StepOutcome). ByNoRow c (config_after c so)) (sym moved)
        (record { home = refl; debts = refl; remotes = others_stay ∙ unchanged })
