-- What the lines of a machine stand on: the names of states are those of the table's bodies, each
-- process has as many variables as its body, and the lines of the remotes follow one another.
use Rattle.std.proofs.Common.{◌≡◌, ℕ, zero, suc, ◌+◌, ◌<◌, ◌≤◌, List, [], ◌∷◌, ◌++◌, length, take}
use Rattle.std.proofs.Common.{get_or, Option, slice_get, refl, sym, ap, ◌∙◌, append_assoc}
use Rattle.std.specs.Option.{option_map_or}
use Rattle.std.proofs.lemmas.Option.{slice_get-get_or, slice_get_past}
use Rattle.rv_base.specs.Lists.{flat_from, map_from}
use Rattle.rv_base.proofs.Lists.{flat_from-one_more}
use Rattle.proto_model.specs.Tokens.{Text}
use Rattle.proto_model.specs.Texts.{state_name}
use Rattle.proto_model.specs.Numbered.{NumberedProtocol}
use Rattle.proto_model.specs.declared.numbered.StateInfo.{StateInfo}
use Rattle.proto_model.specs.declared.numbered.Body.{Body}
use Rattle.proto_model.proofs.TypedRules.{AreOfKinds-length}
use Rattle.controller_table.specs.Sound.{Tabled, with_nexts}
use Rattle.controller_table.specs.declared.rows.GuardId.{GuardId}
use Rattle.async_shape.specs.Config.{Config, count_of}
use Rattle.async_shape.specs.View.{nobody}
use Rattle.async_shape.specs.Shape.{IsShaped}
use Rattle.async_shape.specs.declared.config.RemoteState.{RemoteState}
use Rattle.async_shape.proofs.ShapeParts.{IsShaped-whole, IsShaped-case}
use Rattle.async_machine.specs.Standing.{setting_of}
use Rattle.run_replay.specs.StateLines.{remote_line_of, remote_state_line}

-- ---- names

-- the name of a state, where there is one
abbrev name_in : List StateInfo → ℕ → Text
name_in states s = option_map_or (λ info. info.name) (slice_get states s) []

-- States that keep their names are named as before.
name_in-map_from : (give : ℕ → StateInfo → StateInfo) (from : ℕ) (states : List StateInfo) (s : ℕ)
    → ((i : ℕ) (info : StateInfo) → (give i info).name ≡ info.name)
    → name_in (map_from give from states) s ≡ name_in states s
name_in-map_from give from [] s same = refl
name_in-map_from give from (info ∷ states) zero same = same from info
name_in-map_from give from (info ∷ states) (suc s) same =
    name_in-map_from give (from + 1) states s same

-- A body in which guards go elsewhere has the same names.
pub state_name-with_nexts : (next : GuardId → ℕ) (body : Body) (s : ℕ)
    → state_name (with_nexts next body) s ≡ state_name body s
state_name-with_nexts next body s = name_in-map_from _ 0 body.states s (λ i info. refl)

-- ---- variables

module _ (table : Tabled) (k : ℕ) (c : Config) (shaped : IsShaped (setting_of table k) c) where
  -- the home has a value for each variable of its body
  pub home-vars : length c.home.vars ≡ length table.home.body.vars
  home-vars =
      AreOfKinds-length table.home.body.vars c.home.vars
      (IsShaped-whole (setting_of table k) c shaped).home_vars

  -- so has each remote
  pub remote-vars : (j : ℕ) → j < count_of c
      → length (get_or c.remotes j nobody).vars ≡ length table.remote.body.vars
  remote-vars j within =
      AreOfKinds-length table.remote.body.vars (get_or c.remotes j nobody).vars
      (IsShaped-case (setting_of table k) c shaped j within).typed.vars

-- ---- lines

module _ (protocol : NumberedProtocol) (c : Config) where
  -- the lines of the first i remotes
  abbrev pub lines_below : ℕ → Text
  lines_below i = flat_from (remote_line_of protocol c.links) 0 (take i c.remotes)

  -- a remote that is there has its line
  pub line-there : (j : ℕ) → j < length c.remotes
      → remote_state_line protocol c j
      ≡ remote_line_of protocol c.links j (get_or c.remotes j nobody)
  line-there j within =
      ap (λ (o : Option RemoteState). option_map_or (remote_line_of protocol c.links j) o [])
      (slice_get-get_or c.remotes j nobody within)

  -- none has none
  pub line-none : (j : ℕ) → length c.remotes ≤ j → remote_state_line protocol c j ≡ []
  line-none j past =
      ap (λ (o : Option RemoteState). option_map_or (remote_line_of protocol c.links j) o [])
      (slice_get_past c.remotes j past)

  -- One more line is written.
  pub line-written : (i : ℕ) → i < length c.remotes
      → lines_below i ++ remote_state_line protocol c i ≡ lines_below (i + 1)
  line-written i within =
      ap (λ (t : Text). lines_below i ++ t) (line-there i within)
      ∙ sym (flat_from-one_more (remote_line_of protocol c.links) c.remotes i nobody within)

-- A remote's line is written piece by piece: where it stands, and what is under way.
pub line-joined : (process place vars slot up down s u d n : Text)
    → (process ++ (place ++ vars)) ++ (s ++ (slot ++ ((u ++ (up ++ (d ++ down))) ++ n)))
    ≡ process ++ (place ++ (vars ++ (s ++ (slot ++ (u ++ (up ++ (d ++ (down ++ n))))))))
line-joined process place vars slot up down s u d n = simp append_assoc refl
