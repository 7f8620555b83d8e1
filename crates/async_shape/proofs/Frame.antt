-- The frame: a remote whose view is as it was is in the case in which it was. What a view is made
-- of, and what leaves each part of it alone.
use Rattle.std.proofs.Common.{◌≡◌, ◌≢◌, ◌<◌, ◌==◌, ℕ, false, List, length, Option, None}
use Rattle.std.proofs.Common.{slice_set, slice_index_or, option_and_then, option_map}
use Rattle.std.proofs.Common.{refl, sym, ap, subst, inl, inr, arith}
use Rattle.std.proofs.lemmas.Bool.{cases_eq}
use Rattle.std.proofs.lemmas.Bool.Decides.{nat_tests}
use Rattle.std.proofs.lemmas.List.{get_or-set_same, get_or-set_other}
use Rattle.rv_base.proofs.Lists.{slice_get-set_same, slice_get-set_other}
use Rattle.proto_model.specs.Numbered.{NumberedProtocol}
use Rattle.slot_reserve.specs.Requests.{first_of}
use Rattle.slot_reserve.specs.declared.held.Held.{Held}
use Rattle.ordered_links.specs.Lists.{LinkPair, links_at}
use Rattle.async_shape.specs.Setting.{Setting}
use Rattle.async_shape.specs.Config.{Config, count_of, owed_to}
use Rattle.async_shape.specs.Outcome.{owing}
use Rattle.async_shape.specs.View.{View, awaited_at, held_request, nobody, view_at}
use Rattle.async_shape.specs.Phase.{Case}
use Rattle.async_shape.specs.declared.config.HomeState.{HomeState}
use Rattle.async_shape.specs.declared.config.HomePlace.{HomePlace}
use Rattle.async_shape.specs.declared.config.HomePlace.TheVariants.{Idle, Waits}
use Rattle.async_shape.specs.declared.config.RemoteState.{RemoteState}
use Rattle.async_shape.specs.declared.config.Request.{Request}

-- ---- what a view is made of

-- the view that is made of the remote, the request that it is to answer, its two links, the first
-- request that is held of it, and the message that is owed to it
abbrev pub view_of : RemoteState → Option Request → LinkPair → Option Held → Option ℕ → View
view_of remote awaited pair held owed = record {
  remote = remote;
  awaited = awaited;
  up = pair.up;
  down = pair.down;
  held = option_map held_request held;
  owed = owed;
}

-- equal parts are equal views
view_of-same : {r s : RemoteState} {a b : Option Request} {k l : LinkPair} {g h : Option Held}
    {o p : Option ℕ} → r ≡ s → a ≡ b → k ≡ l → g ≡ h → o ≡ p
    → view_of r a k g o ≡ view_of s b l h p
view_of-same remote awaited pair held owed = rw (remote, awaited, pair, held, owed) refl

-- the view of a remote, by its parts
pub view_at-of : (protocol : NumberedProtocol) (d : Config) (q : ℕ) (remote : RemoteState)
    (awaited : Option Request) (pair : LinkPair) (held : Option Held) (owed : Option ℕ)
    → slice_index_or d.remotes q nobody ≡ remote
    → awaited_at protocol d.home d.home.place q ≡ awaited → links_at d.links q ≡ pair
    → first_of q d.held ≡ held → owed_to d.home q ≡ owed
    → view_at protocol d q ≡ view_of remote awaited pair held owed
view_at-of protocol d q remote awaited pair held owed record_is awaited_is pair_is held_is owed_is =
    view_of-same record_is awaited_is pair_is held_is owed_is

-- two views of a remote, by their parts
pub view_at-same : (protocol : NumberedProtocol) (c d : Config) (q : ℕ)
    → slice_index_or d.remotes q nobody ≡ slice_index_or c.remotes q nobody
    → awaited_at protocol d.home d.home.place q ≡ awaited_at protocol c.home c.home.place q
    → links_at d.links q ≡ links_at c.links q → first_of q d.held ≡ first_of q c.held
    → owed_to d.home q ≡ owed_to c.home q → view_at protocol d q ≡ view_at protocol c q
view_at-same protocol c d q record_is awaited_is pair_is held_is owed_is =
    view_of-same record_is awaited_is pair_is held_is owed_is

-- ---- the cases of all remotes

-- equal views are in the same case
pub Case-same : (setting : Setting) (c d : Config) (q : ℕ)
    → view_at setting.protocol d q ≡ view_at setting.protocol c q
    → Case setting (view_at setting.protocol c q) → Case setting (view_at setting.protocol d q)
Case-same setting c d q same case = subst (Case setting) (sym same) case

-- each remote has its case
abbrev pub HasCases : Setting → Config → Type 0
HasCases setting c = (q : ℕ) → q < count_of c → Case setting (view_at setting.protocol c q)

-- the view of this remote is the same in both
abbrev pub SeesSame : Setting → Config → Config → ℕ → Type 0
SeesSame setting c d q = view_at setting.protocol d q ≡ view_at setting.protocol c q

-- each remote is in a case where all are seen as before
pub cases-all_same : (setting : Setting) (c d : Config) → count_of d ≡ count_of c
    → ((q : ℕ) → SeesSame setting c d q) → HasCases setting c → HasCases setting d
cases-all_same setting c d count same cases = λ q within.
    Case-same setting c d q (same q) (cases q (subst (λ (n : ℕ). q < n) count within))

-- so it is where two remotes are in a case again, and all others are seen as before
pub cases-but_two : (setting : Setting) (c d : Config) (j x : ℕ) → count_of d ≡ count_of c
    → ((q : ℕ) → q ≢ j → q ≢ x → SeesSame setting c d q)
    → Case setting (view_at setting.protocol d j) → Case setting (view_at setting.protocol d x)
    → HasCases setting c → HasCases setting d
cases-but_two setting c d j x count same first second cases = λ q within.
    elim (cases_eq q j) [
      | inl is ↦ subst (λ (i : ℕ). Case setting (view_at setting.protocol d i)) (sym is) first
      | inr apart ↦ elim (cases_eq q x) [
        | inl is ↦ subst (λ (i : ℕ). Case setting (view_at setting.protocol d i)) (sym is) second
        | inr away ↦ Case-same setting c d q (same q apart away)
            (cases q (subst (λ (n : ℕ). q < n) count within))
      ]
    ]

-- so it is with one
pub cases-but_one : (setting : Setting) (c d : Config) (j : ℕ) → count_of d ≡ count_of c
    → ((q : ℕ) → q ≢ j → SeesSame setting c d q) → Case setting (view_at setting.protocol d j)
    → HasCases setting c → HasCases setting d
cases-but_one setting c d j count same here cases =
    cases-but_two setting c d j j count (λ q apart away. same q apart) here here cases

-- ---- the records of the remotes

-- the record of another remote stays
pub remotes-other : (remotes : List RemoteState) (j q : ℕ) (remote : RemoteState) → q ≢ j
    → slice_index_or (slice_set remotes j remote) q nobody ≡ slice_index_or remotes q nobody
remotes-other remotes j q remote apart = get_or-set_other remotes j q remote nobody apart

-- the record of this one is the new one
pub remotes-own : (remotes : List RemoteState) (j : ℕ) (remote : RemoteState) → j < length remotes
    → slice_index_or (slice_set remotes j remote) j nobody ≡ remote
remotes-own remotes j remote there = get_or-set_same remotes j remote nobody there

-- ---- what is owed

-- what is owed to another remote stays
pub owing-other : (home : HomeState) (j q : ℕ) (debt : Option ℕ) → q ≢ j
    → owed_to (owing j debt home) q ≡ owed_to home q
owing-other home j q debt apart =
    ap (option_and_then (λ (owed : Option ℕ). owed)) (slice_get-set_other home.owed j q debt apart)

-- what is owed to this one is the new debt
pub owing-own : (home : HomeState) (j : ℕ) (debt : Option ℕ) → j < length home.owed
    → owed_to (owing j debt home) j ≡ debt
owing-own home j debt there =
    ap (option_and_then (λ (owed : Option ℕ). owed)) (slice_get-set_same home.owed j debt there)

-- ---- on whom the home waits

-- the home doesn't wait on this remote
abbrev pub IsUnawaited : ℕ → HomePlace → Type 0
IsUnawaited q (Idle state) = Unit {0}
IsUnawaited q (Waits waiting) = q ≢ waiting.on

-- the home awaits nothing of a remote on which it doesn't wait
pub awaited-none : (protocol : NumberedProtocol) (home : HomeState) (place : HomePlace) (q : ℕ)
    → IsUnawaited q place → awaited_at protocol home place q ≡ None
awaited-none protocol home (Idle state) q none = refl
awaited-none protocol home (Waits waiting) q none =
    let other : (waiting.on == q) ≡ false = grind (arith, nat_tests) in rw other refl
