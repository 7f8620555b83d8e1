-- What the rings of line numbers stand for, after a number was put on one or taken from one.
use Rattle.std.proofs.Common.{◌≡◌, ℕ, zero, suc, ◌+◌, ◌-◌, ◌*◌, ◌<◌, ◌≤◌, List}
use Rattle.std.proofs.Common.{[], ◌∷◌, ◌++◌, length}
use Rattle.std.proofs.Common.{drop, map, get_or, set, replicate, refl, sym, ap, ◌∙◌, subst, arith}
use Rattle.std.proofs.Common.{length-append}
use Rattle.std.proofs.lemmas.List.{length-map, map-set}
use Rattle.rv_base.proofs.Lists.{AllByRecursion-read, AllByRecursion-replicate}
use Rattle.circular_buffer.specs.Buffer.{Buffer, buffer, keep_last}
use Rattle.ordered_links.specs.Link.{Up, Down}
use Rattle.line_array.specs.SharedLists.{SharedPair, no_entries, shared_at, shared_on, with_shared}
use Rattle.line_array.specs.NumberRings.{pair_of, empty_rings, HaveRoom}
use Rattle.line_array.specs.declared.shared.NumberRings.{NumberRings}

-- the pair of lists at a place
pair-at : (items : List NumberRings) (j : ℕ) (now : NumberRings) → j < length items
    → now ≡ get_or items j now → shared_at (map pair_of items) j ≡ pair_of now
pair-at [] j now within is = absurd (omega arith)
pair-at (first ∷ items) zero now within is = ap pair_of (sym is)
pair-at (first ∷ items) (suc j) now within is = pair-at items j now (omega arith) is

-- a list that isn't longer than the room is kept whole
keep_last-all : (room : ℕ) (xs : List ℕ) → length xs ≤ room → keep_last room xs ≡ xs
keep_last-all room xs few =
    let none : length xs - room ≡ 0 = omega arith in
    ap (λ (n : ℕ). drop n xs) none

-- so many rings stand for nothing under way
pub empty-pairs : (n lines : ℕ)
    → map pair_of (replicate n (empty_rings lines)) ≡ replicate n no_entries
empty-pairs zero lines = refl
empty-pairs (suc n) lines =
    ap (λ (pairs : List SharedPair). no_entries ∷ pairs) (empty-pairs n lines)

-- and have room
pub empty-room : (n lines : ℕ) → HaveRoom lines (replicate n (empty_rings lines))
empty-room n lines =
    AllByRecursion-replicate
    (λ (rings : NumberRings).
    (rings.up.capacity ≡ 2 * lines) × (rings.down.capacity ≡ 3 * lines)) n (empty_rings lines)
    (refl, refl)

module _ (items : List NumberRings) (j : ℕ) (now : NumberRings)
    (within : j < length (map pair_of items)) (is : now ≡ get_or items j now) where
  -- there are as many rings
  there : j < length items
  there = subst (λ (n : ℕ). j < n) (length-map items pair_of) within

  -- the up ring has changed
  pub up-changed : (new : Buffer ℕ) (numbers : List ℕ) → new.items ≡ numbers
      → map pair_of (set items j (record { up = new; down = now.down }))
      ≡ with_shared (Up j) numbers (map pair_of items)
  up-changed new numbers holds =
      map-set pair_of items j (record { up = new; down = now.down })
      ∙ ap (λ (pair : SharedPair). set (map pair_of items) j pair)
      (ap (λ (up : List ℕ). record { up = up; down = now.down.items }) holds
      ∙ ap (λ (pair : SharedPair). record { up = numbers; down = pair.down })
      (sym (pair-at items j now there is)))

  -- the down ring has changed
  pub down-changed : (new : Buffer ℕ) (numbers : List ℕ) → new.items ≡ numbers
      → map pair_of (set items j (record { up = now.up; down = new }))
      ≡ with_shared (Down j) numbers (map pair_of items)
  down-changed new numbers holds =
      map-set pair_of items j (record { up = now.up; down = new })
      ∙ ap (λ (pair : SharedPair). set (map pair_of items) j pair)
      (ap (λ (down : List ℕ). record { up = now.up.items; down = down }) holds
      ∙ ap (λ (pair : SharedPair). record { up = pair.up; down = numbers })
      (sym (pair-at items j now there is)))

  -- the numbers on its up link are those on its up ring
  up-at : now.up.items ≡ shared_on (Up j) (map pair_of items)
  up-at = ap (λ (pair : SharedPair). pair.up) (sym (pair-at items j now there is))

  -- and those on its down link those on its down ring
  down-at : now.down.items ≡ shared_on (Down j) (map pair_of items)
  down-at = ap (λ (pair : SharedPair). pair.down) (sym (pair-at items j now there is))

  -- a number put on the up link, where there is room
  pub up-put : (lines a : ℕ) (new : Buffer ℕ) → HaveRoom lines items
      → length (shared_on (Up j) (map pair_of items)) < 2 * lines
      → new ≡ buffer (keep_last now.up.capacity (now.up.items ++ a ∷ [])) now.up.capacity
      → map pair_of (set items j (record { up = new; down = now.down }))
      ≡ with_shared (Up j) (shared_on (Up j) (map pair_of items) ++ a ∷ []) (map pair_of items)
  up-put lines a new rooms room puts =
      let capacity : now.up.capacity ≡ 2 * lines =
      (AllByRecursion-read
      (λ (rings : NumberRings).
      (rings.up.capacity ≡ 2 * lines) × (rings.down.capacity ≡ 3 * lines)) items j now rooms there
      is).0 in
      let longer : length (now.up.items ++ a ∷ []) ≡ length now.up.items + 1 =
      length-append now.up.items (a ∷ []) in
      let same : length now.up.items ≡ length (shared_on (Up j) (map pair_of items)) =
      ap length up-at in
      let few : length (now.up.items ++ a ∷ []) ≤ now.up.capacity =
      omega (arith, capacity, longer, same, room) in
      up-changed new (shared_on (Up j) (map pair_of items) ++ a ∷ [])
      (ap (λ (b : Buffer ℕ). b.items) puts
      ∙ keep_last-all now.up.capacity (now.up.items ++ a ∷ []) few
      ∙ ap (λ (ns : List ℕ). ns ++ a ∷ []) up-at)

  -- a number put on the down link, where there is room
  pub down-put : (lines a : ℕ) (new : Buffer ℕ) → HaveRoom lines items
      → length (shared_on (Down j) (map pair_of items)) < 3 * lines
      → new ≡ buffer (keep_last now.down.capacity (now.down.items ++ a ∷ [])) now.down.capacity
      → map pair_of (set items j (record { up = now.up; down = new }))
      ≡ with_shared (Down j) (shared_on (Down j) (map pair_of items) ++ a ∷ []) (map pair_of items)
  down-put lines a new rooms room puts =
      let capacity : now.down.capacity ≡ 3 * lines =
      (AllByRecursion-read
      (λ (rings : NumberRings).
      (rings.up.capacity ≡ 2 * lines) × (rings.down.capacity ≡ 3 * lines)) items j now rooms there
      is).1 in
      let longer : length (now.down.items ++ a ∷ []) ≡ length now.down.items + 1 =
      length-append now.down.items (a ∷ []) in
      let same : length now.down.items ≡ length (shared_on (Down j) (map pair_of items)) =
      ap length down-at in
      let few : length (now.down.items ++ a ∷ []) ≤ now.down.capacity =
      omega (arith, capacity, longer, same, room) in
      down-changed new (shared_on (Down j) (map pair_of items) ++ a ∷ [])
      (ap (λ (b : Buffer ℕ). b.items) puts
      ∙ keep_last-all now.down.capacity (now.down.items ++ a ∷ []) few
      ∙ ap (λ (ns : List ℕ). ns ++ a ∷ []) down-at)

  -- the first number taken from the up link
  pub up-taken : (new : Buffer ℕ) → new ≡ buffer (drop 1 now.up.items) now.up.capacity
      → map pair_of (set items j (record { up = new; down = now.down }))
      ≡ with_shared (Up j) (drop 1 (shared_on (Up j) (map pair_of items))) (map pair_of items)
  up-taken new takes =
      up-changed new (drop 1 (shared_on (Up j) (map pair_of items)))
      (ap (λ (b : Buffer ℕ). b.items) takes ∙ ap (drop 1) up-at)

  -- the first number taken from the down link
  pub down-taken : (new : Buffer ℕ) → new ≡ buffer (drop 1 now.down.items) now.down.capacity
      → map pair_of (set items j (record { up = now.up; down = new }))
      ≡ with_shared (Down j) (drop 1 (shared_on (Down j) (map pair_of items))) (map pair_of items)
  down-taken new takes =
      down-changed new (drop 1 (shared_on (Down j) (map pair_of items)))
      (ap (λ (b : Buffer ℕ). b.items) takes ∙ ap (drop 1) down-at)
