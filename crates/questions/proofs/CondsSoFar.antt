-- Conditions, read part by part.
use Rattle.std.proofs.Common.{◌≡◌, ℕ, ◌+◌, ◌-◌, ◌<◌, ◌≤◌, true, false, List, [], ◌∷◌, ◌++◌}
use Rattle.std.proofs.Common.{length, map, take, drop, get_or, slice_range, nat_le, Some, None, refl}
use Rattle.std.proofs.Common.{sym, ap, ◌∙◌, append_assoc, arith}
use Rattle.std.proofs.lemmas.List.{take_more, drop_more, get_or-drop, length-drop, map-append}
use Rattle.std.proofs.Math.Seq.{take-length}
use Rattle.std.specs.declared.option.Option.{Option}
use Rattle.std.specs.Option.{option_map, option_and_then}
use Rattle.std.specs.Prelude.{if◌then◌else◌}
use Rattle.proto_model.specs.Tokens.{Text}
use Rattle.proto_model.specs.declared.numbered.RuleAtom.{RuleAtom}
use Rattle.questions.specs.Adding.{AddsCond}
use Rattle.questions.specs.Reading.{typed_cond, cond_before, is_and, conds_behind, conds_of}
use Rattle.questions.specs.declared.scope.Scope.{Scope}

-- these conditions, and then the others, if there are others
abbrev pub with_front : List RuleAtom → Option (List RuleAtom) → Option (List RuleAtom)
with_front front later = option_map (λ more. front ++ more) later

with_front-nil : (later : Option (List RuleAtom)) → later ≡ with_front [] later
with_front-nil None = refl
with_front-nil (Some more) = refl

with_front-more : (front : List RuleAtom) (a : RuleAtom) (later : Option (List RuleAtom))
    → with_front front (option_map (λ more. a ∷ more) later) ≡ with_front (front ++ a ∷ []) later
with_front-more front a None = refl
with_front-more front a (Some more) =
    ap (λ (conds : List RuleAtom). Some conds) (sym (append_assoc front (a ∷ []) more))

-- a condition that was added stands behind those in front
added : (old new : List RuleAtom) (found : Option RuleAtom) (later : Option (List RuleAtom))
    → AddsCond old new found true
    → with_front old (cond_before found later) ≡ with_front new later
added old new found later (cond, is, new_is) =
    rw (is, new_is) (with_front-more old cond later)

refused : (old new : List RuleAtom) (found : Option RuleAtom) (later : Option (List RuleAtom))
    → AddsCond old new found false → with_front old (cond_before found later) ≡ None
refused old new found later (none, new_is) = rw none refl

-- ---- one more item of a part

-- the items up to the next place
range-more : {X : Type 0} (xs : List X) (start place : ℕ) (d : X) → start ≤ place
    → place < length xs
    → slice_range xs start (place + 1) ≡ slice_range xs start place ++ get_or xs place d ∷ []
range-more xs start place d order within =
    let more : place + 1 - start ≡ place - start + 1 = omega (arith, order) in
    let at : start + (place - start) ≡ place = omega (arith, order) in
    let fits : place - start < length (drop start xs) =
    omega (arith, length-drop start xs, order, within) in
    ap (λ n. take n (drop start xs)) more
    ∙ (take_more (drop start xs) (place - start) d fits
    ∙ ap (λ x. slice_range xs start place ++ x ∷ [])
    (get_or-drop start xs (place - start) d ∙ ap (λ n. get_or xs n d) at))

-- no items
range-none : {X : Type 0} (xs : List X) (place : ℕ) → slice_range xs place place ≡ []
range-none xs place =
    let none : place - place ≡ 0 = omega arith in
    ap (λ n. take n (drop place xs)) none

-- all items from there
range-all : {X : Type 0} (xs : List X) (start : ℕ) → slice_range xs start (length xs) ≡ drop start xs
range-all xs start =
    ap (λ n. take n (drop start xs)) (sym (length-drop start xs)) ∙ take-length (drop start xs)

drop-all : {X : Type 0} (xs : List X) → drop (length xs) xs ≡ []
drop-all [] = refl
drop-all (x ∷ xs) = drop-all xs

module _ (scope : Scope) where
  word-more : (part : List Text) (w : Text) (ws : List Text) → is_and w ≡ false
      → conds_behind scope part (w ∷ ws) ≡ conds_behind scope (part ++ w ∷ []) ws
  word-more part w ws isnt = rw isnt refl

  and-ends : (part : List Text) (w : Text) (ws : List Text) → is_and w ≡ true
      → conds_behind scope part (w ∷ ws)
      ≡ cond_before (typed_cond scope part) (conds_behind scope [] ws)
  and-ends part w ws is = rw is refl

  module _ {X : Type 0} (word : X → Text) (xs : List X) where
    -- The conditions of all words are those so far, and then those of the part so far and of the
    -- words to come.
    pub record Follows (conds : List RuleAtom) (start place : ℕ) : Type 0 where
      pub order : start ≤ place
      pub within : place ≤ length xs
      pub all : conds_behind scope [] (map word xs)
          ≡ with_front conds (conds_behind scope (map word (slice_range xs start place))
          (map word (drop place xs)))

    pub starts : Follows [] 0 0
    starts = record {
      order = omega arith;
      within = omega arith;
      all = with_front-nil (conds_behind scope [] (map word xs));
    }

    -- a word that isn't `and`
    pub goes-on : (conds : List RuleAtom) (start place : ℕ) (d : X) → Follows conds start place
        → place < length xs → is_and (word (get_or xs place d)) ≡ false
        → Follows conds start (place + 1)
    goes-on conds start place d h within isnt = record {
      order = omega (arith, h.order);
      within = omega (arith, within);
      all = h.all ∙ ap (with_front conds)
          (ap (λ ws. conds_behind scope (map word (slice_range xs start place)) (map word ws))
          (drop_more xs place d within)
          ∙ (word-more (map word (slice_range xs start place)) (word (get_or xs place d))
          (map word (drop (place + 1) xs)) isnt
          ∙ ap (λ part. conds_behind scope part (map word (drop (place + 1) xs)))
          (sym (map-append word (slice_range xs start place) (get_or xs place d ∷ []))
          ∙ ap (map word) (sym (range-more xs start place d h.order within)))));
    }

    -- the words from `and` on
    at-and : (conds : List RuleAtom) (start place : ℕ) (d : X) → Follows conds start place
        → place < length xs → is_and (word (get_or xs place d)) ≡ true
        → conds_behind scope [] (map word xs)
        ≡ with_front conds (cond_before (typed_cond scope (map word (slice_range xs start place)))
        (conds_behind scope [] (map word (drop (place + 1) xs))))
    at-and conds start place d h within is =
        h.all ∙ ap (with_front conds)
        (ap (λ ws. conds_behind scope (map word (slice_range xs start place)) (map word ws))
        (drop_more xs place d within)
        ∙ and-ends (map word (slice_range xs start place)) (word (get_or xs place d))
        (map word (drop (place + 1) xs)) is)

    -- the condition before `and` was added
    pub part-ends : (old new : List RuleAtom) (start place : ℕ) (d : X) → Follows old start place
        → place < length xs → is_and (word (get_or xs place d)) ≡ true
        → AddsCond old new (typed_cond scope (map word (slice_range xs start place))) true
        → Follows new (place + 1) (place + 1)
    part-ends old new start place d h within is adds = record {
      order = omega arith;
      within = omega (arith, within);
      all = at-and old start place d h within is
          ∙ (added old new (typed_cond scope (map word (slice_range xs start place)))
          (conds_behind scope [] (map word (drop (place + 1) xs))) adds
          ∙ ap (λ part. with_front new (conds_behind scope (map word part)
          (map word (drop (place + 1) xs)))) (sym (range-none xs (place + 1))));
    }

    -- the words before `and` are no condition
    pub part-refused : (old new : List RuleAtom) (start place : ℕ) (d : X)
        → Follows old start place → place < length xs → is_and (word (get_or xs place d)) ≡ true
        → AddsCond old new (typed_cond scope (map word (slice_range xs start place))) false
        → conds_of scope (map word xs) ≡ None
    part-refused old new start place d h within is adds =
        ap (option_and_then (λ conds. if nat_le (length conds) 8 then Some conds else None))
        (at-and old start place d h within is
        ∙ refused old new (typed_cond scope (map word (slice_range xs start place)))
        (conds_behind scope [] (map word (drop (place + 1) xs))) adds)

    -- the words from there on
    at-last : (conds : List RuleAtom) (start : ℕ) → Follows conds start (length xs)
        → conds_behind scope [] (map word xs)
        ≡ with_front conds (cond_before (typed_cond scope (map word (drop start xs))) (Some []))
    at-last conds start h =
        h.all ∙ ap (with_front conds)
        (ap (λ part. conds_behind scope (map word part) (map word (drop (length xs) xs)))
        (range-all xs start)
        ∙ ap (λ ws. conds_behind scope (map word (drop start xs)) (map word ws)) (drop-all xs))

    append-none : (conds : List RuleAtom) → conds ++ [] ≡ conds
    append-none [] = refl
    append-none (a ∷ conds) = ap (λ more. a ∷ more) (append-none conds)

    last-added : (old new : List RuleAtom) (start : ℕ) → Follows old start (length xs)
        → AddsCond old new (typed_cond scope (map word (drop start xs))) true
        → conds_behind scope [] (map word xs) ≡ Some new
    last-added old new start h adds =
        at-last old start h
        ∙ (added old new (typed_cond scope (map word (drop start xs))) (Some []) adds
        ∙ ap (λ (conds : List RuleAtom). Some conds) (append-none new))

    -- the last condition was added
    pub few-conds : (old new : List RuleAtom) (start : ℕ) → Follows old start (length xs)
        → AddsCond old new (typed_cond scope (map word (drop start xs))) true
        → nat_le (length new) 8 ≡ true → conds_of scope (map word xs) ≡ Some new
    few-conds old new start h adds few = rw (last-added old new start h adds, few) refl

    pub many-conds : (old new : List RuleAtom) (start : ℕ) → Follows old start (length xs)
        → AddsCond old new (typed_cond scope (map word (drop start xs))) true
        → nat_le (length new) 8 ≡ false → conds_of scope (map word xs) ≡ None
    many-conds old new start h adds many = rw (last-added old new start h adds, many) refl

    -- the last words are no condition
    pub last-refused : (old new : List RuleAtom) (start : ℕ) → Follows old start (length xs)
        → AddsCond old new (typed_cond scope (map word (drop start xs))) false
        → conds_of scope (map word xs) ≡ None
    last-refused old new start h adds =
        ap (option_and_then (λ conds. if nat_le (length conds) 8 then Some conds else None))
        (at-last old start h
        ∙ refused old new (typed_cond scope (map word (drop start xs))) (Some []) adds)
