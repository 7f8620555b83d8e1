-- Places of names, where one more name is declared.
use Rattle.std.proofs.Common.{◌≡◌, ℕ, suc, ◌+◌, ◌<◌, Bool, true, false, cond, List, [], ◌∷◌, ◌++◌}
use Rattle.std.proofs.Common.{map, length, get_or, take, refl, sym, ap, ◌∙◌, arith, Option, Some}
use Rattle.std.proofs.Common.{None, is_some, true≢false}
use Rattle.std.specs.List.{position_from}
use Rattle.std.specs.Str.{bytes_eq}
use Rattle.std.proofs.lemmas.Slice.Eq.{bytes_eq-Decides}
use Rattle.std.proofs.lemmas.List.{take_more, length-take-le, length-map, map-append}
use Rattle.proto_model.specs.Tokens.{Text}
use Rattle.proto_model.specs.Names.{place_of}

-- the first that there is
either : Option ℕ → Option ℕ → Option ℕ
either (Some k) other = Some k
either None other = other

position_push : (test : Text → Bool) (n : ℕ) (names : List Text) (name : Text)
    → position_from test n (names ++ name ∷ []) ≡ either (position_from test n names)
    (cond (test name) (Some (n + length names)) None)
unfolding either
position_push test n [] name = let e : n + 0 ≡ n = omega arith in rw e refl
position_push test n (first ∷ names) name = by (test first) (position_push test (n + 1) names name)
  where
    by : (b : Bool) → position_from test (n + 1) (names ++ name ∷ [])
        ≡ either (position_from test (n + 1) names)
        (cond (test name) (Some (n + 1 + length names)) None)
        → cond b (Some n) (position_from test (n + 1) (names ++ name ∷ []))
        ≡ either (cond b (Some n) (position_from test (n + 1) names))
        (cond (test name) (Some (n + suc (length names))) None)
    by true rest = refl
    by false rest = let e : n + suc (length names) ≡ n + 1 + length names = omega arith in rw e rest

-- two names are compared alike from either side
bytes_eq_swap : (a b : Text) (t : Bool) → bytes_eq a b ≡ t → bytes_eq b a ≡ t
bytes_eq_swap a b true e = (bytes_eq-Decides b a).1 (sym ((bytes_eq-Decides a b).0 e))
bytes_eq_swap a b false e = by (bytes_eq b a) refl
  where
    by : (t : Bool) → bytes_eq b a ≡ t → bytes_eq b a ≡ false
    by false f = f
    by true f = absurd (true≢false
        (sym ((bytes_eq-Decides a b).1 (sym ((bytes_eq-Decides b a).0 f))) ∙ e))

-- a name that was not declared before
place_new : (q name : Text) (names : List Text) → is_some (place_of name names) ≡ false
    → cond (bytes_eq name q) (Some (length names)) (place_of q names) ≡ place_of q
    (names ++ name ∷ [])
unfolding either
place_new q name names fresh = by (bytes_eq name q) refl
    ∙ sym (position_push (bytes_eq q) 0 names name)
  where
    none : (o : Option ℕ) → is_some o ≡ false → o ≡ None
    none None h = refl
    none (Some k) h = absurd (true≢false h)

    kept : (o : Option ℕ) → o ≡ either o None
    kept None = refl
    kept (Some k) = refl

    by : (t : Bool) → bytes_eq name q ≡ t
        → cond t (Some (length names)) (place_of q names) ≡ either (place_of q names)
        (cond (bytes_eq q name) (Some (0 + length names)) None)
    by true e =
        let same : name ≡ q = (bytes_eq-Decides name q).0 e in
        let absent : place_of q names ≡ None = ap (λ n. place_of n names) (sym same)
        ∙ none (place_of name names) fresh in
        let again : bytes_eq q name ≡ true = bytes_eq_swap name q true e in
        let start : 0 + length names ≡ length names = omega arith in
        rw (absent, again, start) refl
    by false e = rw (bytes_eq_swap name q false e) (kept (place_of q names))

-- one that was
place_old : (q name : Text) (names : List Text) → is_some (place_of name names) ≡ true
    → place_of q names ≡ place_of q (names ++ name ∷ [])
unfolding either
place_old q name names known = by (place_of q names) refl (bytes_eq q name) refl
    ∙ sym (position_push (bytes_eq q) 0 names name)
  where
    by : (o : Option ℕ) → place_of q names ≡ o → (t : Bool) → bytes_eq q name ≡ t
        → o ≡ either o (cond t (Some (0 + length names)) None)
    by (Some k) at t e = refl
    by None at false e = refl
    by None at true e =
        let same : q ≡ name = (bytes_eq-Decides q name).0 e in
        absurd (true≢false (sym known ∙ ap (λ n. is_some (place_of n names)) (sym same)
        ∙ ap is_some at))

names_more : {A : Type 0} (name_of : A → Text) (items : List A) (k : ℕ) (item : A)
    → k < length items → item ≡ get_or items k item
    → map name_of (take (k + 1) items) ≡ map name_of (take k items) ++ name_of item ∷ []
names_more name_of items k item within at =
    ap (map name_of) (take_more items k item within ∙ ap (λ x. take k items ++ x ∷ []) (sym at))
    ∙ map-append name_of (take k items) (item ∷ [])

-- what a map answers of the names so far, before and after one more declaration
module _ {A : Type 0} (name_of : A → Text) (items : List A) (k : ℕ) (item : A) (name : Text)
    (old : Text → Option ℕ) where
  pub new_name : k < length items → item ≡ get_or items k item → name ≡ name_of item
      → ((q : Text) → old q ≡ place_of q (map name_of (take k items)))
      → is_some (old name) ≡ false → (new : Text → Option ℕ)
      → ((q : Text) → new q ≡ cond (bytes_eq name q) (Some k) (old q))
      → (q : Text) → new q ≡ place_of q (map name_of (take (k + 1) items))
  new_name within at own so_far fresh new updated q =
      let names : List Text = map name_of (take k items) in
      let count : length names ≡ k = length-map (take k items) name_of
      ∙ length-take-le k items (omega arith) in
      let absent : is_some (place_of name names) ≡ false = ap is_some (sym (so_far name)) ∙ fresh in
      updated q
      ∙ ap (cond (bytes_eq name q) (Some k)) (so_far q)
      ∙ ap (λ n. cond (bytes_eq name q) (Some n) (place_of q names)) (sym count)
      ∙ place_new q name names absent
      ∙ ap (λ n. place_of q (names ++ n ∷ [])) own
      ∙ ap (place_of q) (sym (names_more name_of items k item within at))

  pub old_name : k < length items → item ≡ get_or items k item → name ≡ name_of item
      → ((q : Text) → old q ≡ place_of q (map name_of (take k items)))
      → is_some (old name) ≡ true → (q : Text)
      → old q ≡ place_of q (map name_of (take (k + 1) items))
  old_name within at own so_far known q =
      let names : List Text = map name_of (take k items) in
      let present : is_some (place_of name names) ≡ true = ap is_some (sym (so_far name)) ∙ known in
      so_far q
      ∙ place_old q name names present
      ∙ ap (λ n. place_of q (names ++ n ∷ [])) own
      ∙ ap (place_of q) (sym (names_more name_of items k item within at))
