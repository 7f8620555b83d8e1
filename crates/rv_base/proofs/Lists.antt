-- Lists: what each item gives and has, what is found in them, and where an answer comes from.
use Rattle.std.proofs.Common.{◌≡◌, ◌≢◌, ℕ, zero, suc, ◌+◌, ◌<◌, cond, Bool, true, false, not, List}
use Rattle.std.proofs.Common.{[], ◌∷◌, ◌++◌, Some, None, length, get_or, set, slice_get, take, drop}
use Rattle.std.proofs.Common.{map}
use Rattle.std.proofs.Common.{replicate, refl, sym, ap, ◌∙◌, subst, append_assoc, append-nil}
use Rattle.std.proofs.Common.{arith, if◌then◌else◌}
use Rattle.std.proofs.lemmas.List.{drop_all, take_all, length-map}
use Rattle.std.specs.declared.option.Option.{Option}
use Rattle.std.specs.List.{AllByRecursion, find, position_from}
use Rattle.std.specs.Option.{option_and_then, option_map}
use Rattle.std.proofs.lemmas.Option.{slice_get_read, same_Some}
use Rattle.rv_base.specs.Lists.{flat_from, map_from}
use Rattle.rv_base.specs.Lends.{in_place}

pub is_false : (b : Bool) → not b ≡ true → b ≡ false
is_false true e = absurd (cc)
is_false false e = refl

-- ---- what each item gives

pub length-map_from : {A B : Type 0} (give : ℕ → A → B) (place : ℕ) (items : List A)
    → length (map_from give place items) ≡ length items
length-map_from give place [] = refl
length-map_from give place (item ∷ items) = ap suc (length-map_from give (place + 1) items)

pub map_from-append : {A B : Type 0} (give : ℕ → A → B) (place : ℕ) (front rest : List A)
    → map_from give place (front ++ rest)
    ≡ map_from give place front ++ map_from give (place + length front) rest
map_from-append give place [] rest =
    let at : place + 0 ≡ place = omega arith in
    rw at refl
map_from-append give place (item ∷ front) rest =
    let at : place + suc (length front) ≡ place + 1 + length front = omega arith in
    rw (at, map_from-append give (place + 1) front rest) refl

flat_from-take : {A B : Type 0} (give : ℕ → A → List B) (place : ℕ) (items : List A) (i : ℕ) (d : A)
    → i < length items
    → flat_from give place (take (i + 1) items)
    ≡ flat_from give place (take i items) ++ give (place + i) (get_or items i d)
flat_from-take give place [] i d within = absurd (omega arith)
flat_from-take give place (item ∷ items) zero d within =
    let at : place + 0 ≡ place = omega arith in
    rw at (append-nil (give place item))
flat_from-take give place (item ∷ items) (suc i) d within =
    let fewer : i < length items = omega arith in
    let at : place + suc i ≡ place + 1 + i = omega arith in
    let count : suc i + 1 ≡ suc (i + 1) = omega arith in
    let front = flat_from give (place + 1) (take i items) in
    rw (at, count, flat_from-take give (place + 1) items i d fewer)
    (sym (append_assoc (give place item) front (give (place + 1 + i) (get_or items i d))))

map_from-take : {A B : Type 0} (give : ℕ → A → B) (place : ℕ) (items : List A) (i : ℕ) (d : A)
    → i < length items
    → map_from give place (take (i + 1) items)
    ≡ map_from give place (take i items) ++ give (place + i) (get_or items i d) ∷ []
map_from-take give place [] i d within = absurd (omega arith)
map_from-take give place (item ∷ items) zero d within =
    let at : place + 0 ≡ place = omega arith in
    rw at refl
map_from-take give place (item ∷ items) (suc i) d within =
    let fewer : i < length items = omega arith in
    let at : place + suc i ≡ place + 1 + i = omega arith in
    let count : suc i + 1 ≡ suc (i + 1) = omega arith in
    rw (at, count, map_from-take give (place + 1) items i d fewer) refl

pub flat_from-one_more : {A B : Type 0} (give : ℕ → A → List B) (items : List A) (i : ℕ) (d : A)
    → i < length items
    → flat_from give 0 (take (i + 1) items)
    ≡ flat_from give 0 (take i items) ++ give i (get_or items i d)
flat_from-one_more give items i d within =
    let at : 0 + i ≡ i = omega arith in
    let more = flat_from-take give 0 items i d within in
    more ∙ ap (λ place. flat_from give 0 (take i items) ++ give place (get_or items i d)) at

pub map_from-one_more : {A B : Type 0} (give : ℕ → A → B) (items : List A) (i : ℕ) (d : A)
    → i < length items
    → map_from give 0 (take (i + 1) items)
    ≡ map_from give 0 (take i items) ++ give i (get_or items i d) ∷ []
map_from-one_more give items i d within =
    let at : 0 + i ≡ i = omega arith in
    let more = map_from-take give 0 items i d within in
    more ∙ ap (λ place. map_from give 0 (take i items) ++ give place (get_or items i d) ∷ []) at

-- A loop over a list, which the code sees as these items, pushed to what it began with what the
-- first items give, and then what the item at i gives.
pub flat_pushed : {A B : Type 0} {list items : List A} {item : A} {old new : List B}
    (give : ℕ → A → List B) (i : ℕ) (start : List B)
    → items ≡ list → i < length items → item ≡ get_or items i item
    → new ≡ old ++ give i item → old ≡ start ++ flat_from give 0 (take i list)
    → new ≡ start ++ flat_from give 0 (take (i + 1) list)
flat_pushed {A} {B} {list} {items} {item} give i start same within is more so_far =
    let within_list : i < length list = rw same at within in
    let is_in_list : item ≡ get_or list i item = rw same at is in
    rw (more, so_far, flat_from-one_more give list i item within_list, ← is_in_list)
    (append_assoc start (flat_from give 0 (take i list)) (give i item))

mapped_next : {X : Type 0} (give : X → X) (items : List X) (i : ℕ) (d : X) → i < length items
    → set (map give (take i items) ++ drop i items) i
    (give (get_or (map give (take i items) ++ drop i items) i d))
    ≡ map give (take (i + 1) items) ++ drop (i + 1) items
mapped_next give [] i d within = absurd (omega arith)
mapped_next give (item ∷ items) zero d within = refl
mapped_next give (item ∷ items) (suc i) d within =
    let count : suc i + 1 ≡ suc (i + 1) = omega arith in
    rw count (ap (λ rest. give item ∷ rest) (mapped_next give items i d (omega arith)))

-- A loop over a list, which changes each item in place, did so with the items before i, and then
-- with the one at i.
pub mapped_in_place : {X : Type 0} (give : X → X) (items old : List X) (i : ℕ) (item d : X)
    → i < length items → old ≡ map give (take i items) ++ drop i items
    → item ≡ give (get_or old i d)
    → set old i item ≡ map give (take (i + 1) items) ++ drop (i + 1) items
mapped_in_place give items old i item d within so_far is =
    rw (is, so_far) (mapped_next give items i d within)

-- As many items as are lent come back.
pub in_place-same : {X : Type 0} (old last : List X) → length last ≡ length old
    → in_place old last ≡ last
in_place-same old last count =
    let none : drop (length last) old ≡ [] = drop_all (length last) old (omega arith) in
    ap (λ rest. take (length old) (last ++ rest)) none
    ∙ ap (take (length old)) (append-nil last) ∙ take_all (length old) last (omega arith)

pub in_place-map : {X : Type 0} (give : X → X) (items : List X)
    → in_place items (map give items) ≡ map give items
in_place-map give items = in_place-same items (map give items) (length-map items give)

-- ---- what each item has

pub AllByRecursion-at : {X : Type 0} (P : X → Type 0) (xs : List X) (place : ℕ) (x : X)
    → AllByRecursion P xs → slice_get xs place ≡ Some x → P x
AllByRecursion-at P [] place x each at = absurd (cc)
AllByRecursion-at P (y ∷ ys) zero x each at = let same : y ≡ x = cc in subst P same each.0
AllByRecursion-at P (y ∷ ys) (suc place) x each at = AllByRecursion-at P ys place x each.1 at

-- The same where the item is what a loop reads at the place.
pub AllByRecursion-read : {X : Type 0} (P : X → Type 0) (xs : List X) (place : ℕ) (x : X)
    → AllByRecursion P xs → place < length xs → x ≡ get_or xs place x → P x
AllByRecursion-read P xs place x each within is =
    AllByRecursion-at P xs place x each (slice_get_read xs (length xs) place x refl within is)

pub AllByRecursion-from_at : {X : Type 0} (P : X → Type 0) (xs : List X)
    → ((place : ℕ) (x : X) → slice_get xs place ≡ Some x → P x) → AllByRecursion P xs
AllByRecursion-from_at P [] holds = tt
AllByRecursion-from_at P (x ∷ xs) holds =
    (holds 0 x refl, AllByRecursion-from_at P xs (λ place y at. holds (suc place) y at))

pub AllByRecursion-weaker : {X : Type 0} (P Q : X → Type 0) (xs : List X)
    → ((x : X) → P x → Q x) → AllByRecursion P xs → AllByRecursion Q xs
AllByRecursion-weaker P Q [] weaker each = tt
AllByRecursion-weaker P Q (x ∷ xs) weaker each =
    (weaker x each.0, AllByRecursion-weaker P Q xs weaker each.1)

pub AllByRecursion-append : {X : Type 0} (P : X → Type 0) (xs ys : List X)
    → AllByRecursion P xs → AllByRecursion P ys → AllByRecursion P (xs ++ ys)
AllByRecursion-append P [] ys first second = second
AllByRecursion-append P (x ∷ xs) ys first second =
    (first.0, AllByRecursion-append P xs ys first.1 second)

pub AllByRecursion-push : {X : Type 0} (P : X → Type 0) (xs : List X) (x : X)
    → AllByRecursion P xs → P x → AllByRecursion P (xs ++ x ∷ [])
AllByRecursion-push P xs x each is = AllByRecursion-append P xs (x ∷ []) each (is, tt)

pub AllByRecursion-front : {X : Type 0} (P : X → Type 0) (xs ys : List X)
    → AllByRecursion P (xs ++ ys) → AllByRecursion P xs
AllByRecursion-front P [] ys each = tt
AllByRecursion-front P (x ∷ xs) ys each = (each.0, AllByRecursion-front P xs ys each.1)

pub AllByRecursion-back : {X : Type 0} (P : X → Type 0) (xs ys : List X)
    → AllByRecursion P (xs ++ ys) → AllByRecursion P ys
AllByRecursion-back P [] ys each = each
AllByRecursion-back P (x ∷ xs) ys each = AllByRecursion-back P xs ys each.1

pub AllByRecursion-set : {X : Type 0} (P : X → Type 0) (xs : List X) (place : ℕ) (x : X)
    → AllByRecursion P xs → P x → AllByRecursion P (set xs place x)
AllByRecursion-set P [] place x each is = tt
AllByRecursion-set P (y ∷ ys) zero x each is = (is, each.1)
AllByRecursion-set P (y ∷ ys) (suc place) x each is =
    (each.0, AllByRecursion-set P ys place x each.1 is)

pub AllByRecursion-replicate : {X : Type 0} (P : X → Type 0) (n : ℕ) (x : X)
    → P x → AllByRecursion P (replicate n x)
AllByRecursion-replicate P zero x is = tt
AllByRecursion-replicate P (suc n) x is = (is, AllByRecursion-replicate P n x is)

pub AllByRecursion-map : {A B : Type 0} (P : B → Type 0) (give : A → B) (items : List A)
    → ((place : ℕ) (item : A) → slice_get items place ≡ Some item → P (give item))
    → AllByRecursion P (map give items)
AllByRecursion-map P give [] holds = tt
AllByRecursion-map P give (item ∷ items) holds = (
  holds 0 item refl,
  AllByRecursion-map P give items (λ place other at. holds (suc place) other at),
)

pub AllByRecursion-flat_from : {A B : Type 0} (P : B → Type 0) (give : ℕ → A → List B) (from : ℕ)
    (items : List A) → ((place : ℕ) (item : A) → AllByRecursion P (give place item))
    → AllByRecursion P (flat_from give from items)
AllByRecursion-flat_from P give from [] each = tt
AllByRecursion-flat_from P give from (item ∷ items) each =
    AllByRecursion-append P (give from item) (flat_from give (from + 1) items) (each from item)
    (AllByRecursion-flat_from P give (from + 1) items each)

-- What holds of all that items give holds of what the item at a place gives.
pub AllByRecursion-map_from_at : {A B : Type 0} (P : B → Type 0) (give : ℕ → A → B) (from : ℕ)
    (items : List A) → AllByRecursion P (map_from give from items)
    → (place : ℕ) (item : A) → slice_get items place ≡ Some item → P (give (from + place) item)
AllByRecursion-map_from_at P give from [] each place item at = absurd (cc)
AllByRecursion-map_from_at P give from (first ∷ items) each zero item at =
    let same : first ≡ item = cc in
    let here : from + 0 ≡ from = omega arith in
    rw (here, ← same) each.0
AllByRecursion-map_from_at P give from (first ∷ items) each (suc place) item at =
    let there : from + suc place ≡ from + 1 + place = omega arith in
    rw there (AllByRecursion-map_from_at P give (from + 1) items each.1 place item at)

-- ---- one item put in place of another

pub slice_get-set_same : {X : Type 0} (xs : List X) (place : ℕ) (x : X)
    → place < length xs → slice_get (set xs place x) place ≡ Some x
slice_get-set_same [] place x within = absurd (omega arith)
slice_get-set_same (y ∷ ys) zero x within = refl
slice_get-set_same (y ∷ ys) (suc place) x within = slice_get-set_same ys place x (omega arith)

pub slice_get-set_other : {X : Type 0} (xs : List X) (place other : ℕ) (x : X)
    → other ≢ place → slice_get (set xs place x) other ≡ slice_get xs other
slice_get-set_other [] place other x differ = refl
slice_get-set_other (y ∷ ys) zero zero x differ = absurd (differ refl)
slice_get-set_other (y ∷ ys) zero (suc other) x differ = refl
slice_get-set_other (y ∷ ys) (suc place) zero x differ = refl
slice_get-set_other (y ∷ ys) (suc place) (suc other) x differ =
    slice_get-set_other ys place other x (λ same. differ (ap suc same))

-- ---- what is found, and where an answer comes from

pub some_or_rest : {X Goal : Type 0} (b : Bool) (x y : X) (rest : Option X)
    → cond b (Some x) rest ≡ Some y → (b ≡ true → x ≡ y → Goal) → (rest ≡ Some y → Goal) → Goal
some_or_rest true x y rest answered here later = here refl (same_Some x y answered)
some_or_rest false x y rest answered here later = later answered

pub some_when : {X : Type 0} (b : Bool) (x y : X)
    → (if b then Some x else None) ≡ Some y → (b ≡ true) × (x ≡ y)
some_when true x y answered = (refl, same_Some x y answered)
some_when false x y answered = absurd (cc)

pub some_map : {X Y : Type 0} (give : X → Y) (o : Option X) (y : Y)
    → option_map give o ≡ Some y → (x : X) × (o ≡ Some x) × (give x ≡ y)
some_map give None y answered = absurd (cc)
some_map give (Some x) y answered = (x, refl, same_Some (give x) y answered)

pub some_and_then : {X Y : Type 0} (give : X → Option Y) (o : Option X) (y : Y)
    → option_and_then give o ≡ Some y → (x : X) × (o ≡ Some x) × (give x ≡ Some y)
some_and_then give None y answered = absurd (cc)
some_and_then give (Some x) y answered = (x, refl, answered)

pub find-passes : {X : Type 0} (test : X → Bool) (xs : List X) (x : X)
    → find test xs ≡ Some x → test x ≡ true
find-passes test [] x found = absurd (cc)
find-passes test (y ∷ ys) x found =
    some_or_rest (test y) y x (find test ys) found
    (λ passes same. subst (λ item. test item ≡ true) same passes)
    (find-passes test ys x)

-- The place that is found, counted from the one of the first item, holds an item that passes.
pub position_from-passes : {X : Type 0} (test : X → Bool) (first : ℕ) (xs : List X) (place : ℕ)
    → position_from test first xs ≡ Some place
    → (i : ℕ) × (x : X) × (place ≡ first + i) × (slice_get xs i ≡ Some x) × (test x ≡ true)
position_from-passes test first [] place found = absurd (cc)
position_from-passes test first (y ∷ ys) place found =
    some_or_rest (test y) first place (position_from test (first + 1) ys) found
    (λ passes same. (0, y, let e : place ≡ first + 0 = omega arith in e, refl, passes))
    (λ later. let more = position_from-passes test (first + 1) ys place later in
    (suc more.0, more.1, omega (arith, more.2), more.3, more.4))
