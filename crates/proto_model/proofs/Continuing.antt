-- Texts that are appended one after the other.
use Rattle.std.proofs.Common.{◌≡◌, ℕ, Bool, true, false, suc, zero, ◌+◌, List, [], ◌∷◌, ◌++◌, take}
use Rattle.std.proofs.Common.{map, Result, Ok, Err, is_err, cond, add-one, Some, slice_get, decimal}
use Rattle.std.proofs.Common.{refl, sym, ap, subst, ◌∙◌, append_assoc, append-nil}
use Rattle.std.specs.List.{join_with_byte}
use Rattle.std.proofs.lemmas.Bool.{cond-true, cond-false}
use Rattle.rv_base.specs.Appended.{Appends}
use Rattle.proto_model.specs.Tokens.{Text}
use Rattle.proto_model.specs.NumberSets.{has_number, members_below}
use Rattle.proto_model.specs.Texts.{member_text, var_text, vars_text}
use Rattle.proto_model.specs.Continued.{Continues}
use Rattle.proto_model.specs.declared.numbered.Value.{Value}
use Rattle.proto_model.specs.declared.numbered.VarInfo.{VarInfo}

-- a text that is appended first is the whole text
pub whole : {E : Type 0} (text : Text) (result : Result (Unit {0}) E) (old new : Text)
    → Continues text (Ok tt) old result new → Appends text result old new
whole text result old new continues = continues old [] (sym (append-nil old))

-- nothing is appended once memory ran out
pub Continues-stopped : {E : Type 0} (text : Text) (so_far : Result (Unit {0}) E) (old : Text)
    → is_err so_far ≡ true → Continues text so_far old so_far old
Continues-stopped text (Ok t) old e = absurd (cc)
Continues-stopped text (Err failure) old e = λ start before stands. (
  stands.0,
  stands.1 ++ text,
  ap (λ (t : Text). t ++ text) stands.2
      ∙ append_assoc stands.0 stands.1 text,
  stands.3,
)

-- nothing, and one text after another
pub Continues-none : {E : Type 0} (so_far : Result (Unit {0}) E) (old : Text)
    → Continues [] so_far old so_far old
Continues-none so_far old =
    λ start before stands. subst (λ (text : Text). Appends text so_far start old)
    (sym (append-nil before)) stands

pub Continues-append : {E : Type 0} (x y : Text) (r s t : Result (Unit {0}) E) (a b c : Text)
    → Continues x r a s b → Continues y s b t c → Continues (x ++ y) r a t c
Continues-append x y r s t a b c first second = λ start before stands.
    subst (λ (text : Text). Appends text t start c) (append_assoc before x y)
    (second start (before ++ x) (first start before stands))

-- the numbers of a list, joined by `,`
abbrev pub joined : List ℕ → Text
joined ns = join_with_byte 44 (map decimal ns)

abbrev pub is_nil : List ℕ → Bool
is_nil [] = true
is_nil (n ∷ ns) = false

joined-push : (ns : List ℕ) (n : ℕ) → joined (ns ++ n ∷ []) ≡ joined ns ++ member_text (is_nil ns) n
joined-push [] n = refl
joined-push (m ∷ []) n = refl
joined-push (m ∷ k ∷ ns) n =
    ap (λ (text : Text). decimal m ++ (44 ∷ text)) (joined-push (k ∷ ns) n)
    ∙ sym (append_assoc (decimal m) (44 ∷ joined (k ∷ ns)) (44 ∷ decimal n))

is_nil-push : (ns : List ℕ) (n : ℕ) → is_nil (ns ++ n ∷ []) ≡ false
is_nil-push [] n = refl
is_nil-push (m ∷ ns) n = refl

-- the members of a set below n, when n is one and when it is not

pub members_below-none : (set : ℕ) → members_below set 0 ≡ []
unfolding members_below
members_below-none set = refl

members_below-more : (set n : ℕ)
    → members_below set (n + 1) ≡ members_below set n ++ cond (has_number set n) (n ∷ []) []
unfolding members_below
members_below-more set n = rw add-one refl

members_below-with : (set n : ℕ) → has_number set n ≡ true
    → members_below set (n + 1) ≡ members_below set n ++ n ∷ []
members_below-with set n has =
    members_below-more set n
    ∙ ap (λ (ns : List ℕ). members_below set n ++ ns) (cond-true (has_number set n) (n ∷ []) [] has)

pub members_below-without : (set n : ℕ) → has_number set n ≡ false
    → members_below set (n + 1) ≡ members_below set n
members_below-without set n has =
    members_below-more set n
    ∙ ap (λ (ns : List ℕ). members_below set n ++ ns)
    (cond-false (has_number set n) (n ∷ []) [] has)
    ∙ append-nil (members_below set n)

pub joined-with : (set n : ℕ) → has_number set n ≡ true
    → joined (members_below set (n + 1)) ≡ joined (members_below set n) ++ member_text
    (is_nil (members_below set n)) n
joined-with set n has =
    ap joined (members_below-with set n has) ∙ joined-push (members_below set n) n

pub is_nil-with : (set n : ℕ) → has_number set n ≡ true → is_nil (members_below set (n + 1)) ≡ false
is_nil-with set n has =
    ap is_nil (members_below-with set n has) ∙ is_nil-push (members_below set n) n

-- the variables

pub vars_text-more : (infos : List VarInfo) (vars : List Value) (n : ℕ) (info : VarInfo) (v : Value)
    → slice_get infos n ≡ Some info → slice_get vars n ≡ Some v
    → vars_text (take (suc n) infos) (take (suc n) vars) ≡ vars_text (take n infos) (take n vars)
    ++ var_text info v
vars_text-more [] vars n info v e f = absurd (cc)
vars_text-more (i ∷ is) [] n info v e f = absurd (cc)
vars_text-more (i ∷ is) (w ∷ ws) zero info v e f =
    let info_is : i ≡ info = cc in
    let v_is : w ≡ v = cc in
    append-nil (var_text i w) ∙ ap (λ (j : VarInfo). var_text j w) info_is ∙ ap (var_text info) v_is
vars_text-more (i ∷ is) (w ∷ ws) (suc n) info v e f =
    ap (λ (text : Text). var_text i w ++ text) (vars_text-more is ws n info v e f)
    ∙ sym (append_assoc (var_text i w) (vars_text (take n is) (take n ws)) (var_text info v))
