-- What is kept of a message is what the tests over all rules say.
use Rattle.std.proofs.Common.{◌≡◌, ℕ, ◌==◌, ◌&&◌, ◌||◌, not, ◌∙◌, Bool, true, false, cond, List, []}
use Rattle.std.proofs.Common.{◌∷◌, Option, Some, None, refl, sym, ap, arith}
use Rattle.std.specs.List.{list_any}
use Rattle.std.proofs.Math.Bool.{and-true, and-false}
use Rattle.std.proofs.lemmas.Bool.Decides.{nat_tests}
use Rattle.std.proofs.lemmas.Bool.{eqb-true}
use Rattle.proto_model.specs.Pairs.{each_that, some_and_each}
use Rattle.proto_model.specs.declared.numbered.Rule.{Rule}
use Rattle.proto_model.specs.declared.numbered.Body.{Body}
use Rattle.request_reply.specs.Looks.{reply_behind}
use Rattle.request_reply.specs.Candidates.{after, agreed, is_of, after_rule, after_rules}
use Rattle.request_reply.specs.declared.look.Look.{Look}
use Rattle.request_reply.specs.declared.candidates.Candidate.{Candidate}
use Rattle.request_reply.specs.declared.candidates.Candidate.TheVariants.{Unseen, Reply, Never}
use Rattle.request_reply.proofs.Leads.{is_it}

-- what is left is the reply p
abbrev pub is_reply : ℕ → Candidate → Bool
is_reply p Unseen = false
is_reply p (Reply reply) = reply == p
is_reply p Never = false

-- the rule leads to the reply p
abbrev pub leads_to : Look → Body → ℕ → Rule → Bool
leads_to look body p rule = is_it p (reply_behind look body rule)

-- what is kept leaves p, where some later rule is of the message, and each one that is leads to p
leaves : ℕ → Bool → Bool → Candidate → Bool
leaves p some each Unseen = some && each
leaves p some each (Reply reply) = (reply == p) && each
leaves p some each Never = false

two_replies : (p q k : ℕ) (some each b : Bool) → (q == k) ≡ b
    → leaves p some each (cond b (Reply q) Never) ≡ ((q == p) && ((k == p) && each))
unfolding leaves
two_replies p q k some each true same = let e : q ≡ k = eqb-true q k same in rw e
    (grind (arith, nat_tests))
two_replies p q k some each false other = grind (arith, nat_tests)

one_more : (p : ℕ) (some each b : Bool) (o : Option ℕ) (kept : Candidate)
    → leaves p some each (cond b (after kept o) kept)
    ≡ leaves p (b || some) ((not b || is_it p o) && each) kept
unfolding leaves
one_more p some each false o Unseen = refl
one_more p some each false o (Reply q) = refl
one_more p some each false o Never = refl
one_more p some each true None Unseen = refl
one_more p some each true (Some k) Unseen = refl
one_more p some each true None (Reply q) = sym (and-false (q == p))
one_more p some each true (Some k) (Reply q) = two_replies p q k some each (q == k) refl
one_more p some each true o Never = refl

none_left : (p : ℕ) (kept : Candidate) → is_reply p kept ≡ leaves p false true kept
unfolding leaves
none_left p Unseen = refl
none_left p (Reply q) = sym (and-true (q == p))
none_left p Never = refl

left : (look : Look) (body : Body) (m p : ℕ) (kept : Candidate) (rules : List Rule)
    → is_reply p (after_rules look body m kept rules)
    ≡ leaves p (list_any (is_of look m) rules)
    (each_that (is_of look m) (leads_to look body p) rules) kept
unfolding leaves
left look body m p kept [] = none_left p kept
left look body m p kept (rule ∷ rules) =
    left look body m p (after_rule look body m kept rule) rules
    ∙ one_more p (list_any (is_of look m) rules)
    (each_that (is_of look m) (leads_to look body p) rules)
    (is_of look m rule) (reply_behind look body rule) kept

pub is_reply-after_rules : (look : Look) (body : Body) (m p : ℕ) (rules : List Rule)
    → is_reply p (after_rules look body m Unseen rules)
    ≡ some_and_each (is_of look m) (leads_to look body p) rules
unfolding leaves
is_reply-after_rules look body m p rules = left look body m p Unseen rules

one_agreed : (p q k : ℕ) (b : Bool) → (q == k) ≡ b
    → is_reply p (cond b (Reply q) Never) ≡ ((q == p) && (k == p))
one_agreed p q k true same = let e : q ≡ k = eqb-true q k same in rw e (grind (arith, nat_tests))
one_agreed p q k false other = grind (arith, nat_tests)

pub is_reply-agreed : (p : ℕ) (a b : Candidate)
    → is_reply p (agreed a b) ≡ (is_reply p a && is_reply p b)
is_reply-agreed p Unseen b = refl
is_reply-agreed p (Reply q) Unseen = sym (and-false (q == p))
is_reply-agreed p (Reply q) (Reply k) = one_agreed p q k (q == k) refl
is_reply-agreed p (Reply q) Never = sym (and-false (q == p))
is_reply-agreed p Never b = refl

each_that-same : (first second third : Rule → Bool) → ((rule : Rule) → second rule ≡ third rule)
    → (rules : List Rule) → each_that first second rules ≡ each_that first third rules
each_that-same first second third same [] = refl
each_that-same first second third same (rule ∷ rules) =
    ap (λ b. (not (first rule) || b) && each_that first second rules) (same rule)
    ∙ ap (λ b. (not (first rule) || third rule) && b) (each_that-same first second third same rules)

-- the test of each rule may be written otherwise
pub some_and_each-same : (first second third : Rule → Bool)
    → ((rule : Rule) → second rule ≡ third rule)
    → (rules : List Rule) → some_and_each first second rules ≡ some_and_each first third rules
some_and_each-same first second third same rules =
    ap (λ each. list_any first rules && each) (each_that-same first second third same rules)
