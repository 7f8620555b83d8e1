-- Rules are noted one after the other, and what is then kept of each message.
use Rattle.std.proofs.Common.{◌≡◌, ℕ, ◌+◌, ◌<◌, ◌==◌, ◌∙◌, Bool, true, false, cond, List, [], ◌∷◌}
use Rattle.std.proofs.Common.{◌++◌, length, take, get_or, slice_set, Option, Some, None, flat_map}
use Rattle.std.proofs.Common.{refl, sym, ap, arith}
use Rattle.std.specs.Option.{option_map_or}
use Rattle.std.proofs.lemmas.Bool.Decides.{nat_tests}
use Rattle.std.proofs.lemmas.Bool.{eqb-true}
use Rattle.std.proofs.lemmas.Grind.{flat_map-append}
use Rattle.std.proofs.lemmas.List.{take_more, append-nil, length-set, get_or-set_same}
use Rattle.std.proofs.lemmas.List.{get_or-set_other}
use Rattle.proto_model.specs.declared.numbered.Rule.{Rule}
use Rattle.proto_model.specs.declared.numbered.StateInfo.{StateInfo}
use Rattle.proto_model.specs.declared.numbered.Body.{Body}
use Rattle.request_reply.specs.Looks.{message_at, reply_behind}
use Rattle.request_reply.specs.Candidates.{after, after_rule, after_rules, noted, noted_all}
use Rattle.request_reply.specs.declared.look.Look.{Look}
use Rattle.request_reply.specs.declared.candidates.Candidate.{Candidate}
use Rattle.request_reply.specs.declared.candidates.Candidate.TheVariants.{Unseen}

noted_all-append : (look : Look) (body : Body) (kept : List Candidate) (xs ys : List Rule)
    → noted_all look body kept (xs ++ ys) ≡ noted_all look body (noted_all look body kept xs) ys
noted_all-append look body kept [] ys = refl
noted_all-append look body kept (x ∷ xs) ys =
    noted_all-append look body (noted look body kept x) xs ys

-- one more rule
pub noted_all_more : (look : Look) (body : Body) (kept : List Candidate) (rules : List Rule) (i : ℕ)
    (rule : Rule)
    → i < length rules → rule ≡ get_or rules i rule
    → noted_all look body kept (take (i + 1) rules)
    ≡ noted look body (noted_all look body kept (take i rules)) rule
noted_all_more look body kept rules i rule within is =
    ap (noted_all look body kept) (take_more rules i rule within)
    ∙ (noted_all-append look body kept (take i rules) (get_or rules i rule ∷ [])
    ∙ ap (noted look body (noted_all look body kept (take i rules))) (sym is))

-- the rules of one more state
pub noted_all_state : (look : Look) (body : Body) (kept : List Candidate) (states : List StateInfo)
    (i : ℕ) (state : StateInfo)
    → i < length states → state ≡ get_or states i state
    → noted_all look body kept (flat_map (λ s. s.rules) (take (i + 1) states))
    ≡ noted_all look body
    (noted_all look body kept (flat_map (λ s. s.rules) (take i states))) state.rules
noted_all_state look body kept states i state within is =
    let one : flat_map (λ (s : StateInfo). s.rules) (state ∷ []) ≡ state.rules =
    append-nil state.rules in
    ap (λ ss. noted_all look body kept (flat_map (λ s. s.rules) ss))
    (take_more states i state within ∙ ap (λ s. take i states ++ s ∷ []) (sym is))
    ∙ (ap (noted_all look body kept) (flat_map-append (λ s. s.rules) (take i states) (state ∷ []))
    ∙ (noted_all-append look body kept (flat_map (λ s. s.rules) (take i states))
    (flat_map (λ s. s.rules) (state ∷ []))
    ∙ ap
    (noted_all look body (noted_all look body kept (flat_map (λ s. s.rules) (take i states)))) one))

-- Candidate k gets a new value, or none does.
put : List Candidate → Option ℕ → Option ℕ → List Candidate
put kept reply o = option_map_or (λ k. slice_set kept k (after (get_or kept k Unseen) reply)) o kept

length-put : (kept : List Candidate) (reply o : Option ℕ) → length (put kept reply o) ≡ length kept
unfolding put
length-put kept reply None = refl
length-put kept reply (Some k) = length-set kept k (after (get_or kept k Unseen) reply)

put_one : (kept : List Candidate) (reply : Option ℕ) (k m : ℕ) → m < length kept → (b : Bool)
    → (k == m) ≡ b
    → get_or (slice_set kept k (after (get_or kept k Unseen) reply)) m Unseen
    ≡ cond b (after (get_or kept m Unseen) reply) (get_or kept m Unseen)
put_one kept reply k m within true same =
    let e : k ≡ m = eqb-true k m same in
    rw e (get_or-set_same kept m (after (get_or kept m Unseen) reply) Unseen within)
put_one kept reply k m within false other =
    get_or-set_other kept k m (after (get_or kept k Unseen) reply) Unseen (grind (arith, nat_tests))

get_or-put : (kept : List Candidate) (reply o : Option ℕ) (m : ℕ) → m < length kept
    → get_or (put kept reply o) m Unseen
    ≡ cond (option_map_or (λ k. k == m) o false) (after (get_or kept m Unseen) reply)
    (get_or kept m Unseen)
unfolding put
get_or-put kept reply None m within = refl
get_or-put kept reply (Some k) m within = put_one kept reply k m within (k == m) refl

length-noted : (look : Look) (body : Body) (kept : List Candidate) (rule : Rule)
    → length (noted look body kept rule) ≡ length kept
unfolding put
length-noted look body kept rule =
    length-put kept (reply_behind look body rule) (message_at look rule)

get_or-noted : (look : Look) (body : Body) (kept : List Candidate) (rule : Rule) (m : ℕ)
    → m < length kept
    → get_or (noted look body kept rule) m Unseen
    ≡ after_rule look body m (get_or kept m Unseen) rule
unfolding put
get_or-noted look body kept rule m within =
    get_or-put kept (reply_behind look body rule) (message_at look rule) m within

pub length-noted_all : (look : Look) (body : Body) (kept : List Candidate) (rules : List Rule)
    → length (noted_all look body kept rules) ≡ length kept
length-noted_all look body kept [] = refl
length-noted_all look body kept (rule ∷ rules) =
    length-noted_all look body (noted look body kept rule) rules ∙ length-noted look body kept rule

pub get_or-noted_all : (look : Look) (body : Body) (kept : List Candidate) (rules : List Rule)
    (m : ℕ)
    → m < length kept
    → get_or (noted_all look body kept rules) m Unseen
    ≡ after_rules look body m (get_or kept m Unseen) rules
get_or-noted_all look body kept [] m within = refl
get_or-noted_all look body kept (rule ∷ rules) m within =
    let more : m < length (noted look body kept rule) =
    rw (length-noted look body kept rule) within in
    get_or-noted_all look body (noted look body kept rule) rules m more
    ∙ ap (λ before. after_rules look body m before rules)
    (get_or-noted look body kept rule m within)
