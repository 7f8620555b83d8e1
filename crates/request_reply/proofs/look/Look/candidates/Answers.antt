-- Of each message is kept what all rules leave.
use Rattle.std.proofs.Common.{◌≡◌, ◌<◌, ◌≤◌, ◌∙◌, ℕ, length, replicate, get_or, flat_map, take}
use Rattle.std.proofs.Common.{List, sym, ap}
use Rattle.std.specs.List.{AllByRecursion}
use Rattle.std.proofs.lemmas.List.{length-replicate, get_or-replicate, take_all}
use Rattle.rv_base.proofs.Lists.{AllByRecursion-read}
use Rattle.proto_model.specs.Pairs.{all_rules}
use Rattle.proto_model.specs.declared.numbered.Rule.{Rule}
use Rattle.proto_model.specs.declared.numbered.StateInfo.{StateInfo}
use Rattle.proto_model.specs.declared.numbered.Body.{Body}
use Rattle.request_reply.specs.Candidates.{noted_all, candidate, after_rules}
use Rattle.request_reply.specs.Looks.{IsAmong}
use Rattle.request_reply.specs.declared.look.Look.{Look}
use Rattle.request_reply.specs.declared.candidates.Candidate.{Candidate}
use Rattle.request_reply.specs.declared.candidates.Candidate.TheVariants.{Unseen}
use Rattle.request_reply.proofs.Noted.{noted_all_state, length-noted_all, get_or-noted_all}
use Rattle.request_reply.proofs.look.Look.candidates.Goals as goal

-- there are as many as messages
as_many : (look : Look) (body : Body) (count : ℕ) (kept : List Candidate) (rules : List Rule)
    → kept ≡ noted_all look body (replicate count Unseen) rules → length kept ≡ count
as_many look body count kept rules is =
    ap length is ∙ (length-noted_all look body (replicate count Unseen) rules
    ∙ length-replicate count Unseen)

pub note_rules-requires : goal.note_rules-requires
note_rules-requires c =
    let many : length c.loop-state.candidates ≡ c.args.count =
    as_many c.args.self c.args.body.now c.args.count c.loop-state.candidates
    (flat_map (λ s. s.rules) (take c.loop-state.state-index c.as_slice-state-items.result.now))
    c.loop-state.invariant in
    let is : c.state-item.result ≡ get_or c.args.body.now.states c.loop-state.state-index
    c.state-item.result =
    c.state-item.is ∙ ap (λ states. get_or states c.loop-state.state-index c.state-item.result)
    c.as_slice-state-items.ensures in
    let within : c.loop-state.state-index < length c.args.body.now.states = rw
    c.as_slice-state-items.ensures at c.loop-state-test.true in
    rw (many, c.as_slice.ensures)
    (AllByRecursion-read (λ state. AllByRecursion (IsAmong c.args.count c.args.self) state.rules)
    c.args.body.now.states c.loop-state.state-index c.state-item.result
    c.requires within is)

pub loop-state-preserved : goal.loop-state-preserved
loop-state-preserved c =
    c.note_rules.ensures
    ∙ (ap (noted_all c.args.self c.args.body.now c.loop-state.candidates) c.as_slice.ensures
    ∙ (ap (λ kept. noted_all c.args.self c.args.body.now kept c.state-item.result.rules)
    c.loop-state.invariant
    ∙ sym (noted_all_state c.args.self c.args.body.now (replicate c.args.count Unseen)
    c.as_slice-state-items.result.now c.loop-state.state-index
    c.state-item.result c.loop-state-test.true c.state-item.is)))

-- past the last state the rules of all are noted
all_noted : (look : Look) (body : Body) (count i : ℕ) (kept : List Candidate)
    (states : List StateInfo)
    → states ≡ body.states → length states ≤ i
    → kept ≡ noted_all look body (replicate count Unseen) (flat_map (λ s. s.rules) (take i states))
    → kept ≡ noted_all look body (replicate count Unseen) (all_rules body)
all_noted look body count i kept states same past is =
    is ∙ ap (λ ss. noted_all look body (replicate count Unseen) (flat_map (λ s. s.rules) ss))
    (take_all i states past ∙ same)

pub returns-clause-length : goal.returns-clause-length
returns-clause-length c =
    as_many c.args.self c.args.body.now c.args.count c.loop-state.candidates
    (flat_map (λ s. s.rules) (take c.loop-state.state-index c.as_slice-state-items.result.now))
    c.loop-state.invariant

kept_each : (look : Look) (body : Body) (count m : ℕ) (kept : List Candidate)
    → kept ≡ noted_all look body (replicate count Unseen) (all_rules body) → m < count
    → get_or kept m Unseen ≡ candidate look body m
kept_each look body count m kept is within =
    let more : m < length (replicate count Unseen) = rw (length-replicate count Unseen) within in
    ap (λ ks. get_or ks m Unseen) is
    ∙ (get_or-noted_all look body (replicate count Unseen) (all_rules body) m more
    ∙ ap (λ before. after_rules look body m before (all_rules body))
    (get_or-replicate count m Unseen Unseen within))

pub returns-clause-each : goal.returns-clause-each
returns-clause-each c = λ m within.
    kept_each c.args.self c.args.body.now c.args.count m c.loop-state.candidates
    (all_noted c.args.self c.args.body.now c.args.count c.loop-state.state-index
    c.loop-state.candidates c.as_slice-state-items.result.now
    c.as_slice-state-items.ensures c.loop-state-test.false c.loop-state.invariant)
    within
