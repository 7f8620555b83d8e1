-- The replies of the first messages, and one more.
use Rattle.std.proofs.Common.{◌≡◌, ◌∙◌, ℕ, ◌+◌, ◌<◌, List, [], ◌∷◌, ◌++◌, get_or, map, Option, sym}
use Rattle.std.proofs.Common.{ap, zero-add}
use Rattle.std.specs.List.{range_with_len}
use Rattle.std.proofs.lemmas.List.FromFn.{map-range_with_len_more}
use Rattle.proto_model.specs.declared.numbered.Body.{Body}
use Rattle.request_reply.specs.Candidates.{candidate}
use Rattle.request_reply.specs.declared.look.Look.{Look}
use Rattle.request_reply.specs.declared.candidates.Candidate.{Candidate}
use Rattle.request_reply.specs.declared.candidates.Candidate.TheVariants.{Unseen}

-- What a pass leaves of the message at this place, where a call lent what it left of all.
pub left_at : (look : Look) (given body : Body) (kept lent : List Candidate) (count place : ℕ)
    → lent ≡ kept → ((m : ℕ) → m < count → get_or kept m Unseen ≡ candidate look given m)
    → given ≡ body → place < count → get_or lent place Unseen ≡ candidate look body place
left_at look given body kept lent count place same each is within =
    ap (λ candidates. get_or candidates place Unseen) same
    ∙ (each place within ∙ ap (λ process. candidate look process place) is)

pub one_more_reply : (reply_of : ℕ → Option ℕ) (place : ℕ) (reply : Option ℕ)
    (before after : List (Option ℕ))
    → after ≡ before ++ reply ∷ [] → before ≡ map reply_of (range_with_len 0 place)
    → reply ≡ reply_of place
    → after ≡ map reply_of (range_with_len 0 (place + 1))
one_more_reply reply_of place reply before after pushed so_far is =
    pushed
    ∙ (ap (λ replies. replies ++ reply ∷ []) so_far
    ∙ (ap (λ r. map reply_of (range_with_len 0 place) ++ r ∷ []) is
    ∙ sym (map-range_with_len_more reply_of 0 place place (zero-add place))))
