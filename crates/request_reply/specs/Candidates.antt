-- What is kept of each message while the guards are passed over, and what is left after all of
-- them.
use Rattle.std.specs.Prelude.{ℕ, Bool, false, if◌then◌else◌, ◌==◌, List, [], ◌∷◌, get_or, slice_set}
use Rattle.std.specs.Prelude.{Option, Some, None}
use Rattle.std.specs.Option.{option_map_or}
use Rattle.proto_model.specs.Pairs.{all_rules}
use Rattle.proto_model.specs.declared.numbered.Rule.{Rule}
use Rattle.proto_model.specs.declared.numbered.Body.{Body}
use Rattle.request_reply.specs.declared.look.Look.{Look}
use Rattle.request_reply.specs.declared.candidates.Candidate.{Candidate}
use Rattle.request_reply.specs.declared.candidates.Candidate.TheVariants.{Unseen, Reply, Never}
use Rattle.request_reply.specs.Looks.{message_at, reply_behind}

-- what is left after one more guard of the message, which leads to this reply or to none
abbrev pub after : Candidate → Option ℕ → Candidate
after Unseen None = Never
after Unseen (Some reply) = Reply reply
after (Reply before) None = Never
after (Reply before) (Some reply) = if before == reply then Reply before else Never
after Never reply = Never

-- what is left of the replies that two passes leave
abbrev pub agreed : Candidate → Candidate → Candidate
agreed Unseen other = Never
agreed (Reply reply) Unseen = Never
agreed (Reply reply) (Reply other) = if reply == other then Reply reply else Never
agreed (Reply reply) Never = Never
agreed Never other = Never

-- the reply of the message, where each guard of it leads to the same
abbrev pub only_reply : Candidate → Option ℕ
only_reply Unseen = None
only_reply (Reply reply) = Some reply
only_reply Never = None

-- the guard is looked at, and its message is this one
abbrev pub is_of : Look → ℕ → Rule → Bool
is_of look m rule = option_map_or (λ k. k == m) (message_at look rule) false

-- what is kept of all messages after one more guard of message m, which leads to this reply or to
-- none
abbrev pub noted_at : List Candidate → Option ℕ → ℕ → List Candidate
noted_at candidates reply m = slice_set candidates m (after (get_or candidates m Unseen) reply)

module _ (look : Look) (body : Body) where
  -- what is kept of message m after one more guard
  abbrev pub after_rule : ℕ → Candidate → Rule → Candidate
  after_rule m before rule =
      if is_of look m rule then after before (reply_behind look body rule) else before

  -- what is kept of message m after these guards, in order
  abbrev pub after_rules : ℕ → Candidate → List Rule → Candidate
  after_rules m before [] = before
  after_rules m before (rule ∷ rules) = after_rules m (after_rule m before rule) rules

  -- what all guards of the process leave of message m
  abbrev pub candidate : ℕ → Candidate
  candidate m = after_rules m Unseen (all_rules body)

  -- what is kept of all messages after one more guard of any message
  abbrev pub noted : List Candidate → Rule → List Candidate
  noted candidates rule =
      option_map_or (noted_at candidates (reply_behind look body rule))
      (message_at look rule) candidates

  -- what is kept of all messages after these guards, in order
  abbrev pub noted_all : List Candidate → List Rule → List Candidate
  noted_all candidates [] = candidates
  noted_all candidates (rule ∷ rules) = noted_all (noted candidates rule) rules
