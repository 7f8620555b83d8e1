-- A driven run turn by turn: what is counted so far, and what a turn does to it.
use Rattle.std.specs.Prelude.{◌≡◌, ℕ, ◌+◌, ◌≤◌, max, Bool, true, false, List, [], ◌∷◌, length}
use Rattle.std.specs.Prelude.{Option, Some, None, if◌then◌else◌}
use Rattle.async_shape.specs.Setting.{Setting}
use Rattle.async_shape.specs.Config.{Config}
use Rattle.ordered_links.specs.Packets.{is_request, is_ack, is_nack, is_reply}
use Rattle.async_shape.specs.Run.{after_step}
use Rattle.async_shape.specs.declared.step.Step.{Step}
use Rattle.drive_report.specs.Drive.{Driven, tells_event, puts_a}
use Rattle.drive_report.specs.Drive.{crosses_at, longest_up, longest_down}
use Rattle.drive_report.specs.declared.counted.PacketCounts.{PacketCounts}
use Rattle.drive_report.specs.declared.summary.Summary.{Summary}

-- one where it holds, else none
abbrev pub one_if : Bool → ℕ
one_if b = if b then 1 else 0

-- nothing is counted yet
abbrev pub nothing_counted : Summary
nothing_counted = record {
  steps = 0;
  events = 0;
  requests = 0;
  acks = 0;
  nacks = 0;
  replies = 0;
  crossed = 0;
  most_held = 0;
  most_up = 0;
  most_down = 0;
  stopped = false;
}

-- the packets that are counted
abbrev pub packets_counted : Summary → PacketCounts
packets_counted s =
    record { requests = s.requests; acks = s.acks; nacks = s.nacks; replies = s.replies }

-- nothing was counted more often than this
pub record IsAtMost (most : ℕ) (s : Summary) : Type 0 where
  pub steps : s.steps ≤ most
  pub events : s.events ≤ most
  pub requests : s.requests ≤ most
  pub acks : s.acks ≤ most
  pub nacks : s.nacks ≤ most
  pub replies : s.replies ≤ most
  pub crossed : s.crossed ≤ most

-- the same with whether a turn found no enabled step
abbrev pub ended : Bool → Summary → Summary
ended stopped s = record {
  steps = s.steps;
  events = s.events;
  requests = s.requests;
  acks = s.acks;
  nacks = s.nacks;
  replies = s.replies;
  crossed = s.crossed;
  most_held = s.most_held;
  most_up = s.most_up;
  most_down = s.most_down;
  stopped = stopped;
}

module _ (setting : Setting) where
  -- what is counted after one more step, taken in this configuration
  abbrev pub counted : Summary → Config → Step → Summary
  counted so_far c s =
      let next = after_step setting c s in
      record {
        steps = so_far.steps + 1;
        events = so_far.events + one_if (tells_event setting (c, s));
        requests = so_far.requests + one_if (puts_a setting (c, s) is_request);
        acks = so_far.acks + one_if (puts_a setting (c, s) is_ack);
        nacks = so_far.nacks + one_if (puts_a setting (c, s) is_nack);
        replies = so_far.replies + one_if (puts_a setting (c, s) is_reply);
        crossed = so_far.crossed + one_if (crosses_at c s);
        most_held = max so_far.most_held (length next.held);
        most_up = max so_far.most_up (longest_up next.links);
        most_down = max so_far.most_down (longest_down next.links);
        stopped = so_far.stopped;
      }

  -- what is counted after these steps, taken from this configuration on
  abbrev pub counted_all : Summary → Config → List Step → Summary
  counted_all so_far c [] = so_far
  counted_all so_far c (s ∷ steps) =
      counted_all (counted so_far c s) (after_step setting c s) steps

  -- what is counted in the end, where the run goes on so from this configuration
  abbrev pub counted_to_end : Summary → Config → Driven → Summary
  counted_to_end so_far c driven = ended driven.stopped (counted_all so_far c driven.steps)

  -- A turn took the step that was chosen, and counted it; where none was, nothing is counted.
  abbrev pub IsTurn : Option Step → Bool → Config → Summary → Config → Summary → Type 0
  IsTurn None moved c so_far new counted_now = (moved ≡ false) × (counted_now ≡ so_far)
  IsTurn (Some s) moved c so_far new counted_now =
      (moved ≡ true) × (new ≡ after_step setting c s) × (counted_now ≡ counted so_far c s)
