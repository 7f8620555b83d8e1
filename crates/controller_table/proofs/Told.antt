-- The rows of a protocol tell its bodies.
use Rattle.std.proofs.Common.{◌≡◌, ℕ, ◌∙◌}
use Rattle.proto_model.specs.Guards.{bare_body}
use Rattle.proto_model.specs.Numbered.{NumberedProtocol}
use Rattle.proto_model.specs.Pairs.{replies_of}
use Rattle.proto_model.specs.declared.mode.Mode.{Mode}
use Rattle.controller_table.specs.Rows.{home_rows, remote_rows}
use Rattle.controller_table.specs.Sound.{with_nexts, next_by}
use Rattle.controller_table.specs.declared.rows.GuardId.{GuardId}
use Rattle.controller_table.proofs.NextsTold.{home-next, remote-next}
use Rattle.controller_table.proofs.WithNexts.{with_nexts-with_nexts, with_nexts-bare}
use Rattle.controller_table.proofs.WithNexts.{with_nexts-same}

module _ (protocol : NumberedProtocol) (mode : Mode) where
  -- a body to which the rows are told is the protocol's
  home-same : with_nexts (next_by (home_rows protocol mode)) protocol.home ≡ protocol.home
  home-same = with_nexts-same (next_by (home_rows protocol mode)) protocol.home
      (home-next protocol.messages (replies_of protocol mode) protocol.home)

  remote-same : with_nexts (next_by (remote_rows protocol mode)) protocol.remote ≡ protocol.remote
  remote-same = with_nexts-same (next_by (remote_rows protocol mode)) protocol.remote
      (remote-next protocol.messages (replies_of protocol mode) protocol.remote)

  -- whatever it said before
  pub home-told : (said : GuardId → ℕ)
      → with_nexts (next_by (home_rows protocol mode)) (with_nexts said protocol.home)
      ≡ protocol.home
  home-told said =
      with_nexts-with_nexts (next_by (home_rows protocol mode)) said protocol.home ∙ home-same

  pub remote-told : (said : GuardId → ℕ)
      → with_nexts (next_by (remote_rows protocol mode)) (with_nexts said protocol.remote)
      ≡ protocol.remote
  remote-told said =
      with_nexts-with_nexts (next_by (remote_rows protocol mode)) said protocol.remote ∙ remote-same

  pub home-bare : with_nexts (next_by (home_rows protocol mode)) (bare_body protocol.home)
      ≡ protocol.home
  home-bare = with_nexts-bare (next_by (home_rows protocol mode)) protocol.home ∙ home-same

  pub remote-bare : with_nexts (next_by (remote_rows protocol mode)) (bare_body protocol.remote)
      ≡ protocol.remote
  remote-bare = with_nexts-bare (next_by (remote_rows protocol mode)) protocol.remote ∙ remote-same
