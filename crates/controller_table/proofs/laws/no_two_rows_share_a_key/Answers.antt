-- Rows of different states differ in the state, those of different guards in the guard.
use Rattle.proto_model.specs.Pairs.{replies_of}
use Rattle.controller_table.specs.Rows.{home_rows, remote_rows}
use Rattle.controller_table.proofs.Apart.{apart-places}
use Rattle.controller_table.proofs.RowsApart.{home_rows-apart, remote_rows-apart}
use Rattle.controller_table.proofs.laws.no_two_rows_share_a_key.Goals as goal

pub returns : goal.returns
returns c = record {
  home = λ protocol mode. apart-places (home_rows protocol mode)
      (home_rows-apart protocol.messages (replies_of protocol mode) protocol.home);
  remote = λ protocol mode. apart-places (remote_rows protocol mode)
      (remote_rows-apart protocol.messages (replies_of protocol mode) protocol.remote);
}
