-- The table of the parts of a proper protocol is sound, and is that protocol's.
use Rattle.std.proofs.Common.{◌≡◌, ℕ, List, Option, sym, ap, subst, ◌∙◌}
use Rattle.proto_model.specs.Tokens.{Text}
use Rattle.proto_model.specs.Numbered.{NumberedProtocol}
use Rattle.proto_model.specs.Proper.{IsProper}
use Rattle.proto_model.specs.Guards.{bare_body}
use Rattle.proto_model.proofs.Bare.{bare_body-bare}
use Rattle.proto_model.specs.Pairs.{replies_of}
use Rattle.proto_model.specs.declared.mode.Mode.{Mode}
use Rattle.proto_model.specs.declared.numbered.MessageInfo.{MessageInfo}
use Rattle.controller_table.specs.Keys.{NoTwoShareKey}
use Rattle.controller_table.specs.Rows.{home_rows, remote_rows}
use Rattle.controller_table.specs.Sound.{Tabled, IsSound, MakesTable, with_nexts, next_by}
use Rattle.controller_table.specs.Sound.{bare_controller, protocol_of, protocol_with, table_of}
use Rattle.controller_table.specs.declared.controller.Controller.{Controller}
use Rattle.controller_table.specs.declared.rows.Row.{Row}
use Rattle.controller_table.proofs.Apart.{apart-places}
use Rattle.controller_table.proofs.RowsApart.{home_rows-apart, remote_rows-apart}
use Rattle.controller_table.proofs.Told.{home-bare, remote-bare}

module _ (name : Text) (mode : Mode) (messages : List MessageInfo) (replies : List (Option ℕ))
    (home remote : Controller) (makes : MakesTable name mode messages replies home remote) where
  -- the protocol of the parts
  abbrev whole : NumberedProtocol
  whole = protocol_with name messages home remote

  abbrev made : Tabled
  made = table_of name mode messages replies home remote

  -- the table with these controllers
  abbrev made_with : Controller → Controller → Tabled
  made_with first second = record {
    name = name;
    mode = mode;
    messages = messages;
    replies = replies;
    home = first;
    remote = second;
  }

  made-protocol : protocol_of made ≡ whole
  made-protocol =
      let first =
      subst (λ (rows : List Row). with_nexts (next_by rows) (bare_body home.body) ≡ home.body)
      (sym makes.same_home) (home-bare whole mode) in
      let second =
      subst (λ (rows : List Row). with_nexts (next_by rows) (bare_body remote.body) ≡ remote.body)
      (sym makes.same_remote) (remote-bare whole mode) in
      cc

  made-sound : IsSound made
  made-sound = record {
    proper = subst IsProper (sym made-protocol) makes.proper;
    home_nexts = sym (bare_body-bare home.body);
    remote_nexts = sym (bare_body-bare remote.body);
    replies = makes.same_replies
        ∙ ap (λ (p : NumberedProtocol). replies_of p mode) (sym made-protocol);
    home_rows = makes.same_home
        ∙ ap (λ (p : NumberedProtocol). home_rows p mode) (sym made-protocol);
    remote_rows = makes.same_remote
        ∙ ap (λ (p : NumberedProtocol). remote_rows p mode) (sym made-protocol);
  }

  -- ---- no two rows of a controller share a key

  pub home-differ : NoTwoShareKey home.rows
  home-differ =
      subst NoTwoShareKey (sym makes.same_home)
      (apart-places (home_rows whole mode)
      (home_rows-apart messages (replies_of whole mode) home.body))

  pub remote-differ : NoTwoShareKey remote.rows
  remote-differ =
      subst NoTwoShareKey (sym makes.same_remote)
      (apart-places (remote_rows whole mode)
      (remote_rows-apart messages (replies_of whole mode) remote.body))

  -- ---- the table with controllers whose bodies say of no guard where it goes

  module _ (first second : Controller) (first-is : first ≡ bare_controller home)
      (second-is : second ≡ bare_controller remote) where
    same-table : made_with first second ≡ made
    same-table = cc

    pub bare-sound : IsSound (made_with first second)
    bare-sound = subst IsSound (sym same-table) made-sound

    pub bare-protocol : protocol_of (made_with first second) ≡ whole
    bare-protocol = ap (λ (table : Tabled). protocol_of table) same-table ∙ made-protocol
