-- A well-formed protocol can be numbered, and what is made is its numbered form, which is proper.
use Rattle.std.proofs.Common.{map, refl, ap, ◌∙◌}
use Rattle.proto_model.specs.Numbered.{NumberedProtocol, CheckedProtocol, numbered_claim}
use Rattle.star_check.proofs.NumberedForm.{home_numberable, remote_numberable, claims_few}
use Rattle.star_check.proofs.NumberedForm.{claims_fit, made-protocol, made-numbered, made-proper}
use Rattle.star_check.proofs.checked.number.Goals as goal

pub number_body-requires : goal.number_body-requires
number_body-requires c =
    let a = c.args in
    let own = c.requires in
    home_numberable a.protocol.now a.home.now a.remote.now own.home own.remote own.well_formed

pub number_body-requires-2 : goal.number_body-requires-2
number_body-requires-2 c =
    let a = c.args in
    let own = c.requires in
    remote_numberable a.protocol.now a.home.now a.remote.now own.home own.remote own.well_formed

pub number_claims-requires-clause-few : goal.number_claims-requires-clause-few
number_claims-requires-clause-few c =
    let a = c.args in
    let own = c.requires in
    claims_few a.protocol.now a.home.now a.remote.now own.home own.remote own.well_formed

pub number_claims-requires-clause-fits : goal.number_claims-requires-clause-fits
number_claims-requires-clause-fits c =
    let a = c.args in
    let own = c.requires in
    rw c.as_slice.ensures
    (claims_fit a.protocol.now a.home.now a.remote.now own.home own.remote own.well_formed)

pub invariant_of-result : goal.invariant_of-result
invariant_of-result c =
    let a = c.args in
    let own = c.requires in
    let protocol : NumberedProtocol = record {
      name = c.in_ok-copy.field-0;
      messages = c.in_ok-number_messages.field-0;
      home = c.in_ok-number_body.field-0;
      remote = c.in_ok-number_body-2.field-0;
    } in
    let claims = c.in_ok-number_claims.field-0 in
    let checked : CheckedProtocol = record { protocol = protocol; claims = claims } in
    made-proper a.protocol.now a.home.now a.remote.now own.home own.remote own.well_formed checked
    (made-numbered a.protocol.now a.home.now a.remote.now own.home own.remote protocol claims
    (made-protocol a.protocol.now a.home.now a.remote.now own.home own.remote _ _ _ _
    c.in_ok-copy.ensures c.in_ok-number_messages.ensures c.in_ok-number_body.ensures
    c.in_ok-number_body-2.ensures protocol refl)
    (c.in_ok-number_claims.ensures
    ∙ ap (map (numbered_claim a.remote.now.states)) c.as_slice.ensures)
    checked refl)
