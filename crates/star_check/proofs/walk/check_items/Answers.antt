-- The header, the messages, the home, the remote and the claims are passed over one after another;
-- the words `home` and `remote` are items without a code.
use Rattle.std.proofs.Common.{◌+◌, ◌∙◌, sym}
use Rattle.std.proofs.lemmas.Result.{err_from_is_err_and}
use Rattle.star_check.proofs.Passing.{first-stop}
use Rattle.star_check.proofs.PassingItems.{process_items, message_items, claim_items}
use Rattle.star_check.proofs.PassingItems.{behind_messages, behind_home, from_messages, from_home}
use Rattle.star_check.proofs.PassingItems.{from_remote, from_claims}
use Rattle.star_check.proofs.walk.check_items.Goals as goal

pub returns-in_err-home_word : goal.returns-in_err-home_word
returns-in_err-home_word c =
    let a = c.args in
    let p = err_from_is_err_and c.from_residual.result c.from_residual.ensures.1 in
    let fault = c.in_err-home_word.field-0.0 in
    rw (p.1, p.2)
    (first-stop 1 (message_items a.name.now a.messages.now a.home.now a.remote.now a.claims.now)
    (behind_messages a.name.now a.messages.now a.home.now a.remote.now a.claims.now)
    (fault.item, fault.code) c.in_err-home_word.ensures.passes
    ∙ sym (from_messages a.name.now a.messages.now a.home.now a.remote.now a.claims.now
    c.in_default.ensures))

pub returns-in_err-remote_word : goal.returns-in_err-remote_word
returns-in_err-remote_word c =
    let a = c.args in
    let p =
    err_from_is_err_and c.from_residual-in_err-remote_word.result
    c.from_residual-in_err-remote_word.ensures.1 in
    let home_word = c.in_ok-home_word.home_word in
    let messages = c.in_ok-home_word.ensures.passes in
    let fault = c.in_err-remote_word.field-0.0 in
    rw (p.1, p.2)
    (first-stop (home_word + 1) (process_items a.home.now)
    (behind_home a.name.now a.messages.now a.home.now a.remote.now a.claims.now)
    (fault.item, fault.code) c.in_err-remote_word.ensures.passes
    ∙ sym (from_home a.name.now a.messages.now a.home.now a.remote.now a.claims.now
    c.in_default.ensures messages.0 home_word messages.1))

pub returns-in_err-first_claim : goal.returns-in_err-first_claim
returns-in_err-first_claim c =
    let a = c.args in
    let p =
    err_from_is_err_and c.from_residual-in_err-first_claim.result
    c.from_residual-in_err-first_claim.ensures.1 in
    let home_word = c.in_ok-home_word.home_word in
    let messages = c.in_ok-home_word.ensures.passes in
    let remote_word = c.in_ok-remote_word.remote_word in
    let home = c.in_ok-remote_word.ensures.passes in
    let fault = c.in_err-first_claim.field-0.0 in
    rw (p.1, p.2)
    (first-stop (remote_word + 1) (process_items a.remote.now)
    (claim_items a.name.now a.messages.now a.home.now a.remote.now a.claims.now)
    (fault.item, fault.code) c.in_err-first_claim.ensures.passes
    ∙ sym (from_remote a.name.now a.messages.now a.home.now a.remote.now a.claims.now
    (home_word + 1)
    (from_home a.name.now a.messages.now a.home.now a.remote.now a.claims.now c.in_default.ensures
    messages.0 home_word messages.1)
    home.0 remote_word home.1))

pub returns-in_err-check_claims : goal.returns-in_err-check_claims
returns-in_err-check_claims c =
    let a = c.args in
    let p =
    err_from_is_err_and c.from_residual-in_err-check_claims.result
    c.from_residual-in_err-check_claims.ensures.1 in
    let home_word = c.in_ok-home_word.home_word in
    let messages = c.in_ok-home_word.ensures.passes in
    let remote_word = c.in_ok-remote_word.remote_word in
    let home = c.in_ok-remote_word.ensures.passes in
    let first_claim = c.in_ok-first_claim.first_claim in
    let remote = c.in_ok-first_claim.ensures.passes in
    rw (p.1, p.2)
    (c.in_err-check_claims.ensures
    ∙ sym (from_claims a.name.now a.messages.now a.home.now a.remote.now a.claims.now
    (remote_word + 1)
    (from_remote a.name.now a.messages.now a.home.now a.remote.now a.claims.now
    (home_word + 1)
    (from_home a.name.now a.messages.now a.home.now a.remote.now a.claims.now c.in_default.ensures
    messages.0 home_word messages.1)
    home.0 remote_word home.1)
    remote.0 first_claim remote.1))

pub returns : goal.returns
returns c =
    let a = c.args in
    let home_word = c.in_ok-home_word.home_word in
    let messages = c.in_ok-home_word.ensures.passes in
    let remote_word = c.in_ok-remote_word.remote_word in
    let home = c.in_ok-remote_word.ensures.passes in
    let first_claim = c.in_ok-first_claim.first_claim in
    let remote = c.in_ok-first_claim.ensures.passes in
    c.in_ok-check_claims.ensures.0
    ∙ sym (from_claims a.name.now a.messages.now a.home.now a.remote.now a.claims.now
    (remote_word + 1)
    (from_remote a.name.now a.messages.now a.home.now a.remote.now a.claims.now
    (home_word + 1)
    (from_home a.name.now a.messages.now a.home.now a.remote.now a.claims.now c.in_default.ensures
    messages.0 home_word messages.1)
    home.0 remote_word home.1)
    remote.0 first_claim remote.1)
