-- What is numbered part by part from the scopes of a protocol is its numbered form.
use Rattle.std.proofs.Common.{◌≡◌, ◌≤◌, false, length, List, map, sym, ap, subst, ◌∙◌}
use Rattle.std.specs.List.{list_any}
use Rattle.proto_model.specs.Tokens.{Text}
use Rattle.proto_model.specs.Faults.{IsWellFormed, is_large_claim}
use Rattle.proto_model.specs.Numbered.{NumberedProtocol, CheckedProtocol, numbered}
use Rattle.proto_model.specs.Numbered.{numbered_protocol, numbered_process, numbered_message}
use Rattle.proto_model.specs.Numbered.{numbered_claim}
use Rattle.proto_model.specs.Proper.{IsProperChecked}
use Rattle.proto_model.specs.declared.protocol.Message.{Message}
use Rattle.proto_model.specs.declared.protocol.Process.{Process}
use Rattle.proto_model.specs.declared.protocol.Protocol.{Protocol}
use Rattle.proto_model.specs.declared.numbered.Side.{Side}
use Rattle.proto_model.specs.declared.numbered.Side.TheVariants as side
use Rattle.proto_model.specs.declared.numbered.MessageInfo.{MessageInfo}
use Rattle.proto_model.specs.declared.numbered.Body.{Body}
use Rattle.proto_model.specs.declared.numbered.NumberedClaim.{NumberedClaim}
use Rattle.star_check.specs.declared.scope.Scope as code
use Rattle.star_check.specs.Scopes.{process_seen, IsScopeOf, IsNumberable}
use Rattle.star_check.proofs.ProperBodies.{few_states}
use Rattle.star_check.proofs.SmallNumbers.{none_of, numberable}
use Rattle.star_check.proofs.WellFormed.{clean_parts, few_messages, well_formed-proper_checked}

-- the body of a scope is that of its process
body_seen : (c : code.Scope) (s : Side) (messages : List Message) (p : Process)
    → IsScopeOf c s messages p
    → numbered_process c.messages.now (process_seen c) ≡ numbered_process messages p
body_seen c s messages p own =
    ap
    (λ t. numbered_process t.messages
    (record { vars = t.vars; start = c.start.now; states = t.states })) own.seen
    ∙ ap
    (λ n. numbered_process messages (record { vars = p.vars; start = n; states = p.states }))
    own.start_name

module _ (p : Protocol) (home remote : code.Scope)
    (own_home : IsScopeOf home side.Home p.messages p.home)
    (own_remote : IsScopeOf remote side.Remote p.messages p.remote) where
  pub home_numberable : IsWellFormed p → IsNumberable home
  home_numberable well_formed =
      let clean = clean_parts p well_formed in
      numberable home side.Home p.messages p.home own_home clean.home (few_messages p clean)

  pub remote_numberable : IsWellFormed p → IsNumberable remote
  remote_numberable well_formed =
      let clean = clean_parts p well_formed in
      numberable remote side.Remote p.messages p.remote own_remote clean.remote
      (few_messages p clean)

  -- the claims name few enough states, and their numbers fit
  pub claims_few : IsWellFormed p → length remote.states ≤ 64
  claims_few well_formed =
      rw (ap (λ t. length t.states) own_remote.seen)
      (few_states side.Remote p.messages p.remote (clean_parts p well_formed).remote)

  pub claims_fit : IsWellFormed p → list_any is_large_claim p.claims ≡ false
  claims_fit well_formed =
      none_of is_large_claim p.claims (λ k c e. ((clean_parts p well_formed).claims k c e).fits)

  pub made-protocol : (name : Text) (messages : List MessageInfo) (home_body remote_body : Body)
      → name ≡ p.name → messages ≡ map numbered_message home.messages.now
      → home_body ≡ numbered_process home.messages.now (process_seen home)
      → remote_body ≡ numbered_process remote.messages.now (process_seen remote)
      → (n : NumberedProtocol)
      → n ≡ record { name = name; messages = messages; home = home_body; remote = remote_body }
      → n ≡ numbered_protocol p
  made-protocol name messages home_body remote_body is_name are_messages is_home is_remote n made =
      made
      ∙ ap
      (λ t. let n : NumberedProtocol = record
      { name = t; messages = messages; home = home_body; remote = remote_body } in n) is_name
      ∙ ap
      (λ t. let n : NumberedProtocol = record
      { name = p.name; messages = t; home = home_body; remote = remote_body } in n)
      (are_messages ∙ ap (λ t. map numbered_message t.messages) own_home.seen)
      ∙ ap
      (λ t. let n : NumberedProtocol = record {
        name = p.name;
        messages = map numbered_message p.messages;
        home = t;
        remote
            = remote_body;
      } in n)
      (is_home ∙ body_seen home side.Home p.messages p.home own_home)
      ∙ ap
      (λ t. let n : NumberedProtocol = record {
        name = p.name;
        messages = map numbered_message p.messages;
        home = numbered_process
            p.messages p.home;
        remote = t;
      } in n)
      (is_remote ∙ body_seen remote side.Remote p.messages p.remote own_remote)

  pub made-numbered : (n : NumberedProtocol) (claims : List NumberedClaim) → n ≡ numbered_protocol p
      → claims ≡ map (numbered_claim remote.states) p.claims
      → (checked : CheckedProtocol) → checked ≡ record { protocol = n; claims = claims }
      → checked ≡ numbered p
  made-numbered n claims is_protocol are_claims checked made =
      made
      ∙ ap (λ t. let c : CheckedProtocol = record { protocol = t; claims = claims } in c)
      is_protocol
      ∙ ap
      (λ t. let c : CheckedProtocol = record { protocol = numbered_protocol p; claims = t } in c)
      (are_claims ∙ ap (λ t. map (numbered_claim t.states) p.claims) own_remote.seen)

  pub made-proper : IsWellFormed p → (checked : CheckedProtocol) → checked ≡ numbered p
      → IsProperChecked checked
  made-proper well_formed checked e =
      subst IsProperChecked (sym e) (well_formed-proper_checked p well_formed)
