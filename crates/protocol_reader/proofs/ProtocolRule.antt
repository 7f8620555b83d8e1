-- The rule of the protocol, in each version of the language.
use Rattle.std.proofs.Common.{◌≡◌, ℕ, eqb, Bool, true, cond, List, [], ◌∷◌, ◌++◌, refl, sym, ap}
use Rattle.std.proofs.Common.{subst, ◌∙◌, inl, inr, append_assoc, append-nil, arith}
use Rattle.std.proofs.Common.{codes}
use Rattle.std.proofs.lemmas.Fmt.{decimal_digit}
use Rattle.std.specs.List.{flat_map, AllByRecursion}
use Rattle.proto_model.specs.Tokens.{Text, Token, item, part, IsName}
use Rattle.proto_model.specs.Grammar.{semicolon, direction_token, carry_tokens, message_tokens}
use Rattle.proto_model.specs.Grammar.{process_tokens, claim_tokens, tokens_of}
use Rattle.proto_model.specs.Sayable.{IsSayableMessage, IsSayableProcess, IsSayableClaim}
use Rattle.proto_model.specs.Sayable.{IsSayableVersion, IsSayable}
use Rattle.proto_model.specs.declared.protocol.Message.{Message}
use Rattle.proto_model.specs.declared.protocol.Process.{Process}
use Rattle.proto_model.specs.declared.protocol.Claim.{Claim}
use Rattle.proto_model.specs.declared.protocol.Protocol.{Protocol}
use Rattle.protocol_reader.specs.Reading.{is_among, both, choice, token, word, many_at, claim}
use Rattle.protocol_reader.specs.Reading.{Body, body_of, body, Versions, with_claims, protocol_of}
use Rattle.protocol_reader.specs.Reading.{protocol}
use Rattle.protocol_reader.proofs.Rule.{IsRule, both_tokens, BothOk}
use Rattle.protocol_reader.proofs.Choices.{free, Anything, the_token, token_rule, made_rule}
use Rattle.protocol_reader.proofs.Choices.{mapped_rule, choice_tokens, ChoiceOk, choice_stops}
use Rattle.protocol_reader.proofs.Choices.{choice_rule}
use Rattle.protocol_reader.proofs.Words.{name_rule}
use Rattle.protocol_reader.proofs.Repeated.{Begins, many_rule, many_stops}
use Rattle.protocol_reader.proofs.Sequences.{filled, first_token, follows_among, many_stop}
use Rattle.protocol_reader.proofs.Sequences.{both_free, both_filled, differs_begun}
use Rattle.protocol_reader.proofs.DeclarationRules.{message_rule}
use Rattle.protocol_reader.proofs.GuardRules.{and_true}
use Rattle.protocol_reader.proofs.ProcessRules.{process_rule}
use Rattle.protocol_reader.proofs.ClaimRules.{claim_rule, claim_begins}

-- ---- message* 'home' process 'remote' process

pub message_begins : Begins (is_among (codes "message" ∷ [])) message_tokens IsSayableMessage free
message_begins = record {
  first = λ m. item (codes "message");
  rest = λ m. part m.name ∷ direction_token m.up ∷ (carry_tokens m.carries ++ semicolon ∷ []);
  parts = λ m ok. refl;
  first_comes = λ m ok. refl;
  stops = λ m t ok e. refl;
}

abbrev body_parts : Body → List Message × (Unit {0} × (Process × (Unit {0} × Process)))
body_parts b = (b.0, (tt, (b.1, (tt, b.2))))

abbrev body_tokens : Body → List Token
body_tokens b =
    flat_map message_tokens b.0
    ++ item (codes "home") ∷ (process_tokens b.1 ++ item (codes "remote") ∷ process_tokens b.2)

abbrev BodyOk : Body → Type 0
BodyOk b = AllByRecursion IsSayableMessage b.0 × IsSayableProcess b.1 × IsSayableProcess b.2

body_rule : IsRule body body_tokens BodyOk free
unfolding body
body_rule =
    mapped_rule
    (both_filled (many_rule (is_among (codes "message" ∷ [])) message_rule message_begins)
    (both_free (token_rule (item (codes "home")) (filled _ refl))
    (both_free process_rule
    (both_free (token_rule (item (codes "remote")) (filled _ refl)) process_rule)))
    (follows_among (codes "home" ∷ [])
    (first_token (item (codes "home")) (codes "home" ∷ []) _ _ refl)
    (λ xs ok.
    sym (and_true _) ∙ many_stop (is_among (codes "message" ∷ [])) (codes "home") refl xs))
    (λ y ok. refl))
    body_of body_parts
    (λ b. refl)
    (λ p. refl)
    (λ b. refl)
    (λ b ok. (ok.0, (tt, (ok.1, (tt, ok.2)))))
    (λ b ok. (ok.0, ok.1.1.0, ok.1.1.1.1))
    (λ b t. refl)

-- ---- 'version' '2' ';' body claim* | ';' body

abbrev Second : Type 0
Second = Unit {0} × (Unit {0} × (Body × List Claim))

abbrev second_tokens : Second → List Token
second_tokens =
    both_tokens (the_token (part (codes "2")))
    (both_tokens (the_token semicolon) (both_tokens body_tokens (flat_map claim_tokens)))

abbrev SecondOk : Second → Type 0
SecondOk = BothOk Anything (BothOk Anything (BothOk BodyOk (AllByRecursion IsSayableClaim)))

abbrev second_stops : Second → Text → Bool
second_stops x t = many_stops (is_among (codes "claim" ∷ [])) free x.1.1.1 t

second_rule : IsRule (both (word (codes "2")) (both (token semicolon)
    (both body (many_at (is_among (codes "claim" ∷ [])) claim))))
    second_tokens SecondOk second_stops
second_rule =
    both_free (token_rule (part (codes "2")) (filled _ refl))
    (both_free (token_rule semicolon (filled _ refl))
    (both_free body_rule (many_rule (is_among (codes "claim" ∷ [])) claim_rule claim_begins)))

abbrev first_tokens : Unit {0} × Body → List Token
first_tokens = both_tokens (the_token semicolon) body_tokens

abbrev FirstOk : Unit {0} × Body → Type 0
FirstOk = BothOk Anything BodyOk

first_rule : IsRule (both (token semicolon) body) first_tokens FirstOk free
first_rule = both_free (token_rule semicolon (filled _ refl)) body_rule

abbrev versions_tokens : Versions → List Token
versions_tokens = choice_tokens (part (codes "version")) second_tokens first_tokens

abbrev VersionsOk : Versions → Type 0
VersionsOk = ChoiceOk SecondOk FirstOk

-- a further claim goes on with a protocol of version 2
abbrev versions_stops : Versions → Text → Bool
versions_stops = choice_stops (part (codes "version")) second_stops first_tokens free

versions_rule : IsRule (choice (part (codes "version"))
    (both (word (codes "2")) (both (token semicolon)
    (both body (many_at (is_among (codes "claim" ∷ [])) claim)))) (both (token semicolon) body))
    versions_tokens VersionsOk versions_stops
versions_rule =
    choice_rule (part (codes "version")) (filled _ refl) second_rule first_rule
    (differs_begun (part (codes "version")) semicolon _ _ refl)

versions_end : (v : Versions) → versions_stops v [] ≡ true
versions_end (inl x) = many_stop (is_among (codes "claim" ∷ [])) [] refl x.1.1.1
versions_end (inr x) = refl

-- ---- 'protocol' NAME ( 'version' '2' ';' body claim* | ';' body )

-- what holds of version 1 without claims, and of version 2, holds of each that a file can say
by_version : (F : ℕ → List Claim → Type 0) (version : ℕ) (claims : List Claim)
    → IsSayableVersion version claims → F 1 [] → ((cs : List Claim) → F 2 cs) → F version claims
by_version F version claims (inl one) first second =
    subst (λ (v : ℕ). F v claims) (sym one.0)
    (subst (λ (cs : List Claim). F 1 cs) (sym one.1) first)
by_version F version claims (inr two) first second =
    subst (λ (v : ℕ). F v claims) (sym two) (second claims)

abbrev versions_of : ℕ → Body → List Claim → Versions
versions_of version b claims = cond (eqb version 1) (inr (tt, b)) (inl (tt, (tt, (b, claims))))

abbrev body_in : Protocol → Body
body_in p = (p.messages, p.home, p.remote)

abbrev protocol_parts : Protocol → Unit {0} × (Text × Versions)
protocol_parts p = (tt, (p.name, versions_of p.version (body_in p) p.claims))

protocol_whole : (p : Protocol) → IsSayable p → protocol_of (protocol_parts p) ≡ p
protocol_whole p ok =
    by_version
    (λ v cs. protocol_of (tt, (p.name, versions_of v (body_in p) cs))
    ≡ with_claims p.name v (body_in p) cs)
    p.version p.claims ok.version refl (λ cs. refl)

protocol_part : (a : Unit {0} × (Text × Versions)) → protocol_parts (protocol_of a) ≡ a
protocol_part (u, (name, inl x)) = refl
protocol_part (u, (name, inr x)) = refl

abbrev body_then_tokens : Body → List Token → List Token
body_then_tokens b ts =
    flat_map message_tokens b.0
    ++ item (codes "home")
    ∷ (process_tokens b.1 ++ item (codes "remote") ∷ (process_tokens b.2 ++ ts))

-- what stands behind the body stands behind its last process
body_then : (b : Body) (ts : List Token) → body_then_tokens b ts ≡ body_tokens b ++ ts
body_then b ts =
    let remote = item (codes "remote") ∷ process_tokens b.2 in
    ap (λ (us : List Token). flat_map message_tokens b.0 ++ item (codes "home") ∷ us)
    (sym (append_assoc (process_tokens b.1) remote ts))
    ∙ sym (append_assoc (flat_map message_tokens b.0)
    (item (codes "home") ∷ (process_tokens b.1 ++ remote)) ts)

protocol_spelled : (p : Protocol) → IsSayable p
    → tokens_of p
    ≡ item (codes "protocol") ∷ part p.name ∷ versions_tokens (protocol_parts p).1.1
protocol_spelled p ok =
    let b = body_in p in
    by_version
    (λ v cs. tokens_of (with_claims p.name v b cs)
    ≡ item (codes "protocol") ∷ part p.name ∷ versions_tokens (versions_of v b cs))
    p.version p.claims ok.version
    (ap (λ (ts : List Token). item (codes "protocol") ∷ part p.name ∷ semicolon ∷ ts)
    (body_then b [] ∙ append-nil (body_tokens b)))
    (λ cs.
    ap
    (λ (two : Text).
    item (codes "protocol") ∷ part p.name ∷ part (codes "version") ∷ part two ∷ semicolon
    ∷ body_then_tokens b (flat_map claim_tokens cs))
    (decimal_digit 2 (omega arith))
    ∙ ap
    (λ (ts : List Token).
    item (codes "protocol") ∷ part p.name ∷ part (codes "version") ∷ part (codes "2")
    ∷ semicolon ∷ ts)
    (body_then b (flat_map claim_tokens cs)))

protocol_into : (p : Protocol) → IsSayable p
    → Unit {0} × (IsName p.name × VersionsOk (protocol_parts p).1.1)
protocol_into p ok =
    let b = body_in p in
    let body_ok : BodyOk b = (ok.messages, ok.home, ok.remote) in
    let versions =
    by_version
    (λ v cs. AllByRecursion IsSayableClaim cs → VersionsOk (versions_of v b cs))
    p.version p.claims ok.version (λ _. (tt, body_ok)) (λ cs each. (tt, (tt, (body_ok, each)))) in
    (tt, (ok.name, versions ok.claims))

protocol_onto : (a : Unit {0} × (Text × Versions))
    → Unit {0} × (IsName a.1.0 × VersionsOk a.1.1) → IsSayable (protocol_of a)
protocol_onto (u, (name, inl x)) ok = record {
  name = ok.1.0;
  version = inr refl;
  messages = ok.1.1.1.1.0.0;
  home = ok.1.1.1.1.0.1;
  remote = ok.1.1.1.1.0.2;
  claims = ok.1.1.1.1.1;
}
protocol_onto (u, (name, inr x)) ok = record {
  name = ok.1.0;
  version = inl (refl, refl);
  messages = ok.1.1.1.0;
  home = ok.1.1.1.1;
  remote = ok.1.1.1.2;
  claims = tt;
}

abbrev pub protocol_stops : Protocol → Text → Bool
protocol_stops p t = versions_stops (protocol_parts p).1.1 t

-- the end of a file stops each protocol
pub protocol_end : (p : Protocol) → protocol_stops p [] ≡ true
protocol_end p = versions_end (protocol_parts p).1.1

pub protocol_rule : IsRule protocol tokens_of IsSayable protocol_stops
unfolding protocol
protocol_rule =
    made_rule
    (both_free (token_rule (item (codes "protocol")) (filled _ refl))
    (both_free name_rule versions_rule))
    protocol_of protocol_parts
    protocol_whole
    protocol_part
    protocol_spelled
    protocol_into
    protocol_onto
    (λ p t. refl)
