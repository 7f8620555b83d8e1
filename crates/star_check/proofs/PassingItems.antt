-- The items of a protocol in file order: where those in front have no fault, the first fault of all
-- is the first one of those behind them.
use Rattle.std.proofs.Common.{◌≡◌, ℕ, ◌+◌, List, [], ◌∷◌, ◌++◌, length, refl, sym, ap, ◌∙◌, Option}
use Rattle.std.proofs.Common.{None}
use Rattle.rv_base.specs.Lists.{map_from}
use Rattle.proto_model.specs.Tokens.{Text}
use Rattle.proto_model.specs.Faults.{first, faults_from, name_codes, message_codes, process_codes}
use Rattle.proto_model.specs.Faults.{claim_codes}
use Rattle.proto_model.specs.declared.protocol.Message.{Message}
use Rattle.proto_model.specs.declared.protocol.Claim.{Claim}
use Rattle.star_check.specs.declared.scope.Scope as code
use Rattle.star_check.specs.Scopes.{scope_seen}
use Rattle.star_check.proofs.Passing.{pass_own, first-pass, first-pass_to}

-- the items behind the first word of a process
abbrev pub process_items : code.Scope → List (List ℕ)
process_items s = process_codes (scope_seen s) s.start.now

module _ (name : Text) (messages : List Message) (home remote : code.Scope) (claims : List Claim)
  where
    abbrev pub message_items : List (List ℕ)
    message_items = map_from (message_codes messages) 0 messages

    abbrev pub claim_items : List (List ℕ)
    claim_items = map_from (claim_codes remote.states) 0 claims

    -- behind the home, from the word `remote` on
    abbrev pub behind_home : List (List ℕ)
    behind_home = [] ∷ (process_items remote ++ claim_items)

    -- behind the messages, from the word `home` on
    abbrev pub behind_messages : List (List ℕ)
    behind_messages = [] ∷ (process_items home ++ behind_home)

    abbrev pub first_of_all : Option (ℕ × ℕ)
    first_of_all = first (faults_from 0 (name_codes name ∷ (message_items ++ behind_messages)))

    pub from_messages : None ≡ first (name_codes name)
        → first_of_all ≡ first (faults_from 1 (message_items ++ behind_messages))
    from_messages own = pass_own (name_codes name) 0 (message_items ++ behind_messages) own

    pub from_home : None ≡ first (name_codes name) → None ≡ first (faults_from 1 message_items)
        → (word : ℕ) → word ≡ 1 + length message_items
        → first_of_all ≡ first (faults_from (word + 1) (process_items home ++ behind_home))
    from_home own passed word count =
        from_messages own
        ∙ first-pass_to 1 word message_items [] (process_items home ++ behind_home) passed count
        refl

    -- the word `remote` stands behind the home, whose items count from n
    pub from_remote : (n : ℕ)
        → first_of_all ≡ first (faults_from n (process_items home ++ behind_home))
        → None ≡ first (faults_from n (process_items home))
        → (word : ℕ) → word ≡ n + length (process_items home)
        → first_of_all ≡ first (faults_from (word + 1) (process_items remote ++ claim_items))
    from_remote n before passed word count =
        before
        ∙ first-pass_to n word (process_items home) [] (process_items remote ++ claim_items)
        passed count refl

    -- the claims stand behind the remote, whose items count from n
    pub from_claims : (n : ℕ)
        → first_of_all ≡ first (faults_from n (process_items remote ++ claim_items))
        → None ≡ first (faults_from n (process_items remote))
        → (next : ℕ) → next ≡ n + length (process_items remote)
        → first_of_all ≡ first (faults_from next claim_items)
    from_claims n before passed next count =
        before ∙ first-pass n (process_items remote) claim_items passed
        ∙ ap (λ k. first (faults_from k claim_items)) (sym count)
