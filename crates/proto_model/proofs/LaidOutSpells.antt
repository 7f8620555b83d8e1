-- The laid-out text of a protocol spells it.
use Rattle.std.proofs.Common.{◌≡◌, ℕ, zero, suc, Bool, true, false, ◌==◌, ◌||◌, if◌then◌else◌, List}
use Rattle.std.proofs.Common.{[], ◌∷◌, ◌++◌, map, replicate, None, refl, sym, ap, subst, ◌∙◌, arith}
use Rattle.std.proofs.Common.{append_assoc, codes}
use Rattle.std.specs.List.{flat_map}
use Rattle.std.proofs.lemmas.Bool.Decides.{nat_tests}
use Rattle.std.proofs.lemmas.Grind.{flat_map-append}
use Rattle.std.proofs.lemmas.List.Folds.{flat_map-map}
use Rattle.proto_model.specs.Tokens.{Text, Token, is_word, is_space, begins_word, item}
use Rattle.proto_model.specs.Tokens.{spellings}
use Rattle.proto_model.specs.Laid.{Space, Laid, Apart}
use Rattle.proto_model.specs.Grammar.{opening, header_tokens, message_tokens, state_tokens}
use Rattle.proto_model.specs.Grammar.{process_tokens, claim_tokens, tokens_of}
use Rattle.proto_model.specs.Sayable.{IsSayable}
use Rattle.proto_model.specs.Spelled.{Spells}
use Rattle.proto_model.specs.LaidOut.{hugs_left, hugs_right, space_between, spaced_from, spaced}
use Rattle.proto_model.specs.LaidOut.{Line, at, line_text, state_lines, body_lines, lines_of}
use Rattle.proto_model.specs.LaidOut.{laid_out}
use Rattle.proto_model.specs.declared.protocol.Message.{Message}
use Rattle.proto_model.specs.declared.protocol.State.{State}
use Rattle.proto_model.specs.declared.protocol.Process.{Process}
use Rattle.proto_model.specs.declared.protocol.Claim.{Claim}
use Rattle.proto_model.specs.declared.protocol.Protocol.{Protocol}

-- the bytes may stand right behind the token, and the further tokens are laid in them
record Follows (token : Text) (bytes : Text) (tokens : List Text) : Type 0 where
  apart : Apart token bytes
  laid : Laid bytes tokens

-- a space and an LF are white space, and belong to no word
space_is_space : is_space 32 ≡ true
unfolding is_space
space_is_space = refl

pub line_feed_is_space : is_space 10 ≡ true
unfolding is_space
line_feed_is_space = refl

space_is_no_word : is_word 32 ≡ false
unfolding is_word
space_is_no_word = refl

line_feed_is_no_word : is_word 10 ≡ false
unfolding is_word
line_feed_is_no_word = refl

-- neither does a byte that hugs
hugging_is_no_word : (b : ℕ) → (b == 59 || b == 44 || b == 40 || b == 41) ≡ true → is_word b ≡ false
unfolding is_word
hugging_is_no_word b e = grind (arith, nat_tests)

hugs_left_begins_no_word : (u rest : Text) → hugs_left u ≡ true → begins_word (u ++ rest) ≡ false
hugs_left_begins_no_word [] rest e = absurd (cc)
hugs_left_begins_no_word (b ∷ []) rest e = hugging_is_no_word b e
hugs_left_begins_no_word (b ∷ c ∷ u) rest e = absurd (cc)

hugs_right_begins_no_word : (t : Text) → hugs_right t ≡ true → begins_word t ≡ false
hugs_right_begins_no_word [] e = absurd (cc)
hugs_right_begins_no_word (b ∷ []) e = hugging_is_no_word b (grind (arith, nat_tests))
hugs_right_begins_no_word (b ∷ c ∷ t) e = absurd (cc)

-- white space may stand before what is laid
Laid-space : (b : ℕ) (bytes : Text) (tokens : List Text) → is_space b ≡ true → Laid bytes tokens
    → Laid (b ∷ bytes) tokens
Laid-space b bytes [] white l =
    (Space b ∷ l.0, l.1, (white, l.2), l.3, ap (λ (u : Text). b ∷ u) l.4)
Laid-space b bytes (t ∷ ts) white l =
    (Space b ∷ l.0, l.1, (white, l.2), ap (λ (u : Text). b ∷ u) l.3, l.4, l.5)

Laid-spaces : (n : ℕ) (bytes : Text) (tokens : List Text) → Laid bytes tokens
    → Laid (replicate n 32 ++ bytes) tokens
Laid-spaces zero bytes tokens l = l
Laid-spaces (suc n) bytes tokens l =
    Laid-space 32 (replicate n 32 ++ bytes) tokens space_is_space (Laid-spaces n bytes tokens l)

-- the next token, where the bytes begin with it
Laid-token : (t rest : Text) (tokens : List Text) → Follows t rest tokens
    → Laid (t ++ rest) (t ∷ tokens)
Laid-token t rest tokens f = ([], rest, tt, refl, f.apart, f.laid)

-- the token u behind the token t, by whether t hugs to the right and u to the left
Follows-spaced : (t u rest : Text) (tokens : List Text) (right left : Bool) → hugs_right t ≡ right
    → hugs_left u ≡ left → Follows u rest tokens
    → Follows t ((if right || left then [] else 32 ∷ []) ++ (u ++ rest)) (u ∷ tokens)
Follows-spaced t u rest tokens true left r h f =
    record {
      apart = λ (begins : begins_word t ≡ true). let none = hugs_right_begins_no_word t r in
          absurd (cc);
      laid = Laid-token u rest tokens f;
    }
Follows-spaced t u rest tokens false true r h f =
    record { apart = λ _. hugs_left_begins_no_word u rest h; laid = Laid-token u rest tokens f }
Follows-spaced t u rest tokens false false r h f =
    record {
      apart = λ _. space_is_no_word;
      laid = Laid-space 32 (u ++ rest) (u ∷ tokens)
          space_is_space (Laid-token u rest tokens f);
    }

-- the tokens of a line behind its first one, and the LF
Follows-line : (t : Text) (us : List Text) (rest : Text) (tokens : List Text) → Laid rest tokens
    → Follows t (spaced_from t us ++ 10 ∷ rest) (us ++ tokens)
Follows-line t [] rest tokens l =
    record {
      apart = λ _. line_feed_is_no_word;
      laid = Laid-space 10 rest tokens line_feed_is_space
          l;
    }
Follows-line t (u ∷ us) rest tokens l =
    let regroup : space_between t u ++ (u ++ (spaced_from u us ++ 10 ∷ rest))
    ≡ (space_between t u ++ (u ++ spaced_from u us)) ++ 10 ∷ rest = simp append_assoc in
    subst (λ (bytes : Text). Follows t bytes (u ∷ (us ++ tokens))) regroup
    (Follows-spaced t u (spaced_from u us ++ 10 ∷ rest) (us ++ tokens) (hugs_right t) (hugs_left u)
    refl refl (Follows-line u us rest tokens l))

-- a line whose tokens have these spellings
Laid-spaced : (ts : List Text) (rest : Text) (tokens : List Text) → Laid rest tokens
    → Laid (spaced ts ++ 10 ∷ rest) (ts ++ tokens)
Laid-spaced [] rest tokens l = Laid-space 10 rest tokens line_feed_is_space l
Laid-spaced (t ∷ ts) rest tokens l =
    subst (λ (bytes : Text). Laid bytes (t ∷ (ts ++ tokens)))
    (sym (append_assoc t (spaced_from t ts) (10 ∷ rest)))
    (Laid-token t (spaced_from t ts ++ 10 ∷ rest) (ts ++ tokens) (Follows-line t ts rest tokens l))

pub spellings-append : (xs ys : List Token) → spellings (xs ++ ys) ≡ spellings xs ++ spellings ys
spellings-append [] ys = refl
spellings-append (x ∷ xs) ys = ap (λ (texts : List Text). x.text ∷ texts) (spellings-append xs ys)

-- the tokens of the lines, in order
abbrev tokens_of_lines : List Line → List Token
tokens_of_lines ls = flat_map (λ l. l.tokens) ls

Laid-lines : (ls : List Line) → Laid (flat_map line_text ls) (spellings (tokens_of_lines ls))
Laid-lines [] = ([], None, tt, tt, refl)
Laid-lines (l ∷ ls) =
    let rest = flat_map line_text ls in
    let tokens = spellings (tokens_of_lines ls) in
    let regroup : replicate l.indent 32 ++ (spaced (spellings l.tokens) ++ 10 ∷ rest) ≡ line_text l
    ++ rest = simp append_assoc in
    rw (spellings-append l.tokens (tokens_of_lines ls))
    (subst (λ (bytes : Text). Laid bytes (spellings l.tokens ++ tokens)) regroup
    (Laid-spaces l.indent (spaced (spellings l.tokens) ++ 10 ∷ rest) (spellings l.tokens ++ tokens)
    (Laid-spaced (spellings l.tokens) rest tokens (Laid-lines ls))))

-- the tokens of a protocol's lines are the protocol's
tokens_of_lines-state : (s : State) → tokens_of_lines (state_lines s) ≡ state_tokens s
tokens_of_lines-state s = simp (flat_map-append, flat_map-map)

tokens_of_lines-states : (ss : List State)
    → tokens_of_lines (flat_map state_lines ss) ≡ flat_map state_tokens ss
tokens_of_lines-states [] = refl
tokens_of_lines-states (s ∷ ss) =
    flat_map-append (λ (l : Line). l.tokens) (state_lines s) (flat_map state_lines ss)
    ∙ ap (λ (tokens : List Token). tokens ++ tokens_of_lines (flat_map state_lines ss))
    (tokens_of_lines-state s)
    ∙ ap (λ (tokens : List Token). state_tokens s ++ tokens) (tokens_of_lines-states ss)

tokens_of_lines-body : (p : Process) → opening ∷ tokens_of_lines (body_lines p) ≡ process_tokens p
tokens_of_lines-body p = simp (flat_map-append, flat_map-map, tokens_of_lines-states)

-- the lines behind the header, where the bodies are any lines
tokens_of_lines-bodies : (ms : List Message) (home remote : List Line) (cs : List Claim)
    → tokens_of_lines
    (map (λ m. at 0 (message_tokens m)) ms
    ++ at 0 (item (codes "home") ∷ opening ∷ [])
    ∷ (home
    ++ at 0 (item (codes "remote") ∷ opening ∷ [])
    ∷ (remote ++ map (λ c. at 0 (claim_tokens c)) cs)))
    ≡ flat_map message_tokens ms
    ++ item (codes "home")
    ∷ ((opening ∷ tokens_of_lines home)
    ++ item (codes "remote") ∷ ((opening ∷ tokens_of_lines remote) ++ flat_map claim_tokens cs))
tokens_of_lines-bodies ms home remote cs = simp (flat_map-append, flat_map-map)

tokens_of_lines-protocol : (p : Protocol) → tokens_of_lines (lines_of p) ≡ tokens_of p
tokens_of_lines-protocol p =
    let header = header_tokens p.name p.version in
    let claims = flat_map claim_tokens p.claims in
    let behind_home : List Token → List Token = λ home.
    header ++ (flat_map message_tokens p.messages
    ++ item (codes "home")
    ∷ (home
    ++ item (codes "remote") ∷ ((opening ∷ tokens_of_lines (body_lines p.remote)) ++ claims))) in
    let behind_remote : List Token → List Token = λ remote.
    header ++ (flat_map message_tokens p.messages
    ++ item (codes "home")
    ∷ (process_tokens p.home ++ item (codes "remote") ∷ (remote ++ claims))) in
    ap (λ (tokens : List Token). header ++ tokens)
    (tokens_of_lines-bodies p.messages (body_lines p.home) (body_lines p.remote) p.claims)
    ∙ ap behind_home (tokens_of_lines-body p.home)
    ∙ ap behind_remote (tokens_of_lines-body p.remote)

-- for every protocol that a file can say, its laid-out text spells it
pub laid_out_spells : (p : Protocol) → IsSayable p → Spells (laid_out p) p
laid_out_spells p sayable =
    record {
      sayable = sayable;
      laid = subst
          (λ (tokens : List Token). Laid (laid_out p) (spellings tokens))
          (tokens_of_lines-protocol p)
          (Laid-lines (lines_of p));
    }
