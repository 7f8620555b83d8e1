-- The laid-out text of a protocol.
use Rattle.std.specs.Prelude.{ℕ, Bool, false, ◌||◌, ◌==◌, if◌then◌else◌, List, [], ◌∷◌, ◌++◌, map}
use Rattle.std.specs.Prelude.{replicate, codes}
use Rattle.std.specs.List.{flat_map}
use Rattle.proto_model.specs.Tokens.{Text, Token, item, part, spellings}
use Rattle.proto_model.specs.Grammar.{semicolon, opening, closing, header_tokens, message_tokens}
use Rattle.proto_model.specs.Grammar.{var_tokens, guard_tokens, claim_tokens}
use Rattle.proto_model.specs.declared.protocol.State.{State}
use Rattle.proto_model.specs.declared.protocol.Process.{Process}
use Rattle.proto_model.specs.declared.protocol.Protocol.{Protocol}

-- no space stands before ; , ( and )
abbrev pub hugs_left : Text → Bool
hugs_left (b ∷ []) = b == 59 || b == 44 || b == 40 || b == 41
hugs_left _ = false

-- and none after (
abbrev pub hugs_right : Text → Bool
hugs_right (b ∷ []) = b == 40
hugs_right _ = false

-- between two tokens of a line stands one space, but where they hug
abbrev pub space_between : Text → Text → Text
space_between t u = if hugs_right t || hugs_left u then [] else 32 ∷ []

-- the tokens of a line that stand behind this one
abbrev pub spaced_from : Text → List Text → Text
spaced_from t [] = []
spaced_from t (u ∷ us) = space_between t u ++ (u ++ spaced_from u us)

-- the tokens of a line
abbrev pub spaced : List Text → Text
spaced [] = []
spaced (t ∷ ts) = t ++ spaced_from t ts

-- a line: how many spaces it begins with, and its tokens
pub record Line : Type 0 where
  pub indent : ℕ
  pub tokens : List Token

-- a line of these tokens behind so many spaces
abbrev pub at : ℕ → List Token → Line
at indent tokens = record { indent = indent; tokens = tokens }

-- the line with its LF
abbrev pub line_text : Line → Text
line_text l = replicate l.indent 32 ++ (spaced (spellings l.tokens) ++ 10 ∷ [])

-- the state's first line, each guard, the closing brace
abbrev pub state_lines : State → List Line
state_lines s =
    at 2 (item (codes "state") ∷ part s.name ∷ opening ∷ [])
    ∷ (map (λ g. at 4 (guard_tokens g)) s.guards ++ at 2 (closing ∷ []) ∷ [])

-- each variable, the start, each state, the closing brace
abbrev pub body_lines : Process → List Line
body_lines p =
    map (λ v. at 2 (var_tokens v)) p.vars
    ++ at 2 (item (codes "start") ∷ part p.start ∷ semicolon ∷ [])
    ∷ (flat_map state_lines p.states ++ at 0 (closing ∷ []) ∷ [])

-- the header, each message, the home, the remote, each claim
abbrev pub lines_of : Protocol → List Line
lines_of p =
    at 0 (header_tokens p.name p.version)
    ∷ (map (λ m. at 0 (message_tokens m)) p.messages
    ++ at 0 (item (codes "home") ∷ opening ∷ [])
    ∷ (body_lines p.home
    ++ at 0 (item (codes "remote") ∷ opening ∷ [])
    ∷ (body_lines p.remote ++ map (λ c. at 0 (claim_tokens c)) p.claims)))

-- the laid-out text: each line of the protocol
abbrev pub laid_out : Protocol → Text
laid_out p = flat_map line_text (lines_of p)
