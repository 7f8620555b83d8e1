-- Bytes laid by texts that are lexemes are cut into exactly these.
use Rattle.std.proofs.Common.{◌≡◌, ◌≢◌, ℕ, Bool, false, true, not, List, [], ◌∷◌, ◌++◌, Option}
use Rattle.std.proofs.Common.{Some, None, refl, ap, ◌∙◌, inl, inr, append_assoc}
use Rattle.std.proofs.lemmas.Bool.{ne_eqb}
use Rattle.proto_model.specs.Tokens.{Text}
use Rattle.proto_model.specs.Laid.{Piece, Space, Comment, piece, NoLineFeed, IsPiece, gap, IsGap}
use Rattle.proto_model.specs.Laid.{last_comment, IsLastComment, Apart, Laid}
use Rattle.proto_model.specs.Lexemes.{line_after, cut, lexemes}
use Rattle.proto_model.specs.Spelled.{texts}
use Rattle.protocol_reader.proofs.Cutting.{no_slash_no_comment, cut_end, cut_within_comment}
use Rattle.protocol_reader.proofs.Cutting.{cut_space, cut_comment, cut_other, cut_word}
use Rattle.protocol_reader.proofs.LexemeTexts.{IsLexeme, AllLexemes}

-- ---- gaps are skipped

within : (rest : Text) (line b : ℕ) → b ≢ 10
    → cut true line (b ∷ rest) ≡ cut true (line_after b line) rest
within rest line b no_lf =
    cut_within_comment line b rest
    ∙ ap (λ (c : Bool). cut (not c) (line_after b line) rest) (ne_eqb b 10 no_lf)

comment_opened : (rest : Text) (line : ℕ) → cut false line (47 ∷ 47 ∷ rest) ≡ cut true line rest
comment_opened rest line = cut_comment line 47 (47 ∷ rest) refl ∙ cut_within_comment line 47 rest

-- a comment up to its LF
comment_skipped : (text : Text) → NoLineFeed text → (line : ℕ) (rest : Text)
    → (behind : ℕ) × (cut true line (text ++ 10 ∷ rest) ≡ cut false behind rest)
comment_skipped [] free line rest = (line_after 10 line, cut_within_comment line 10 rest)
comment_skipped (b ∷ text) free line rest =
    let more = comment_skipped text free.1 (line_after b line) rest in
    (more.0, within (text ++ 10 ∷ rest) line b free.0 ∙ more.1)

-- a comment that the end of the file ends
comment_at_end : (text : Text) → NoLineFeed text → (line : ℕ) → texts (cut true line text) ≡ [] ∷ []
comment_at_end [] free line = ap texts (cut_end true line)
comment_at_end (b ∷ text) free line =
    ap texts (within text line b free.0) ∙ comment_at_end text free.1 (line_after b line)

piece_skipped : (p : Piece) → IsPiece p → (line : ℕ) (rest : Text)
    → (behind : ℕ) × (cut false line (piece p ++ rest) ≡ cut false behind rest)
piece_skipped (Space b) is line rest = (line_after b line, cut_space line b rest is)
piece_skipped (Comment text) is line rest =
    let inner = comment_skipped text is line rest in (
      inner.0,
      comment_opened ((text ++ 10 ∷ []) ++ rest) line
          ∙ ap (cut true line) (append_assoc text (10 ∷ []) rest) ∙ inner.1,
    )

gap_skipped : (g : List Piece) → IsGap g → (line : ℕ) (rest : Text)
    → (behind : ℕ) × (cut false line (gap g ++ rest) ≡ cut false behind rest)
gap_skipped [] is line rest = (line, refl)
gap_skipped (p ∷ ps) is line rest =
    let first = piece_skipped p is.0 line (gap ps ++ rest) in
    let more = gap_skipped ps is.1 first.0 rest in
    (more.0, ap (cut false line) (append_assoc (piece p) (gap ps) rest) ∙ first.1 ∙ more.1)

last_comment_skipped : (last : Option Text) → IsLastComment last → (line : ℕ)
    → texts (cut false line (last_comment last)) ≡ [] ∷ []
last_comment_skipped None is line = ap texts (cut_end false line)
last_comment_skipped (Some text) is line =
    ap texts (comment_opened text line) ∙ comment_at_end text is line

-- ---- a lexeme is cut

lexeme_cut : (t : Text) → IsLexeme t → (line : ℕ) (rest : Text) → Apart t rest
    → cut false line (t ++ rest) ≡ record { text = t; line = line } ∷ cut false line rest
lexeme_cut [] is line rest apart = absurd is
lexeme_cut (b ∷ word) (inl is) line rest apart = cut_word line b word rest is.0 is.1 (apart is.0)
lexeme_cut (b ∷ word) (inr is) line rest apart =
    rw is.3 (cut_other line b rest is.1 (no_slash_no_comment b rest is.2) is.0)

cut_from : (tokens : List Text) (line : ℕ) (bytes : Text) → AllLexemes tokens → Laid bytes tokens
    → texts (cut false line bytes) ≡ tokens ++ [] ∷ []
cut_from [] line bytes all l =
    let before = gap_skipped l.0 l.2 line (last_comment l.1) in
    ap texts (ap (cut false line) l.4 ∙ before.1) ∙ last_comment_skipped l.1 l.3 before.0
cut_from (t ∷ ts) line bytes all l =
    let before = gap_skipped l.0 l.2 line (t ++ l.1) in
    ap texts (ap (cut false line) l.3 ∙ before.1 ∙ lexeme_cut t all.0 before.0 l.1 l.4)
    ∙ ap (λ (more : List Text). t ∷ more) (cut_from ts before.0 l.1 all.1 l.5)

pub laid_cut : (bytes : Text) (tokens : List Text) → AllLexemes tokens → Laid bytes tokens
    → texts (lexemes bytes) ≡ tokens ++ [] ∷ []
laid_cut bytes tokens all l = cut_from tokens 1 bytes all l
