-- Each lexeme of a file stands on the line that the LFs before it give.
use Rattle.std.proofs.Common.{◌≡◌, ℕ, ◌+◌, false, List, [], ◌∷◌, ◌++◌, Option, Some, None, refl}
use Rattle.std.proofs.Common.{sym, ap, subst, ◌∙◌, arith, append_assoc}
use Rattle.proto_model.specs.Tokens.{Text}
use Rattle.proto_model.specs.Laid.{gap, last_comment, IsLastComment, Laid}
use Rattle.proto_model.specs.Lexemes.{Lexeme, lexemes}
use Rattle.proto_model.specs.Spelled.{texts}
use Rattle.protocol_reader.specs.LexemeLines.{line_feeds, Stands}
use Rattle.protocol_reader.proofs.CutIsLaid.{line_feeds-append, NoLineFeed-line_feeds, end_on}
use Rattle.protocol_reader.proofs.CutIsLaid.{LaidOn, LaidOn-Laid, sound}

-- the end of a file is laid too
laid_to_end : (bytes : Text) (found : List Lexeme) (end : ℕ) → Laid bytes (texts found)
    → Laid bytes (texts (found ++ end_on end ∷ []))
laid_to_end bytes [] end l =
    (l.0, last_comment l.1, l.2, l.4, (λ e. absurd cc), ([], l.1, tt, l.3, refl))
laid_to_end bytes (t ∷ ts) end l = (l.0, l.1, l.2, l.3, l.4, laid_to_end l.1 ts end l.5)

not_last : (ts : List Lexeme) (end : Lexeme) → ts ++ end ∷ [] ≡ [] → ⊥
not_last [] end e = cc
not_last (t ∷ ts) end e = cc

no_tail : (front : List Lexeme) (here : Lexeme) (rest : List Lexeme) → [] ≡ front ++ here ∷ rest → ⊥
no_tail [] here rest e = cc
no_tail (l ∷ front) here rest e = cc

-- ---- the end, and the first lexeme

-- a last comment has no LF
last_free : (last : Option Text) → IsLastComment last → line_feeds (last_comment last) ≡ 0
last_free None free = refl
last_free (Some text) free = NoLineFeed-line_feeds text free

end_line : (first end : ℕ) (bytes : Text) → LaidOn first bytes [] end
    → end ≡ first + line_feeds bytes
end_line first end bytes l =
    let whole = ap line_feeds l.4 in
    let sum = line_feeds-append (gap l.0) (last_comment l.1) in
    let none = last_free l.1 l.3 in
    let here = l.5 in
    omega arith

end_stands : (first : ℕ) (bytes : Text) (end : ℕ) → LaidOn first bytes [] end
    → Stands first bytes [] (end_on end) []
end_stands first bytes end l = record {
  before = gap l.0;
  behind = last_comment l.1;
  bytes_are = l.4;
  are_before = (l.0, l.2, refl);
  are_behind = ([], l.1, tt, l.3, refl);
  line = l.5;
  last = λ e. end_line first end bytes l;
}

first_stands : (first : ℕ) (bytes : Text) (t : Lexeme) (ts : List Lexeme) (end : ℕ)
    → LaidOn first bytes (t ∷ ts) end
    → Stands first bytes [] t (ts ++ end_on end ∷ [])
first_stands first bytes t ts end l = record {
  before = gap l.0;
  behind = l.1;
  bytes_are = l.3;
  are_before = (l.0, l.2, refl);
  are_behind = laid_to_end l.1 ts end (LaidOn-Laid t.line l.1 ts end l.5);
  line = l.6;
  last = λ e. absurd (not_last ts (end_on end) e);
}

-- ---- behind a further lexeme

nested : (g t before behind : Text)
    → g ++ (t ++ (before ++ behind)) ≡ (g ++ (t ++ before)) ++ behind
nested g t before behind =
    ap (λ (x : Text). g ++ x) (sym (append_assoc t before behind))
    ∙ sym (append_assoc g (t ++ before) behind)

further_line : (first here line : ℕ) (g t before : Text) → here ≡ line + line_feeds before
    → line ≡ first + line_feeds g → line_feeds t ≡ 0
    → here ≡ first + line_feeds (g ++ (t ++ before))
further_line first here line g t before e f free =
    let outer = line_feeds-append g (t ++ before) in
    let inner = line_feeds-append t before in
    omega (arith, outer, inner, e, f, free)

further : (first : ℕ) (bytes : Text) (t : Lexeme) (ts front : List Lexeme) (end : ℕ) (here : Lexeme)
    (rest : List Lexeme)
    → (l : LaidOn first bytes (t ∷ ts) end) → Stands t.line l.1 front here rest
    → Stands first bytes (t ∷ front) here rest
further first bytes t ts front end here rest l s = record {
  before = gap l.0 ++ (t.text ++ s.before);
  behind = s.behind;
  bytes_are =
      l.3
      ∙ ap (λ (x : Text). gap l.0 ++ (t.text ++ x)) s.bytes_are
      ∙ nested (gap l.0) t.text s.before (here.text ++ s.behind);
  are_before = (l.0, s.before, l.2, refl, s.are_before);
  are_behind = s.are_behind;
  line = further_line first here.line t.line (gap l.0) t.text s.before s.line l.6 l.7;
  last = λ e.
      further_line first here.line t.line (gap l.0) t.text l.1 (s.last e) l.6 l.7
      ∙ ap (λ (x : Text). first + line_feeds x) (sym l.3);
}

-- ---- each lexeme

stands : (found front : List Lexeme) (end : ℕ) (here : Lexeme) (rest : List Lexeme) (first : ℕ)
    (bytes : Text)
    → found ++ end_on end ∷ [] ≡ front ++ here ∷ rest → LaidOn first bytes found end
    → Stands first bytes front here rest
stands [] [] end here rest first bytes e l =
    let same : end_on end ≡ here = cc in
    let none : [] ≡ rest = cc in
    subst (λ (ls : List Lexeme). Stands first bytes [] here ls) none
    (subst (λ (x : Lexeme). Stands first bytes [] x []) same (end_stands first bytes end l))
stands [] (x ∷ front) end here rest first bytes e l =
    let tail : [] ≡ front ++ here ∷ rest = cc in absurd (no_tail front here rest tail)
stands (t ∷ ts) [] end here rest first bytes e l =
    let same : t ≡ here = cc in
    let others : ts ++ end_on end ∷ [] ≡ rest = cc in
    subst (λ (ls : List Lexeme). Stands first bytes [] here ls) others
    (subst (λ (x : Lexeme). Stands first bytes [] x (ts ++ end_on end ∷ [])) same
    (first_stands first bytes t ts end l))
stands (t ∷ ts) (x ∷ front) end here rest first bytes e l =
    let same : t ≡ x = cc in
    let others : ts ++ end_on end ∷ [] ≡ front ++ here ∷ rest = cc in
    subst (λ (y : Lexeme). Stands first bytes (y ∷ front) here rest) same
    (further first bytes t ts front end here rest l
    (stands ts front end here rest t.line l.1 others l.5))

pub lexeme_stands : (bytes : Text) (front : List Lexeme) (here : Lexeme) (rest : List Lexeme)
    → lexemes bytes ≡ front ++ here ∷ rest → Stands 1 bytes front here rest
lexeme_stands bytes front here rest e =
    let cuts = sound false 1 bytes in
    stands cuts.found front cuts.end here rest 1 bytes (sym cuts.are ∙ e) cuts.laid.0
