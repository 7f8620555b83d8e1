-- The text of the marks of lines is the text of the lines.
use Rattle.std.proofs.Common.{◌≡◌, true, List, [], ◌∷◌, ◌++◌, replicate, refl, sym, ap, ◌∙◌}
use Rattle.std.proofs.Common.{append_assoc}
use Rattle.std.specs.List.{flat_map}
use Rattle.proto_model.specs.Tokens.{Text, Token, spellings}
use Rattle.proto_model.specs.LaidOut.{hugs_right, space_between, spaced_from, spaced, Line}
use Rattle.proto_model.specs.LaidOut.{line_text}
use Rattle.proto_model.specs.Marks.{Mark, LineEnd, laid, words, marks_of}

-- the rest of a line, behind the token t
laid-words_behind : (t : Text) (us : List Token) (rest : List Mark)
    → laid (hugs_right t) (words us ++ LineEnd ∷ rest) ≡ spaced_from t (spellings us) ++ 10
    ∷ laid true rest
unfolding laid
laid-words_behind t [] rest = refl
laid-words_behind t (u ∷ us) rest =
    ap (λ (text : Text). (space_between t u.text ++ u.text) ++ text)
    (laid-words_behind u.text us rest)
    ∙ simp append_assoc

laid-words : (ts : List Token) (rest : List Mark)
    → laid true (words ts ++ LineEnd ∷ rest) ≡ spaced (spellings ts) ++ 10 ∷ laid true rest
unfolding laid
laid-words [] rest = refl
laid-words (t ∷ ts) rest =
    ap (λ (text : Text). t.text ++ text) (laid-words_behind t.text ts rest)
    ∙ sym (append_assoc t.text (spaced_from t.text (spellings ts)) (10 ∷ laid true rest))

pub laid-marks_of : (ls : List Line) → laid true (marks_of ls) ≡ flat_map line_text ls
unfolding laid
laid-marks_of [] = refl
laid-marks_of (l ∷ ls) =
    ap (λ (marks : List Mark). replicate l.indent 32 ++ laid true marks)
    (append_assoc (words l.tokens) (LineEnd ∷ []) (marks_of ls))
    ∙ ap (λ (text : Text). replicate l.indent 32 ++ text) (laid-words l.tokens (marks_of ls))
    ∙ ap (λ (text : Text). replicate l.indent 32 ++ (spaced (spellings l.tokens) ++ 10 ∷ text))
    (laid-marks_of ls)
    ∙ simp append_assoc
