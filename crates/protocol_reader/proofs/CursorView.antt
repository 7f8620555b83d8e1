-- What a cursor shows of the lexemes that it stands in front of.
use Rattle.std.proofs.Common.{◌≡◌, ◌≢◌, ℕ, false, eqb, List, [], ◌∷◌, ◌++◌, length, refl, sym, ap}
use Rattle.std.proofs.Common.{◌∙◌, arith}
use Rattle.std.specs.Str.{bytes_eq}
use Rattle.std.proofs.lemmas.Bool.{ne_eqb}
use Rattle.proto_model.specs.Tokens.{Text, item, part}
use Rattle.proto_model.specs.Lexemes.{Lexeme, cut}
use Rattle.protocol_reader.specs.Front.{lexemes_from}
use Rattle.protocol_reader.specs.Reading.{At, is_end, text_at, line_at, after, at_end, sees}
use Rattle.protocol_reader.proofs.CutIsLaid.{cut_some}

-- the place of a cursor with these fields
abbrev pub place : Text → ℕ → Text → List ℕ → At
place text line rest lines = record { lexemes = lexemes_from text line rest; lines = lines }

pub text_here : (text : Text) (line : ℕ) (rest : Text) (lines : List ℕ)
    → text_at (place text line rest lines) ≡ text
unfolding text_at
text_here [] line rest lines = refl
text_here (b ∷ bs) line rest lines = refl

pub line_here : (text : Text) (line : ℕ) (rest : Text) (lines : List ℕ)
    → line_at (place text line rest lines) ≡ line
unfolding line_at
line_here [] line rest lines = refl
line_here (b ∷ bs) line rest lines = refl

pub sees_here : (word text : Text) (line : ℕ) (rest : Text) (lines : List ℕ)
    → sees word (place text line rest lines) ≡ bytes_eq text word
unfolding sees
sees_here word [] line rest lines = refl
sees_here word (b ∷ bs) line rest lines = refl

pub after_here : (text : Text) (line : ℕ) (rest : Text) (lines : List ℕ) → text ≢ []
    → after (part []) (place text line rest lines)
    ≡ record { lexemes = cut false line rest; lines = lines }
unfolding after
after_here [] line rest lines some = absurd (some refl)
after_here (b ∷ bs) line rest lines some = refl

pub marked_here : (text : Text) (line : ℕ) (rest : Text) (lines : List ℕ)
    → lines ++ line ∷ [] ≡ (after (item []) (place text line rest lines)).lines
unfolding after
marked_here text line rest lines =
    ap (λ (n : ℕ). lines ++ n ∷ []) (sym (line_here text line rest lines))

-- ---- the end of the file

not_end : (l : Lexeme) (ls : List Lexeme) → ls ≢ [] → is_end (l ∷ ls) ≡ false
not_end l [] some = absurd (some refl)
not_end l (m ∷ ls) some = refl

pub end_here : (text : Text) (line : ℕ) (rest : Text) (lines : List ℕ)
    → at_end (place text line rest lines) ≡ eqb (length text) 0
unfolding at_end
end_here [] line rest lines = refl
end_here (b ∷ bs) line rest lines =
    not_end (record { text = b ∷ bs; line = line }) (cut false line rest) (cut_some false line rest)
    ∙ sym (ne_eqb (length (b ∷ bs)) 0 (λ (e : length (b ∷ bs) ≡ 0). omega arith))
