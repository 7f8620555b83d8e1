-- Any bytes are laid by the lexemes into which they are cut, each on the line that the LFs before
-- it give.
use Rattle.std.proofs.Common.{◌≡◌, ◌≢◌, ℕ, ◌+◌, Bool, true, false, not, cond, eqb, List, [], ◌∷◌}
use Rattle.std.proofs.Common.{◌++◌, Option, Some, None, refl, sym, ap, subst, ◌∙◌, inl, inr, arith}
use Rattle.std.proofs.Common.{append_assoc}
use Rattle.std.proofs.lemmas.Bool.{cases_eq, eq-eqb, ne_eqb}
use Rattle.proto_model.specs.Tokens.{Text, is_word, is_space, begins_word}
use Rattle.proto_model.specs.Laid.{Piece, Space, Comment, piece, NoLineFeed, IsPiece, gap, IsGap}
use Rattle.proto_model.specs.Laid.{last_comment, IsLastComment, Apart, Laid}
use Rattle.proto_model.specs.Lexemes.{Lexeme, line_after, begins_comment, in_front, cut, lexemes}
use Rattle.proto_model.specs.Spelled.{texts}
use Rattle.protocol_reader.specs.LexemeLines.{line_feeds}
use Rattle.protocol_reader.proofs.Cutting.{IsSpace, OpensComment, GoesOn, EndsWord, StandsAlone}
use Rattle.protocol_reader.proofs.Cutting.{first_byte, space_no_word, word_no_space}
use Rattle.protocol_reader.proofs.Cutting.{comment_slashes}
use Rattle.proto_model.proofs.LaidOutSpells.{line_feed_is_space}
use Rattle.protocol_reader.proofs.Cutting.{slash_no_word, cut_end}
use Rattle.protocol_reader.proofs.Cutting.{cut_within_comment, cut_space, cut_comment}
use Rattle.protocol_reader.proofs.Cutting.{cut_word_byte, cut_word_end, cut_other}

-- ---- LFs

add_first : (lf : Bool) (n x y : ℕ) → n ≡ x + y → cond lf (n + 1) n ≡ cond lf (x + 1) x + y
add_first true n x y e = omega (arith, e)
add_first false n x y e = e

pub line_feeds-append : (xs ys : Text) → line_feeds (xs ++ ys) ≡ line_feeds xs + line_feeds ys
line_feeds-append [] ys = omega arith
line_feeds-append (b ∷ xs) ys =
    add_first (eqb b 10) (line_feeds (xs ++ ys)) (line_feeds xs) (line_feeds ys)
    (line_feeds-append xs ys)

line_if : (lf : Bool) (line : ℕ) → cond lf (line + 1) line ≡ line + cond lf 1 0
line_if true line = refl
line_if false line = omega arith

line_after-line_feeds : (b line : ℕ) → line_after b line ≡ line + line_feeds (b ∷ [])
line_after-line_feeds b line = line_if (eqb b 10) line

-- a byte that is no LF adds none
other_byte : (b : ℕ) (bs : Text) → b ≢ 10 → line_feeds (b ∷ bs) ≡ line_feeds bs
other_byte b bs other =
    ap (λ (lf : Bool). cond lf (line_feeds bs + 1) (line_feeds bs)) (ne_eqb b 10 other)

no_space_no_line_feed : (b : ℕ) → is_space b ≡ false → b ≢ 10
no_space_no_line_feed b other = λ (e : b ≡ 10).
    let space = line_feed_is_space in
    let same = ap is_space e in
    cc

pub NoLineFeed-line_feeds : (text : Text) → NoLineFeed text → line_feeds text ≡ 0
NoLineFeed-line_feeds [] free = refl
NoLineFeed-line_feeds (b ∷ bs) free = other_byte b bs free.0 ∙ NoLineFeed-line_feeds bs free.1

-- ---- what the bytes are to be shown to be

-- the lexeme of the end of a file
abbrev pub end_on : ℕ → Lexeme
end_on line = record { text = []; line = line }

-- Bytes that begin on this line are laid by the lexemes, and the file ends on the line `end`. No
-- lexeme has an LF, and the LFs of the gaps give the lines.
abbrev pub LaidOn : ℕ → Text → List Lexeme → ℕ → Type 0
LaidOn line bytes [] end =
    (g : List Piece) × (last : Option Text) × IsGap g × IsLastComment last
    × (bytes ≡ gap g ++ last_comment last)
    × (end ≡ line + line_feeds (gap g))
LaidOn line bytes (l ∷ ls) end =
    (g : List Piece) × (rest : Text) × IsGap g × (bytes ≡ gap g ++ (l.text ++ rest))
    × Apart l.text rest
    × LaidOn l.line rest ls end × (l.line ≡ line + line_feeds (gap g)) × (line_feeds l.text ≡ 0)

-- bytes that begin with the first lexeme, which is a word
pub record WordInFront (line : ℕ) (bytes : Text) (found : List Lexeme) (end : ℕ) : Type 0 where
  pub word : Text
  pub rest : Text
  pub others : List Lexeme
  pub found_are : found ≡ record { text = word; line = line } ∷ others
  pub bytes_are : bytes ≡ word ++ rest
  pub begins : begins_word word ≡ true
  pub ends : begins_word rest ≡ false
  pub free : line_feeds word ≡ 0
  pub laid : LaidOn line rest others end

-- bytes that begin within a comment, which goes on to an LF or to the end of the file
pub data LaidWithin (line : ℕ) (bytes : Text) (found : List Lexeme) (end : ℕ) : Type 0 where
  ToLineFeed : (text rest : Text) → NoLineFeed text → bytes ≡ text ++ 10 ∷ rest
      → LaidOn (line + 1) rest found end
      → LaidWithin line bytes found end
  ToEnd : NoLineFeed bytes → found ≡ [] → end ≡ line → LaidWithin line bytes found end

-- Bytes laid by the lexemes, within a comment or not. Where they begin with a letter, digit or _,
-- the first lexeme is the word there.
abbrev pub LaidFrom : Bool → ℕ → Text → List Lexeme → ℕ → Type 0
LaidFrom true line bytes found end = LaidWithin line bytes found end
LaidFrom false line bytes found end =
    LaidOn line bytes found end × (begins_word bytes ≡ true → WordInFront line bytes found end)

-- the lexemes of bytes: those by which they are laid, and the end of the file
pub record Cuts (in_comment : Bool) (line : ℕ) (bytes : Text) : Type 0 where
  pub found : List Lexeme
  pub end : ℕ
  pub are : cut in_comment line bytes ≡ found ++ end_on end ∷ []
  pub laid : LaidFrom in_comment line bytes found end

-- ---- gaps

more_gap : (p : Piece) (g : List Piece) (line from to : ℕ) → from ≡ line + line_feeds (piece p)
    → to ≡ from + line_feeds (gap g) → to ≡ line + line_feeds (gap (p ∷ g))
more_gap p g line from to e f =
    let sum = line_feeds-append (piece p) (gap g) in
    omega (arith, e, f, sum)

-- a piece of a gap in front of bytes that are laid
piece_before : (p : Piece) → IsPiece p → (line from : ℕ) → from ≡ line + line_feeds (piece p)
    → (rest : Text) (found : List Lexeme) (end : ℕ) → LaidOn from rest found end
    → LaidOn line (piece p ++ rest) found end
piece_before p is line from e rest [] end l = (
  p ∷ l.0,
  l.1,
  (is, l.2),
  l.3,
  ap (λ (x : Text). piece p ++ x) l.4 ∙ sym (append_assoc (piece p) (gap l.0) (last_comment l.1)),
  more_gap p l.0 line from end e l.5,
)
piece_before p is line from e rest (t ∷ ts) end l = (
  p ∷ l.0,
  l.1,
  (is, l.2),
  ap (λ (x : Text). piece p ++ x) l.3 ∙ sym (append_assoc (piece p) (gap l.0) (t.text ++ l.1)),
  l.4,
  l.5,
  more_gap p l.0 line from t.line e l.6,
  l.7,
)

comment_lines : (line : ℕ) (text : Text) → NoLineFeed text
    → line + 1 ≡ line + line_feeds (piece (Comment text))
comment_lines line text free =
    let sum : line_feeds (text ++ 10 ∷ []) ≡ line_feeds text + 1 =
    line_feeds-append text (10 ∷ []) in
    let none = NoLineFeed-line_feeds text free in
    let one : line_feeds (text ++ 10 ∷ []) ≡ 1 = omega (arith, sum, none) in
    ap (λ (n : ℕ). line + n) (sym one)

comment_to_line_feed : (line : ℕ) (more text rest : Text) (found : List Lexeme) (end : ℕ)
    → NoLineFeed text
    → 47 ∷ more ≡ text ++ 10 ∷ rest → LaidOn (line + 1) rest found end
    → LaidOn line (47 ∷ 47 ∷ more) found end
comment_to_line_feed line more [] rest found end free e l = absurd cc
comment_to_line_feed line more (b ∷ text) rest found end free e l =
    let behind : (text ++ 10 ∷ []) ++ rest ≡ more = append_assoc text (10 ∷ []) rest ∙ sym cc in
    subst (λ (x : Text). LaidOn line (47 ∷ 47 ∷ x) found end) behind
    (piece_before (Comment text) free.1 line (line + 1)
    (comment_lines line text free.1) rest found end l)

same_line : (m n : ℕ) → m ≡ n → m ≡ n + 0
same_line m n e = omega (arith, e)

comment_laid : (line : ℕ) (more : Text) (found : List Lexeme) (end : ℕ)
    → LaidWithin line (47 ∷ more) found end
    → LaidOn line (47 ∷ 47 ∷ more) found end
comment_laid line more found end (ToLineFeed text rest free e l) =
    comment_to_line_feed line more text rest found end free e l
comment_laid line more found end (ToEnd free none ends) =
    subst (λ (ls : List Lexeme). LaidOn line (47 ∷ 47 ∷ more) ls end) (sym none)
    ([], Some more, tt, free.1, refl, same_line end line ends)

-- ---- words

word_laid : (line : ℕ) (bytes : Text) (found : List Lexeme) (end : ℕ)
    → WordInFront line bytes found end → LaidOn line bytes found end
word_laid line bytes found end w =
    subst (λ (ls : List Lexeme). LaidOn line bytes ls end) (sym w.found_are)
    ([], w.rest, tt, w.bytes_are, (λ _. w.ends), w.laid, same_line line line refl, w.free)

-- ---- one byte more

no_word : {P : Type 0} (b : ℕ) → is_word b ≡ false → is_word b ≡ true → P
no_word b other word = absurd cc

space_first : (line b : ℕ) (bs : Text) → is_space b ≡ true → Cuts false (line_after b line) bs
    → Cuts false line (b ∷ bs)
space_first line b bs s rest = record {
  found = rest.found;
  end = rest.end;
  are = cut_space line b bs s ∙ rest.are;
  laid = (
    piece_before (Space b) s line (line_after b line)
        (line_after-line_feeds b line) bs rest.found rest.end rest.laid.0,
    no_word b (space_no_word b s),
  );
}

comment_first : (line b : ℕ) (bs : Text) → begins_comment (b ∷ bs) ≡ true → Cuts true line bs
    → Cuts false line (b ∷ bs)
comment_first line b bs c rest =
    let slashes = comment_slashes b bs c in
    let here : LaidWithin line (47 ∷ slashes.0) rest.found rest.end =
    subst (λ (x : Text). LaidWithin line x rest.found rest.end) slashes.2 rest.laid in
    let same : 47 ∷ 47 ∷ slashes.0 ≡ b ∷ bs = cc in
    record {
      found = rest.found;
      end = rest.end;
      are = cut_comment line b bs c ∙ rest.are;
      laid = (
        subst (λ (x : Text). LaidOn line x rest.found rest.end) same
            (comment_laid line slashes.0 rest.found rest.end here),
        no_word b (ap is_word slashes.1 ∙ slash_no_word),
      );
    }

word_byte : (b : ℕ) (bs : Text) → is_word b ≡ true → line_feeds (b ∷ bs) ≡ line_feeds bs
word_byte b bs w = other_byte b bs (no_space_no_line_feed b (word_no_space b w))

word_byte_first : (line b : ℕ) (bs : Text) → is_word b ≡ true → begins_word bs ≡ true
    → Cuts false line bs → Cuts false line (b ∷ bs)
word_byte_first line b bs w goes_on rest =
    let behind = rest.laid.1 goes_on in
    let longer : WordInFront line (b ∷ bs)
    (record { text = b ∷ behind.word; line = line } ∷ behind.others) rest.end = record {
      word = b ∷ behind.word;
      rest = behind.rest;
      others = behind.others;
      found_are = refl;
      bytes_are = ap (λ (x : Text). b ∷ x) behind.bytes_are;
      begins = w;
      ends = behind.ends;
      free = word_byte b behind.word w ∙ behind.free;
      laid = behind.laid;
    } in
    record {
      found = record { text = b ∷ behind.word; line = line } ∷ behind.others;
      end = rest.end;
      are =
          cut_word_byte line b bs w goes_on
          ∙ ap (in_front b)
          (rest.are ∙ ap (λ (ls : List Lexeme). ls ++ end_on rest.end ∷ []) behind.found_are);
      laid = (word_laid line (b ∷ bs) _ rest.end longer, λ _. longer);
    }

-- a lexeme of one byte in front
abbrev single : ℕ → ℕ → List Lexeme → List Lexeme
single line b ls = record { text = b ∷ []; line = line } ∷ ls

word_end_first : (line b : ℕ) (bs : Text) → is_word b ≡ true → begins_word bs ≡ false
    → Cuts false line bs → Cuts false line (b ∷ bs)
word_end_first line b bs w ends rest =
    let alone : WordInFront line (b ∷ bs) (single line b rest.found) rest.end = record {
      word = b ∷ [];
      rest = bs;
      others = rest.found;
      found_are = refl;
      bytes_are = refl;
      begins = w;
      ends = ends;
      free = word_byte b [] w;
      laid = rest.laid.0;
    } in
    record {
      found = single line b rest.found;
      end = rest.end;
      are = cut_word_end line b bs w ends ∙ ap (single line b) rest.are;
      laid = (word_laid line (b ∷ bs) _ rest.end alone, λ _. alone);
    }

other_first : (line b : ℕ) (bs : Text) → is_space b ≡ false → begins_comment (b ∷ bs) ≡ false
    → is_word b ≡ false
    → Cuts false line bs → Cuts false line (b ∷ bs)
other_first line b bs s c w rest = record {
  found = single line b rest.found;
  end = rest.end;
  are = cut_other line b bs s c w ∙ ap (single line b) rest.are;
  laid = (
    (
      [],
      bs,
      tt,
      refl,
      no_word b w,
      rest.laid.0,
      same_line line line refl,
      other_byte b [] (no_space_no_line_feed b s),
    ),
    no_word b w,
  );
}

-- within a comment
line_feed_first : (line b : ℕ) (bs : Text) → b ≡ 10 → Cuts false (line_after b line) bs
    → Cuts true line (b ∷ bs)
line_feed_first line b bs lf rest =
    let is_lf = eq-eqb b 10 lf in
    let next : line_after b line ≡ line + 1 = ap (λ (c : Bool). cond c (line + 1) line) is_lf in
    record {
      found = rest.found;
      end = rest.end;
      are = cut_within_comment line b bs
          ∙ ap (λ (c : Bool). cut (not c) (line_after b line) bs) is_lf ∙ rest.are;
      laid = ToLineFeed [] bs tt (ap (λ (x : ℕ). x ∷ bs) lf)
          (subst (λ (n : ℕ). LaidOn n bs rest.found rest.end) next rest.laid.0);
    }

one_more_within : (line b : ℕ) (bs : Text) (found : List Lexeme) (end : ℕ) → b ≢ 10
    → LaidWithin line bs found end
    → LaidWithin line (b ∷ bs) found end
one_more_within line b bs found end no_lf (ToLineFeed text rest free e l) =
    ToLineFeed (b ∷ text) rest (no_lf, free) (ap (λ (x : Text). b ∷ x) e) l
one_more_within line b bs found end no_lf (ToEnd free none ends) = ToEnd (no_lf, free) none ends

comment_byte_first : (line b : ℕ) (bs : Text) → b ≢ 10 → Cuts true (line_after b line) bs
    → Cuts true line (b ∷ bs)
comment_byte_first line b bs no_lf rest =
    let is_other = ne_eqb b 10 no_lf in
    let same : line_after b line ≡ line = ap (λ (c : Bool). cond c (line + 1) line) is_other in
    record {
      found = rest.found;
      end = rest.end;
      are = cut_within_comment line b bs
          ∙ ap (λ (c : Bool). cut (not c) (line_after b line) bs) is_other ∙ rest.are;
      laid =
          one_more_within line b bs rest.found rest.end no_lf
          (subst (λ (n : ℕ). LaidWithin n bs rest.found rest.end) same rest.laid);
    }

-- ---- all bytes

pub sound : (in_comment : Bool) (line : ℕ) (bytes : Text) → Cuts in_comment line bytes
sound true line [] =
    record { found = []; end = line; are = cut_end true line; laid = ToEnd tt refl refl }
sound false line [] = record {
  found = [];
  end = line;
  are = cut_end false line;
  laid = (([], None, tt, tt, refl, same_line line line refl), λ e. absurd cc);
}
sound true line (b ∷ bs) =
    elim (cases_eq b 10) [
      | inl lf ↦ line_feed_first line b bs lf (sound false (line_after b line) bs)
      | inr no_lf ↦ comment_byte_first line b bs no_lf (sound true (line_after b line) bs)
    ]
sound false line (b ∷ bs) =
    elim (first_byte b bs) [
      | IsSpace s ↦ space_first line b bs s (sound false (line_after b line) bs)
      | OpensComment c ↦ comment_first line b bs c (sound true line bs)
      | GoesOn w goes_on ↦ word_byte_first line b bs w goes_on (sound false line bs)
      | EndsWord w ends ↦ word_end_first line b bs w ends (sound false line bs)
      | StandsAlone s c w ↦ other_first line b bs s c w (sound false line bs)
    ]

-- ---- without the lines

pub LaidOn-Laid : (line : ℕ) (bytes : Text) (found : List Lexeme) (end : ℕ)
    → LaidOn line bytes found end → Laid bytes (texts found)
LaidOn-Laid line bytes [] end l = (l.0, l.1, l.2, l.3, l.4)
LaidOn-Laid line bytes (t ∷ ts) end l = (l.0, l.1, l.2, l.3, l.4, LaidOn-Laid t.line l.1 ts end l.5)

texts-end : (found : List Lexeme) (end : ℕ)
    → texts (found ++ end_on end ∷ []) ≡ texts found ++ [] ∷ []
texts-end [] end = refl
texts-end (l ∷ ls) end = ap (λ (ts : List Text). l.text ∷ ts) (texts-end ls end)

-- the bytes of a file are laid by the texts of its lexemes but the last, which is the empty one of
-- its end
pub lexemes_laid : (bytes : Text)
    → (tokens : List Text) × (texts (lexemes bytes) ≡ tokens ++ [] ∷ []) × Laid bytes tokens
lexemes_laid bytes =
    let cuts = sound false 1 bytes in (
      texts cuts.found,
      ap texts cuts.are ∙ texts-end cuts.found cuts.end,
      LaidOn-Laid 1 bytes cuts.found cuts.end cuts.laid.0,
    )

some_lexeme : (ls found : List Lexeme) (end : ℕ) → ls ≡ found ++ end_on end ∷ [] → ls ≢ []
some_lexeme ls [] end e = λ none. let h : [] ≡ end_on end ∷ [] = sym none ∙ e in cc
some_lexeme ls (t ∷ ts) end e = λ none. let h : [] ≡ t ∷ (ts ++ end_on end ∷ []) = sym none ∙ e in
    cc

-- any bytes have a lexeme, if only that of the end of the file
pub cut_some : (in_comment : Bool) (line : ℕ) (bytes : Text) → cut in_comment line bytes ≢ []
cut_some in_comment line bytes =
    let cuts = sound in_comment line bytes in
    some_lexeme (cut in_comment line bytes) cuts.found cuts.end cuts.are
