-- The event that a trace tells is read off the first words, whatever message follows.
use Rattle.std.proofs.Common.{◌≡◌, ◌≢◌, ℕ, zero, suc, ◌+◌, ◌<◌, ◌≤◌, List, [], ◌∷◌, ◌++◌}
use Rattle.std.proofs.Common.{length}
use Rattle.std.proofs.Common.{take, drop, get_or, true, false, Some, None, inl, inr, ◌⊎◌}
use Rattle.std.proofs.Common.{arith}
use Rattle.std.proofs.Common.{refl, sym, ◌∙◌, ap, subst, append_assoc, length-append, decimal}
use Rattle.std.proofs.Common.{drop-cons}
use Rattle.std.proofs.lemmas.Fmt.{decimal_is_IsNumeral}
use Rattle.std.proofs.lemmas.Grind.{common_steps}
use Rattle.std.proofs.lemmas.List.{append-nil, get_or_append_left}
use Rattle.std.proofs.lemmas.List.Elements.{All-from_recursion}
use Rattle.std.proofs.lemmas.Str.Parse.{digit_at}
use Rattle.std.proofs.Math.Seq.{take-append_seam, drop-append_seam, take-length, drop-length}
use Rattle.std.specs.Prelude.{All, codes, Option, nat_eq}
use Rattle.std.specs.List.{AllByRecursion, join_with_byte}
use Rattle.rv_base.specs.Words.{is_blank, ends_word, words}
use Rattle.rv_base.proofs.FirstWord.{words_onto, words_onto-nothing, words_onto-more, words-first}
use Rattle.rv_base.proofs.FirstWord.{words-last, words-blank}
use Rattle.proto_model.specs.Tokens.{Text, IsNumber}
use Rattle.proto_model.specs.Numbered.{NumberedProtocol}
use Rattle.proto_model.specs.Texts.{event_words}
use Rattle.proto_model.specs.declared.numbered.MessageInfo.{MessageInfo}
use Rattle.proto_model.specs.declared.numbered.Value.{Value}
use Rattle.proto_model.specs.declared.rendezvous.Event.{Event}
use Rattle.proto_model.specs.declared.rendezvous.Event.TheVariants as event
use Rattle.proto_model.specs.declared.rendezvous.RvConfig.{RvConfig}
use Rattle.rendezvous_meaning.specs.GivenMessage.{given_in, given_text, event_told}
use Rattle.schedule_replay.specs.EventLines.{HasNumbers, event_of_first, leading_event}
use Rattle.schedule_replay.proofs.EventWords.{event_of-words}
use Rattle.trace_audit.proofs.StepLines.{any-default}

-- ---- words

-- A byte of a word is no blank, and doesn't begin a comment.
abbrev IsWordByte : ℕ → Type 0
IsWordByte b = (is_blank b ≡ false) × (b ≢ 47)

record IsWord (word : Text) : Type 0 where
  some : 0 < length word
  each : All IsWordByte word

no-slash : (b : ℕ) → b ≢ 47 → nat_eq 47 b ≡ false
no-slash b n = grind (arith, common_steps)

goes-on : (b : ℕ) (bs : Text) → IsWordByte b → ends_word (b ∷ bs) ≡ false
goes-on b bs byte =
    let no_slash : nat_eq 47 b ≡ false = no-slash b byte.1 in
    rw (byte.0, no_slash) refl

in-word : (word rest : Text) (k : ℕ) → IsWord word → k < length word
    → ends_word (drop k (word ++ rest)) ≡ false
in-word word rest k is within =
    let line = word ++ rest in
    let b = get_or line k 0 in
    let same : b ≡ get_or word k 0 = get_or_append_left word rest 0 k within in
    let inside : k < length line = omega (arith, within, length-append word rest) in
    let byte : IsWordByte b = subst IsWordByte (sym same) (is.each k 0 within) in
    ap ends_word (drop-cons line k 0 inside) ∙ goes-on b (drop (suc k) line) byte

so-far : (word rest : Text) (k : ℕ) → IsWord word → k ≤ length word
    → words (word ++ rest) ≡ words_onto (take k (word ++ rest)) (drop k (word ++ rest))
so-far word rest zero is within = words_onto-nothing (word ++ rest)
so-far word rest (suc k) is within =
    let line = word ++ rest in
    let next : k + 1 ≡ suc k = omega arith in
    let below : k < length word = omega (arith, within) in
    so-far word rest k is (omega (arith, within))
    ∙ (words_onto-more line k (omega (arith, below, length-append word rest))
    (in-word word rest k is below)
    ∙ ap (λ n. words_onto (take n line) (drop n line)) next)

whole-word : (word : Text) → IsWord word
    → words word ≡ words_onto (take (length word) word) (drop (length word) word)
whole-word word is =
    let all = append-nil word in
    subst (λ (line : Text). words line ≡ words_onto (take (length word) line)
    (drop (length word) line)) all (so-far word [] (length word) is (omega arith))

-- the text ends, or a word ends in front of it
abbrev Ends : Text → Type 0
Ends rest = (rest ≡ []) ⊎ (ends_word rest ≡ true)

first-word : (word rest : Text) → IsWord word → Ends rest
    → words (word ++ rest) ≡ word ∷ words rest
first-word word rest is (inl none) =
    let line = word ++ rest in
    let all : line ≡ word = ap (λ more. word ++ more) none ∙ append-nil word in
    let last : words word ≡ take (length word) word ∷ words (drop (length word) word) =
    words-last word (whole-word word is) is.some in
    ap words all
    ∙ (last ∙ (ap (λ w. w ∷ words (drop (length word) word)) (take-length word)
    ∙ (ap (λ more. word ∷ words more) (drop-length word)
    ∙ ap (λ more. word ∷ words more) (sym none))))
first-word word rest is (inr ends) =
    let line = word ++ rest in
    let front : take (length word) line ≡ word = take-append_seam word rest in
    let back : drop (length word) line ≡ rest = drop-append_seam word rest in
    words-first line (length word) (so-far word rest (length word) is (omega arith)) is.some
    (omega (arith, length-append word rest)) (ap ends_word back ∙ ends)
    ∙ (ap (λ w. w ∷ words (drop (length word) line)) front ∙ ap (λ more. word ∷ words more) back)

word-then : (word rest : Text) → IsWord word → words (word ++ (32 ∷ rest)) ≡ word ∷ words rest
word-then word rest is =
    first-word word (32 ∷ rest) is (inr refl) ∙ ap (λ ws. word ∷ ws) (words-blank 32 rest refl)

-- the words of a text whose first words are these
first-words : (ws : List Text) (rest : Text) → AllByRecursion IsWord ws → Ends rest
    → words (join_with_byte 32 ws ++ rest) ≡ ws ++ words rest
first-words [] rest each ends = refl
first-words (w ∷ []) rest each ends = first-word w rest each.0 ends
first-words (w ∷ v ∷ ws) rest each ends =
    ap words (append_assoc w (32 ∷ join_with_byte 32 (v ∷ ws)) rest)
    ∙ (word-then w (join_with_byte 32 (v ∷ ws) ++ rest) each.0
    ∙ ap (λ more. w ∷ more) (first-words (v ∷ ws) rest each.1 ends))

-- ---- the words of an event

digit-byte : (b : ℕ) → 48 ≤ b → b ≤ 57 → IsWordByte b
digit-byte b low high = (grind (arith, common_steps), λ same. absurd (omega (arith, same, low)))

number-word : (n : ℕ) → IsNumber n → IsWord (decimal n)
number-word n small =
    let numeral = decimal_is_IsNumeral n (omega (arith, small)) in
    record {
      some = numeral.0.0;
      each = λ k d within.
          let digit = digit_at (decimal n) k numeral.0.1 within in
          subst IsWordByte (sym (any-default (decimal n) k d within))
          (digit-byte (get_or (decimal n) k 0) (omega (arith, digit)) (omega (arith, digit)));
    }

letter : (b : ℕ) → 97 ≤ b → IsWordByte b
letter b low = (grind (arith, common_steps), λ same. absurd (omega (arith, same, low)))

tau-word : IsWord (codes "tau")
tau-word = record {
  some = omega arith;
  each = All-from_recursion IsWordByte (codes "tau")
      (letter 116 (omega arith), (letter 97 (omega arith), (letter 117 (omega arith), tt)));
}

home-word : IsWord (codes "home")
home-word = record {
  some = omega arith;
  each = All-from_recursion IsWordByte (codes "home") (
    letter 104 (omega arith),
    (letter 111 (omega arith), (letter 109 (omega arith), (letter 101 (omega arith), tt))),
  );
}

up-word : IsWord (codes "up")
up-word = record {
  some = omega arith;
  each = All-from_recursion IsWordByte (codes "up")
      (letter 117 (omega arith), (letter 112 (omega arith), tt));
}

down-word : IsWord (codes "down")
down-word = record {
  some = omega arith;
  each = All-from_recursion IsWordByte (codes "down") (
    letter 100 (omega arith),
    (letter 111 (omega arith), (letter 119 (omega arith), (letter 110 (omega arith), tt))),
  );
}

are-words : (e : Event) → HasNumbers e → AllByRecursion IsWord (event_words e)
are-words (event.TauHome g) small = (tau-word, (home-word, (number-word g small, tt)))
are-words (event.TauRemote j g) small =
    (tau-word, (number-word j small.0, (number-word g small.1, tt)))
are-words (event.Up j h r) small =
    (up-word, (number-word j small.0, (number-word h small.1, (number-word r small.2, tt))))
are-words (event.Down j h r) small =
    (down-word, (number-word j small.0, (number-word h small.1, (number-word r small.2, tt))))

given-ends : (messages : List MessageInfo) (message : Option (ℕ × Value))
    → Ends (given_text messages message)
given-ends messages None = inl refl
given-ends messages (Some m) = inr refl

-- the words of an event, whatever words follow
first-said : (e : Event) (ws : List Text) → HasNumbers e
    → event_of_first (event_words e ++ ws) ≡ Some e
first-said (event.TauHome g) ws small = event_of-words (event.TauHome g) small
first-said (event.TauRemote j g) ws small = event_of-words (event.TauRemote j g) small
first-said (event.Up j h r) ws small = event_of-words (event.Up j h r) small
first-said (event.Down j h r) ws small = event_of-words (event.Down j h r) small

-- an event that is told is read
pub leading_event-told : (protocol : NumberedProtocol) (config : RvConfig) (e : Event)
    → HasNumbers e → leading_event (event_told protocol config e) ≡ Some e
leading_event-told protocol config e small =
    let given = given_text protocol.messages (given_in protocol config e) in
    ap event_of_first (first-words (event_words e) given (are-words e small)
    (given-ends protocol.messages (given_in protocol config e)))
    ∙ first-said e (words given) small
