-- A row is read back from its word, so a word is that of one row.
use Rattle.std.proofs.Common.{◌≡◌, ℕ, ◌==◌, List, [], ◌∷◌, ◌++◌, length, drop, get_or, cond}
use Rattle.std.proofs.Common.{Option, Some, None, refl, sym, ap, ◌∙◌, length-append, arith}
use Rattle.controller_table.specs.Rows.{row, guard_id}
use Rattle.controller_table.specs.declared.rows.GuardId.{GuardId}
use Rattle.controller_table.specs.declared.rows.Place.{Place}
use Rattle.controller_table.specs.declared.rows.Place.TheVariants.{Comm, Trans, Due}
use Rattle.controller_table.specs.declared.rows.Trigger.{Trigger}
use Rattle.controller_table.specs.declared.rows.Trigger.TheVariants.{Tau, Send, Pay, Take, Answer}
use Rattle.controller_table.specs.declared.rows.Trigger.TheVariants.{AnswerNone, GotAck, GotNack}
use Rattle.controller_table.specs.declared.rows.Trigger.TheVariants.{GotReply, GotRequest}
use Rattle.controller_table.specs.declared.rows.Puts.{Puts}
use Rattle.controller_table.specs.declared.rows.Puts.TheVariants as puts
use Rattle.controller_table.specs.declared.rows.Does.{Does}
use Rattle.controller_table.specs.declared.rows.Does.TheVariants as does
use Rattle.controller_table.specs.declared.rows.Row.{Row}
use Rattle.control_store.specs.RowWord.{place_bytes, trigger_bytes, puts_bytes, does_bytes}
use Rattle.control_store.specs.RowWord.{row_word}
use Rattle.control_store.specs.RowWord.{IsInRange, DecodesRow}

-- ---- each part, read back from its bytes

abbrev place_from : ℕ → ℕ → ℕ → Place
place_from kind state guard =
    cond (kind == 0) (Comm state)
    (cond (kind == 1) (Trans (guard_id state guard)) (Due (guard_id state guard)))

abbrev place_back : List ℕ → Place
place_back w = place_from (get_or w 0 0) (get_or w 1 0) (get_or w 2 0)

place_back-is : (p : Place) (rest : List ℕ) → place_back (place_bytes p ++ rest) ≡ p
place_back-is (Comm state) rest = refl
place_back-is (Trans g) rest = refl
place_back-is (Due g) rest = refl

abbrev trigger_from : ℕ → ℕ → Trigger
trigger_from kind number =
    cond (kind == 0) (Tau number) (cond (kind == 1) (Send number)
    (cond (kind == 2) (Pay number) (cond (kind == 3) (Take number)
    (cond (kind == 4) (Answer number) (cond (kind == 5) AnswerNone
    (cond (kind == 6) GotAck (cond (kind == 7) GotNack
    (cond (kind == 8) (GotReply number) GotRequest))))))))

abbrev trigger_back : List ℕ → Trigger
trigger_back w = trigger_from (get_or w 0 0) (get_or w 1 0)

trigger_back-is : (t : Trigger) (rest : List ℕ) → trigger_back (trigger_bytes t ++ rest) ≡ t
trigger_back-is (Tau guard) rest = refl
trigger_back-is (Send guard) rest = refl
trigger_back-is (Pay guard) rest = refl
trigger_back-is (Take guard) rest = refl
trigger_back-is (Answer guard) rest = refl
trigger_back-is AnswerNone rest = refl
trigger_back-is GotAck rest = refl
trigger_back-is GotNack rest = refl
trigger_back-is (GotReply message) rest = refl
trigger_back-is GotRequest rest = refl

abbrev puts_from : ℕ → ℕ → Puts
puts_from kind message =
    cond (kind == 0) puts.Nothing (cond (kind == 1) (puts.Request message)
    (cond (kind == 2) puts.Ack (cond (kind == 3) puts.Nack
    (cond (kind == 4) (puts.Reply message) (puts.Owe message)))))

abbrev puts_back : List ℕ → Puts
puts_back w = puts_from (get_or w 0 0) (get_or w 1 0)

puts_back-is : (p : Puts) (rest : List ℕ) → puts_back (puts_bytes p ++ rest) ≡ p
puts_back-is puts.Nothing rest = refl
puts_back-is (puts.Request message) rest = refl
puts_back-is puts.Ack rest = refl
puts_back-is puts.Nack rest = refl
puts_back-is (puts.Reply message) rest = refl
puts_back-is (puts.Owe message) rest = refl

abbrev does_from : ℕ → GuardId → GuardId → Does
does_from count g h = cond (count == 0) does.Nothing (cond (count == 1) (does.One g) (does.Two g h))

abbrev does_back : List ℕ → Does
does_back w =
    does_from (get_or w 0 0) (guard_id (get_or w 1 0) (get_or w 2 0))
    (guard_id (get_or w 3 0) (get_or w 4 0))

does_back-is : (d : Does) (rest : List ℕ) → does_back (does_bytes d ++ rest) ≡ d
does_back-is does.Nothing rest = refl
does_back-is (does.One g) rest = refl
does_back-is (does.Two g h) rest = refl

-- ---- what stands behind each part

place-behind : (p : Place) (rest : List ℕ) → drop 3 (place_bytes p ++ rest) ≡ rest
place-behind (Comm state) rest = refl
place-behind (Trans g) rest = refl
place-behind (Due g) rest = refl

trigger-behind : (t : Trigger) (rest : List ℕ) → drop 2 (trigger_bytes t ++ rest) ≡ rest
trigger-behind (Tau guard) rest = refl
trigger-behind (Send guard) rest = refl
trigger-behind (Pay guard) rest = refl
trigger-behind (Take guard) rest = refl
trigger-behind (Answer guard) rest = refl
trigger-behind AnswerNone rest = refl
trigger-behind GotAck rest = refl
trigger-behind GotNack rest = refl
trigger-behind (GotReply message) rest = refl
trigger-behind GotRequest rest = refl

puts-behind : (p : Puts) (rest : List ℕ) → drop 2 (puts_bytes p ++ rest) ≡ rest
puts-behind puts.Nothing rest = refl
puts-behind (puts.Request message) rest = refl
puts-behind puts.Ack rest = refl
puts-behind puts.Nack rest = refl
puts-behind (puts.Reply message) rest = refl
puts-behind (puts.Owe message) rest = refl

does-behind : (d : Does) (rest : List ℕ) → drop 5 (does_bytes d ++ rest) ≡ rest
does-behind does.Nothing rest = refl
does-behind (does.One g) rest = refl
does-behind (does.Two g h) rest = refl

-- ---- a row, read back from its word

abbrev row_back : List ℕ → Row
row_back w =
    row (place_back w) (trigger_back (drop 3 w)) (puts_back (drop 2 (drop 3 w)))
    (does_back (drop 2 (drop 2 (drop 3 w)))) (place_back (drop 5 (drop 2 (drop 2 (drop 3 w)))))

pub same-parts : (r : Row) (a : Place) (o : Trigger) (p : Puts) (d : Does) (t : Place)
    → a ≡ r.at → o ≡ r.on → p ≡ r.puts → d ≡ r.does → t ≡ r.to → row a o p d t ≡ r
same-parts r a o p d t ea eo ep ed et = rw (ea, eo, ep, ed, et) refl

row_back-is : (r : Row) → row_back (row_word r) ≡ r
row_back-is r =
    let e : List ℕ = place_bytes r.to ++ 0 ∷ [] in
    let d : List ℕ = does_bytes r.does ++ e in
    let p : List ℕ = puts_bytes r.puts ++ d in
    let o : List ℕ = trigger_bytes r.on ++ p in
    let after_place : drop 3 (row_word r) ≡ o = place-behind r.at o in
    let after_trigger : drop 2 (drop 3 (row_word r)) ≡ p =
    ap (λ (w : List ℕ). drop 2 w) after_place ∙ trigger-behind r.on p in
    let after_puts : drop 2 (drop 2 (drop 3 (row_word r))) ≡ d =
    ap (λ (w : List ℕ). drop 2 w) after_trigger ∙ puts-behind r.puts d in
    let after_does : drop 5 (drop 2 (drop 2 (drop 3 (row_word r)))) ≡ e =
    ap (λ (w : List ℕ). drop 5 w) after_puts ∙ does-behind r.does e in
    same-parts r (place_back (row_word r)) (trigger_back (drop 3 (row_word r)))
    (puts_back (drop 2 (drop 3 (row_word r)))) (does_back (drop 2 (drop 2 (drop 3 (row_word r)))))
    (place_back (drop 5 (drop 2 (drop 2 (drop 3 (row_word r))))))
    (place_back-is r.at o)
    (ap (λ (w : List ℕ). trigger_back w) after_place ∙ trigger_back-is r.on p)
    (ap (λ (w : List ℕ). puts_back w) after_trigger ∙ puts_back-is r.puts d)
    (ap (λ (w : List ℕ). does_back w) after_puts ∙ does_back-is r.does e)
    (ap (λ (w : List ℕ). place_back w) after_does ∙ place_back-is r.to (0 ∷ []))

-- two rows with one word are one
pub row_word-same : (a b : Row) → row_word a ≡ row_word b → a ≡ b
row_word-same a b e =
    sym (row_back-is a) ∙ ap (λ (w : List ℕ). row_back w) e ∙ row_back-is b

pub word-undone : (r : Row) (found : Option Row) → IsInRange r → DecodesRow (row_word r) found
    → found ≡ Some r
word-undone r None range none = absurd (none r range refl)
word-undone r (Some x) range is = ap (λ (y : Row). Some y) (sym (row_word-same r x is.1))

-- ---- how long the parts are

pub place-length : (p : Place) → length (place_bytes p) ≡ 3
place-length (Comm state) = refl
place-length (Trans g) = refl
place-length (Due g) = refl

pub trigger-length : (t : Trigger) → length (trigger_bytes t) ≡ 2
trigger-length (Tau guard) = refl
trigger-length (Send guard) = refl
trigger-length (Pay guard) = refl
trigger-length (Take guard) = refl
trigger-length (Answer guard) = refl
trigger-length AnswerNone = refl
trigger-length GotAck = refl
trigger-length GotNack = refl
trigger-length (GotReply message) = refl
trigger-length GotRequest = refl

pub puts-length : (p : Puts) → length (puts_bytes p) ≡ 2
puts-length puts.Nothing = refl
puts-length (puts.Request message) = refl
puts-length puts.Ack = refl
puts-length puts.Nack = refl
puts-length (puts.Reply message) = refl
puts-length (puts.Owe message) = refl

pub does-length : (d : Does) → length (does_bytes d) ≡ 5
does-length does.Nothing = refl
does-length (does.One g) = refl
does-length (does.Two g h) = refl

five-lengths : (a b c d e : List ℕ) → length a ≡ 3 → length b ≡ 2 → length c ≡ 2 → length d ≡ 5
    → length e ≡ 3 → length (a ++ (b ++ (c ++ (d ++ (e ++ 0 ∷ []))))) ≡ 16
five-lengths a b c d e la lb lc ld le =
    omega (
      arith,
      length-append a (b ++ (c ++ (d ++ (e ++ 0 ∷ [])))),
      length-append b (c ++ (d ++ (e ++ 0 ∷ []))),
      length-append c (d ++ (e ++ 0 ∷ [])),
      length-append d (e ++ 0 ∷ []),
      length-append e (0 ∷ []),
    )

pub row_word-length : (r : Row) → length (row_word r) ≡ 16
row_word-length r =
    five-lengths (place_bytes r.at) (trigger_bytes r.on) (puts_bytes r.puts) (does_bytes r.does)
    (place_bytes r.to) (place-length r.at) (trigger-length r.on) (puts-length r.puts)
    (does-length r.does) (place-length r.to)
