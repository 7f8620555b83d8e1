-- Where a word ends, what stands before it is the first piece.
use Rattle.std.proofs.Common.{◌≡◌, ℕ, true, false, take, drop, length, sym, ap, ◌∙◌, subst, arith}
use Rattle.std.proofs.lemmas.List.{take_rest}
use Rattle.rv_base.specs.Words.{ends_word, words}
use Rattle.rv_base.proofs.FirstWord.{words_onto, words_onto-nothing, words_onto-more, words-first}
use Rattle.rv_base.proofs.FirstWord.{words-last}
use Rattle.rv_base.proofs.words.word_end.Goals as goal

pub loop-end-init : goal.loop-end-init
loop-end-init c = words_onto-nothing c.args.line.now

pub returns-then-ends_word-clause-first : goal.returns-then-ends_word-clause-first
returns-then-ends_word-clause-first c some =
    let line = c.args.line.now in
    let end = c.loop-end.end in
    let ends : ends_word (drop end line) ≡ true =
    ap ends_word (sym (take_rest line end)) ∙ sym c.ends_word.ensures ∙ c.if-ends_word.true in
    words-first line end c.loop-end.invariant some (omega arith) ends

pub loop-end-preserved : goal.loop-end-preserved
loop-end-preserved c =
    let line = c.args.line.now in
    let end = c.loop-end.end in
    let goes_on : ends_word (drop end line) ≡ false =
    ap ends_word (sym (take_rest line end)) ∙ sym c.ends_word.ensures ∙ c.if-ends_word.false in
    c.loop-end.invariant ∙ words_onto-more line end c.loop-end-test.true goes_on

pub returns-clause-first : goal.returns-clause-first
returns-clause-first c some =
    let line = c.args.line.now in
    let all : c.loop-end.end ≡ length line = omega arith in
    let so_far = subst (λ (n : ℕ). words line ≡ words_onto (take n line) (drop n line)) all
    c.loop-end.invariant in
    words-last line so_far some
