use Rattle.std.proofs.Common.{◌≡◌, List, [], ◌∷◌, ◌++◌, codes, sym, ap, ◌∙◌, subst, append_assoc}
use Rattle.proto_model.specs.Tokens.{Text, Token}
use Rattle.proto_model.specs.Grammar.{semicolon, version_tokens}
use Rattle.proto_model.specs.Marks.{Mark, Indent, Word, LineEnd, words, Lays}
use Rattle.proto_model.proofs.Writing.{Lays-append, words-append}
use Rattle.proto_model.proofs.layout.writer.Writer.header.Goals as goal

-- the end of the line, behind any tokens
words-closed : (ts : List Token)
    → words ts ++ Word (codes ";") ∷ LineEnd ∷ [] ≡ words (ts ++ semicolon ∷ []) ++ LineEnd ∷ []
words-closed ts =
    sym
    (ap (λ (marks : List Mark). marks ++ LineEnd ∷ []) (words-append ts (semicolon ∷ []))
    ∙ append_assoc (words ts) (Word (codes ";") ∷ []) (LineEnd ∷ []))

pub returns : goal.returns
returns c =
    let name = c.args.name.now in
    let version = version_tokens c.args.version in
    let behind = c.end_line.new.self in
    let front : List Mark → List Mark = λ marks.
    Indent 0 ∷ Word (codes "protocol") ∷ Word name ∷ marks in
    let end = Word (codes ";") ∷ LineEnd ∷ [] in
    let names = subst (λ (text : Text). Lays (Word text ∷ []) c.word.new.self c.word-2.new.self)
    c.bytes.ensures.value c.word-2.ensures in
    let ends = Lays-append (Word (codes ";") ∷ []) (LineEnd ∷ []) c.version.new.self
    c.word-3.new.self behind c.word-3.ensures c.end_line.ensures in
    let says = Lays-append (words version) end c.word-2.new.self c.version.new.self behind
    c.version.ensures ends in
    let named = Lays-append (Word name ∷ []) (words version ++ end) c.word.new.self
    c.word-2.new.self behind names says in
    let begun = Lays-append (Word (codes "protocol") ∷ []) (Word name ∷ (words version ++ end))
    c.indent.new.self c.word.new.self behind c.word.ensures named in
    subst (λ (marks : List Mark). Lays (front marks) c.args.self.now behind) (words-closed version)
    (Lays-append (Indent 0 ∷ []) (Word (codes "protocol") ∷ Word name ∷ (words version ++ end))
    c.args.self.now c.indent.new.self behind c.indent.ensures begun)
