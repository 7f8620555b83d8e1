use Rattle.std.proofs.Common.{◌≡◌, ◌∙◌, drop, true, false, sym, ap, arith}
use Rattle.std.specs.List.{prefix_len}
use Rattle.std.proofs.lemmas.List.Sums.{prefix_len-le-length}
use Rattle.proto_model.specs.Lexemes.{begins_comment, cut}
use Rattle.protocol_reader.proofs.FrontCut.{before_lf, comment_passed, space_passed}
use Rattle.protocol_reader.proofs.lex.after_piece.Goals as goal

pub split_at-requires : goal.split_at-requires
split_at-requires c =
    omega (arith, prefix_len-le-length before_lf c.args.bytes.now, c.comment_len.ensures)

pub returns-then-begins_comment-clause-cut : goal.returns-then-begins_comment-clause-cut
returns-then-begins_comment-clause-cut c =
    let bytes = c.args.bytes.now in
    let comment : begins_comment bytes ≡ true =
    sym c.begins_comment.ensures ∙ c.if-begins_comment.true in
    let behind : drop (prefix_len before_lf bytes) bytes ≡ c.split_at.result.1.now =
    ap (λ n. drop n bytes) (sym c.comment_len.ensures) ∙ sym c.split_at.ensures.back in
    comment_passed c.args.line bytes comment ∙ ap (cut false c.args.line) behind

pub returns-clause-cut : goal.returns-clause-cut
returns-clause-cut c =
    let bytes = c.args.bytes.now in
    let no_comment : begins_comment bytes ≡ false =
    sym c.begins_comment.ensures ∙ c.if-begins_comment.false in
    space_passed c.args.line bytes c.requires.gap no_comment
    ∙ ap (λ line. cut false line (drop 1 bytes)) (sym c.line_after.ensures)
    ∙ ap (cut false c.line_after.result) (sym c.split_at-2.ensures.back)
