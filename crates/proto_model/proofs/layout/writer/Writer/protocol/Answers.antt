use Rattle.std.proofs.Common.{◌≡◌, List, [], ◌∷◌, ◌++◌, map, codes, subst, append_assoc}
use Rattle.std.proofs.lemmas.Grind.{flat_map-append}
use Rattle.proto_model.specs.Tokens.{item}
use Rattle.proto_model.specs.Grammar.{opening, header_tokens, message_tokens, claim_tokens}
use Rattle.proto_model.specs.LaidOut.{Line, at, body_lines}
use Rattle.proto_model.specs.Marks.{Mark, line_marks, marks_of, Lays}
use Rattle.proto_model.specs.declared.protocol.Message.{Message}
use Rattle.proto_model.specs.declared.protocol.Claim.{Claim}
use Rattle.proto_model.proofs.Writing.{Lays-append}
use Rattle.proto_model.proofs.layout.writer.Writer.protocol.Goals as goal

-- the marks of a protocol's lines, part by part
by_parts : (header : Line) (messages home remote claims : List Line)
    (home_opening remote_opening : Line)
    → line_marks header
    ++ (marks_of messages
    ++ (marks_of (home_opening ∷ home) ++ (marks_of (remote_opening ∷ remote) ++ marks_of claims)))
    ≡ marks_of
    (header ∷ (messages ++ home_opening ∷ (home ++ remote_opening ∷ (remote ++ claims))))
by_parts header messages home remote claims home_opening remote_opening =
    simp (append_assoc, flat_map-append)

pub returns : goal.returns
returns c =
    let p = c.args.protocol.now in
    let message_line : Message → Line = λ m. at 0 (message_tokens m) in
    let claim_line : Claim → Line = λ x. at 0 (claim_tokens x) in
    let header = at 0 (header_tokens p.name p.version) in
    let home = at 0 (item (codes "home") ∷ opening ∷ []) in
    let remote = at 0 (item (codes "remote") ∷ opening ∷ []) in
    let before = c.header.new.self in
    let behind = c.claims.new.self in
    let messages = subst (λ (ms : List Message). Lays (marks_of (map message_line ms)) before
    c.messages.new.self)
    c.as_slice.ensures c.messages.ensures in
    let claims = subst (λ (cs : List Claim). Lays (marks_of (map claim_line cs))
    c.process-2.new.self behind)
    c.as_slice-2.ensures c.claims.ensures in
    let home_marks = marks_of (home ∷ body_lines p.home) in
    let remote_marks = marks_of (remote ∷ body_lines p.remote) in
    let claim_marks = marks_of (map claim_line p.claims) in
    let last = Lays-append remote_marks claim_marks _ _ behind c.process-2.ensures claims in
    let processes = Lays-append home_marks (remote_marks ++ claim_marks) _ _ behind
    c.process.ensures last in
    subst (λ (marks : List Mark). Lays marks c.args.self.now behind)
    (by_parts header (map message_line p.messages) (body_lines p.home) (body_lines p.remote)
    (map claim_line p.claims) home remote)
    (Lays-append (line_marks header) _ _ before behind c.header.ensures
    (Lays-append (marks_of (map message_line p.messages)) _ before _ behind messages processes))
