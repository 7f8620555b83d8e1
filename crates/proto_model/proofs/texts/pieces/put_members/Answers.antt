-- A member is written behind the ones below it.
use Rattle.std.proofs.Common.{◌≡◌, ◌+◌, Bool, true, false, ◌++◌, sym, ap, subst, ◌∙◌}
use Rattle.proto_model.specs.Tokens.{Text}
use Rattle.proto_model.specs.NumberSets.{has_number, members_below}
use Rattle.proto_model.specs.Texts.{member_text}
use Rattle.proto_model.specs.Continued.{Continues}
use Rattle.proto_model.proofs.Continuing.{joined, is_nil, Continues-none, Continues-append}
use Rattle.proto_model.proofs.Continuing.{members_below-none, members_below-without, joined-with}
use Rattle.proto_model.proofs.Continuing.{is_nil-with}
use Rattle.proto_model.proofs.texts.pieces.put_members.Goals as goal
use Rattle.proto_model.proofs.texts.pieces.put_members.Goals.{then-has_number, else-has_number}

pub loop-node-init : goal.loop-node-init
loop-node-init c =
    let none = sym (members_below-none c.args.set) in
    record {
      text = subst (λ (text : Text). Continues text c.args.so_far c.args.out.now.items c.args.so_far
          c.args.out.now.items) (ap joined none)
          (Continues-none c.args.so_far c.args.out.now.items);
      first = ap is_nil none;
    }

pub loop-node-preserved : goal.loop-node-preserved
loop-node-preserved c =
    let set = c.args.set in
    let node = c.loop-node.node in
    let before = joined (members_below set node) in
    elim c.if-has_number.branch [
      | then-has_number w ↦
          let has : has_number set node ≡ true = cc in
          let grown : before ++ member_text c.loop-node.first node
          ≡ joined (members_below set (node + 1)) =
          ap (λ (first : Bool). before ++ member_text first node) c.loop-node.invariant.first
          ∙ sym (joined-with set node has) in
          let both = Continues-append before (member_text c.loop-node.first node) c.args.so_far
          c.loop-node.so_far w.put_member-so_far.result c.args.out.now.items
          c.loop-node.out.items w.put_member-so_far.new.out.items c.loop-node.invariant.text
          w.put_member-so_far.ensures in
          record {
            text = rw (w.so_far-is, w.out-is)
                (subst (λ (text : Text). Continues text c.args.so_far c.args.out.now.items
                w.put_member-so_far.result w.put_member-so_far.new.out.items) grown both);
            first = w.first-is ∙ sym (is_nil-with set node has);
          }
      | else-has_number w ↦
          let has : has_number set node ≡ false = cc in
          let same = members_below-without set node has in
          record {
            text = rw (w.so_far-is, w.out-is, same) c.loop-node.invariant.text;
            first = w.first-is ∙ c.loop-node.invariant.first ∙ sym (ap is_nil same);
          }
    ]
