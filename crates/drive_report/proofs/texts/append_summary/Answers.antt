-- The lines, one after the other.
use Rattle.std.proofs.Common.{◌++◌, codes}
use Rattle.proto_model.specs.Tokens.{Text}
use Rattle.proto_model.specs.Continued.{Continues}
use Rattle.proto_model.proofs.Continuing.{Continues-append}
use Rattle.drive_report.specs.SummaryText.{count_line, yes_or_no}
use Rattle.drive_report.proofs.texts.append_summary.Goals as goal

pub returns : goal.returns
returns c =
    let s = c.args.summary.now in
    let text0 : Text = codes "stopped " ++ (yes_or_no s.stopped ++ codes "\n") in
    let text1 : Text = count_line (codes "down") s.most_down ++ text0 in
    let text2 : Text = count_line (codes "up") s.most_up ++ text1 in
    let text3 : Text = count_line (codes "held") s.most_held ++ text2 in
    let text4 : Text = count_line (codes "crossed") s.crossed ++ text3 in
    let text5 : Text = count_line (codes "replies") s.replies ++ text4 in
    let text6 : Text = count_line (codes "nacks") s.nacks ++ text5 in
    let text7 : Text = count_line (codes "acks") s.acks ++ text6 in
    let text8 : Text = count_line (codes "requests") s.requests ++ text7 in
    let text9 : Text = count_line (codes "events") s.events ++ text8 in
    let text10 : Text = count_line (codes "steps") s.steps ++ text9 in
    let end = c.append_stopped.result in
    let last = c.append_stopped.new.out.items in
    let from1 : Continues text1 c.append_line-so_far-9.result c.append_line-so_far-9.new.out.items
    end last =
    Continues-append (count_line (codes "down") s.most_down) text0 c.append_line-so_far-9.result
    c.append_line-so_far-10.result end
    c.append_line-so_far-9.new.out.items c.append_line-so_far-10.new.out.items last
    c.append_line-so_far-10.ensures
    c.append_stopped.ensures in
    let from2 : Continues text2 c.append_line-so_far-8.result c.append_line-so_far-8.new.out.items
    end last =
    Continues-append (count_line (codes "up") s.most_up) text1 c.append_line-so_far-8.result
    c.append_line-so_far-9.result end
    c.append_line-so_far-8.new.out.items c.append_line-so_far-9.new.out.items last
    c.append_line-so_far-9.ensures
    from1 in
    let from3 : Continues text3 c.append_line-so_far-7.result c.append_line-so_far-7.new.out.items
    end last =
    Continues-append (count_line (codes "held") s.most_held) text2 c.append_line-so_far-7.result
    c.append_line-so_far-8.result end
    c.append_line-so_far-7.new.out.items c.append_line-so_far-8.new.out.items last
    c.append_line-so_far-8.ensures
    from2 in
    let from4 : Continues text4 c.append_line-so_far-6.result c.append_line-so_far-6.new.out.items
    end last =
    Continues-append (count_line (codes "crossed") s.crossed) text3 c.append_line-so_far-6.result
    c.append_line-so_far-7.result end
    c.append_line-so_far-6.new.out.items c.append_line-so_far-7.new.out.items last
    c.append_line-so_far-7.ensures
    from3 in
    let from5 : Continues text5 c.append_line-so_far-5.result c.append_line-so_far-5.new.out.items
    end last =
    Continues-append (count_line (codes "replies") s.replies) text4 c.append_line-so_far-5.result
    c.append_line-so_far-6.result end
    c.append_line-so_far-5.new.out.items c.append_line-so_far-6.new.out.items last
    c.append_line-so_far-6.ensures
    from4 in
    let from6 : Continues text6 c.append_line-so_far-4.result c.append_line-so_far-4.new.out.items
    end last =
    Continues-append (count_line (codes "nacks") s.nacks) text5 c.append_line-so_far-4.result
    c.append_line-so_far-5.result end
    c.append_line-so_far-4.new.out.items c.append_line-so_far-5.new.out.items last
    c.append_line-so_far-5.ensures
    from5 in
    let from7 : Continues text7 c.append_line-so_far-3.result c.append_line-so_far-3.new.out.items
    end last =
    Continues-append (count_line (codes "acks") s.acks) text6 c.append_line-so_far-3.result
    c.append_line-so_far-4.result end
    c.append_line-so_far-3.new.out.items c.append_line-so_far-4.new.out.items last
    c.append_line-so_far-4.ensures
    from6 in
    let from8 : Continues text8 c.append_line-so_far-2.result c.append_line-so_far-2.new.out.items
    end last =
    Continues-append (count_line (codes "requests") s.requests) text7 c.append_line-so_far-2.result
    c.append_line-so_far-3.result end
    c.append_line-so_far-2.new.out.items c.append_line-so_far-3.new.out.items last
    c.append_line-so_far-3.ensures
    from7 in
    let from9 : Continues text9 c.append_line-so_far.result c.append_line-so_far.new.out.items end
    last =
    Continues-append (count_line (codes "events") s.events) text8 c.append_line-so_far.result
    c.append_line-so_far-2.result end
    c.append_line-so_far.new.out.items c.append_line-so_far-2.new.out.items last
    c.append_line-so_far-2.ensures
    from8 in
    let from10 : Continues text10 c.args.so_far c.args.out.now.items end last =
    Continues-append (count_line (codes "steps") s.steps) text9 c.args.so_far
    c.append_line-so_far.result end
    c.args.out.now.items c.append_line-so_far.new.out.items last c.append_line-so_far.ensures
    from9 in
    from10
