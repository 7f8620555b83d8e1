-- What is known of the run of what the words mean, clause by clause.
use Rattle.std.proofs.Common.{None, Some, map, string_bytes, subst, ◌∙◌}
use Rattle.std.specs.declared.option.Option.{Option}
use Rattle.rvc_top.specs.Words.{meaning}
use Rattle.rvc_top.specs.Commands.{asked, describe}
use Rattle.rvc_top.specs.declared.command.Command.{Command}
use Rattle.rvc_top.specs.declared.command.Command.TheVariants.{Run, Boot}
use Rattle.rvc_top.proofs.EveryRun.{owed}
use Rattle.rvc_top.proofs.Complete.{run-of, run-complete, no-form}
use Rattle.rvc_top.proofs.RunRefines.{run-refines, boot-refines, driving-still}
use Rattle.rvc_top.proofs.ShownWhereTold.{run-shown, boot-shown}
use Rattle.rvc_top.proofs.top.rvc.Goals as goal

pub returns-clause-bytes : goal.returns-clause-bytes
returns-clause-bytes g c =
    (run-of c.words_mean.result (meaning (map string_bytes c.args.words.now))
    c.words_mean.ensures.means _ _ _ c.carry_out.result c.carry_out.ensures).bytes

pub returns-clause-exact : goal.returns-clause-exact
returns-clause-exact g c =
    (run-of c.words_mean.result (meaning (map string_bytes c.args.words.now))
    c.words_mean.ensures.means _ _ _ c.carry_out.result c.carry_out.ensures).exact

pub returns-clause-complete : goal.returns-clause-complete
returns-clause-complete g c no_file no_schedule no_write =
    run-complete (asked c.args.words.now) _ _ _ c.carry_out.result
    (run-of c.words_mean.result (meaning (map string_bytes c.args.words.now))
    c.words_mean.ensures.means _ _ _ c.carry_out.result c.carry_out.ensures)
    no_file no_schedule no_write

pub returns-clause-usage : goal.returns-clause-usage
returns-clause-usage g c e =
    (owed (meaning (map string_bytes c.args.words.now))).meant
    ((run-of c.words_mean.result (meaning (map string_bytes c.args.words.now))
    c.words_mean.ensures.means _ _ _ c.carry_out.result c.carry_out.ensures).usage e)

pub returns-clause-no_form : goal.returns-clause-no_form
returns-clause-no_form g c none =
    no-form _ _ _ c.carry_out.result
    (run-of c.words_mean.result None (c.words_mean.ensures.means ∙ none)
    _ _ _ c.carry_out.result c.carry_out.ensures)

pub returns-clause-read_fault : goal.returns-clause-read_fault
returns-clause-read_fault g c =
    (run-of c.words_mean.result (meaning (map string_bytes c.args.words.now))
    c.words_mean.ensures.means _ _ _ c.carry_out.result c.carry_out.ensures).read_fault

pub returns-clause-file_count : goal.returns-clause-file_count
returns-clause-file_count g c =
    (run-of c.words_mean.result (meaning (map string_bytes c.args.words.now))
    c.words_mean.ensures.means _ _ _ c.carry_out.result c.carry_out.ensures).file_count

pub returns-clause-schedule_count : goal.returns-clause-schedule_count
returns-clause-schedule_count g c =
    (run-of c.words_mean.result (meaning (map string_bytes c.args.words.now))
    c.words_mean.ensures.means _ _ _ c.carry_out.result c.carry_out.ensures).schedule_count

pub returns-clause-reads_stay : goal.returns-clause-reads_stay
returns-clause-reads_stay g c =
    (run-of c.words_mean.result (meaning (map string_bytes c.args.words.now))
    c.words_mean.ensures.means _ _ _ c.carry_out.result c.carry_out.ensures).reads_stay

pub returns-clause-write_count : goal.returns-clause-write_count
returns-clause-write_count g c =
    (run-of c.words_mean.result (meaning (map string_bytes c.args.words.now))
    c.words_mean.ensures.means _ _ _ c.carry_out.result c.carry_out.ensures).write_count

pub returns-clause-file_stops : goal.returns-clause-file_stops
returns-clause-file_stops g c =
    (run-of c.words_mean.result (meaning (map string_bytes c.args.words.now))
    c.words_mean.ensures.means _ _ _ c.carry_out.result c.carry_out.ensures).file_stops

pub returns-clause-unread : goal.returns-clause-unread
returns-clause-unread g c =
    (run-of c.words_mean.result (meaning (map string_bytes c.args.words.now))
    c.words_mean.ensures.means _ _ _ c.carry_out.result c.carry_out.ensures).unread

pub returns-clause-end : goal.returns-clause-end
returns-clause-end g c =
    (run-of c.words_mean.result (meaning (map string_bytes c.args.words.now))
    c.words_mean.ensures.means _ _ _ c.carry_out.result c.carry_out.ensures).end

pub returns-clause-taken : goal.returns-clause-taken
returns-clause-taken g c =
    (run-of c.words_mean.result (meaning (map string_bytes c.args.words.now))
    c.words_mean.ensures.means _ _ _ c.carry_out.result c.carry_out.ensures).taken

pub returns-clause-unused : goal.returns-clause-unused
returns-clause-unused g c =
    (run-of c.words_mean.result (meaning (map string_bytes c.args.words.now))
    c.words_mean.ensures.means _ _ _ c.carry_out.result c.carry_out.ensures).unused

pub returns-clause-file_first : goal.returns-clause-file_first
returns-clause-file_first g c =
    (run-of c.words_mean.result (meaning (map string_bytes c.args.words.now))
    c.words_mean.ensures.means _ _ _ c.carry_out.result c.carry_out.ensures).file_first

pub returns-clause-unasked : goal.returns-clause-unasked
returns-clause-unasked g c =
    (run-of c.words_mean.result (meaning (map string_bytes c.args.words.now))
    c.words_mean.ensures.means _ _ _ c.carry_out.result c.carry_out.ensures).unasked

pub returns-clause-schedule_end : goal.returns-clause-schedule_end
returns-clause-schedule_end g c =
    (run-of c.words_mean.result (meaning (map string_bytes c.args.words.now))
    c.words_mean.ensures.means _ _ _ c.carry_out.result c.carry_out.ensures).schedule_end

pub returns-clause-schedule_decided : goal.returns-clause-schedule_decided
returns-clause-schedule_decided g c =
    (run-of c.words_mean.result (meaning (map string_bytes c.args.words.now))
    c.words_mean.ensures.means _ _ _ c.carry_out.result c.carry_out.ensures).schedule_decided

pub returns-clause-schedule_taken : goal.returns-clause-schedule_taken
returns-clause-schedule_taken g c =
    (run-of c.words_mean.result (meaning (map string_bytes c.args.words.now))
    c.words_mean.ensures.means _ _ _ c.carry_out.result c.carry_out.ensures).schedule_taken

pub returns-clause-wants : goal.returns-clause-wants
returns-clause-wants g c =
    (run-of c.words_mean.result (meaning (map string_bytes c.args.words.now))
    c.words_mean.ensures.means _ _ _ c.carry_out.result c.carry_out.ensures).wants

pub returns-clause-shows : goal.returns-clause-shows
returns-clause-shows g c n k mode f s old means file_is schedule_is out_is decided not_refused =
    let numbers = subst (λ (command : Option Command). (describe command).Numbers)
    (c.words_mean.ensures.means ∙ means) c.words_mean.ensures.limits in
    run-shown n k _ _ _ c.carry_out.result f s old file_is schedule_is out_is decided not_refused
    mode numbers
    (run-of c.words_mean.result (Some (Run n k mode)) (c.words_mean.ensures.means ∙ means) _ _ _
    c.carry_out.result c.carry_out.ensures)

pub returns-clause-boot_shows : goal.returns-clause-boot_shows
returns-clause-boot_shows g c n k f s old means file_is schedule_is out_is decided not_refused =
    let numbers = subst (λ (command : Option Command). (describe command).Numbers)
    (c.words_mean.ensures.means ∙ means) c.words_mean.ensures.limits in
    boot-shown n k _ _ _ c.carry_out.result f s old file_is schedule_is out_is decided not_refused
    numbers
    (run-of c.words_mean.result (Some (Boot n k)) (c.words_mean.ensures.means ∙ means) _ _ _
    c.carry_out.result c.carry_out.ensures)

pub returns-clause-refines : goal.returns-clause-refines
returns-clause-refines g c n k mode f checked means holds =
    let numbers = subst (λ (command : Option Command). (describe command).Numbers)
    (c.words_mean.ensures.means ∙ means) c.words_mean.ensures.limits in
    run-refines n k mode numbers f checked holds

pub returns-clause-boot_refines : goal.returns-clause-boot_refines
returns-clause-boot_refines g c n k f booted means holds =
    let numbers = subst (λ (command : Option Command). (describe command).Numbers)
    (c.words_mean.ensures.means ∙ means) c.words_mean.ensures.limits in
    boot-refines n k numbers f booted holds

pub returns-clause-still : goal.returns-clause-still
returns-clause-still g c d f checked means holds =
    let numbers = subst (λ (command : Option Command). (describe command).Numbers)
    (c.words_mean.ensures.means ∙ means) c.words_mean.ensures.limits in
    driving-still d numbers f checked holds
