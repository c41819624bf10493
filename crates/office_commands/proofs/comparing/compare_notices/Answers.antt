use Rattle.std.proofs.Common.{List, [], Some, ap, sym, subst, ◌∙◌}
use Rattle.road_time.specs.Lines.{lines_of}
use Rattle.office_commands.specs.declared.closing.Closing.{Closing}
use Rattle.office_commands.specs.declared.difference.Difference.{Difference}
use Rattle.office_commands.specs.Commands.{comparison_by}
use Rattle.office_commands.specs.Differences.{differences_text}
use Rattle.office_commands.specs.Endings.{StandsBefore}
use Rattle.office_commands.proofs.ClosingLaws.{stands_whole, stops_empty}
use Rattle.office_commands.specs.Closings.{status_of}
use Rattle.office_commands.proofs.RestLaws.{compared_says, stopped_says}
use Rattle.office_commands.proofs.comparing.compare_notices.Goals as goal

pub returns-in-Ok-clause-exact : goal.returns-in-Ok-clause-exact
returns-in-Ok-clause-exact g c = λ lines o told.
    stands_whole (comparison_by c.args.any_order c.args.show c.args.wanted.now (lines_of lines) o) c.in-Ok.closing _
    (ap Some (c.in-Ok.ensures.exact lines told)) (ap differences_text (c.in-Ok.ensures.listed lines told))

pub returns-in-Err-clause-exact : goal.returns-in-Err-clause-exact
returns-in-Err-clause-exact g c = λ lines o told.
    let a = comparison_by c.args.any_order c.args.show c.args.wanted.now (lines_of lines) o in
    subst (λ (ds : List Difference). StandsBefore a c.stopped.result (differences_text ds))
    (sym c.in-Err.ensures.stopped)
    (subst (λ (k : Closing). StandsBefore a k []) (sym c.stopped.ensures) (stops_empty a c.in-Err.stop))

pub returns-in-Ok-clause-unnamed : goal.returns-in-Ok-clause-unnamed
returns-in-Ok-clause-unnamed g c = compared_says c.in-Ok.closing c.in-Ok.ensures.own

pub returns-in-Err-clause-unnamed : goal.returns-in-Err-clause-unnamed
returns-in-Err-clause-unnamed g c = λ s. stopped_says c.in-Err.stop (sym (ap status_of c.stopped.ensures) ∙ s)
