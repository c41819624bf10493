use Rattle.std.proofs.Common.{◌≡◌, true, sym, subst}
use Rattle.ways_expressway.specs.Results.{IsResultShaped}
use Rattle.ways_crews.specs.Marks.{have_toll}
use Rattle.ways_crews.proofs.MarkLaws.{marked_shape, marked_toll}
use Rattle.ways_crews.proofs.mark_crew.mark.Goals as goal

pub returns-clause-shape : goal.returns-clause-shape
returns-clause-shape c job is =
    subst (λ fs. IsResultShaped job (record c.args.done { findings = fs })) (sym c.with_tolls.ensures)
    (marked_shape c.args.toll c.requires job c.args.done is)

pub returns-clause-tolls : goal.returns-clause-tolls
returns-clause-tolls c =
    subst (λ fs. have_toll c.args.toll fs ≡ true) (sym c.with_tolls.ensures)
    (marked_toll c.args.toll c.args.done.findings)
