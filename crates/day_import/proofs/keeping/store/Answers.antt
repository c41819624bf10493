use Rattle.std.proofs.Common.{◌≡◌, Err, sym, subst}
use Rattle.day_import.specs.Asked.{AsksBy}
use Rattle.day_import.specs.declared.outcomes.Outcome.{Outcome}
use Rattle.day_import.proofs.AskedLaws.{put_passed, put_refused}
use Rattle.day_import.proofs.keeping.store.Goals as goal

pub returns-in-Ok-clause-asked : goal.returns-in-Ok-clause-asked
returns-in-Ok-clause-asked g c =
    (0, put_passed g.K.Keeper.refuses _ _ c.put_day.result _ c.put_day.ensures.planned c.in-Ok.is)

pub returns-in-Err-clause-asked : goal.returns-in-Err-clause-asked
returns-in-Err-clause-asked g c =
    let here : c.put_day.result ≡ Err c.in-Err.fault = cc in
    subst (λ (o : Outcome). AsksBy 0 o (g.K.Keeper.plan c.args.keeper.now) (g.K.Keeper.plan c.put_day.new.self))
    (sym c.refused.ensures)
    (put_refused g.K.Keeper.refuses _ _ c.put_day.result c.in-Err.fault c.put_day.ensures.planned here)
