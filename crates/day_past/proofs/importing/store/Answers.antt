use Rattle.std.proofs.Common.{◌≡◌, Err, sym, subst}
use Rattle.day_past.specs.Asked.{AsksNewPast}
use Rattle.day_past.specs.declared.outcomes.PastOutcome.{PastOutcome}
use Rattle.day_past.proofs.AskedLaws.{put_passed, put_refused}
use Rattle.day_past.proofs.importing.store.Goals as goal

pub returns-in-Ok-clause-asked : goal.returns-in-Ok-clause-asked
returns-in-Ok-clause-asked g c =
    put_passed g.K.Keeper.refuses _ _ c.put_past.result _ c.put_past.ensures.planned c.in-Ok.is

pub returns-in-Err-clause-asked : goal.returns-in-Err-clause-asked
returns-in-Err-clause-asked g c =
    let here : c.put_past.result ≡ Err c.in-Err.fault = cc in
    subst
    (λ (o : PastOutcome). AsksNewPast 0 o (g.K.Keeper.plan c.args.keeper.now) (g.K.Keeper.plan c.put_past.new.self))
    (sym c.keeper_refused.ensures)
    (put_refused g.K.Keeper.refuses _ _ c.put_past.result c.in-Err.fault c.put_past.ensures.planned here)
