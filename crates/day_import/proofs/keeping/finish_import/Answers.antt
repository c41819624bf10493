use Rattle.std.proofs.Common.{◌≡◌, None, false, true, inl, inr, refl, sym, subst}
use Rattle.day_reading.specs.declared.whole_day.DayEnd.{DayEnd}
use Rattle.day_reading.specs.declared.whole_day.DayEnd.TheVariants.{Whole}
use Rattle.day_reading.specs.Days.{IsDigested}
use Rattle.day_import.specs.Stages.{IsOfEnd, IsReadWhole}
use Rattle.day_floor.proofs.AskLaws.{passes_none}
use Rattle.day_import.proofs.keeping.finish_import.Goals as goal

pub unreachable-requires : goal.unreachable-requires
unreachable-requires g c =
    let none : c.args.run.now.end ≡ Whole c.in-Whole.bytes None = cc in
    let no : false ≡ true = subst (λ (e : DayEnd). IsDigested true e) none c.requires.digested in
    absurd (cc no)

pub returns-in-Ok-clause-of_end : goal.returns-in-Ok-clause-of_end
returns-in-Ok-clause-of_end g c =
    let is : c.args.run.now.end ≡ Whole c.in-Whole.bytes c.in-Whole.digest = cc in
    subst (λ (e : DayEnd). IsOfEnd e c.store.result) (sym is)
    (c.store.ensures.of_end c.in-Whole.bytes c.in-Whole.digest)

pub returns-in-Refused-clause-asked : goal.returns-in-Refused-clause-asked
returns-in-Refused-clause-asked g c = (0, passes_none (g.K.Keeper.plan c.args.keeper.now))

pub returns-in-Refused-clause-read_first : goal.returns-in-Refused-clause-read_first
returns-in-Refused-clause-read_first g c = inl refl

pub returns-in-Ok-clause-read_first : goal.returns-in-Ok-clause-read_first
returns-in-Ok-clause-read_first g c =
    let is : c.args.run.now.end ≡ Whole c.in-Whole.bytes c.in-Whole.digest = cc in
    inr (subst IsReadWhole (sym is) tt)

pub returns-in-Err-clause-read_first : goal.returns-in-Err-clause-read_first
returns-in-Err-clause-read_first g c = inl refl
