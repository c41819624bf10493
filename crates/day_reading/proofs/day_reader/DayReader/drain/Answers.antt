use Rattle.std.proofs.Common.{◌∙◌, Some, sym, subst, ap}
use Rattle.road_io.specs.Cutter.{ahead, line_number}
use Rattle.day_reading.specs.declared.consumed.Consumed.{Consumed}
use Rattle.day_reading.specs.Readings.{StandsAt, HasTaken}
use Rattle.day_reading.proofs.day_reader.DayReader.drain.Goals as goal

pub returns-in-Some-clause-gives : goal.returns-in-Some-clause-gives
returns-in-Some-clause-gives c =
    λ limits late left bytes given s. c.in-Some.ensures.some _ (c.requires ∙ ap (λ e. Some e) c.in-Whole.is) tt limits
    late left bytes given s

pub returns-in-None-clause-gives : goal.returns-in-None-clause-gives
returns-in-None-clause-gives c = λ limits late left bytes given s.
    let self = c.args.self.now in
    let is = c.requires ∙ ap (λ e. Some e) c.in-Whole.is in
    let t = c.in-None.ensures.none _ is tt limits late left bytes given s in
    let st = subst
    (λ o. StandsAt o (ahead self.cutter left) (line_number self.cutter) self.consumed self.intake.gate
    self.intake.sorter limits late bytes given) is s.stands in (
      t.0,
      t.1,
      st.1.0,
      subst (λ (k : Consumed). HasTaken k bytes) (sym c.in-None.ensures.consumed) st.1.1,
      ap line_number c.in-None.ensures.cutter ∙ st.1.2,
    )

pub returns-in-Some-clause-gathers : goal.returns-in-Some-clause-gathers
returns-in-Some-clause-gathers c =
    λ limits late given s. c.in-Some.ensures.gathers _ (c.requires ∙ ap (λ e. Some e) c.in-Whole.is) tt limits late
    given s

pub returns-in-None-clause-gathers : goal.returns-in-None-clause-gathers
returns-in-None-clause-gathers c =
    λ limits late given s. c.in-None.ensures.gathers _ (c.requires ∙ ap (λ e. Some e) c.in-Whole.is) tt limits late
    given s
