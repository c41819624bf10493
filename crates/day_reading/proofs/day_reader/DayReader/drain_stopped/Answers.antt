use Rattle.std.proofs.Common.{◌∙◌, Some, subst, ap}
use Rattle.road_io.specs.Cutter.{ahead, line_number}
use Rattle.day_reading.specs.declared.ending.Ending.TheVariants.{Stopped}
use Rattle.day_reading.specs.Readings.{StandsAt}
use Rattle.day_reading.proofs.day_reader.DayReader.drain_stopped.Goals as goal

pub returns-in-Some-clause-gives : goal.returns-in-Some-clause-gives
returns-in-Some-clause-gives c = λ limits late left bytes given s.
    let is = c.requires ∙ ap (λ e. Some (Stopped e)) c.in-Refused.is in
    c.in-Some.ensures.some _ is tt limits late left bytes given s

pub returns-in-None-clause-gives : goal.returns-in-None-clause-gives
returns-in-None-clause-gives c = λ limits late left bytes given s.
    let self = c.args.self.now in
    let is = c.requires ∙ ap (λ e. Some (Stopped e)) c.in-Refused.is in
    let t = c.in-None.ensures.none _ is tt limits late left bytes given s in
    let st = subst
    (λ o. StandsAt o (ahead self.cutter left) (line_number self.cutter) self.consumed self.intake.gate
    self.intake.sorter limits late bytes given) is s.stands in
    (t.1, st.1, t.0)

pub returns-in-Some-clause-gathers : goal.returns-in-Some-clause-gathers
returns-in-Some-clause-gathers c = λ limits late given s.
    let is = c.requires ∙ ap (λ e. Some (Stopped e)) c.in-Refused.is in
    c.in-Some.ensures.gathers _ is tt limits late given s

pub returns-in-None-clause-gathers : goal.returns-in-None-clause-gathers
returns-in-None-clause-gathers c = λ limits late given s.
    let is = c.requires ∙ ap (λ e. Some (Stopped e)) c.in-Refused.is in
    c.in-None.ensures.gathers _ is tt limits late given s
