use Rattle.std.proofs.Common.{◌++◌, [], ◌∷◌, length, false, sym, subst, arith}
use Rattle.std.proofs.lemmas.List.{length_push}
use Rattle.road_time.specs.Reads.{tuples_of}
use Rattle.road_io.specs.Cutter.{ahead, line_number}
use Rattle.day_reading.specs.Readings.{StandsAt, GathersAt}
use Rattle.day_reading.proofs.GatherLaws.{gather_on}
use Rattle.day_reading.proofs.GiveLaws.{give_on, few_given}
use Rattle.day_reading.proofs.day_reader.DayReader.next_on.Goals as goal

pub returns-in-Some-clause-some : goal.returns-in-Some-clause-some
returns-in-Some-clause-some c = λ limits late left bytes given s.
    let self = c.args.self.now in
    let x = c.in-Some.tuple in
    let is = c.requires in
    let on = subst
    (λ o. StandsAt o (ahead self.cutter left) (line_number self.cutter) self.consumed self.intake.gate
    self.intake.sorter limits late bytes given) is s.stands in
    let next = c.in-Some.ensures.next late (tuples_of on.before) (length given) false on.sorter_is in
    let t = give_on limits late bytes given x (ahead self.cutter left) (line_number self.cutter) self.consumed
    self.intake.gate self.intake.sorter c.take.new.self s.front on next.0 next.2 in
    record {
      line_limit = s.line_limit;
      count = omega (
        arith,
        s.count,
        length_push given x,
        few_given limits late bytes (given ++ x ∷ []) t.0,
        s.line_limit,
        c.saturating_add-self.ensures,
      );
      front = t.0;
      stands = subst
          (λ o. StandsAt o (ahead self.cutter left) (line_number self.cutter) self.consumed self.intake.gate
          c.take.new.self limits late bytes (given ++ x ∷ [])) (sym is) t.1;
    }

pub returns-in-Some-clause-gathers : goal.returns-in-Some-clause-gathers
returns-in-Some-clause-gathers c = λ limits late given s.
    let self = c.args.self.now in
    let x = c.in-Some.tuple in
    let on = subst (λ o. GathersAt o (line_number self.cutter) self.intake.gate self.intake.sorter limits late given)
    c.requires s.stands in
    let next = c.in-Some.ensures.next late (tuples_of on.before) (length given) false on.gave.0 in
    let t = gather_on limits late given x (line_number self.cutter) self.intake.gate self.intake.sorter c.take.new.self
    on
    next.0 next.2 in
    record {
      line_limit = s.line_limit;
      fit = t.0;
      stands = subst
          (λ o. GathersAt o (line_number self.cutter) self.intake.gate c.take.new.self limits late (given ++ x ∷ []))
          (sym c.requires) t.1;
    }
