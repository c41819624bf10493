use Rattle.std.proofs.Common.{◌++◌, [], ◌∷◌, sym, subst, arith}
use Rattle.std.proofs.lemmas.List.{length_push}
use Rattle.road_io.specs.Cutter.{ahead, line_number}
use Rattle.day_reading.specs.Readings.{StandsAt, GathersAt}
use Rattle.day_reading.proofs.GatherLaws.{gathers_some, gathers_none}
use Rattle.day_reading.proofs.GiveLaws.{give_out, none_out, few_given}
use Rattle.day_reading.proofs.day_reader.DayReader.next_out.Goals as goal

pub returns-in-Some-clause-some : goal.returns-in-Some-clause-some
returns-in-Some-clause-some c = λ end is out limits late left bytes given s.
    let self = c.args.self.now in
    let x = c.in-Some.tuple in
    let st = subst
    (λ o. StandsAt o (ahead self.cutter left) (line_number self.cutter) self.consumed self.intake.gate
    self.intake.sorter limits late bytes given) is s.stands in
    let t = give_out limits late bytes given x end (ahead self.cutter left) (line_number self.cutter) self.consumed
    self.intake.gate self.intake.sorter c.end.new.self out s.front
    (λ put taken ended k. c.in-Some.ensures.next late put taken ended k) st in
    record {
      line_limit = s.line_limit;
      count = omega (
        arith,
        s.count,
        length_push given x,
        few_given limits late bytes (given ++ x ∷ []) t.0,
        s.line_limit,
        c.saturating_add-self.ensures,
      );
      front = t.0;
      stands = subst
          (λ o. StandsAt o (ahead self.cutter left) (line_number self.cutter) self.consumed self.intake.gate
          c.end.new.self limits late bytes (given ++ x ∷ [])) (sym is) t.1;
    }

pub returns-in-None-clause-none : goal.returns-in-None-clause-none
returns-in-None-clause-none c = λ end is out limits late left bytes given s.
    let self = c.args.self.now in
    let st = subst
    (λ o. StandsAt o (ahead self.cutter left) (line_number self.cutter) self.consumed self.intake.gate
    self.intake.sorter limits late bytes given) is s.stands in
    let t = none_out end limits late bytes given (ahead self.cutter left) (line_number self.cutter) self.consumed
    self.intake.gate self.intake.sorter c.end.new.self out s.front
    (λ put taken ended k. c.in-None.ensures.none late put taken ended k) st in (
      record {
        line_limit = s.line_limit;
        count = s.count;
        front = s.front;
        stands = subst
            (λ o. StandsAt o (ahead self.cutter left) (line_number self.cutter) self.consumed self.intake.gate
            c.end.new.self limits late bytes given) (sym is) t.0;
      },
      t.1,
    )

pub returns-in-Some-clause-gathers : goal.returns-in-Some-clause-gathers
returns-in-Some-clause-gathers c = λ end is out limits late given s.
    let self = c.args.self.now in
    let x = c.in-Some.tuple in
    let st = subst (λ o. GathersAt o (line_number self.cutter) self.intake.gate self.intake.sorter limits late given) is
    s.stands in
    let t = gathers_some end limits late given x (line_number self.cutter) self.intake.gate self.intake.sorter
    c.end.new.self out (λ put taken ended k. c.in-Some.ensures.next late put taken ended k) st in
    record {
      line_limit = s.line_limit;
      fit = t.0;
      stands = subst
          (λ o. GathersAt o (line_number self.cutter) self.intake.gate c.end.new.self limits late (given ++ x ∷ []))
          (sym is) t.1;
    }

pub returns-in-None-clause-gathers : goal.returns-in-None-clause-gathers
returns-in-None-clause-gathers c = λ end is out limits late given s.
    let self = c.args.self.now in
    let st = subst (λ o. GathersAt o (line_number self.cutter) self.intake.gate self.intake.sorter limits late given) is
    s.stands in
    let t = gathers_none end limits late given (line_number self.cutter) self.intake.gate self.intake.sorter
    c.end.new.self out (λ put taken ended k. c.in-None.ensures.none late put taken ended k) st in
    record {
      line_limit = s.line_limit;
      fit = s.fit;
      stands = subst (λ o. GathersAt o (line_number self.cutter) self.intake.gate c.end.new.self limits late given)
          (sym is) t;
    }
