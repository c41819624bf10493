use Rattle.std.proofs.Common.{◌≡◌, ◌+◌, ◌++◌, ◌∙◌, List, length, ℕ, sym, subst, Ok, Err, Some, true, false}
use Rattle.road_io.specs.Cutter.{ahead, line_number, line_of, rest_of, Cuts, StandsCut}
use Rattle.road_io.specs.declared.cutter.LineFault.TheVariants.{LongLine, ReadFault}
use Rattle.day_reading.specs.declared.ending.Ending.{Ending}
use Rattle.day_reading.specs.Lines.{TakesLine}
use Rattle.day_reading.specs.Readings.{StandsAt, GathersAt, HasTaken}
use Rattle.day_reading.proofs.GatherLaws.{gather_line, gather_end}
use Rattle.day_reading.proofs.StepLaws.{after_line, long_line}
use Rattle.day_reading.proofs.BoundLaws.{lines_on, lines_end, lines_fault}
use Rattle.day_reading.proofs.day_reader.DayReader.read_one.Goals as goal

pub returns-in-Ok-true-clause-reading : goal.returns-in-Ok-true-clause-reading
returns-in-Ok-true-clause-reading g c = λ limits late bytes given s.
    let self = c.args.self.now in
    let old = self.cutter in
    let new = c.advance.new.self in
    let before = ahead old (g.S.Source.left c.args.source.now) in
    let after = ahead new (g.S.Source.left c.advance.new.source) in
    let open_is = c.requires in
    let on = subst
    (λ o. StandsAt o before (line_number old) self.consumed self.intake.gate self.intake.sorter limits late bytes
    given) open_is s.stands in
    let none = self.unbroken open_is in
    let res : c.advance.result ≡ Ok true = cc in
    let cuts = subst (λ r. Cuts r before after (line_of new)) res (c.advance.ensures.cuts none) in
    let stands = subst (λ r. StandsCut r (line_number old) new) res (c.advance.ensures.stands none) in
    let took = c.advance.ensures.taken none res in
    let judged = c.take-end.ensures.takes limits late (sym s.line_limit) in
    let judged_line =
    subst (λ l. TakesLine limits late c.take-end.result c.number.result l self.intake.gate c.take-end.new.self.gate
    self.intake.sorter c.take-end.new.self.sorter) c.line.ensures judged in
    let judged_here =
    subst (λ n. TakesLine limits late c.take-end.result n (line_of new) self.intake.gate c.take-end.new.self.gate
    self.intake.sorter c.take-end.new.self.sorter) c.number.ensures judged_line in
    record {
      line_limit = c.take-end.ensures.limit ∙ s.line_limit;
      count = s.count;
      front = s.front;
      stands = after_line limits late bytes given before after (line_of new) (rest_of new) (line_number old)
          (line_number new) self.consumed c.add.new.self self.intake.gate c.take-end.new.self.gate self.intake.sorter
          c.take-end.new.self.sorter
          c.take-end.result on cuts took stands.0
          (subst (λ r. (taken : List ℕ) → HasTaken self.consumed taken → HasTaken c.add.new.self (taken ++ r))
          c.rest.ensures c.add.ensures.taken) judged_here;
    }

pub returns-in-Err-LongLine-clause-reading : goal.returns-in-Err-LongLine-clause-reading
returns-in-Err-LongLine-clause-reading g c = λ limits late bytes given s.
    let self = c.args.self.now in
    let old = self.cutter in
    let new = c.advance.new.self in
    let before = ahead old (g.S.Source.left c.args.source.now) in
    let after = ahead new (g.S.Source.left c.advance.new.source) in
    let open_is = c.requires in
    let on = subst
    (λ o. StandsAt o before (line_number old) self.consumed self.intake.gate self.intake.sorter limits late bytes
    given) open_is s.stands in
    let none = self.unbroken open_is in
    let res : c.advance.result ≡ Err (LongLine c.in-Err-LongLine.line) = cc in
    let cuts = subst (λ r. Cuts r before after (line_of new)) res (c.advance.ensures.cuts none) in
    let stands = subst (λ r. StandsCut r (line_number old) new) res (c.advance.ensures.stands none) in
    let long =
    long_line limits late bytes given before after (line_of new) (line_number old) c.in-Err-LongLine.line
    self.consumed self.intake.gate self.intake.sorter on cuts stands.0 in
    record {
      line_limit = s.line_limit;
      count = s.count;
      front = s.front;
      stands = subst
          (λ (e : Ending). StandsAt (Some e) after (line_number new) self.consumed self.intake.gate self.intake.sorter
          limits late bytes given) (sym c.refused.ensures) long;
    }

pub returns-in-Ok-true-clause-gathering : goal.returns-in-Ok-true-clause-gathering
returns-in-Ok-true-clause-gathering g c = λ limits late given s.
    let self = c.args.self.now in
    let old = self.cutter in
    let new = c.advance.new.self in
    let on = subst (λ o. GathersAt o (line_number old) self.intake.gate self.intake.sorter limits late given) c.requires
    s.stands in
    let res : c.advance.result ≡ Ok true = cc in
    let stands =
    subst (λ r. StandsCut r (line_number old) new) res (c.advance.ensures.stands (self.unbroken c.requires)) in
    let judged = c.take-end.ensures.takes limits late (sym s.line_limit) in
    let judged_line =
    subst (λ l. TakesLine limits late c.take-end.result c.number.result l self.intake.gate c.take-end.new.self.gate
    self.intake.sorter c.take-end.new.self.sorter) c.line.ensures judged in
    let judged_here =
    subst (λ n. TakesLine limits late c.take-end.result n (line_of new) self.intake.gate c.take-end.new.self.gate
    self.intake.sorter c.take-end.new.self.sorter) c.number.ensures judged_line in
    record {
      line_limit = c.take-end.ensures.limit ∙ s.line_limit;
      fit = s.fit;
      stands = gather_line limits late given c.take-end.result (line_of new) (line_number old)
          (line_number new) self.intake.gate c.take-end.new.self.gate self.intake.sorter c.take-end.new.self.sorter on
          stands.0 judged_here;
    }

pub returns-in-Err-LongLine-clause-gathering : goal.returns-in-Err-LongLine-clause-gathering
returns-in-Err-LongLine-clause-gathering g c = λ limits late given s.
    let self = c.args.self.now in
    let new = c.advance.new.self in
    let on = subst (λ o. GathersAt o (line_number self.cutter) self.intake.gate self.intake.sorter limits late given)
    c.requires s.stands in
    record {
      line_limit = s.line_limit;
      fit = s.fit;
      stands = subst
          (λ (e : Ending). GathersAt (Some e) (line_number new) self.intake.gate self.intake.sorter limits late given)
          (sym c.refused.ensures)
          (gather_end limits late given (line_number self.cutter) self.intake.gate self.intake.sorter on);
    }

pub returns-in-Ok-true-clause-read : goal.returns-in-Ok-true-clause-read
returns-in-Ok-true-clause-read g c = λ lines bytes s.
    let self = c.args.self.now in
    let old = self.cutter in
    let new = c.advance.new.self in
    let before = ahead old (g.S.Source.left c.args.source.now) in
    let after = ahead new (g.S.Source.left c.advance.new.source) in
    let none = self.unbroken c.requires in
    let res : c.advance.result ≡ Ok true = cc in
    let cuts = subst (λ r. Cuts r before after (line_of new)) res (c.advance.ensures.cuts none) in
    let stands = subst (λ r. StandsCut r (line_number old) new) res (c.advance.ensures.stands none) in
    let counts =
    subst (λ r. c.add.new.self.bytes ≡ self.consumed.bytes + length r) c.rest.ensures c.add.ensures.count in (
      c.take-end.ensures.limit
          ∙ s.0,
      lines_on before after (line_of new) (rest_of new) bytes self.consumed c.add.new.self (line_number old)
          (line_number new) s.1 cuts (c.advance.ensures.taken none res) counts stands.0,
    )

pub returns-in-Ok-false-clause-read : goal.returns-in-Ok-false-clause-read
returns-in-Ok-false-clause-read g c = λ lines bytes s.
    let self = c.args.self.now in
    let old = self.cutter in
    let new = c.advance.new.self in
    let before = ahead old (g.S.Source.left c.args.source.now) in
    let after = ahead new (g.S.Source.left c.advance.new.source) in
    let none = self.unbroken c.requires in
    let res : c.advance.result ≡ Ok false = cc in
    let cuts = subst (λ r. Cuts r before after (line_of new)) res (c.advance.ensures.cuts none) in
    let stands = subst (λ r. StandsCut r (line_number old) new) res (c.advance.ensures.stands none) in (
      s.0,
      lines_end before after (line_of new) bytes self.consumed (line_number old) (line_number new) s.1 cuts
          stands.0,
    )

pub returns-in-Err-LongLine-clause-read : goal.returns-in-Err-LongLine-clause-read
returns-in-Err-LongLine-clause-read g c = λ lines bytes s.
    let self = c.args.self.now in
    let old = self.cutter in
    let new = c.advance.new.self in
    let before = ahead old (g.S.Source.left c.args.source.now) in
    let after = ahead new (g.S.Source.left c.advance.new.source) in
    let none = self.unbroken c.requires in
    let f = LongLine c.in-Err-LongLine.line in
    let res : c.advance.result ≡ Err f = cc in
    let cuts = subst (λ r. Cuts r before after (line_of new)) res (c.advance.ensures.cuts none) in
    let stands = subst (λ r. StandsCut r (line_number old) new) res (c.advance.ensures.stands none) in (
      s.0,
      lines_fault f before after (line_of new) bytes self.consumed (line_number old) (line_number new) s.1 cuts
          stands.1,
    )

pub returns-in-Err-ReadFault-clause-read : goal.returns-in-Err-ReadFault-clause-read
returns-in-Err-ReadFault-clause-read g c = λ lines bytes s.
    let self = c.args.self.now in
    let old = self.cutter in
    let new = c.advance.new.self in
    let before = ahead old (g.S.Source.left c.args.source.now) in
    let after = ahead new (g.S.Source.left c.advance.new.source) in
    let none = self.unbroken c.requires in
    let res : c.advance.result ≡ Err ReadFault = cc in
    let cuts = subst (λ r. Cuts r before after (line_of new)) res (c.advance.ensures.cuts none) in
    let stands = subst (λ r. StandsCut r (line_number old) new) res (c.advance.ensures.stands none) in (
      s.0,
      lines_fault ReadFault before after (line_of new) bytes self.consumed (line_number old) (line_number new) s.1 cuts
          stands.0,
    )
