use Rattle.std.proofs.Common.{◌≡◌, ◌+◌, ◌++◌, ◌≤◌, length, List, ℕ, Option, Some, None, Ok, Err, true, false, refl}
use Rattle.std.proofs.Common.{subst, arith}
use Rattle.road_io.specs.Cutter.{ahead, line_number, line_of, rest_of, Cuts, StandsCut}
use Rattle.road_io.specs.declared.cutter.LineFault.TheVariants.{LongLine, ReadFault}
use Rattle.day_reading.specs.Readings.{HasTaken}
use Rattle.day_past.specs.declared.outcomes.PastCause.TheVariants as causes
use Rattle.day_past.specs.declared.judging.PastStop.{PastStop}
use Rattle.day_past.specs.declared.judging.PastStop.TheVariants.{Row}
use Rattle.day_reading.proofs.BoundLaws.{lines_on, lines_end, lines_fault}
use Rattle.road_time.specs.declared.day.Limits.{Limits}
use Rattle.day_past.specs.Readings.{JudgesRow, StopsPastAfter}
use Rattle.day_past.proofs.ReadLaws.{next_line, stopped_line, long_line, refused_steps, whole_end, judged_after}
use Rattle.day_past.proofs.past_reader.PastReader.read_one.Goals as goal

pub returns-in-None-clause-steps : goal.returns-in-None-clause-steps
returns-in-None-clause-steps g c = λ limits bytes same s.
    let self = c.args.self.now in
    let old = self.cutter in
    let new = c.advance.new.self in
    let before = ahead old (g.S.Source.left c.args.source.now) in
    let after = ahead new (g.S.Source.left c.advance.new.source) in
    let res : c.advance.result ≡ Ok true = cc in
    let cuts = subst (λ r. Cuts r before after (line_of new)) res (c.advance.ensures.cuts c.requires.unbroken) in
    let stands = subst (λ r. StandsCut r (line_number old) new) res (c.advance.ensures.stands c.requires.unbroken) in
    let took = c.advance.ensures.taken c.requires.unbroken res in
    let adds =
    subst (λ r. (taken : List ℕ) → HasTaken self.consumed taken → HasTaken c.add.new.self (taken ++ r))
    c.rest.ensures c.add.ensures.taken in
    let none : c.judge.result ≡ None = cc in
    let judged =
    subst (λ (r : Option PastStop). JudgesRow r c.args.base limits c.number-line.result c.line.result.now self.amounts
    c.judge.new.amounts) none (c.judge.ensures.judges limits same) in
    let judged_line =
    subst (λ l. JudgesRow None c.args.base limits c.number-line.result l self.amounts c.judge.new.amounts)
    c.line.ensures judged in
    let judged_here =
    subst (λ n. JudgesRow None c.args.base limits n (line_of new) self.amounts c.judge.new.amounts)
    c.number-line.ensures judged_line in
    next_line c.args.base limits bytes before after (line_of new) (rest_of new) (line_number old)
    (line_number new) self.consumed c.add.new.self self.amounts c.judge.new.amounts s cuts took stands.0 adds
    judged_here

pub returns-in-Some-clause-steps : goal.returns-in-Some-clause-steps
returns-in-Some-clause-steps g c = λ limits bytes same s.
    let self = c.args.self.now in
    let old = self.cutter in
    let new = c.advance.new.self in
    let before = ahead old (g.S.Source.left c.args.source.now) in
    let after = ahead new (g.S.Source.left c.advance.new.source) in
    let res : c.advance.result ≡ Ok true = cc in
    let cuts = subst (λ r. Cuts r before after (line_of new)) res (c.advance.ensures.cuts c.requires.unbroken) in
    let stands = subst (λ r. StandsCut r (line_number old) new) res (c.advance.ensures.stands c.requires.unbroken) in
    let some : c.judge.result ≡ Some c.in-Some.stop = cc in
    let judged =
    subst (λ (r : Option PastStop). JudgesRow r c.args.base limits c.number-line.result c.line.result.now self.amounts
    c.judge.new.amounts) some (c.judge.ensures.judges limits same) in
    let judged_line =
    subst (λ l. JudgesRow (Some c.in-Some.stop) c.args.base limits c.number-line.result l self.amounts
    c.judge.new.amounts) c.line.ensures judged in
    let judged_here =
    subst (λ n. JudgesRow (Some c.in-Some.stop) c.args.base limits n (line_of new) self.amounts c.judge.new.amounts)
    c.number-line.ensures judged_line in
    stopped_line c.args.base limits bytes before after (g.S.Source.left c.advance.new.source) (line_of new)
    (line_number old) (line_number new) self.consumed self.amounts c.judge.new.amounts _ c.in-Some.stop s cuts stands.0
    judged_here

pub returns-in-Ok-false-clause-steps : goal.returns-in-Ok-false-clause-steps
returns-in-Ok-false-clause-steps g c = λ limits bytes same s.
    let self = c.args.self.now in
    let new = c.advance.new.self in
    let before = ahead self.cutter (g.S.Source.left c.args.source.now) in
    let after = ahead new (g.S.Source.left c.advance.new.source) in
    let res : c.advance.result ≡ Ok false = cc in
    let cuts = subst (λ r. Cuts r before after (line_of new)) res (c.advance.ensures.cuts c.requires.unbroken) in
    whole_end c.args.base limits bytes before new (g.S.Source.left c.advance.new.source) (line_of new)
    (line_number self.cutter) self.consumed self.amounts s cuts

pub returns-in-Err-LongLine-clause-steps : goal.returns-in-Err-LongLine-clause-steps
returns-in-Err-LongLine-clause-steps g c = λ limits bytes same s.
    let self = c.args.self.now in
    let new = c.advance.new.self in
    let before = ahead self.cutter (g.S.Source.left c.args.source.now) in
    let after = ahead new (g.S.Source.left c.advance.new.source) in
    let res : c.advance.result ≡ Err (LongLine c.in-Err-LongLine.line) = cc in
    let cuts = subst (λ r. Cuts r before after (line_of new)) res (c.advance.ensures.cuts c.requires.unbroken) in
    let stands =
    subst (λ r. StandsCut r (line_number self.cutter) new) res (c.advance.ensures.stands c.requires.unbroken) in
    let stop : c.refused.result ≡ Row c.in-Err-LongLine.line causes.Long =
    cc (c.refused.ensures, c.in-Err-LongLine.line-is) in
    refused_steps c.refused.result c.in-Err-LongLine.line causes.Long _ c.args.base limits
    (g.S.Source.left c.advance.new.source) bytes stop
    (long_line c.args.base limits bytes before after (line_of new) (line_number self.cutter) c.in-Err-LongLine.line
    self.consumed self.amounts s cuts stands.0)

pub returns-in-None-clause-read : goal.returns-in-None-clause-read
returns-in-None-clause-read g c = λ bytes s.
    let self = c.args.self.now in
    let old = self.cutter in
    let new = c.advance.new.self in
    let before = ahead old (g.S.Source.left c.args.source.now) in
    let after = ahead new (g.S.Source.left c.advance.new.source) in
    let res : c.advance.result ≡ Ok true = cc in
    let cuts = subst (λ r. Cuts r before after (line_of new)) res (c.advance.ensures.cuts c.requires.unbroken) in
    let stands = subst (λ r. StandsCut r (line_number old) new) res (c.advance.ensures.stands c.requires.unbroken) in
    let counts =
    subst (λ r. c.add.new.self.bytes ≡ self.consumed.bytes + length r) c.rest.ensures c.add.ensures.count in
    lines_on before after (line_of new) (rest_of new) bytes self.consumed c.add.new.self (line_number old)
    (line_number new) s cuts (c.advance.ensures.taken c.requires.unbroken res) counts stands.0

pub returns-in-Some-clause-read : goal.returns-in-Some-clause-read
returns-in-Some-clause-read g c = λ bytes s.
    let self = c.args.self.now in
    let old = self.cutter in
    let new = c.advance.new.self in
    let before = ahead old (g.S.Source.left c.args.source.now) in
    let after = ahead new (g.S.Source.left c.advance.new.source) in
    let res : c.advance.result ≡ Ok true = cc in
    let cuts = subst (λ r. Cuts r before after (line_of new)) res (c.advance.ensures.cuts c.requires.unbroken) in
    let stands = subst (λ r. StandsCut r (line_number old) new) res (c.advance.ensures.stands c.requires.unbroken) in
    let counts =
    subst (λ r. c.add.new.self.bytes ≡ self.consumed.bytes + length r) c.rest.ensures c.add.ensures.count in
    lines_on before after (line_of new) (rest_of new) bytes self.consumed c.add.new.self (line_number old)
    (line_number new) s cuts (c.advance.ensures.taken c.requires.unbroken res) counts stands.0

pub returns-in-Ok-false-clause-read : goal.returns-in-Ok-false-clause-read
returns-in-Ok-false-clause-read g c = λ bytes s.
    let self = c.args.self.now in
    let old = self.cutter in
    let new = c.advance.new.self in
    let before = ahead old (g.S.Source.left c.args.source.now) in
    let after = ahead new (g.S.Source.left c.advance.new.source) in
    let res : c.advance.result ≡ Ok false = cc in
    let cuts = subst (λ r. Cuts r before after (line_of new)) res (c.advance.ensures.cuts c.requires.unbroken) in
    let stands =
    subst (λ r. StandsCut r (line_number self.cutter) new) res (c.advance.ensures.stands c.requires.unbroken) in
    lines_end before after (line_of new) bytes self.consumed (line_number self.cutter) (line_number new) s cuts stands.0

pub returns-in-Err-LongLine-clause-read : goal.returns-in-Err-LongLine-clause-read
returns-in-Err-LongLine-clause-read g c = λ bytes s.
    let self = c.args.self.now in
    let old = self.cutter in
    let new = c.advance.new.self in
    let before = ahead old (g.S.Source.left c.args.source.now) in
    let after = ahead new (g.S.Source.left c.advance.new.source) in
    let res : c.advance.result ≡ Err (LongLine c.in-Err-LongLine.line) = cc in
    let cuts = subst (λ r. Cuts r before after (line_of new)) res (c.advance.ensures.cuts c.requires.unbroken) in
    let stands =
    subst (λ r. StandsCut r (line_number self.cutter) new) res (c.advance.ensures.stands c.requires.unbroken) in
    lines_fault (LongLine c.in-Err-LongLine.line) before after (line_of new) bytes self.consumed
    (line_number self.cutter)
    (line_number new) s cuts stands.1

pub returns-in-Err-ReadFault-clause-read : goal.returns-in-Err-ReadFault-clause-read
returns-in-Err-ReadFault-clause-read g c = λ bytes s.
    let self = c.args.self.now in
    let old = self.cutter in
    let new = c.advance.new.self in
    let before = ahead old (g.S.Source.left c.args.source.now) in
    let after = ahead new (g.S.Source.left c.advance.new.source) in
    let res : c.advance.result ≡ Err ReadFault = cc in
    let cuts = subst (λ r. Cuts r before after (line_of new)) res (c.advance.ensures.cuts c.requires.unbroken) in
    let stands =
    subst (λ r. StandsCut r (line_number self.cutter) new) res (c.advance.ensures.stands c.requires.unbroken) in
    lines_fault ReadFault before after (line_of new) bytes self.consumed (line_number self.cutter)
    (line_number new) s cuts stands.0

pub returns-in-Some-clause-after : goal.returns-in-Some-clause-after
returns-in-Some-clause-after g c =
    let new = c.advance.new.self in
    let limits : Limits = record { lines = 0; vehicles = 0; backlog = 0; past = c.args.limit } in
    let some : c.judge.result ≡ Some c.in-Some.stop = cc in
    let judged =
    subst (λ (r : Option PastStop). JudgesRow r c.args.base limits c.number-line.result c.line.result.now
    c.args.self.now.amounts c.judge.new.amounts) some (c.judge.ensures.judges limits refl) in
    subst (λ n. StopsPastAfter c.in-Some.stop n) c.number-line.ensures
    (judged_after c.in-Some.stop c.args.base limits c.number-line.result c.line.result.now c.args.self.now.amounts
    c.judge.new.amounts judged)

pub returns-in-Err-LongLine-clause-after : goal.returns-in-Err-LongLine-clause-after
returns-in-Err-LongLine-clause-after g c =
    let self = c.args.self.now in
    let new = c.advance.new.self in
    let res : c.advance.result ≡ Err (LongLine c.in-Err-LongLine.line) = cc in
    let stands =
    subst (λ r. StandsCut r (line_number self.cutter) new) res (c.advance.ensures.stands c.requires.unbroken) in
    let stop : Row c.in-Err-LongLine.line causes.Long ≡ c.refused.result =
    cc (c.refused.ensures, c.in-Err-LongLine.line-is) in
    let after : line_number new ≤ c.in-Err-LongLine.line = omega (arith, stands.0, stands.1) in
    subst (λ (s : PastStop). StopsPastAfter s (line_number new)) stop after
