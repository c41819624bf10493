use Rattle.std.proofs.Common.{◌≡◌, ◌∙◌, Bool, Result, Ok, Err, true, false, subst}
use Rattle.std.specs.Prelude.{IfOk, ◌≤◌, None}
use Rattle.road_io.specs.Cutter.{line_number, fault_of}
use Rattle.day_past.specs.declared.judging.PastStop.{PastStop}
use Rattle.day_past.specs.declared.judging.PastStop.TheVariants.{ReadFault}
use Rattle.day_past.specs.Readings.{GathersRows, Steps}
use Rattle.day_past.proofs.ReadLaws.{ends_whole}
use Rattle.day_past.proofs.past_reader.PastReader.read_all.Goals as goal

-- a line that was read is no fault
more_no_fault : (r : Result Bool PastStop) → r ≡ Ok true → r ≡ Err ReadFault → ⊥
more_no_fault r e f = cc

pub reading-preserved : goal.reading-preserved
reading-preserved g c =
    let new = c.read_one.new.self in
    let left = g.S.Source.left c.read_one.new.source in
    let inv = c.reading.invariant in
    let base = c.args.base in
    let res : c.read_one.result ≡ Ok true = cc in
    record {
      few = subst (λ r. IfOk r (λ more. line_number new.cutter ≤ c.args.limit)) res c.read_one.ensures.few;
      unbroken = subst (λ r. IfOk r (λ more. fault_of new.cutter ≡ None)) res c.read_one.ensures.unbroken;
      reading =
          λ limits bytes same s. subst (λ r. Steps r new base limits left bytes) res
          (c.read_one.ensures.steps limits bytes same (inv.reading limits bytes same s));
      gathers =
          λ h. subst (λ r. IfOk r (λ more. GathersRows new.amounts base)) res
          (c.read_one.ensures.gathers (inv.gathers h));
      read = λ bytes s. c.read_one.ensures.read bytes (inv.read bytes s);
      same = c.read_one.ensures.same ∙ inv.same;
      stands = c.read_one.ensures.source.still (more_no_fault c.read_one.result res) ∙ inv.stands;
      still = λ never. c.read_one.ensures.still (inv.still never);
    }

pub returns-in-Ok-false-clause-ends : goal.returns-in-Ok-false-clause-ends
returns-in-Ok-false-clause-ends g c = λ limits bytes same s.
    let res : c.read_one.result ≡ Ok false = cc in
    let before = c.reading.invariant.reading limits bytes same s in
    ends_whole c.read_one.result c.read_one.new.self c.args.base limits (g.S.Source.left c.read_one.new.source) bytes
    res (c.read_one.ensures.steps limits bytes same before)

pub returns-in-Ok-false-clause-read : goal.returns-in-Ok-false-clause-read
returns-in-Ok-false-clause-read g c = λ bytes s. c.read_one.ensures.read bytes (c.reading.invariant.read bytes s)

pub returns-in-Err-clause-read : goal.returns-in-Err-clause-read
returns-in-Err-clause-read g c = λ bytes s. c.read_one.ensures.read bytes (c.reading.invariant.read bytes s)
