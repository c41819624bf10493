use Rattle.std.proofs.Common.{◌∙◌, ap, rules, arith}
use Rattle.day_reading.specs.declared.consumed.Consumed.{Consumed}
use Rattle.day_reading.proofs.day_reader.DayReader.next.Goals as goal

pub loop-tuple-preserved : goal.loop-tuple-preserved
loop-tuple-preserved g c =
    let inv = c.loop-tuple.invariant in
    let left = g.S.Source.left c.loop-tuple.source in
    record {
      open_is = search (rules, c.read_one.ensures.end, c.in_default-read_one.is);
      limit = search (rules, c.read_one.ensures.limit, inv.limit, c.in_default-next_on.ensures.none);
      reading = search (rules, c.read_one.ensures.reading, inv.reading, c.in_default-next_on.ensures.none);
      gathering = search (rules, c.read_one.ensures.gathering, inv.gathering, c.in_default-next_on.ensures.none);
      read = λ lines bytes s. c.read_one.ensures.read lines bytes
          (c.in_default-next_on.ensures.read lines left bytes (inv.read lines bytes s));
      digested = c.read_one.ensures.digested
          ∙ (ap (λ (k : Consumed). k.digested) c.in_default-next_on.ensures.consumed ∙ inv.digested);
      same = c.read_one.ensures.same ∙ inv.same;
      stands = c.read_one.ensures.source.still (λ e. let no : ⊥ = cc in no) ∙ inv.stands;
      still = λ never. c.read_one.ensures.still (inv.still never);
    }

pub returns-in-Some-clause-read : goal.returns-in-Some-clause-read
returns-in-Some-clause-read g c =
    λ lines bytes s. c.drain.ensures.read lines (g.S.Source.left c.args.source.now) bytes s

pub returns-in-Some-next_on-clause-read : goal.returns-in-Some-next_on-clause-read
returns-in-Some-next_on-clause-read g c =
    λ lines bytes s. c.in-Some-next_on.ensures.read lines (g.S.Source.left c.loop-tuple.source) bytes
    (c.loop-tuple.invariant.read lines bytes s)

pub returns-in-Some-read_one-clause-read : goal.returns-in-Some-read_one-clause-read
returns-in-Some-read_one-clause-read g c = λ lines bytes s.
    let on = c.in_default-next_on.ensures.read lines (g.S.Source.left c.loop-tuple.source) bytes
    (c.loop-tuple.invariant.read lines bytes s) in
    c.drain-in-Some-read_one.ensures.read lines (g.S.Source.left c.read_one.new.source) bytes
    (c.read_one.ensures.read lines bytes on)

pub returns-in-Some-clause-digested : goal.returns-in-Some-clause-digested
returns-in-Some-clause-digested g c = ap (λ (k : Consumed). k.digested) c.drain.ensures.consumed

pub returns-in-Some-next_on-clause-digested : goal.returns-in-Some-next_on-clause-digested
returns-in-Some-next_on-clause-digested g c =
    ap (λ (k : Consumed). k.digested) c.in-Some-next_on.ensures.consumed ∙ c.loop-tuple.invariant.digested

pub returns-in-Some-read_one-clause-digested : goal.returns-in-Some-read_one-clause-digested
returns-in-Some-read_one-clause-digested g c =
    ap (λ (k : Consumed). k.digested) c.drain-in-Some-read_one.ensures.consumed
    ∙ (c.read_one.ensures.digested
    ∙ (ap (λ (k : Consumed). k.digested) c.in_default-next_on.ensures.consumed ∙ c.loop-tuple.invariant.digested))
