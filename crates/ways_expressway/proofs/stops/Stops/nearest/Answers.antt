use Rattle.std.proofs.Common.{◌≡◌, take, arith, sym, ap, ◌∙◌}
use Rattle.std.specs.List.{find, filter_map}
use Rattle.road_time.specs.Ways.{downstream_of}
use Rattle.ways_expressway.specs.Near.{stood_in}
use Rattle.road_time.proofs.NearLaws.{five, near_off, near_not, near_here}
use Rattle.ways_expressway.proofs.StoodLaws.{near_in_is}
use Rattle.ways_expressway.proofs.stops.Stops.nearest.Goals as goal
use Rattle.ways_expressway.proofs.stops.Stops.nearest.Goals.{in-Some+else-stood_last_minute, in_default}

pub returns-then-stood_last_minute-clause-kept : goal.returns-then-stood_last_minute-clause-kept
returns-then-stood_last_minute-clause-kept c =
    let k = c.args.stretch in
    sym (near_here (downstream_of k.seg k.dir) (λ s. stood_in c.args.self.now (record k { seg = s })) c.loop-i.i
    (omega arith) c.loop-i.invariant
    c.in-Some.seg (sym c.in-Some.is ∙ c.downstream.ensures)
    (sym c.stood_last_minute.ensures.kept ∙ c.if-stood_last_minute.true))

pub returns-then-stood_last_minute-clause-exact : goal.returns-then-stood_last_minute-clause-exact
returns-then-stood_last_minute-clause-exact c = λ es st.
    let k = c.args.stretch in
    sym (near_here (downstream_of k.seg k.dir) (λ s. stood_in c.args.self.now (record k { seg = s })) c.loop-i.i
    (omega arith) c.loop-i.invariant
    c.in-Some.seg (sym c.in-Some.is ∙ c.downstream.ensures)
    (sym c.stood_last_minute.ensures.kept ∙ c.if-stood_last_minute.true))
    ∙ near_in_is c.args.self.now es st k

pub loop-i-preserved : goal.loop-i-preserved
loop-i-preserved c =
    let k = c.args.stretch in
    elim c.match-downstream.branch [
      | in-Some+else-stood_last_minute w ↦
          near_not (downstream_of k.seg k.dir) (λ s. stood_in c.args.self.now (record k { seg = s })) c.loop-i.i
          c.loop-i-test.true c.loop-i.invariant
          w.in-Some.seg (sym w.in-Some.is ∙ c.downstream.ensures)
          (sym w.stood_last_minute.ensures.kept ∙ w.if-stood_last_minute.false)
      | in_default w ↦
          near_off (downstream_of k.seg k.dir) (λ s. stood_in c.args.self.now (record k { seg = s })) c.loop-i.i
          c.loop-i-test.true c.loop-i.invariant
          (sym w.in_default.is ∙ c.downstream.ensures)
    ]

pub returns-clause-kept : goal.returns-clause-kept
returns-clause-kept c =
    let k = c.args.stretch in
    let e : 5 ≡ c.loop-i.i = omega arith in
    sym (ap (λ i. find (λ s. stood_in c.args.self.now (record k { seg = s }))
    (filter_map (downstream_of k.seg k.dir) (take i five))) e ∙ c.loop-i.invariant)

pub returns-clause-exact : goal.returns-clause-exact
returns-clause-exact c = λ es st.
    let k = c.args.stretch in
    let e : 5 ≡ c.loop-i.i = omega arith in
    sym (ap (λ i. find (λ s. stood_in c.args.self.now (record k { seg = s }))
    (filter_map (downstream_of k.seg k.dir) (take i five))) e ∙ c.loop-i.invariant)
    ∙ near_in_is c.args.self.now es st k
