use Rattle.std.proofs.Common.{◌-◌, arith, sym, ◌∙◌}
use Rattle.road_time.specs.Ways.{downstream_of}
use Rattle.road_time.specs.Stops.{stood}
use Rattle.road_time.specs.Tuples.{reports}
use Rattle.road_rules.specs.Halts.{halting, halts_of}
use Rattle.road_time.proofs.NearLaws.{near_off, near_not, near_here}
use Rattle.road_rules.proofs.blocked.near_by.Goals as goal
use Rattle.road_rules.proofs.blocked.near_by.Goals.{in-Some+in_ok-stood_by+else-branch, in_default}

pub returns-then-branch : goal.returns-then-branch
returns-then-branch c =
    let k = c.args.stretch in
    sym (near_here (downstream_of k.seg k.dir)
    (λ s. stood (halting (halts_of (reports c.args.gathered.now.tuples.now))) (c.args.in_minute - 1)
    (record k { seg = s })) c.loop-i.i (omega arith) c.loop-i.invariant
    c.in-Some.seg (sym c.in-Some.is ∙ c.downstream.ensures) (sym c.in_ok-stood_by.ensures ∙ c.if-branch.true))

pub loop-i-preserved : goal.loop-i-preserved
loop-i-preserved c =
    let k = c.args.stretch in
    elim c.match-downstream.branch [
      | in-Some+in_ok-stood_by+else-branch w ↦
          near_not (downstream_of k.seg k.dir)
          (λ s. stood (halting (halts_of (reports c.args.gathered.now.tuples.now))) (c.args.in_minute - 1)
          (record k { seg = s })) c.loop-i.i c.loop-i-test.true c.loop-i.invariant
          w.in-Some.seg (sym w.in-Some.is ∙ c.downstream.ensures) (sym w.in_ok-stood_by.ensures ∙ w.if-branch.false)
      | in_default w ↦
          near_off (downstream_of k.seg k.dir)
          (λ s. stood (halting (halts_of (reports c.args.gathered.now.tuples.now))) (c.args.in_minute - 1)
          (record k { seg = s })) c.loop-i.i c.loop-i-test.true c.loop-i.invariant
          (sym w.in_default.is ∙ c.downstream.ensures)
    ]
