use Rattle.std.proofs.Common.{◌≡◌, ◌-◌, arith, sym, ap, ◌∙◌}
use Rattle.road_time.specs.Tuples.{reports}
use Rattle.road_time.specs.Ways.{downstream_of}
use Rattle.road_time.specs.Stops.{stood}
use Rattle.road_time.specs.Tolls.{stops_at}
use Rattle.road_time.proofs.NearLaws.{near_off, near_not, near_here}
use Rattle.road_rules.proofs.near.plain_near.Goals as goal
use Rattle.road_rules.proofs.near.plain_near.Goals.{in-Some+in_ok-stood+else-branch, in_default}

pub returns-then-branch : goal.returns-then-branch
returns-then-branch c =
    let k = c.args.stretch in
    let before : c.args.in_minute - 1 ≡ c.saturating_sub-before.result =
    omega (arith, c.saturating_sub-before.ensures) in
    sym (near_here (downstream_of k.seg k.dir)
    (λ s. stood (stops_at (reports c.args.tuples.now)) (c.args.in_minute - 1) (record k { seg = s })) c.loop-i.i
    (omega arith) c.loop-i.invariant
    c.in-Some.seg (sym c.in-Some.is ∙ c.segment_ahead.ensures)
    (ap (λ m. stood (stops_at (reports c.args.tuples.now)) m (record k { seg = c.in-Some.seg })) before
    ∙ sym c.in_ok-stood.ensures ∙ c.if-branch.true))

pub loop-i-preserved : goal.loop-i-preserved
loop-i-preserved c =
    let k = c.args.stretch in
    let before : c.args.in_minute - 1 ≡ c.saturating_sub-before.result =
    omega (arith, c.saturating_sub-before.ensures) in
    elim c.match-segment_ahead.branch [
      | in-Some+in_ok-stood+else-branch w ↦
          near_not (downstream_of k.seg k.dir)
          (λ s. stood (stops_at (reports c.args.tuples.now)) (c.args.in_minute - 1) (record k { seg = s }))
          c.loop-i.i c.loop-i-test.true c.loop-i.invariant
          w.in-Some.seg (sym w.in-Some.is ∙ c.segment_ahead.ensures)
          (ap (λ m. stood (stops_at (reports c.args.tuples.now)) m (record k { seg = w.in-Some.seg })) before
          ∙ sym w.in_ok-stood.ensures ∙ w.if-branch.false)
      | in_default w ↦
          near_off (downstream_of k.seg k.dir)
          (λ s. stood (stops_at (reports c.args.tuples.now)) (c.args.in_minute - 1) (record k { seg = s }))
          c.loop-i.i c.loop-i-test.true c.loop-i.invariant
          (sym w.in_default.is ∙ c.segment_ahead.ensures)
    ]
