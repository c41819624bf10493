use Rattle.std.proofs.Common.{◌≤◌, ℕ, [], length, ap, ◌∙◌, arith}
use Rattle.ways_expressway.proofs.RunSteps.{on_refusal}
use Rattle.ways_audit.specs.Jobs.{HasStartedBy}
use Rattle.ways_audit.proofs.JobLaws.{none_started, tracked_long}
use Rattle.ways_audit.proofs.starts.start_all.Goals as goal

pub route-requires-clause-len : goal.route-requires-clause-len
route-requires-clause-len g c = ap length c.requires.tracked ∙ tracked_long [] c.args.tuples.now

pub returns-in_err-lists-clause-first : goal.returns-in_err-lists-clause-first
returns-in_err-lists-clause-first g c =
    let k = g.C.Crew in
    on_refusal {P = (workers : ℕ) × (workers ≤ c.args.width) × HasStartedBy k (k.jobs c.args.crew.now) c.args.crew.now
    c.args.tariffs.now c.args.tickets.now.items c.args.tuples.now c.args.width workers}
    c.from_residual.result (
      0,
      omega arith,
      none_started k.out k.number k.holds k.gave k.jobs c.args.crew.now c.args.tariffs.now
          c.args.tickets.now.items c.args.tuples.now c.args.width c.requires.idle c.requires.none,
    )
