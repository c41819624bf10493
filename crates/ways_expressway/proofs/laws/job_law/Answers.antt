use Rattle.ways_expressway.proofs.RunLaws.{may_run, carried}
use Rattle.ways_expressway.proofs.JobLaws.{findings_split}
use Rattle.ways_expressway.proofs.PositionLaws.{events_rise, events_below}
use Rattle.ways_expressway.proofs.RunSteps.{can_parts}
use Rattle.road_time.specs.declared.day.TheConstants.Limits.{DAY}
use Rattle.ways_expressway.proofs.laws.job_law.Goals as goal

pub returns-clause-run : goal.returns-clause-run
returns-clause-run c = λ day limits fit worker width. may_run worker width day fit.in_order

pub returns-clause-order : goal.returns-clause-order
returns-clause-order c = λ day worker width. (events_rise day worker width, events_below day worker width)

pub returns-clause-jobs : goal.returns-clause-jobs
returns-clause-jobs c = λ before es later tariffs h. findings_split before es later tariffs h

pub returns-clause-fit : goal.returns-clause-fit
returns-clause-fit c = λ day limits fit worker width. carried day limits fit worker width

pub returns-clause-ready : goal.returns-clause-ready
returns-clause-ready c =
    λ day fit worker width. record {
      order = may_run worker width day fit.in_order;
      day =
          carried day DAY fit worker width;
    }

pub returns-clause-parts : goal.returns-clause-parts
returns-clause-parts c = λ before es later can. can_parts before es later can
