use Rattle.std.proofs.Common.{ap}
use Rattle.road_time.specs.Day.{charges_by}
use Rattle.day_floor.proofs.StayLaws.{up_to_run, run_between, behind_run}
use Rattle.day_floor.proofs.settling_laws.fed_law.Goals as goal

pub returns : goal.returns
returns c =
    λ fed a count h. (
      up_to_run fed a count h,
      behind_run a count fed,
      run_between fed a count h,
      λ finding. ap (charges_by finding)
          (run_between fed a count h),
    )
