use Rattle.std.proofs.Common.{◌≡◌, ◌++◌, List, map, refl, sym, subst}
use Rattle.std.specs.Result.{OnOk, OnErr}
use Rattle.ways_expressway.specs.declared.lane_event.LaneEvent.{LaneEvent as Event}
use Rattle.ways_expressway.specs.Findings.{shown, findings}
use Rattle.ways_expressway.specs.Stands.{StandsFor}
use Rattle.ways_expressway.specs.Ready.{IsReady}
use Rattle.ways_expressway.specs.Results.{AreFirst, IsResultOf}
use Rattle.ways_expressway.proofs.job.run.Goals as goal

pub returns : goal.returns
returns c =
    let job = c.args.job in
    let ran = c.run_each-result in
    let tariffs = job.carriage.tariffs in
    let fs = ran.new.found.items in
    subst (λ gs. IsResultOf job
    (record {
      worker = job.worker;
      number = job.number;
      carriage = ran.new.carriage;
      findings = gs;
      result =
          ran.result;
    })) (sym c.from_vec.ensures)
    (record {
      back = record {
        worker = refl;
        number = refl;
        tariffs = ran.ensures.tariffs;
        carried =
            subst (λ es. OnOk ran.result ((before : List Event) → IsReady job.carriage before es →
            StandsFor ran.new.carriage (before ++ es))) c.items-told.ensures ran.ensures.carried;
      };
      found = subst
          (λ es. OnOk ran.result ((before : List Event) → IsReady job.carriage before es →
          map shown fs ≡ findings before es tariffs)) c.items-told.ensures ran.ensures.found;
      first = subst
          (λ es. OnErr ran.result ((before : List Event) → IsReady job.carriage before es →
          AreFirst (map shown fs) (findings before es tariffs))) c.items-told.ensures ran.ensures.first;
    })
