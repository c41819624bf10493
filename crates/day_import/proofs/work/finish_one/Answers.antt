use Rattle.std.proofs.Common.{rules, map}
use Rattle.ways_expressway.specs.Findings.{shown}
use Rattle.day_floor.specs.Steps.{after_back}
use Rattle.ways_expressway.proofs.RunSteps.{on_refusal}
use Rattle.ways_expressway.proofs.ShapeLaws.{ok_map}
use Rattle.day_import.proofs.FinishRoundLaws.{finish_ready, finish_stopped, finish_may, finish_came, finish_runs, well}
use Rattle.day_import.proofs.work.finish_one.Goals as goal

pub finish_among-done-requires : goal.finish_among-done-requires
finish_among-done-requires g c =
    let k = g.C.Crew in
    let (e, told, answered, s, h) = c.requires.runs in
    finish_ready k.out k.number k.holds k.gave k.exact k.jobs k.answers e told answered c.args.run.now c.args.crew.now s
    h c.args.place c.in-Some.ticket c.requires.within c.in-Some.ensures.value

pub returns-then-is_err-clause-stopped : goal.returns-then-is_err-clause-stopped
returns-then-is_err-clause-stopped g c e told answered s h day first =
    let k = g.C.Crew in
    let v = c.finish_among-done.ensures in
    finish_stopped k.out k.number k.holds k.gave k.exact k.jobs k.answers e told answered c.args.run.now c.args.crew.now
    s h c.args.place c.in-Some.ticket c.requires.within c.in-Some.ensures.value
    c.finish_among-done.new.crew c.finish_among-done.result v.out v.shape v.jobs v.numbers
    (record { floor = c.args.run.now.floor; tickets = c.remove.new.self }) c.in-Some.ensures.items day first

pub back-requires : goal.back-requires
back-requires g c =
    let k = g.C.Crew in
    let v = c.finish_among-done.ensures in
    let ok = well c.finish_among-done.result.result (search rules) in
    let (e, told, answered, s, h) = c.requires.runs in (
      e,
      s,
      h.stands,
      finish_may k.out k.number k.holds k.gave k.exact k.jobs k.answers e told answered c.args.run.now c.args.crew.now s
          h c.args.place c.in-Some.ticket c.requires.within c.in-Some.ensures.value
          c.finish_among-done.new.crew c.finish_among-done.result v.out v.shape v.jobs v.numbers ok,
    )

pub returns-clause-came : goal.returns-clause-came
returns-clause-came g c =
    let k = g.C.Crew in
    let v = c.finish_among-done.ensures in
    let d = c.finish_among-done.result in
    let ok = well d.result (search rules) in
    ok_map c.back.result
    (λ back e told answered s h.
    let may =
    finish_may k.out k.number k.holds k.gave k.exact k.jobs k.answers e told answered c.args.run.now c.args.crew.now
    s h c.args.place c.in-Some.ticket c.requires.within c.in-Some.ensures.value
    c.finish_among-done.new.crew d v.out v.shape v.jobs v.numbers ok in (
      after_back s d.worker (map shown d.findings),
      finish_came k.out k.number k.holds k.gave k.exact k.jobs k.answers e told answered c.args.run.now c.args.crew.now
          s h c.args.place c.in-Some.ticket c.requires.within c.in-Some.ensures.value
          c.finish_among-done.new.crew d v.out v.shape v.jobs v.numbers ok,
      finish_runs k.out k.number k.holds k.gave k.exact k.jobs k.answers e told answered c.args.run.now c.args.crew.now
          s h c.args.place c.in-Some.ticket c.requires.within c.in-Some.ensures.value
          c.finish_among-done.new.crew d v.out v.shape v.jobs v.numbers ok
          (record { floor = c.back.new.self; tickets = c.remove.new.self }) c.in-Some.ensures.items c.back.ensures.width
          c.back.ensures.limits (back e s h.stands may) v.run v.answers,
    ))
    c.back.ensures.back

pub returns-clause-stopped : goal.returns-clause-stopped
returns-clause-stopped g c =
    let k = g.C.Crew in
    let v = c.finish_among-done.ensures in
    on_refusal c.back.result
    (λ e told answered s h day first.
    finish_stopped k.out k.number k.holds k.gave k.exact k.jobs k.answers e told answered c.args.run.now c.args.crew.now
    s h c.args.place c.in-Some.ticket c.requires.within c.in-Some.ensures.value
    c.finish_among-done.new.crew c.finish_among-done.result v.out v.shape v.jobs v.numbers
    (record { floor = c.back.new.self; tickets = c.remove.new.self }) c.in-Some.ensures.items day first)
