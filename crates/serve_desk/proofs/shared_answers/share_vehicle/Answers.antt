use Rattle.std.proofs.Common.{◌≡◌, ◌∙◌, List, [], inl, refl, ap, arith}
use Rattle.road_time.specs.declared.day.SpentRow.{SpentRow}
use Rattle.serve_requests.specs.Lists.{vehicle_body}
use Rattle.serve_desk.specs.Answers.{wire_of, good, vehicle_reply}
use Rattle.serve_desk.proofs.SendLaws.{not_risen}
use Rattle.serve_desk.proofs.DayLaws.{risen_failed}
use Rattle.serve_desk.proofs.SharedLaws.{read_of, refused_of, fails_of, some_of}
use Rattle.serve_desk.proofs.shared_answers.share_vehicle.Goals as goal

pub returns-in-Ok-clause-shared : goal.returns-in-Ok-clause-shared
returns-in-Ok-clause-shared g c =
    let l = c.args.link.now in
    let n = c.send_made.new.link in
    let vid = c.args.vid in
    let from = c.args.from in
    let to = c.args.to in
    read_of g.K.Keeper.told g.K.Keeper.faults c.in-Ok.rows c.in-Ok.ensures.shared
    (λ rows. good (vehicle_body vid from to c.as_slice.result.now)) (λ o. vehicle_reply o vid from to)
    (wire_of (g.L.Link.left l) (g.L.Link.plan l) (g.L.Link.written l) (g.L.Link.room l))
    (wire_of (g.L.Link.left n) (g.L.Link.plan n) (g.L.Link.written n) (g.L.Link.room n))
    c.send_made.result (λ o is. ap (λ rows. good (vehicle_body vid from to rows)) (c.as_slice.ensures.value ∙ is))
    (c.send_made.ensures.sent (vehicle_body vid from to c.as_slice.result.now) c.vehicle_body-body.ensures)

pub returns-in-Ok-clause-some : goal.returns-in-Ok-clause-some
returns-in-Ok-clause-some g c =
    let body = vehicle_body c.args.vid c.args.from c.args.to c.as_slice.result.now in
    (c.as_slice.result.now, inl (c.send_made.ensures.sent body c.vehicle_body-body.ensures))

pub returns-in-Ok-clause-unavailable : goal.returns-in-Ok-clause-unavailable
returns-in-Ok-clause-unavailable g c =
    λ is. absurd (c.send_made.ensures.unavailable (λ e. (let same : 200 ≡ 503 = e in omega (arith, same))) is)

pub returns-in-Ok-clause-failed : goal.returns-in-Ok-clause-failed
returns-in-Ok-clause-failed g c = λ rose. not_risen _ _ (c.in-Ok.ensures.cause.still refl) rose

pub returns-in-Err-clause-shared : goal.returns-in-Err-clause-shared
returns-in-Err-clause-shared g c =
    let l = c.args.link.now in
    let n = c.send_refusal.new.link in
    let vid = c.args.vid in
    let from = c.args.from in
    let to = c.args.to in
    refused_of g.K.Keeper.told g.K.Keeper.faults c.in-Err.fault c.in-Err.ensures.shared
    (λ o. vehicle_reply o vid from to)
    (wire_of (g.L.Link.left l) (g.L.Link.plan l) (g.L.Link.written l) (g.L.Link.room l))
    (wire_of (g.L.Link.left n) (g.L.Link.plan n) (g.L.Link.written n) (g.L.Link.room n))
    c.send_refusal.result c.send_refusal.ensures.sent

pub returns-in-Err-clause-some : goal.returns-in-Err-clause-some
returns-in-Err-clause-some g c =
    let l = c.args.link.now in
    let n = c.send_refusal.new.link in
    let vid = c.args.vid in
    let from = c.args.from in
    let to = c.args.to in
    some_of {T = List SpentRow} g.K.Keeper.faults (λ rows. good (vehicle_body vid from to rows)) [] c.in-Err.fault
    (fails_of g.K.Keeper.told g.K.Keeper.faults c.in-Err.fault c.in-Err.ensures.shared)
    (wire_of (g.L.Link.left l) (g.L.Link.plan l) (g.L.Link.written l) (g.L.Link.room l))
    (wire_of (g.L.Link.left n) (g.L.Link.plan n) (g.L.Link.written n) (g.L.Link.room n))
    c.send_refusal.result
    (c.send_refusal.ensures.sent (good (vehicle_body vid from to [])))

pub returns-in-Err-clause-failed : goal.returns-in-Err-clause-failed
returns-in-Err-clause-failed g c =
    λ rose. c.send_refusal.ensures.told (risen_failed _ _ c.in-Err.fault c.in-Err.ensures.cause rose)
