use Rattle.day_floor.proofs.Inbox.{put_seen, put_both}
use Rattle.day_floor.proofs.inboxes.put_events.Goals as goal

pub put-requires-in-Some-2-clause-room : goal.put-requires-in-Some-2-clause-room
put-requires-in-Some-2-clause-room c = c.put-in-Some.ensures.kept c.args.worker 1 c.requires.seen_room

pub returns-in-None-clause-put : goal.returns-in-None-clause-put
returns-in-None-clause-put c = λ w share st d at.
    put_seen c.args.width c.args.position c.args.report.now c.args.tracked w d share c.args.worker
    c.requires.worker c.in-None.is (rw c.seen-event.ensures at (c.put.ensures.put w share st d at))

pub returns-in-Some-clause-put : goal.returns-in-Some-clause-put
returns-in-Some-clause-put c = λ w share st d at.
    put_both c.args.width c.args.position c.args.report.now c.args.tracked w d share c.args.worker
    c.worker_of_place-other.result c.in-Some.place
    c.requires.worker c.worker_of_place-other.ensures.is c.in-Some.is
    (rw (c.seen-event.ensures, c.leave.ensures) at
    (c.put-in-Some-2.ensures.put w _ (c.put-in-Some.ensures.put w share st) d at))
