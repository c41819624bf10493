use Rattle.std.proofs.Common.{subst, sym}
use Rattle.std.specs.Option.{IfSome}
use Rattle.road_time.specs.Ways.{way_of, worker_for}
use Rattle.road_time.specs.Tuples.{stretch_around}
use Rattle.day_floor.specs.Desks.{HasInboxRoom}
use Rattle.day_floor.proofs.Inbox.{on_ok}
use Rattle.day_floor.proofs.inboxes.make_rooms.Goals as goal

pub returns-in_ok-make_room-in-Some-clause-left : goal.returns-in_ok-make_room-in-Some-clause-left
returns-in_ok-make_room-in-Some-clause-left c =
    on_ok c.make_room-in-Some-2.result
    (subst (λ o. IfSome o
    (λ p. HasInboxRoom 2 c.make_room-in-Some-2.new.desks.items (worker_for (way_of (stretch_around p)) c.args.width)))
    (sym c.in-Some.is)
    (subst (HasInboxRoom 2 c.make_room-in-Some-2.new.desks.items) c.worker_of_place-other.ensures.is
    (c.make_room-in-Some-2.ensures.kept c.worker_of_place-other.result 2 c.in_ok-make_room-in-Some.ensures.room)))
