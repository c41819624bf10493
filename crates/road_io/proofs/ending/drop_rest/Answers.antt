use Rattle.std.proofs.Common.{◌-◌, ◌≤◌, rules, arith}
use Rattle.road_io.proofs.EndLaws.{within_on}
use Rattle.road_io.proofs.ending.drop_rest.Goals as goal

pub loop-room-preserved : goal.loop-room-preserved
loop-room-preserved g c =
    let n = c.in-Ok-read_retrying.count in
    let room = c.loop-room.room in
    let few : n ≤ room = search rules in
    record {
      few = omega (arith, c.loop-room.invariant.few);
      within = within_on _ _ _ (1048576 - room) n (1048576 - (room - n)) _ c.loop-room.invariant.within
          c.in-Ok-read_retrying.ensures.bytes.0 (search rules) (omega (arith, few, c.loop-room.invariant.few));
    }
