use Rattle.std.proofs.Common.{take}
use Rattle.std.specs.HashMap.{get}
use Rattle.road_time.specs.Tuples.{same_place}
use Rattle.road_rules.proofs.MeetLaws.{AreFirsts}
use Rattle.road_rules.proofs.blocked.has_meeting.Given as goal

abbrev pub invariant-loop-stop : goal.invariant-loop-stop
invariant-loop-stop l = AreFirsts l.stretch (get same_place l.firsts) (take l.stop-index l.stops)
