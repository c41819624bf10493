use Rattle.std.proofs.Common.{◌≡◌, take}
use Rattle.road_time.specs.declared.road.Notice.{Notice}
use Rattle.ways_audit.specs.Seconds.{still, count_in}
use Rattle.ways_audit.proofs.still_to_come.StillToCome.new.Given as goal

abbrev pub invariant-loop-notice : goal.invariant-loop-notice
invariant-loop-notice l = (x : Notice) → still l.counts.entries x ≡ count_in (take l.notice-index l.notices) x
