use Rattle.std.proofs.Common.{◌≡◌, take}
use Rattle.day_floor.specs.Shares.{State}
use Rattle.day_floor.specs.Floors.{Setting, StandsFor}
use Rattle.day_import.specs.RoundRuns.{CanFeedAll, after_feeds}
use Rattle.day_import.proofs.work.feed_these.Given as goal

abbrev pub invariant-loop-tuple : goal.invariant-loop-tuple
invariant-loop-tuple g l = record {
  width : l.run.floor.inboxes.width ≡ l.fn.run.floor.inboxes.width;
  limits : l.run.floor.limits ≡ l.fn.run.floor.limits;
  tickets : l.run.tickets.items ≡ l.fn.run.tickets.items;
  fed : (e : Setting) (s : State) → StandsFor e l.fn.run.floor s → CanFeedAll l.fn.run.floor.limits s l.these →
      StandsFor e l.run.floor (after_feeds l.fn.run.floor.inboxes.width s (take l.tuple-index l.these));
}
