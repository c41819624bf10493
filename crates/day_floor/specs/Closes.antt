-- What is left of the tuples that are settled.
use Rattle.std.specs.Prelude.{ℕ, ◌≡◌, List, length}
use Rattle.road_time.specs.declared.road.Tuple.{Tuple}
use Rattle.road_time.specs.declared.road.Notice.{Notice}
use Rattle.road_time.specs.Sights.{moments, Sight}
use Rattle.road_time.specs.Tolls.{StretchTold}
use Rattle.road_time.specs.Day.{charges_by, total_by}
use Rattle.road_time.specs.Rows.{rows_from}
use Rattle.road_time.specs.Text.{out}
use Rattle.day_floor.specs.TextDigests.{IsDigestOf}
use Rattle.day_floor.specs.declared.settler.closing.Closed.{Closed}
use Rattle.day_floor.specs.Answers.{PaidHistory, AreNotices}

-- the rows and the total of the tuples' charges, the number of their notices, and the digest of the notices' text, if
-- it was taken
pub record IsClosed (closed : Closed) (day : ℕ) (finding : Sight → StretchTold) (number : ℕ) (history : PaidHistory)
    (before : List Tuple) : Type 0 where
  pub rows : closed.rows ≡ rows_from day (charges_by finding (moments before))
  pub total : closed.total ≡ total_by finding before
  pub told : List Notice
  pub told_are : AreNotices finding number history (moments before) told
  pub count : closed.notices ≡ length told
  pub digest : IsDigestOf closed.notices_digest (out told)
