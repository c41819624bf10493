-- What the worked rows put may be put.
use Rattle.std.proofs.Common.{◌≡◌, [], ◌∷◌, refl, arith}
use Rattle.road_time.specs.declared.day.SpentRow.{SpentRow}
use Rattle.road_digest.specs.declared.digest.Digest.{Digest}
use Rattle.keep_office.specs.declared.kept.DayRecord.{DayRecord}
use Rattle.keep_office.specs.Office.{row_cmp}
use Rattle.keep_office.specs.Kept.{IsDayPut}
use Rattle.keep_office.proofs.ListFacts.{rise_one}

-- the day on which vehicle 100 was charged 2
pub charged_fits : (r : DayRecord) (a : SpentRow) (d : Digest) →
    r ≡ record { day = 100; digest = d; bytes = 0; tuples = 0; notices = 0; notices_digest = d; tariffs = d; total = 2 }
    → a ≡ record { day = 100; vid = 100; xway = 0; tolls = 2 } → IsDayPut r (a ∷ [])
charged_fits r a d e f =
    rw (e, f) (record {
      bytes = omega arith;
      tuples = omega arith;
      notices = omega arith;
      total = omega arith;
      of_day = (refl, tt);
      above_zero = (omega arith, tt);
      rise = rise_one row_cmp _;
      sum = refl;
    })
