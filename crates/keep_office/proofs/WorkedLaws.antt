-- what the worked rows put may be put
use Rattle.std.proofs.Common.{◌≡◌, ℕ, [], ◌∷◌, None, refl, sym, arith}
use Rattle.std.specs.List.Sorted.{IsStrictlySortedBy}
use Rattle.std.specs.Ordering.{nat_cmp}
use Rattle.road_time.specs.declared.day.SpentRow.{SpentRow}
use Rattle.road_digest.specs.declared.digest.Digest.{Digest}
use Rattle.keep_office.specs.declared.kept.OldRecord.{OldRecord}
use Rattle.keep_office.specs.declared.kept.PastRecord.{PastRecord}
use Rattle.keep_office.specs.Office.{row_cmp, RowsRise, IsSound}
use Rattle.keep_office.specs.Kept.{IsPastPut, old_office}
use Rattle.keep_office.proofs.SoundLaws.{no_tariffs}
use Rattle.keep_office.proofs.ListFacts.{rise_one, rise_none, some_apart}

-- an amount of vehicle 7
abbrev pub amount : ℕ → ℕ → SpentRow
amount day tolls = record { day = day; vid = 7; xway = 0; tolls = tolls }

-- the two amounts are in order
two_rise : RowsRise (amount 31 28 ∷ amount 99 5 ∷ [])
unfolding IsStrictlySortedBy
two_rise = ((refl, tt), (tt, tt))

-- the history of vehicle 7
pub history_fits : (p : PastRecord) (a b : SpentRow) (d : Digest) →
    p ≡ record { base = 100; digest = d; bytes = 18; rows = 2 } → a ≡ amount 31 28 → b ≡ amount 99 5 →
    IsPastPut p (a ∷ b ∷ [])
history_fits p a b d e f g =
    rw (e, f, g) (record {
      based = omega arith;
      bytes = omega arith;
      few = omega arith;
      from = (omega arith, (omega arith, tt));
      to = (omega arith, (omega arith, tt));
      above_zero = (omega arith, (omega arith, tt));
      small = (omega arith, (omega arith, tt));
      rise = two_rise;
      counted = refl;
    })

-- day 100 without a tuple
pub old_day_sound : (r : OldRecord) (d : Digest) →
    r ≡ record { day = 100; digest = d; bytes = 0; tuples = 0; notices = 0; notices_digest = d; total = 0 } →
    IsSound (old_office (r ∷ []) [] None)
old_day_sound r d e =
    rw e (record {
      days_rise = rise_one nat_cmp 100;
      from_one = (omega arith, tt);
      rows_rise = rise_none row_cmp;
      above_zero = tt;
      sums = (refl, tt);
      no_past = λ none. refl;
      past = λ p some. absurd (some_apart p (sym some));
      tariffs = no_tariffs;
    })
