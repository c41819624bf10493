-- What is put of a history that was read.
use Rattle.std.proofs.Common.{◌≡◌, ℕ, ◌+◌, ◌<◌, ◌≤◌, ◌^◌, nat_lt, List, length, sym, subst, arith}
use Rattle.std.specs.List.{AllByRecursion, filter}
use Rattle.road_time.specs.declared.day.SpentRow.{SpentRow}
use Rattle.road_time.proofs.EachLaws as each
use Rattle.road_digest.specs.declared.digest.Digest.{Digest}
use Rattle.keep_office.specs.declared.kept.PastRecord.{PastRecord}
use Rattle.road_digest.specs.Digests.{digest_of}
use Rattle.keep_office.specs.Kept.{IsPastPut}
use Rattle.keep_office.specs.Office.{RowsRise}
use Rattle.keep_office.specs.PastReads.{past_kept, past_record}
use Rattle.day_past.specs.declared.amounts.Amounts.{Amounts}
use Rattle.day_past.specs.Rows.{rows_in, IsPastRow, HasRows}
use Rattle.road_time.proofs.RowLaws.{not_zero}

-- the record that is made is that of the bytes and the amounts
pub record_is : (base n m : ℕ) (digest : Digest) (bytes : List ℕ) (rows : List SpentRow) → n ≡ length bytes →
    digest ≡ digest_of bytes → m ≡ length (past_kept rows)
    → ◌≡◌ {A = PastRecord} (record { base = base; digest = digest; bytes = n; rows = m }) (past_record base bytes rows)
record_is base n m digest bytes rows size hash count = cc

-- amounts that were taken may be put
pub may_be_put : (a : Amounts) (base : ℕ) (rows kept : List SpentRow) (past : PastRecord) → HasRows a base rows →
    kept ≡ filter (λ r. nat_lt 0 r.tolls) (rows_in a)
    → RowsRise kept → length kept < 2 ^ 63 → 70 ≤ past.base → past.base ≡ base → past.bytes < 2 ^ 63 →
    past.rows ≡ length kept → IsPastPut past kept
may_be_put a base rows kept past h e rise few low same short count =
    let all = each.kept (IsPastRow base) (λ r. nat_lt 0 r.tolls) (rows_in a) h.valid in
    let valid : AllByRecursion (IsPastRow base) kept = subst (AllByRecursion (IsPastRow base)) (sym e) all in
    record {
      based = low;
      bytes = short;
      few = omega (arith, count, few);
      from = each.weakened (IsPastRow base) (λ r. past.base ≤ r.day + 69) (λ r v. omega (arith, same, v.0)) kept valid;
      to = each.weakened (IsPastRow base) (λ r. r.day < past.base) (λ r v. omega (arith, same, v.1)) kept valid;
      above_zero = subst (AllByRecursion (λ r. 0 < r.tolls)) (sym e) (not_zero (rows_in a));
      small = each.weakened (IsPastRow base) (λ r. r.tolls < 2 ^ 63) (λ r v. omega (arith, v.2)) kept valid;
      rise = rise;
      counted = sym count;
    }
