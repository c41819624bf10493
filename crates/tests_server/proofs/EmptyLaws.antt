-- What holds of a day and a history without amounts, and of ears that accepted nothing.
use Rattle.std.proofs.Common.{◌≡◌, ℕ, suc, List, [], ◌∷◌, refl, arith}
use Rattle.std.specs.Prelude.{sum_by}
use Rattle.std.specs.List.{All}
use Rattle.std.proofs.lemmas.List.Sums.{sum_by-cons}
use Rattle.road_digest.specs.declared.digest.Digest.{Digest}
use Rattle.keep_office.specs.declared.kept.DayRecord.{DayRecord}
use Rattle.keep_office.specs.declared.kept.PastRecord.{PastRecord}
use Rattle.keep_office.specs.Office.{row_cmp}
use Rattle.keep_office.specs.Kept.{IsDayPut, IsPastPut}
use Rattle.keep_office.proofs.ListFacts.{rise_none}

-- day 100 without a tuple may be put
pub day_fits : (r : DayRecord) (d : Digest)
    → r ≡ record {
      day = 100;
      digest = d;
      bytes = 0;
      tuples = 0;
      notices = 0;
      notices_digest = d;
      tariffs = d;
      total =
          0;
    }
    → IsDayPut r []
day_fits r d e =
    rw e (record {
      bytes = omega arith;
      tuples = omega arith;
      notices = omega arith;
      total = omega arith;
      of_day = tt;
      above_zero = tt;
      rise = rise_none row_cmp;
      sum = refl;
    })

-- a history of no amounts before day 100 may be put
pub past_fits : (p : PastRecord) (d : Digest)
    → p ≡ record { base = 100; digest = d; bytes = 0; rows = 0 } → IsPastPut p []
past_fits p d e =
    rw e (record {
      based = omega arith;
      bytes = omega arith;
      few = omega arith;
      from = tt;
      to = tt;
      above_zero = tt;
      small = tt;
      rise = rise_none row_cmp;
      counted = refl;
    })

-- ears that accepted nothing accepted nothing in all
pub fresh_sum : {N : Type 0} (f h : N → ℕ) (ears : List N)
    → All (λ ear. (f ear ≡ 0) × (h ear ≡ 0)) ears → sum_by f ears ≡ 0
fresh_sum f h [] all = refl
fresh_sum f h (ear ∷ ears) all =
    let first = (all 0 ear (omega arith)).0 in
    let rest = fresh_sum f h ears (λ k d below. all (suc k) d (omega (arith, below))) in
    omega (arith, first, rest, sum_by-cons f ear ears)
