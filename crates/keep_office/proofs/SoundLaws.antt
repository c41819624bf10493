-- what puts leave fits together
use Rattle.std.proofs.Common.{◌≡◌, ℕ, ◌+◌, ◌<◌, ◌≤◌, ◌==◌, not, max, Bool, true, false, List, [], ◌∷◌, ◌++◌, map}
use Rattle.std.proofs.Common.{length, Option, Some, None, refl, sym, ap, subst, ◌∙◌, ⊎_elim, arith, rules}
use Rattle.std.specs.List.{AllByRecursion, filter}
use Rattle.std.specs.declared.cmp.Ordering.TheVariants.{Less}
use Rattle.std.specs.Ordering.{nat_cmp, ordering_then}
use Rattle.std.proofs.lemmas.Bool.{cases_Bool, or_cases, eqb-true, ne_eqb, cond-true, cond-false}
use Rattle.std.proofs.lemmas.List.{append-nil, map-append}
use Rattle.std.proofs.lemmas.List.Elements.{filter-append}
use Rattle.road_time.proofs.EachLaws.{joined, weakened, some_is}
use Rattle.road_time.specs.declared.day.SpentRow.{SpentRow}
use Rattle.road_time.specs.Rates.{Tariffs}
use Rattle.road_time.specs.Tariffs.{IsTariffs}
use Rattle.keep_office.specs.declared.kept.DayRecord.{DayRecord}
use Rattle.keep_office.specs.declared.kept.PastRecord.{PastRecord}
use Rattle.keep_office.specs.Office.{Office, row_cmp, is_kept, greatest_day, last_from, last_day, rows_on, sum_of_rows}
use Rattle.keep_office.specs.Office.{rows_off, IsPast, IsSound}
use Rattle.keep_office.specs.Kept.{IsDayPut, IsPastPut}
use Rattle.keep_office.proofs.ListFacts.{some_apart, self_same, nat_less, each_true, kept_more, kept_new, rise_joined}
use Rattle.keep_office.proofs.ListFacts.{rise_one, rise_none, all_pass, none_pass, pass_same, no_length}

-- the days are at most the greatest
days_most : (n : ℕ) (days : List DayRecord) → (n ≤ greatest_day n days)
    × AllByRecursion (λ r. r.day ≤ greatest_day n days) days
days_most n [] = (omega arith, tt)
days_most n (r ∷ rs) =
    let more = days_most (max n r.day) rs in
    let most : max n r.day ≤ greatest_day (max n r.day) rs = more.0 in
    (omega (arith, most), (omega (arith, most), more.1))

-- no kept day is after the last
days_last : (days : List DayRecord) (past : Option PastRecord) → AllByRecursion (λ r. r.day ≤ last_from days past) days
days_last [] past = tt
days_last (r ∷ rs) past = let m = days_most r.day rs in (m.0, m.1)

-- a kept day is at most what all kept days are at most
kept_below : (n : ℕ) (days : List DayRecord) (day : ℕ) → AllByRecursion (λ r. r.day ≤ n) days → is_kept days day ≡ true
    → day ≤ n
kept_below n [] day h e = absurd cc
kept_below n (r ∷ rs) day h e =
    ⊎_elim (λ is. (let same : r.day ≡ day = eqb-true r.day day is in omega (arith, h.0, same)))
    (λ later. kept_below n rs day h.1 later) (or_cases (r.day == day) (is_kept rs day) e)

-- the amounts of kept days and the others are all
rows_most : (n : ℕ) (days : List DayRecord) (rows : List SpentRow) → AllByRecursion (λ r. r.day ≤ n) days →
    AllByRecursion (λ r. r.day ≤ n) (rows_off days rows) → AllByRecursion (λ r. r.day ≤ n) rows
rows_most n days [] h off = tt
rows_most n days (r ∷ rs) h off =
    ⊎_elim
    (λ (yes : is_kept days r.day ≡ true). (
      kept_below n days r.day h yes,
      rows_most n days rs h
          (subst (AllByRecursion (λ r. r.day ≤ n))
          (cond-false (not (is_kept days r.day)) (r ∷ rows_off days rs) (rows_off days rs) (ap not yes)) off),
    ))
    (λ (away : is_kept days r.day ≡ false).
    (let more =
    subst (AllByRecursion (λ r. r.day ≤ n))
    (cond-true (not (is_kept days r.day)) (r ∷ rows_off days rs) (rows_off days rs) (ap not away)) off in
    (more.0, rows_most n days rs h more.1)))
    (cases_Bool (is_kept days r.day))

-- the last day is not before the day before a history's base
base_last : (days : List DayRecord) (p : PastRecord) → 70 ≤ p.base → AllByRecursion (λ r. p.base ≤ r.day) days →
    p.base ≤ last_from days (Some p) + 1
base_last [] p h all = omega arith
base_last (r ∷ rs) p h all = let m = days_most r.day rs in omega (arith, m.0, all.0)

-- no amount of a day that is not kept is after the last day
off_last : (days : List DayRecord) (rows : List SpentRow) (past : Option PastRecord) →
    (past ≡ None → length (rows_off days rows) ≡ 0) → ((p : PastRecord) → past ≡ Some p → IsPast p days rows) →
    AllByRecursion (λ r. r.day ≤ last_from days past) (rows_off days rows)
off_last days rows None none some = rw (no_length (rows_off days rows) (none refl)) tt
off_last days rows (Some p) none some =
    let fits = some p refl in
    let last = base_last days p fits.based fits.before in
    weakened (λ r. r.day < p.base) (λ r. r.day ≤ last_from days (Some p)) (λ r h. omega (arith, h, last))
    (rows_off days rows) fits.to

-- no amount is of a day after the last
pub rows_last : (o : Office) → IsSound o → AllByRecursion (λ r. r.day ≤ last_day o) o.rows
rows_last o s =
    rows_most (last_day o) o.days o.rows (days_last o.days o.past) (off_last o.days o.rows o.past s.no_past s.past)

-- days before a number are below it in order
days_below : (d : ℕ) (days : List DayRecord) → AllByRecursion (λ r. r.day < d) days →
    AllByRecursion (λ x. AllByRecursion (λ y. nat_cmp x y ≡ Less) (d ∷ [])) (map (λ r. r.day) days)
days_below d [] h = tt
days_below d (r ∷ rs) h = ((nat_less r.day d h.0, tt), days_below d rs h.1)

-- a row of an earlier day is below
row_below : (r s : SpentRow) → r.day < s.day → row_cmp r s ≡ Less
row_below r s h = ap (λ o. ordering_then o (ordering_then (nat_cmp r.vid s.vid) (nat_cmp r.xway s.xway)))
    (nat_less r.day s.day h)

-- rows of earlier days are below those of a day
rows_below : (d : ℕ) (rows more : List SpentRow) → AllByRecursion (λ r. r.day < d) rows →
    AllByRecursion (λ r. r.day ≡ d) more → AllByRecursion (λ x. AllByRecursion (λ y. row_cmp x y ≡ Less) more) rows
rows_below d [] more h g = tt
rows_below d (r ∷ rs) more h g = (
  weakened (λ s. s.day ≡ d) (λ s. row_cmp r s ≡ Less) (λ s e. row_below r s (omega (arith, h.0, e))) more g,
  rows_below d rs more h.1 g,
)

-- the amounts of earlier days come to what they came to
sums_kept : (d : ℕ) (rows more : List SpentRow) (days : List DayRecord) → AllByRecursion (λ r. r.day ≡ d) more →
    AllByRecursion (λ r. r.day < d) days → AllByRecursion (λ r. sum_of_rows (rows_on r.day rows) ≡ r.total) days →
    AllByRecursion (λ r. sum_of_rows (rows_on r.day (rows ++ more)) ≡ r.total) days
sums_kept d rows more [] g h sums = tt
sums_kept d rows more (r ∷ rs) g h sums =
    let off =
    none_pass (λ s. s.day == r.day) more
    (weakened (λ s. s.day ≡ d) (λ s. (s.day == r.day) ≡ false)
    (λ s e. ne_eqb s.day r.day (λ same. omega (arith, h.0, e, same))) more g) in
    let same : rows_on r.day (rows ++ more) ≡ rows_on r.day rows = filter-append (λ s. s.day == r.day) rows more
    ∙ ap (λ ys. rows_on r.day rows ++ ys) off ∙ append-nil (rows_on r.day rows) in
    (ap sum_of_rows same ∙ sums.0, sums_kept d rows more rs g h.1 sums.1)

-- the amounts of a new day are those that come with it
sum_new : (d : ℕ) (rows more : List SpentRow) → AllByRecursion (λ r. r.day < d) rows →
    AllByRecursion (λ r. r.day ≡ d) more → rows_on d (rows ++ more) ≡ more
sum_new d rows more h g =
    let off =
    none_pass (λ s. s.day == d) rows
    (weakened (λ s. s.day < d) (λ s. (s.day == d) ≡ false)
    (λ s lt. ne_eqb s.day d (λ same. omega (arith, lt, same))) rows h) in
    let all =
    all_pass (λ s. s.day == d) more
    (weakened (λ s. s.day ≡ d) (λ s. (s.day == d) ≡ true)
    (λ s e. subst (λ n. (n == d) ≡ true) (sym e) (self_same d)) more g) in
    filter-append (λ s. s.day == d) rows more ∙ ap (λ ys. ys ++ rows_on d more) off ∙ all

-- the amounts of days that are not kept stay
off_kept : (days : List DayRecord) (k : DayRecord) (rows more : List SpentRow) →
    AllByRecursion (λ r. r.day < k.day) rows → AllByRecursion (λ r. r.day ≡ k.day) more →
    rows_off (days ++ k ∷ []) (rows ++ more) ≡ rows_off days rows
off_kept days k rows more h g =
    let test : SpentRow → Bool = λ r. not (is_kept (days ++ k ∷ []) r.day) in
    let before =
    pass_same test (λ r. not (is_kept days r.day)) rows
    (weakened (λ r. r.day < k.day) (λ r. test r ≡ not (is_kept days r.day))
    (λ r lt. ap not (kept_more days k r.day (λ same. omega (arith, lt, same)))) rows h) in
    let off =
    none_pass test more
    (weakened (λ r. r.day ≡ k.day) (λ r. test r ≡ false) (λ r e. ap not (kept_new days k r.day e)) more g) in
    filter-append test rows more ∙ ap (λ ys. filter test rows ++ ys) off ∙ append-nil (filter test rows) ∙ before

-- a day after the last is not before a history's base
base_new : (days : List DayRecord) (p : PastRecord) (past : Option PastRecord) (day : ℕ) → past ≡ Some p → 70 ≤ p.base →
    AllByRecursion (λ r. p.base ≤ r.day) days → last_from days past < day → p.base ≤ day
base_new days p past day e h all later =
    let last : p.base ≤ last_from days past + 1 = rw e (base_last days p h all) in omega (arith, last, later)

-- a day put keeps an office sound
pub day_sound : (days : List DayRecord) (rows : List SpentRow) (past : Option PastRecord) (tariffs : Tariffs)
    (k : DayRecord) (more : List SpentRow) →
    IsSound (record { days = days; rows = rows; past = past; tariffs = tariffs }) → IsDayPut k more →
    last_from days past < k.day →
    IsSound (record { days = days ++ k ∷ []; rows = rows ++ more; past = past; tariffs = tariffs })
day_sound days rows past tariffs k more s put later =
    let earlier = weakened (λ r. r.day ≤ last_from days past) (λ r. r.day < k.day) (λ r h. omega (arith, h, later)) days
    (days_last days past) in
    let before = weakened (λ r. r.day ≤ last_from days past) (λ r. r.day < k.day) (λ r h. omega (arith, h, later)) rows
    (rows_last (record { days = days; rows = rows; past = past; tariffs = tariffs }) s) in
    let same = off_kept days k rows more before put.of_day in
    record {
      days_rise =
          rw (map-append (λ r. r.day) days (k ∷ []))
          (rise_joined nat_cmp (map (λ r. r.day) days) (k.day ∷ []) s.days_rise (rise_one nat_cmp k.day)
          (days_below k.day days earlier));
      from_one = joined (λ r. 1 ≤ r.day) days (k ∷ []) s.from_one (omega (arith, later), tt);
      rows_rise = rise_joined row_cmp rows more s.rows_rise put.rise (rows_below k.day rows more before put.of_day);
      above_zero = joined (λ r. 0 < r.tolls) rows more s.above_zero put.above_zero;
      sums = joined (λ r. sum_of_rows (rows_on r.day (rows ++ more)) ≡ r.total) days (k ∷ [])
          (sums_kept k.day rows more days put.of_day earlier s.sums)
          (ap sum_of_rows (sum_new k.day rows more before put.of_day) ∙ put.sum, tt);
      no_past = λ e. ap length same ∙ s.no_past e;
      past = λ p e. (let fits = s.past p e in record {
        based = fits.based;
        from = rw same fits.from;
        to = rw same fits.to;
        counted = ap length same ∙ fits.counted;
        before = joined (λ r. p.base ≤ r.day) days (k ∷ []) fits.before
            (base_new days p past k.day e fits.based fits.before later, tt);
      });
      tariffs = s.tariffs;
    }

-- a history put where no day is kept keeps an office sound
pub past_sound : (days : List DayRecord) (rows : List SpentRow) (past : Option PastRecord) (tariffs : Tariffs)
    (k : PastRecord) (more : List SpentRow) →
    IsSound (record { days = days; rows = rows; past = past; tariffs = tariffs }) → IsPastPut k more → days ≡ [] →
    past ≡ None → IsSound (record { days = days; rows = rows ++ more; past = Some k; tariffs = tariffs })
past_sound days rows past tariffs k more s put none new =
    let whole : (rs : List SpentRow) → rows_off days rs ≡ rs = λ rs. ap (λ ds. rows_off ds rs) none
    ∙ all_pass (λ r. not (is_kept [] r.day)) rs (each_true rs) in
    let empty : rows ≡ [] = no_length rows (sym (ap length (whole rows)) ∙ s.no_past new) in
    let all : rows ++ more ≡ more = ap (λ rs. rs ++ more) empty in
    let off : rows_off days (rows ++ more) ≡ more = whole (rows ++ more) ∙ all in
    record {
      days_rise = s.days_rise;
      from_one = s.from_one;
      rows_rise = rw all put.rise;
      above_zero = rw all put.above_zero;
      sums = subst (AllByRecursion (λ r. sum_of_rows (rows_on r.day (rows ++ more)) ≡ r.total)) (sym none) tt;
      no_past = λ e. absurd (some_apart k e);
      past = λ p e. (let same : k ≡ p = some_is k p e in subst (λ q. IsPast q days (rows ++ more)) same (record {
        based = put.based;
        from = rw off put.from;
        to = rw off put.to;
        counted = ap length off ∙ put.counted;
        before = subst (AllByRecursion (λ r. k.base ≤ r.day)) (sym none) tt;
      }));
      tariffs = s.tariffs;
    }

-- a tariff put keeps an office sound
pub tariff_sound : (days : List DayRecord) (rows : List SpentRow) (past : Option PastRecord) (tariffs after : Tariffs) →
    IsSound (record { days = days; rows = rows; past = past; tariffs = tariffs }) → IsTariffs after →
    IsSound (record { days = days; rows = rows; past = past; tariffs = after })
tariff_sound days rows past tariffs after s valid =
    record {
      days_rise = s.days_rise;
      from_one = s.from_one;
      rows_rise = s.rows_rise;
      above_zero = s.above_zero;
      sums =
          s.sums;
      no_past = s.no_past;
      past = s.past;
      tariffs = valid;
    }

-- nothing kept is sound
pub nothing_sound : (tariffs : Tariffs) → IsTariffs tariffs →
    IsSound (record { days = []; rows = []; past = None; tariffs = tariffs })
nothing_sound tariffs valid =
    record {
      days_rise = rise_none nat_cmp;
      from_one = tt;
      rows_rise = rise_none row_cmp;
      above_zero = tt;
      sums =
          tt;
      no_past = λ e. refl;
      past = λ p e. absurd (some_apart p (sym e));
      tariffs = valid;
    }

-- no tariffs are in order
pub no_tariffs : IsTariffs []
no_tariffs = record { in_order = rise_none nat_cmp; valid = search rules; own = search rules }

-- two offices by their parts
pub same_office : (ds es : List DayRecord) (rs ss : List SpentRow) (past : Option PastRecord) (ts us : Tariffs) →
    ds ≡ es → rs ≡ ss → ts ≡ us → ◌≡◌ {A = Office} (record { days = ds; rows = rs; past = past; tariffs = ts })
    (record { days = es; rows = ss; past = past; tariffs = us })
same_office ds es rs ss past ts us p q r = cc

-- the greatest of some days is no less than the first
pub greatest_least : (n : ℕ) (ds : List DayRecord) → n ≤ greatest_day n ds
greatest_least n ds = (days_most n ds).0

-- where the last day is 0 and days are counted from 1, none is kept
pub none_kept : (days : List DayRecord) (past : Option PastRecord) → last_from days past ≡ 0 →
    AllByRecursion (λ r. 1 ≤ r.day) days → days ≡ []
none_kept [] past e h = refl
none_kept (d ∷ ds) past e h = absurd (omega (arith, e, h.0, greatest_least d.day ds))
