-- Laws of what is said of a kept day.
use Rattle.std.proofs.Common.{◌≡◌, ◌≢◌, ◌∙◌, ℕ, Bool, true, List, [], length, Option, Some, None, Result, Err, refl, sym, ap}
use Rattle.std.proofs.Common.{subst}
use Rattle.std.specs.Str.{bytes_eq}
use Rattle.std.proofs.lemmas.Bool.{cond-true}
use Rattle.road_time.specs.declared.day.Limits.{Limits}
use Rattle.keep_office.specs.Kept.{seal_of}
use Rattle.road_time.specs.declared.road.Tuple.{Tuple}
use Rattle.road_time.specs.declared.road.Notice.{Notice}
use Rattle.road_time.specs.declared.day.SpentRow.{SpentRow}
use Rattle.road_time.specs.Form.{Fault}
use Rattle.road_time.specs.Sights.{moments}
use Rattle.road_time.specs.Tolls.{StretchTold}
use Rattle.road_time.specs.Day.{given, sum_of}
use Rattle.road_time.specs.Text.{out}
use Rattle.road_time.specs.History.{paid}
use Rattle.tuples_text.specs.Causes.{cause_of}
use Rattle.road_io.specs.Plans.{NeverFails}
use Rattle.road_digest.specs.declared.digest.Digest.{Digest}
use Rattle.road_digest.specs.Digests.{digest_of}
use Rattle.keep_office.specs.declared.kept.DayRecord.{DayRecord}
use Rattle.keep_office.specs.Office.{Office, rows_between}
use Rattle.day_reading.specs.declared.whole_day.DayEnd.{DayEnd}
use Rattle.day_reading.specs.declared.whole_day.DayEnd.TheVariants.{Whole}
use Rattle.day_reading.specs.declared.whole_day.DayEnd.TheVariants as end
use Rattle.day_reading.specs.Days.{EndsReading, LeavesBehind}
use Rattle.day_floor.specs.Closes.{IsClosed}
use Rattle.day_floor.specs.TextDigests.{IsDigestOf}
use Rattle.day_floor.proofs.AnswerLaws.{notices_exact}
use Rattle.day_import.specs.declared.fault.DayFault.{DayFault}
use Rattle.day_import.specs.declared.fault.DayFault.TheVariants as stop
use Rattle.day_import.specs.declared.outcomes.AnsweredDay.{AnsweredDay}
use Rattle.day_import.specs.declared.day.WorkedDay.{WorkedDay}
use Rattle.day_import.specs.DayFaults.{IsCountedAhead}
use Rattle.day_import.specs.Faults.{FaultsBeside}
use Rattle.day_import.specs.Imports.{Work, work_of, work_by, worked_sums}
use Rattle.day_import.specs.Stages.{run_sums}
use Rattle.day_import.specs.WorkedDays.{AreRightFor}
use Rattle.day_verify.specs.declared.verdict.Verdict.{Verdict}
use Rattle.day_verify.specs.declared.verdict.Verdict.TheVariants.{Verified, UnsoundAmount, UnsoundRecord, Differs}
use Rattle.day_verify.specs.declared.verdict.Verdict.TheVariants.{Refused, ReadFault, KeeperFault}
use Rattle.day_verify.specs.Verdicts.{whole_verdict, read_verdict, kept_verdict, sealed_verdict}
use Rattle.day_verify.specs.Verdicts.{Says, Finishes, stopped_verdict, refused_verdict, LeavesRead, IsOfEnd}
use Rattle.keep_office.specs.declared.kept.KeepFault.{KeepFault}
use Rattle.keep_office.specs.declared.kept.KeepFault.TheVariants as keeping
use Rattle.day_import.specs.Stages.{IsReadWhole}

module _ (number : ℕ) (kept : DayRecord) (found : List (ℕ × StretchTold)) (bytes : List ℕ) (day : List Tuple)
    (o : Office) (run : WorkedDay) (count : run.tuples ≡ length day)
    (closed : IsClosed run.closed number (given found) number (Some (paid o.rows)) day) where
  -- the notices of a day that was worked
  told_is : closed.told ≡ (work_by found number day o).told
  told_is = notices_exact (given found) number (paid o.rows) (moments day) closed.told closed.told_are

  -- what it comes to is what its work does
  sums_are : (n : ℕ) → n ≡ length bytes → run_sums n run ≡ worked_sums (work_by found number day o) bytes day
  sums_are n size =
      let many : run.closed.notices ≡ length (work_by found number day o).told = closed.count ∙ ap length told_is in
      let sum : run.closed.total ≡ sum_of (work_by found number day o).charged = closed.total in
      cc

  -- the digest of its text is that of its notices
  text_is : (text : Digest) → run.closed.notices_digest ≡ Some text →
      text ≡ digest_of (out (work_by found number day o).told)
  text_is text taken =
      let of_told : text ≡ digest_of (out closed.told) =
      subst (λ (d : Option Digest). IsDigestOf d (out closed.told)) taken closed.digest in
      of_told ∙ ap (λ (ns : List Notice). digest_of (out ns)) told_is

  -- what is said of a day that was worked is what is to be said by its work
  pub finish_says : (read : DayEnd) (refused : Option (ℕ × Fault)) (said : Verdict) → EndsReading read bytes refused →
      Finishes number kept read run o said
      → Says (read_verdict kept (work_by found number day o) number bytes day refused o) said
  finish_says (Whole n None) refused said e h = absurd h
  finish_says (Whole n (Some digest)) refused said e h =
      let work : Work = work_by found number day o in
      let rows : List SpentRow = rows_between o number number in
      let by_digest =
      subst (λ (d : Digest). Says (whole_verdict kept d rows (run_sums n run) h.0 run.closed.rows) said) e.2 h.2 in
      let by_sums =
      subst (λ (s : AnsweredDay). Says (whole_verdict kept (digest_of bytes) rows s h.0 run.closed.rows) said)
      (sums_are n e.1) by_digest in
      let by_text =
      subst (λ (t : Digest). Says (whole_verdict kept (digest_of bytes) rows (worked_sums work bytes day) t
      run.closed.rows) said) (text_is h.0 h.1) by_sums in
      let by_rows =
      subst (λ (rs : List SpentRow). Says (whole_verdict kept (digest_of bytes) rows (worked_sums work bytes day)
      (digest_of (out work.told)) rs) said) closed.rows by_text in
      subst (λ (r : Option (ℕ × Fault)). Says (read_verdict kept work number bytes day r o) said) (sym e.0) by_rows
  finish_says (end.Refused line cause) refused said e h =
      let fault = e.0 in
      subst (λ (r : Option (ℕ × Fault)). Says (read_verdict kept (work_by found number day o) number bytes day r o) said)
      (sym e.1) (subst (Says (Refused line (cause_of fault))) (sym h) (ap (Refused line) (sym e.2)))

-- the work by findings that are right for a day is its work by the rules
pub right_work : (number : ℕ) (found : List (ℕ × StretchTold)) (day : List Tuple) (o : Office) →
    AreRightFor found day o.tariffs number → work_by found number day o ≡ work_of number day o
right_work number found day o right =
    let told = right.notices_are (paid o.rows) in
    let charged = right.charges_are in
    cc

-- where the work of a day was stopped, a fault or want of memory is told
pub stops_says : (v : Verdict) (s : DayFault) → Says v (stopped_verdict s)
stops_says v stop.ReadFault = tt
stops_says v stop.WriteFault = tt
stops_says v stop.KeeperFault = tt
stops_says v stop.NoMemory = tt

-- it ends by its source's fault where it was stopped by that
read_stopped : (fault : DayFault) → stopped_verdict fault ≡ ReadFault → fault ≡ stop.ReadFault
read_stopped stop.ReadFault e = refl
read_stopped stop.WriteFault e = let bad : ⊥ = cc in absurd bad
read_stopped stop.KeeperFault e = let bad : ⊥ = cc in absurd bad
read_stopped stop.NoMemory e = let bad : ⊥ = cc in absurd bad

one_stop : {T : Type 0} (r : Result T DayFault) (a b : DayFault) → r ≡ Err a → r ≡ Err b → a ≡ b
one_stop r a b here there = cc

-- the source of a day whose work was stopped, and not by its sink
pub source_stopped : {T : Type 0} (fault : DayFault) (said : Verdict) (r : Result T DayFault) (before now : ℕ)
    (plan : Option (ℕ → Bool)) (left : Type 0) → said ≡ stopped_verdict fault → r ≡ Err fault →
    r ≢ Err stop.WriteFault → IsCountedAhead stop.ReadFault before now (NeverFails plan) left r →
    FaultsBeside before now plan (said ≡ ReadFault) (said ≢ KeeperFault)
source_stopped fault said r before now plan left is here unwritten s =
    record {
      later = s.later;
      cause = λ e. s.cause (here ∙ ap Err (read_stopped fault (sym is ∙ e)));
      still = λ unread quiet. s.still (λ e. unread (is ∙ ap stopped_verdict (one_stop r fault stop.ReadFault here e)))
          unwritten (λ e. quiet (is ∙ ap stopped_verdict (one_stop r fault stop.KeeperFault here e)));
      sure = λ never e. (s.sure never).0 (here ∙ ap Err (read_stopped fault (sym is ∙ e)));
    }

-- a day that was charged under the tariffs of now is read
pub sealed_says : (kept : DayRecord) (number late : ℕ) (limits : Limits) (bytes : List ℕ) (o : Office) (now : Digest)
    (said : Verdict) → now ≡ seal_of o.tariffs → bytes_eq now.bytes kept.tariffs.bytes ≡ true →
    Says (kept_verdict kept number late limits bytes o) said → Says (sealed_verdict kept number late limits bytes o) said
sealed_says kept number late limits bytes o now said is same h =
    let own : bytes_eq (seal_of o.tariffs).bytes kept.tariffs.bytes ≡ true =
    subst (λ (d : Digest). bytes_eq d.bytes kept.tariffs.bytes ≡ true) is same in
    subst (λ (v : Verdict). Says v said) (sym (cond-true (bytes_eq (seal_of o.tariffs).bytes kept.tariffs.bytes) _ _ own)) h

-- a reading that came to its end leaves nothing
leaves_none : (read : DayEnd) (refused : Option (ℕ × Fault)) (bytes : List ℕ) (left : Option (List ℕ)) →
    EndsReading read bytes refused → LeavesBehind read bytes left → IsReadWhole read
    → (refused ≡ None) × (left ≡ Some [])
leaves_none (Whole n digest) refused bytes left e h of = (e.0, h)
leaves_none (end.Refused line cause) refused bytes left e h of = absurd of

-- what the reading of a day left, by what is said
pub leaves_read : (read : DayEnd) (refused : Option (ℕ × Fault)) (bytes : List ℕ) (left : Option (List ℕ))
    (said : Verdict) → EndsReading read bytes refused → LeavesBehind read bytes left → IsOfEnd read said →
    LeavesRead said refused bytes left
leaves_read read refused bytes left (Verified kept amounts) e h of = leaves_none read refused bytes left e h of
leaves_read read refused bytes left (UnsoundAmount p) e h of = leaves_none read refused bytes left e h of
leaves_read read refused bytes left (UnsoundRecord a) e h of = leaves_none read refused bytes left e h of
leaves_read read refused bytes left (Differs kept found) e h of = leaves_none read refused bytes left e h of
leaves_read read refused bytes left (Refused line cause) e h of =
    (subst (λ (r : DayEnd). EndsReading r bytes refused) of e, subst (λ (r : DayEnd). LeavesBehind r bytes left) of h)
leaves_read read refused bytes left _ e h of = tt

-- nothing is said of what is left where the work of a day was stopped, or its keeper refused
pub stops_leaves : (s : DayFault) (refused : Option (ℕ × Fault)) (bytes : List ℕ) (left : Option (List ℕ)) →
    LeavesRead (stopped_verdict s) refused bytes left
stops_leaves stop.ReadFault refused bytes left = tt
stops_leaves stop.WriteFault refused bytes left = tt
stops_leaves stop.KeeperFault refused bytes left = tt
stops_leaves stop.NoMemory refused bytes left = tt

pub refused_leaves : (fault : KeepFault) (refused : Option (ℕ × Fault)) (bytes : List ℕ) (left : Option (List ℕ)) →
    LeavesRead (refused_verdict fault) refused bytes left
refused_leaves keeping.Failed refused bytes left = tt
refused_leaves keeping.NoMemory refused bytes left = tt
