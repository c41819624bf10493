use Rattle.std.proofs.Common.{◌≡◌, ◌∙◌, Some, Ok, Err, [], nat_le, inl, sym, ap, subst, arith}
use Rattle.std.proofs.lemmas.Bool.{cond-true, le-leb}
use Rattle.road_time.specs.Reads.{reads}
use Rattle.keep_office.specs.Office.{last_day}
use Rattle.road_io.proofs.SinkLaws.{appends_none}
use Rattle.day_import.specs.Imports.{DayAnswer, import_read, import_merged, unless_passed, unwritten, Does, Merges}
use Rattle.day_import.specs.declared.outcomes.Outcome.TheVariants.{DayPassed}
use Rattle.day_import.proofs.FinishLaws.{new_is_read, read_after}
use Rattle.keep_office.proofs.CallLaws.{reads_same, reads_ok}
use Rattle.day_import.proofs.JobLaws.{refused_started, refused_planned, none_started, refused_none, none_published}
use Rattle.day_import.specs.Asked.{AsksBy}
use Rattle.day_import.specs.declared.outcomes.Outcome.{Outcome}
use Rattle.day_import.proofs.AskedLaws.{one_before, call_passed, call_refused}
use Rattle.day_import.proofs.importing.import_new.Goals as goal

pub returns-else-last-terms-clause-does : goal.returns-else-last-terms-clause-does
returns-else-last-terms-clause-does g c = λ exact bytes o left told.
    let before = g.K.Keeper.told c.args.keeper.now in
    let after = g.K.Keeper.told c.last_day.new.self in
    let kept : after ≡ Some o =
    reads_same before after c.last_day.result (λ p last. last ≡ last_day p) c.last_day.ensures.state ∙ told in
    let ok : c.last_day.result ≡ Ok c.in-Ok.last = cc in
    let last : c.in-Ok.last ≡ last_day o =
    reads_ok before after c.last_day.result (λ p last. last ≡ last_day p) o c.in-Ok.last c.last_day.ensures.state
    told ok in
    let read = reads bytes c.args.terms.limits c.args.terms.late in
    let done = c.import_later.ensures.does exact bytes o left kept in
    subst (λ (a : DayAnswer). Does g.K.Keeper.refuses a o (g.O.Sink.written c.args.sink.now)
    (g.O.Sink.written c.import_later.new.sink) (g.K.Keeper.told c.import_later.new.keeper) c.import_later.result)
    (sym (new_is_read (import_read c.args.terms.day bytes read.tuples read.refused o) c.args.terms.day o
    (omega (arith, c.if-last-terms.false, last)))) done

pub returns-else-last-terms-clause-merged : goal.returns-else-last-terms-clause-merged
returns-else-last-terms-clause-merged g c = λ bytes o left told.
    let before = g.K.Keeper.told c.args.keeper.now in
    let after = g.K.Keeper.told c.last_day.new.self in
    let kept : after ≡ Some o =
    reads_same before after c.last_day.result (λ p last. last ≡ last_day p) c.last_day.ensures.state ∙ told in
    let ok : c.last_day.result ≡ Ok c.in-Ok.last = cc in
    let last : c.in-Ok.last ≡ last_day o =
    reads_ok before after c.last_day.result (λ p last. last ≡ last_day p) o c.in-Ok.last c.last_day.ensures.state
    told ok in
    let read = reads bytes c.args.terms.limits c.args.terms.late in
    let done = c.import_later.ensures.merged bytes o left kept in
    record {
      found = done.found;
      answers_are = done.answers_are;
      merges = subst
          (λ (a : DayAnswer). Merges g.K.Keeper.refuses a o (g.O.Sink.written c.args.sink.now)
          (g.O.Sink.written c.import_later.new.sink) (g.K.Keeper.told c.import_later.new.keeper) c.import_later.result)
          (sym (new_is_read (import_merged done.found c.args.terms.day bytes read.tuples read.refused o)
          c.args.terms.day o
          (omega (arith, c.if-last-terms.false, last)))) done.merges;
    }

pub returns-then-last-terms-clause-merged : goal.returns-then-last-terms-clause-merged
returns-then-last-terms-clause-merged g c = λ bytes o left told.
    let before = g.K.Keeper.told c.args.keeper.now in
    let after = g.K.Keeper.told c.last_day.new.self in
    let kept : after ≡ Some o =
    reads_same before after c.last_day.result (λ p last. last ≡ last_day p) c.last_day.ensures.state ∙ told in
    let ok : c.last_day.result ≡ Ok c.in-Ok.last = cc in
    let last : c.in-Ok.last ≡ last_day o =
    reads_ok before after c.last_day.result (λ p last. last ≡ last_day p) o c.in-Ok.last c.last_day.ensures.state
    told ok in
    let day = c.args.terms.day in
    let lines = reads bytes c.args.terms.limits c.args.terms.late in
    let read = import_merged [] day bytes lines.tuples lines.refused o in
    let passed = unwritten (DayPassed (last_day o)) o in
    let is : unless_passed read day o ≡ passed =
    cond-true (nat_le day (last_day o)) passed read
    (le-leb day (last_day o) (omega (arith, c.if-last-terms.true, last))) in
    let written = g.O.Sink.written c.args.sink.now in
    record {
      found = [];
      answers_are = tt;
      merges = subst
          (λ (a : DayAnswer). Merges g.K.Keeper.refuses a o written written after (DayPassed c.in-Ok.last)) (sym is)
          (record { outcome_is = ap DayPassed last; wrote = appends_none written; kept = kept });
    }

pub returns-else-last-terms-clause-unread : goal.returns-else-last-terms-clause-unread
returns-else-last-terms-clause-unread g c = λ o told few.
    let before = g.K.Keeper.told c.args.keeper.now in
    let after = g.K.Keeper.told c.last_day.new.self in
    let ok : c.last_day.result ≡ Ok c.in-Ok.last = cc in
    let last : c.in-Ok.last ≡ last_day o =
    reads_ok before after c.last_day.result (λ p last. last ≡ last_day p) o c.in-Ok.last c.last_day.ensures.state
    told ok in
    absurd (omega (arith, c.if-last-terms.false, last, few))

pub returns-then-last-terms-clause-jobs : goal.returns-then-last-terms-clause-jobs
returns-then-last-terms-clause-jobs g c = λ bytes left. none_started _ _ _ _ _ tt

pub returns-in-Err-clause-jobs : goal.returns-in-Err-clause-jobs
returns-in-Err-clause-jobs g c =
    λ bytes left. refused_started _ _ _ _ c.in-Err.fault c.refused.result c.refused.ensures

pub returns-else-last-terms-clause-published_by : goal.returns-else-last-terms-clause-published_by
returns-else-last-terms-clause-published_by g c = λ exact bytes was left posted.
    c.import_later.ensures.published_by exact bytes was left posted

pub returns-then-last-terms-clause-published_by : goal.returns-then-last-terms-clause-published_by
returns-then-last-terms-clause-published_by g c = λ exact bytes was left posted.
    none_published _ _ _ was _ _ posted tt

pub returns-in-Err-clause-published_by : goal.returns-in-Err-clause-published_by
returns-in-Err-clause-published_by g c = λ exact bytes was left posted.
    refused_none _ _ _ was _ c.in-Err.fault c.refused.result c.refused.ensures posted

pub returns-then-last-terms-clause-planned : goal.returns-then-last-terms-clause-planned
returns-then-last-terms-clause-planned g c = λ bytes left. tt

pub returns-in-Err-clause-planned : goal.returns-in-Err-clause-planned
returns-in-Err-clause-planned g c = λ bytes left.
    refused_planned _ _ _ _ _ _ _ c.in-Err.fault c.refused.result c.refused.ensures

pub returns-else-last-terms-clause-asked : goal.returns-else-last-terms-clause-asked
returns-else-last-terms-clause-asked g c =
    let ok : c.last_day.result ≡ Ok c.in-Ok.last = cc in
    one_before 1 c.import_later.result _ _ _ c.import_later.ensures.new_day
    (call_passed _ _ c.last_day.result c.in-Ok.last c.last_day.ensures.planned ok) c.import_later.ensures.asked

pub returns-then-last-terms-clause-asked : goal.returns-then-last-terms-clause-asked
returns-then-last-terms-clause-asked g c =
    let ok : c.last_day.result ≡ Ok c.in-Ok.last = cc in
    call_passed _ _ c.last_day.result c.in-Ok.last c.last_day.ensures.planned ok

pub returns-in-Err-clause-asked : goal.returns-in-Err-clause-asked
returns-in-Err-clause-asked g c =
    let here : c.last_day.result ≡ Err c.in-Err.fault = cc in
    subst (λ (o : Outcome). AsksBy 2 o (g.K.Keeper.plan c.args.keeper.now) (g.K.Keeper.plan c.last_day.new.self))
    (sym c.refused.ensures) (call_refused 2 _ _ c.last_day.result c.in-Err.fault c.last_day.ensures.planned here)

pub returns-else-last-terms-clause-read_first : goal.returns-else-last-terms-clause-read_first
returns-else-last-terms-clause-read_first g c = λ bytes left.
    let same = reads_same (g.K.Keeper.told c.args.keeper.now) (g.K.Keeper.told c.last_day.new.self) c.last_day.result
    (λ p last. last ≡ last_day p) c.last_day.ensures.state in
    read_after _ _ _ _ _ _ same (c.import_later.ensures.read_first bytes left)

pub returns-then-last-terms-clause-read_first : goal.returns-then-last-terms-clause-read_first
returns-then-last-terms-clause-read_first g c = λ bytes left.
    inl (reads_same (g.K.Keeper.told c.args.keeper.now) (g.K.Keeper.told c.last_day.new.self) c.last_day.result
    (λ p last. last ≡ last_day p) c.last_day.ensures.state)

pub returns-in-Err-clause-read_first : goal.returns-in-Err-clause-read_first
returns-in-Err-clause-read_first g c = λ bytes left.
    inl (reads_same (g.K.Keeper.told c.args.keeper.now) (g.K.Keeper.told c.last_day.new.self) c.last_day.result
    (λ p last. last ≡ last_day p) c.last_day.ensures.state)
