use Rattle.std.proofs.Common.{◌≡◌, ◌∙◌, Option, Some, None, Ok, Err, inl, refl, sym, subst}
use Rattle.road_time.specs.Reads.{reads}
use Rattle.keep_office.specs.declared.kept.DayRecord.{DayRecord}
use Rattle.keep_office.specs.Office.{record_of}
use Rattle.day_import.specs.Imports.{import_read, import_merged, unless_recorded, Does, Merges}
use Rattle.day_import.proofs.FinishLaws.{kept_alone, kept_leaves, read_after}
use Rattle.keep_office.proofs.CallLaws.{reads_same, reads_ok}
use Rattle.day_import.proofs.JobLaws.{refused_started, refused_planned, none_started, kept_unworked, refused_none}
use Rattle.day_import.proofs.JobLaws.{none_published}
use Rattle.day_import.proofs.BlameLaws.{fails_next, fails_outcome, fails_only}
use Rattle.day_import.specs.Asked.{AsksBy}
use Rattle.day_import.specs.declared.outcomes.Outcome.{Outcome}
use Rattle.day_import.proofs.AskedLaws.{day_before, kept_asked, call_passed, call_refused}
use Rattle.day_import.proofs.importing.import.Goals as goal

pub returns-in-Ok-Some-clause-alone : goal.returns-in-Ok-Some-clause-alone
returns-in-Ok-Some-clause-alone g c = kept_alone c.compare.result _ _ c.compare.ensures.kept_day (refl, refl, refl)

pub returns-in-Ok-None-clause-does : goal.returns-in-Ok-None-clause-does
returns-in-Ok-None-clause-does g c = λ exact bytes o left told.
    let before = g.K.Keeper.told c.args.keeper.now in
    let after = g.K.Keeper.told c.day.new.self in
    let kept : after ≡ Some o =
    reads_same before after c.day.result (λ p kept. kept ≡ record_of p c.args.terms.day) c.day.ensures.state ∙ told in
    let ok : c.day.result ≡ Ok None = cc in
    let none : None ≡ record_of o c.args.terms.day =
    reads_ok before after c.day.result (λ p kept. kept ≡ record_of p c.args.terms.day) o None c.day.ensures.state told
    ok in
    let read = reads bytes c.args.terms.limits c.args.terms.late in
    subst (λ (r : Option DayRecord). Does g.K.Keeper.refuses
    (unless_recorded r (import_read c.args.terms.day bytes read.tuples read.refused o) c.args.terms.day bytes o) o
    (g.O.Sink.written c.args.sink.now) (g.O.Sink.written c.import_new.new.sink)
    (g.K.Keeper.told c.import_new.new.keeper) c.import_new.result)
    none (c.import_new.ensures.does exact bytes o left kept)

pub returns-in-Ok-None-clause-merged : goal.returns-in-Ok-None-clause-merged
returns-in-Ok-None-clause-merged g c = λ bytes o left told.
    let before = g.K.Keeper.told c.args.keeper.now in
    let after = g.K.Keeper.told c.day.new.self in
    let kept : after ≡ Some o =
    reads_same before after c.day.result (λ p kept. kept ≡ record_of p c.args.terms.day) c.day.ensures.state ∙ told in
    let ok : c.day.result ≡ Ok None = cc in
    let none : None ≡ record_of o c.args.terms.day =
    reads_ok before after c.day.result (λ p kept. kept ≡ record_of p c.args.terms.day) o None c.day.ensures.state told
    ok in
    let read = reads bytes c.args.terms.limits c.args.terms.late in
    let done = c.import_new.ensures.merged bytes o left kept in
    record {
      found = done.found;
      answers_are = done.answers_are;
      merges = subst
          (λ (r : Option DayRecord). Merges g.K.Keeper.refuses
          (unless_recorded r (import_merged done.found c.args.terms.day bytes read.tuples read.refused o)
          c.args.terms.day bytes o)
          o (g.O.Sink.written c.args.sink.now) (g.O.Sink.written c.import_new.new.sink)
          (g.K.Keeper.told c.import_new.new.keeper) c.import_new.result)
          none done.merges;
    }

pub returns-in-Ok-Some-clause-jobs : goal.returns-in-Ok-Some-clause-jobs
returns-in-Ok-Some-clause-jobs g c =
    λ bytes left. none_started _ _ _ _ c.compare.result (kept_unworked c.compare.result _ c.compare.ensures.kept_day)

pub returns-in-Err-clause-jobs : goal.returns-in-Err-clause-jobs
returns-in-Err-clause-jobs g c =
    λ bytes left. refused_started _ _ _ _ c.in-Err.why c.refused.result c.refused.ensures

pub returns-in-Ok-Some-clause-leaves : goal.returns-in-Ok-Some-clause-leaves
returns-in-Ok-Some-clause-leaves g c = λ bytes left.
    kept_leaves c.compare.result (reads bytes c.args.terms.limits c.args.terms.late).refused bytes
    (g.S.Source.left c.compare.new.source) c.compare.ensures.kept_day

pub returns-in-Ok-Some-clause-published_by : goal.returns-in-Ok-Some-clause-published_by
returns-in-Ok-Some-clause-published_by g c = λ exact bytes was left posted.
    none_published _ _ _ was _ c.compare.result posted (kept_unworked c.compare.result ⊥ c.compare.ensures.kept_day)

pub returns-in-Ok-None-clause-published_by : goal.returns-in-Ok-None-clause-published_by
returns-in-Ok-None-clause-published_by g c = λ exact bytes was left posted.
    c.import_new.ensures.published_by exact bytes was left posted

pub returns-in-Err-clause-published_by : goal.returns-in-Err-clause-published_by
returns-in-Err-clause-published_by g c = λ exact bytes was left posted.
    refused_none _ _ _ was _ c.in-Err.why c.refused.result c.refused.ensures posted

pub returns-in-Ok-Some-clause-asked_first : goal.returns-in-Ok-Some-clause-asked_first
returns-in-Ok-Some-clause-asked_first g c = λ fails.
    let ok : c.day.result ≡ Ok (Some c.in-Ok-Some.kept) = cc in
    absurd (fails_only c.day.result (Some c.in-Ok-Some.kept) ok (fails_next _ _ c.day.result c.day.ensures.planned fails))

pub returns-in-Ok-None-clause-asked_first : goal.returns-in-Ok-None-clause-asked_first
returns-in-Ok-None-clause-asked_first g c = λ fails.
    let ok : c.day.result ≡ Ok None = cc in
    absurd (fails_only c.day.result None ok (fails_next _ _ c.day.result c.day.ensures.planned fails))

pub returns-in-Err-clause-asked_first : goal.returns-in-Err-clause-asked_first
returns-in-Err-clause-asked_first g c = λ fails.
    let here : c.day.result ≡ Err c.in-Err.why = cc in
    fails_outcome c.day.result c.in-Err.why c.refused.result c.refused.ensures here
    (fails_next _ _ c.day.result c.day.ensures.planned fails)

pub returns-in-Ok-Some-clause-planned : goal.returns-in-Ok-Some-clause-planned
returns-in-Ok-Some-clause-planned g c = λ bytes left.
    kept_unworked c.compare.result _ c.compare.ensures.kept_day

pub returns-in-Err-clause-planned : goal.returns-in-Err-clause-planned
returns-in-Err-clause-planned g c = λ bytes left.
    refused_planned _ _ _ _ _ _ _ c.in-Err.why c.refused.result c.refused.ensures

pub returns-in-Ok-Some-clause-asked : goal.returns-in-Ok-Some-clause-asked
returns-in-Ok-Some-clause-asked g c =
    let ok : c.day.result ≡ Ok (Some c.in-Ok-Some.kept) = cc in
    kept_asked c.compare.result _ _ c.compare.ensures.kept_day
    (call_passed _ _ c.day.result (Some c.in-Ok-Some.kept) c.day.ensures.planned ok)

pub returns-in-Ok-None-clause-asked : goal.returns-in-Ok-None-clause-asked
returns-in-Ok-None-clause-asked g c =
    let ok : c.day.result ≡ Ok None = cc in
    day_before c.import_new.result _ _ _ (call_passed _ _ c.day.result None c.day.ensures.planned ok)
    c.import_new.ensures.asked

pub returns-in-Err-clause-asked : goal.returns-in-Err-clause-asked
returns-in-Err-clause-asked g c =
    let here : c.day.result ≡ Err c.in-Err.why = cc in
    subst (λ (o : Outcome). AsksBy 3 o (g.K.Keeper.plan c.args.keeper.now) (g.K.Keeper.plan c.day.new.self))
    (sym c.refused.ensures) (call_refused 3 _ _ c.day.result c.in-Err.why c.day.ensures.planned here)

pub returns-in-Ok-None-clause-read_first : goal.returns-in-Ok-None-clause-read_first
returns-in-Ok-None-clause-read_first g c = λ bytes left.
    let same = reads_same (g.K.Keeper.told c.args.keeper.now) (g.K.Keeper.told c.day.new.self) c.day.result
    (λ p kept. kept ≡ record_of p c.args.terms.day) c.day.ensures.state in
    read_after _ _ _ _ _ _ same (c.import_new.ensures.read_first bytes left)

pub returns-in-Ok-Some-clause-read_first : goal.returns-in-Ok-Some-clause-read_first
returns-in-Ok-Some-clause-read_first g c = λ bytes left.
    inl (reads_same (g.K.Keeper.told c.args.keeper.now) (g.K.Keeper.told c.day.new.self) c.day.result
    (λ p kept. kept ≡ record_of p c.args.terms.day) c.day.ensures.state)

pub returns-in-Err-clause-read_first : goal.returns-in-Err-clause-read_first
returns-in-Err-clause-read_first g c = λ bytes left.
    inl (reads_same (g.K.Keeper.told c.args.keeper.now) (g.K.Keeper.told c.day.new.self) c.day.result
    (λ p kept. kept ≡ record_of p c.args.terms.day) c.day.ensures.state)
