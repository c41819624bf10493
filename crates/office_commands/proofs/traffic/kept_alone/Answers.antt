use Rattle.std.proofs.Common.{ap, refl, subst, sym, Some, ◌∙◌}
use Rattle.std.proofs.lemmas.Result.{err_from_is_err_and}
use Rattle.road_time.specs.declared.day.TheConstants.Limits.{DAY}
use Rattle.keep_office.specs.Calls.{PutsNothing}
use Rattle.road_time.specs.Reads.{LinesRead, reads}
use Rattle.office_commands.specs.Starts.{WasWorked, backlog_of}
use Rattle.office_commands.proofs.StartLaws.{day_none, not_ok}
use Rattle.keep_office.specs.Office.{nothing_kept}
use Rattle.day_import.specs.Imports.{import_answer, import_found, import_read, import_merged, unless_kept}
use Rattle.office_commands.proofs.RunLaws.{jobs_same}
use Rattle.office_commands.proofs.TrafficLaws.{Stores, alone, alone_stored, found_stored, stores, stores_found}
use Rattle.office_commands.proofs.TrafficLaws.{none_else}
use Rattle.office_commands.proofs.traffic.kept_alone.Goals as goal

pub returns-in-Stored-clause-kept : goal.returns-in-Stored-clause-kept
returns-in-Stored-clause-kept g c = λ right.
    let file = c.args.file.now in
    let run = c.args.run in
    let does = c.import.ensures.does right file nothing_kept (ap (λ x. Some x) c.in_ok-source.ensures.left)
    (ap (λ x. Some x) c.in_ok-keeper.ensures.kept) in
    let own = c.run_limits-own in
    let same = ap (λ (r : LinesRead).
    (unless_kept (import_read run.day file r.tuples r.refused nothing_kept) run.day file nothing_kept).outcome)
    (own.ensures.same file run.late) in
    let stored =
    stores PutsNothing (import_answer run.day run.late own.result file nothing_kept) _
    (same ∙ alone_stored run.day c.requires.range.low file run.late c.requires.whole) nothing_kept _ _ _
    c.import.result
    does (c.import.ensures.source.sure (λ n. c.in_ok-source.ensures.plan n)) (c.import.ensures.sink.sure refl).0
    (c.import.ensures.keeper.sure (λ n. c.in_ok-keeper.ensures.plan n)) in
    subst (Stores (alone run.day file run.late)) c.in-Stored.is stored

pub unreachable-requires : goal.unreachable-requires
unreachable-requires g c =
    let file = c.args.file.now in
    let run = c.args.run in
    let by = c.import.ensures.merged file nothing_kept (ap (λ x. Some x) c.in_ok-source.ensures.left)
    (ap (λ x. Some x) c.in_ok-keeper.ensures.kept) in
    let own = c.run_limits-own in
    let same = ap (λ (r : LinesRead).
    (unless_kept (import_merged by.found run.day file r.tuples r.refused nothing_kept) run.day file
    nothing_kept).outcome) (own.ensures.same file run.late) in
    let stored = stores_found PutsNothing (import_found by.found run.day run.late own.result file nothing_kept) _
    (same ∙ found_stored run.day c.requires.range.low file run.late c.requires.whole by.found) nothing_kept _ _ _
    c.import.result by.merges (c.import.ensures.source.sure (λ n. c.in_ok-source.ensures.plan n))
    (c.import.ensures.sink.sure refl).0 (c.import.ensures.keeper.sure (λ n. c.in_ok-keeper.ensures.plan n)) in
    none_else _ c.import.result stored c.in_default.not-Stored c.in_default.not-NoMemory

pub returns-in-Stored-clause-jobs : goal.returns-in-Stored-clause-jobs
returns-in-Stored-clause-jobs g c =
    let file = c.args.file.now in
    let own = c.run_limits-own in
    jobs_same c.args.run own.result DAY own.ensures.same own.ensures.lines own.ensures.backlog file _ _ _ (record {
      outcome = c.import.result;
      jobs = c.import.ensures.jobs file (ap (λ x. Some x) c.in_ok-source.ensures.left);
      planned = (_, _, c.import.ensures.planned file (ap (λ x. Some x) c.in_ok-source.ensures.left));
      whole = λ ok. subst WasWorked (sym c.in-Stored.is) tt;
    })

pub returns-in-NoMemory-clause-jobs : goal.returns-in-NoMemory-clause-jobs
returns-in-NoMemory-clause-jobs g c =
    let file = c.args.file.now in
    let own = c.run_limits-own in
    jobs_same c.args.run own.result DAY own.ensures.same own.ensures.lines own.ensures.backlog file _ _ _ (record {
      outcome = c.import.result;
      jobs = c.import.ensures.jobs file (ap (λ x. Some x) c.in_ok-source.ensures.left);
      planned = (_, _, c.import.ensures.planned file (ap (λ x. Some x) c.in_ok-source.ensures.left));
      whole = λ ok. absurd (cc ok);
    })

pub returns-in_err-source-clause-jobs : goal.returns-in_err-source-clause-jobs
returns-in_err-source-clause-jobs g c =
    let p = err_from_is_err_and c.from_residual.result c.from_residual.ensures.1 in
    day_none c.args.run (backlog_of c.args.run DAY) (reads c.args.file.now DAY c.args.run.late).tuples _ _
    (not_ok c.from_residual.result p.0 p.1)

pub returns-in_err-keeper-clause-jobs : goal.returns-in_err-keeper-clause-jobs
returns-in_err-keeper-clause-jobs g c =
    let p = err_from_is_err_and c.from_residual-in_err-keeper.result c.from_residual-in_err-keeper.ensures.1 in
    day_none c.args.run (backlog_of c.args.run DAY) (reads c.args.file.now DAY c.args.run.late).tuples _ _
    (not_ok c.from_residual-in_err-keeper.result p.0 p.1)
