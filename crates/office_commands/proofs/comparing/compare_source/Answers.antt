use Rattle.std.proofs.Common.{◌≡◌, ℕ, List, Option, Some, Ok, [], refl, sym, subst, ◌∙◌, rules}
use Rattle.road_time.specs.declared.road.Tuple.{Tuple}
use Rattle.road_time.specs.Reads.{reads}
use Rattle.road_time.specs.Lines.{lines_of}
use Rattle.tuples_text.specs.declared.cause.Cause.{Cause}
use Rattle.keep_office.proofs.CallLaws.{reads_same, reads_ok}
use Rattle.office_commands.specs.declared.closing.Closing.{Closing}
use Rattle.office_commands.specs.Days.{recomputed}
use Rattle.office_commands.specs.Commands.{Answer, compare_command, comparison_of, unless_refused, compared_tuples}
use Rattle.office_commands.specs.Differences.{differences_text}
use Rattle.office_commands.specs.declared.difference.Difference.{Difference}
use Rattle.office_commands.specs.Endings.{StandsBefore}
use Rattle.office_commands.proofs.ClosingLaws.{refuses_empty, stops_empty}
use Rattle.road_io.specs.Within.{ReadsWithin}
use Rattle.office_commands.specs.Closings.{status_of}
use Rattle.office_commands.specs.Rests.{HasReadTo}
use Rattle.office_commands.proofs.RestLaws.{to_by, to_stopped, to_refused, says_refused, ends_there}
use Rattle.day_reading.proofs.BoundLaws.{nothing_read}
use Rattle.office_commands.specs.Starts.{StartsBulk, SaysCompared}
use Rattle.office_commands.proofs.StartLaws.{bulk_none, refused_compared, stopped_compared}
use Rattle.day_reading.specs.Days.{most_of_day}
use Rattle.office_commands.specs.Uses.{most_noticed}
use Rattle.office_commands.proofs.comparing.compare_source.Goals as goal

pub returns-in-Err-clause-exact : goal.returns-in-Err-clause-exact
returns-in-Err-clause-exact g c =
    λ right bytes lines o told lying kept.
    let a = compare_command c.args.limits.now c.args.asked bytes lines o in
    subst (λ (ds : List Difference). StandsBefore a c.refused.result (differences_text ds)) (sym c.requires.empty)
    (subst (λ (k : Closing). StandsBefore a k []) (sym c.refused.ensures) (refuses_empty a c.in-Err.fault))

pub returns-in-Err-clause-reads : goal.returns-in-Err-clause-reads
returns-in-Err-clause-reads g c =
    record {
      within = nothing_read (most_of_day (recomputed c.args.asked.how c.args.limits.now))
          (g.S.Source.left c.args.source.now);
      to = λ bytes left.
          let refused = (reads bytes (recomputed c.args.asked.how c.args.limits.now) c.args.asked.late).refused in
          subst (λ (k : Closing). HasReadTo refused (status_of k) bytes (g.S.Source.left c.args.source.now))
          (sym c.refused.ensures) (to_refused refused bytes _ c.in-Err.fault);
    }

pub returns-in-Err-clause-aside : goal.returns-in-Err-clause-aside
returns-in-Err-clause-aside g c = record {
  refused_first = (λ s. refl);
  source_first = search rules;
  bounded = search rules;
}

pub returns-in-Err-clause-crew : goal.returns-in-Err-clause-crew
returns-in-Err-clause-crew g c = record {
  unused = search rules;
  jobs = (λ bytes left.
      bulk_none c.args.asked.how (compared_tuples c.args.limits.now c.args.asked bytes)
      (SaysCompared (status_of c.refused.result)) _
      (λ said. refused_compared c.in-Err.fault (subst (λ (k : Closing). SaysCompared (status_of k)) c.refused.ensures
      said)));
  idle = search rules;
  same = search rules;
}

pub returns-in-Err-clause-by : goal.returns-in-Err-clause-by
returns-in-Err-clause-by g c =
    λ said.
    absurd (refused_compared c.in-Err.fault (subst (λ (k : Closing). SaysCompared (status_of k)) c.refused.ensures
    said))

pub returns-clause-exact : goal.returns-clause-exact
returns-clause-exact g c =
    λ right bytes lines o told lying kept.
    let a = compare_command c.args.limits.now c.args.asked bytes lines o in
    subst (λ (ds : List Difference). StandsBefore a c.stopped.result (differences_text ds)) (sym c.requires.empty)
    (subst (λ (k : Closing). StandsBefore a k []) (sym c.stopped.ensures) (stops_empty a c.in-Err-read_day.stop))

pub returns-clause-reads : goal.returns-clause-reads
returns-clause-reads g c =
    record {
      within = c.read_day.ensures.bounded;
      to = λ bytes left.
          let refused = (reads bytes (recomputed c.args.asked.how c.args.limits.now) c.args.asked.late).refused in
          subst (λ (k : Closing). HasReadTo refused (status_of k) bytes (g.S.Source.left c.read_day.new.source))
          (sym c.stopped.ensures) (to_stopped refused bytes _ c.in-Err-read_day.stop);
    }

pub returns-clause-aside : goal.returns-clause-aside
returns-clause-aside g c = record {
  refused_first = (λ s. refl);
  source_first = search rules;
  bounded = search rules;
}

pub returns-clause-crew : goal.returns-clause-crew
returns-clause-crew g c = record {
  unused = search rules;
  jobs = (λ bytes left.
      bulk_none c.args.asked.how (compared_tuples c.args.limits.now c.args.asked bytes)
      (SaysCompared (status_of c.stopped.result)) _
      (λ said. stopped_compared c.in-Err-read_day.stop (subst (λ (k : Closing). SaysCompared (status_of k))
      c.stopped.ensures said)));
  idle = search rules;
  same = search rules;
}

pub returns-clause-by : goal.returns-clause-by
returns-clause-by g c =
    λ said.
    absurd (stopped_compared c.in-Err-read_day.stop (subst (λ (k : Closing). SaysCompared (status_of k))
    c.stopped.ensures said))

pub returns-in-Ok-read_day-clause-exact : goal.returns-in-Ok-read_day-clause-exact
returns-in-Ok-read_day-clause-exact g c =
    λ right bytes lines o told lying kept.
    let before = g.K.Keeper.told c.args.keeper.now in
    let after = g.K.Keeper.told c.tariffs.new.self in
    let still : after ≡ Some o =
    reads_same before after c.tariffs.result (λ p kept. kept ≡ p.tariffs) c.tariffs.ensures.state ∙ kept in
    let ok : c.tariffs.result ≡ Ok c.in-Ok.tariffs = cc in
    let rates : c.in-Ok.tariffs ≡ o.tariffs =
    reads_ok before after c.tariffs.result (λ p kept. kept ≡ p.tariffs) o c.in-Ok.tariffs c.tariffs.ensures.state
    kept ok in
    let read = reads bytes (recomputed c.args.asked.how c.args.limits.now) c.args.asked.late in
    let row : List Tuple → Answer =
    λ ts. comparison_of c.args.asked ts (lines_of lines) o in
    let text = differences_text c.compare_day.new.shown.items in
    subst (λ (r : Option (ℕ × Cause)). StandsBefore (unless_refused r (row read.tuples)) c.compare_day.result.closing text)
    (c.in-Ok-read_day.ensures.refused bytes told)
    (subst (λ (ts : List Tuple). StandsBefore (unless_refused c.in-Ok-read_day.read.refused (row ts))
    c.compare_day.result.closing text) (c.in-Ok-read_day.ensures.tuples bytes told)
    (c.compare_day.ensures.exact right lines o lying still rates))

pub returns-in-Ok-read_day-clause-reads : goal.returns-in-Ok-read_day-clause-reads
returns-in-Ok-read_day-clause-reads g c =
    record {
      within = c.read_day.ensures.bounded;
      to = λ bytes left.
          let refused = (reads bytes (recomputed c.args.asked.how c.args.limits.now) c.args.asked.late).refused in
          to_by refused bytes (g.S.Source.left c.read_day.new.source) c.in-Ok-read_day.read.refused
          (status_of c.compare_day.result.closing) (c.in-Ok-read_day.ensures.ends bytes left) c.compare_day.ensures.says;
    }

pub returns-in-Ok-read_day-clause-aside : goal.returns-in-Ok-read_day-clause-aside
returns-in-Ok-read_day-clause-aside g c = record {
  refused_first = (λ s. c.compare_day.ensures.aside.source_first
      (says_refused c.in-Ok-read_day.read.refused (status_of c.compare_day.result.closing) c.compare_day.ensures.says s));
  source_first = (λ bytes left more.
      let refused = (reads bytes (recomputed c.args.asked.how c.args.limits.now) c.args.asked.late).refused in
      c.compare_day.ensures.aside.source_first
      (ends_there refused bytes (g.S.Source.left c.read_day.new.source) c.in-Ok-read_day.read.refused
      (c.in-Ok-read_day.ensures.ends bytes left) more));
  bounded = (λ right bytes o told kept.
      let before = g.K.Keeper.told c.args.keeper.now in
      let after = g.K.Keeper.told c.tariffs.new.self in
      let still : after ≡ Some o =
      reads_same before after c.tariffs.result (λ p kept. kept ≡ p.tariffs) c.tariffs.ensures.state ∙ kept in
      let ok : c.tariffs.result ≡ Ok c.in-Ok.tariffs = cc in
      let rates : c.in-Ok.tariffs ≡ o.tariffs =
      reads_ok before after c.tariffs.result (λ p kept. kept ≡ p.tariffs) o c.in-Ok.tariffs c.tariffs.ensures.state
      kept ok in
      subst (λ (ts : List Tuple). ReadsWithin (most_noticed c.args.asked ts o) (g.A.Source.left c.args.aside.now)
      (g.A.Source.left c.compare_day.new.aside)) (c.in-Ok-read_day.ensures.tuples bytes told)
      (c.compare_day.ensures.aside.bounded right o still rates));
}

pub returns-in-Ok-read_day-clause-crew : goal.returns-in-Ok-read_day-clause-crew
returns-in-Ok-read_day-clause-crew g c = record {
  unused = search rules;
  jobs = (λ bytes left.
      subst (λ (ts : List Tuple). StartsBulk c.args.asked.how ts (SaysCompared (status_of c.compare_day.result.closing))
      (g.C.Crew.jobs c.args.crew.now) (g.C.Crew.jobs c.compare_day.new.crew))
      (c.in-Ok-read_day.ensures.tuples bytes left) c.compare_day.ensures.crew.jobs);
  idle = search rules;
  same = search rules;
}
