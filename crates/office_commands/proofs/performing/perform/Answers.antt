-- What each command does, as the table of commands has it.
use Rattle.std.proofs.Common.{◌∙◌, Some, Ok, ap, refl, subst, rules}
use Rattle.road_io.proofs.SinkLaws.{appends_none}
use Rattle.office_commands.specs.declared.closing.Closing.{Closing}
use Rattle.office_commands.specs.declared.closing.Closing.TheVariants.{ReadFault}
use Rattle.office_commands.specs.Commands.{accidents_command, history_command, tariff_command, generate_command}
use Rattle.office_commands.specs.Commands.{rehearse_command, check_command, office_answer}
use Rattle.office_commands.proofs.ReportLaws.{report_office}
use Rattle.office_commands.proofs.KeepingLaws.{kept_same, closing_same, kept_whole}
use Rattle.office_commands.proofs.ComparingLaws.{same_log}
use Rattle.office_commands.proofs.ConcludeLaws.{did_unchanged, did_silent, closing_holds, closing_of}
use Rattle.office_commands.proofs.PerformLaws.{source_of, aside_of, keeper_of, crew_of, wrote_silent, by_source}
use Rattle.office_commands.proofs.PerformLaws.{beside}
use Rattle.office_commands.proofs.PerformLaws.{by_both}
use Rattle.keep_office.specs.Office.{record_of}
use Rattle.office_commands.specs.Commands.{Answer}
use Rattle.office_commands.specs.Endings.{Wrote, Keeps, Did}
use Rattle.office_commands.proofs.RunLaws.{answers_same, import_same, within_same, imported_same, day_same, stops_same}
use Rattle.office_commands.proofs.RunLaws.{uncompared_same, jobs_same}
use Rattle.office_commands.proofs.performing.perform.Goals as goal

-- `answers DAY`
pub returns-in-Answers-clause-source : goal.returns-in-Answers-clause-source
returns-in-Answers-clause-source g c = record {
  unused = search rules;
  passed = search rules;
  reads = (λ used.
      let own = c.run_limits-own in
      rw c.in-Answers.is (day_same c.in-Answers.run' own.result c.args.terms.limits own.ensures.same own.ensures.lines
      own.ensures.backlog _ _ _ c.answers.ensures.source.reads));
  rest = search rules;
  bounded = (λ o kept.
      let own = c.run_limits-own in
      rw c.in-Answers.is (within_same c.in-Answers.run' own.result c.args.terms.limits own.ensures.same own.ensures.lines
      own.ensures.backlog _ _ c.answers.ensures.source.reads.within));
}

pub returns-in-Answers-clause-read : goal.returns-in-Answers-clause-read
returns-in-Answers-clause-read g c =
    by_source _ _ _ _ _ _ _ _ _ _ (ap source_of c.in-Answers.is) (λ bad. bad) (λ bad. bad) (λ calm. calm)
    c.answers.ensures.source.faults

pub returns-in-Answers-clause-keeper : goal.returns-in-Answers-clause-keeper
returns-in-Answers-clause-keeper g c = record {
  keeps = (λ bytes lines o right told kept.
      let own = c.run_limits-own in
      let same = answers_same c.in-Answers.run' own.result c.args.terms.limits own.ensures.same own.ensures.lines
      own.ensures.backlog bytes o in
      rw c.in-Answers.is (subst (λ (a : Answer). Keeps g.K.Keeper.refuses a o (g.K.Keeper.told c.answers.new.keeper)
      c.answers.result) same
      (c.answers.ensures.keeper.keeps (right (ap crew_of c.in-Answers.is)) bytes o (told (ap source_of c.in-Answers.is)) kept)));
  puts = search rules;
  unchanged = search rules;
  held = search rules;
  unused = search rules;
  faults = search rules;
}

pub returns-in-Answers-clause-sink : goal.returns-in-Answers-clause-sink
returns-in-Answers-clause-sink g c = record {
  wrote = (λ bytes lines o told.
      let own = c.run_limits-own in
      let same = answers_same c.in-Answers.run' own.result c.args.terms.limits own.ensures.same own.ensures.lines
      own.ensures.backlog bytes o in
      rw c.in-Answers.is (subst (λ (a : Answer). Wrote a c.answers.result (g.O.Sink.written c.args.sink.now)
      (g.O.Sink.written c.answers.new.sink)) same (c.answers.ensures.sink.wrote (told.right (ap crew_of c.in-Answers.is)) bytes
      o (told.source_is (ap source_of c.in-Answers.is)) (told.kept_is (ap keeper_of c.in-Answers.is)))));
  does = (λ bytes lines o told kept.
      let own = c.run_limits-own in
      let same = answers_same c.in-Answers.run' own.result c.args.terms.limits own.ensures.same own.ensures.lines
      own.ensures.backlog bytes o in
      rw c.in-Answers.is (subst (λ (a : Answer). Did g.K.Keeper.refuses a o (g.O.Sink.written c.args.sink.now)
      (g.O.Sink.written c.answers.new.sink) (g.K.Keeper.told c.answers.new.keeper) c.answers.result) same
      (c.answers.ensures.sink.does (told.right (ap crew_of c.in-Answers.is)) bytes o
      (told.source_is (ap source_of c.in-Answers.is)) kept)));
  sums = (rw c.in-Answers.is tt);
  faults = search rules;
}

pub returns-in-Answers-clause-crew : goal.returns-in-Answers-clause-crew
returns-in-Answers-clause-crew g c = record {
  unused = search rules;
  jobs = (λ bytes used told.
      let own = c.run_limits-own in
      rw c.in-Answers.is (jobs_same c.in-Answers.run' own.result c.args.terms.limits own.ensures.same own.ensures.lines
      own.ensures.backlog bytes _ _ _ (c.answers.ensures.crew.jobs bytes (told (ap source_of c.in-Answers.is)))));
  idle = search rules;
  same = search rules;
}

-- `import DAY`
pub returns-in-Import-clause-source : goal.returns-in-Import-clause-source
returns-in-Import-clause-source g c = record {
  unused = search rules;
  passed = search rules;
  reads = (λ used.
      let own = c.run_limits-own-in-Import in
      rw c.in-Import.is (
        stops_same c.in-Import.run' own.result c.args.terms.limits own.ensures.same own.ensures.lines own.ensures.backlog _ _
            _ c.import.ensures.source.stops,
        uncompared_same c.in-Import.run' own.result c.args.terms.limits own.ensures.same own.ensures.lines
            own.ensures.backlog _ _ _ c.import.ensures.source.uncompared,
      ));
  rest = (λ bytes o changes told kept.
      rw c.in-Import.is (c.import.ensures.source.rest bytes o (told (ap source_of c.in-Import.is)) kept));
  bounded = (λ o kept.
      let own = c.run_limits-own-in-Import in
      rw c.in-Import.is (imported_same c.in-Import.run' own.result c.args.terms.limits own.ensures.same own.ensures.lines
      own.ensures.backlog _ _ (record_of o c.in-Import.run'.day)
      (c.import.ensures.source.bounded o (kept (ap keeper_of c.in-Import.is)))));
}

pub returns-in-Import-clause-read : goal.returns-in-Import-clause-read
returns-in-Import-clause-read g c =
    by_source _ _ _ _ _ _ _ _ _ _ (ap source_of c.in-Import.is) (λ bad. bad) (λ bad. bad) (λ calm. calm)
    c.import.ensures.source.faults

pub returns-in-Import-clause-keeper : goal.returns-in-Import-clause-keeper
returns-in-Import-clause-keeper g c = record {
  keeps = (λ bytes lines o right told kept.
      let own = c.run_limits-own-in-Import in
      let same = import_same c.in-Import.run' own.result c.args.terms.limits own.ensures.same own.ensures.lines
      own.ensures.backlog bytes o in
      rw c.in-Import.is (subst (λ (a : Answer). Keeps g.K.Keeper.refuses a o (g.K.Keeper.told c.import.new.keeper)
      c.import.result) same
      (c.import.ensures.keeper.keeps (right (ap crew_of c.in-Import.is)) bytes o (told (ap source_of c.in-Import.is)) kept)));
  puts = search rules;
  unchanged = search rules;
  held = (λ o kept changes well failed room. c.import.ensures.held well failed room ∙ kept);
  unused = search rules;
  faults = search rules;
}

pub returns-in-Import-clause-sink : goal.returns-in-Import-clause-sink
returns-in-Import-clause-sink g c = record {
  wrote = (λ bytes lines o told.
      let own = c.run_limits-own-in-Import in
      let same = import_same c.in-Import.run' own.result c.args.terms.limits own.ensures.same own.ensures.lines
      own.ensures.backlog bytes o in
      rw c.in-Import.is (subst (λ (a : Answer). Wrote a c.import.result (g.O.Sink.written c.args.sink.now)
      (g.O.Sink.written c.import.new.sink)) same (c.import.ensures.sink.wrote (told.right (ap crew_of c.in-Import.is)) bytes
      o (told.source_is (ap source_of c.in-Import.is)) (told.kept_is (ap keeper_of c.in-Import.is)))));
  does = (λ bytes lines o told kept.
      let own = c.run_limits-own-in-Import in
      let same = import_same c.in-Import.run' own.result c.args.terms.limits own.ensures.same own.ensures.lines
      own.ensures.backlog bytes o in
      rw c.in-Import.is (subst (λ (a : Answer). Did g.K.Keeper.refuses a o (g.O.Sink.written c.args.sink.now)
      (g.O.Sink.written c.import.new.sink) (g.K.Keeper.told c.import.new.keeper) c.import.result) same
      (c.import.ensures.sink.does (told.right (ap crew_of c.in-Import.is)) bytes o
      (told.source_is (ap source_of c.in-Import.is)) kept)));
  sums = (rw c.in-Import.is tt);
  faults = search rules;
}

pub returns-in-Import-clause-crew : goal.returns-in-Import-clause-crew
returns-in-Import-clause-crew g c = record {
  unused = search rules;
  jobs = (λ bytes used told.
      let own = c.run_limits-own-in-Import in
      rw c.in-Import.is (jobs_same c.in-Import.run' own.result c.args.terms.limits own.ensures.same own.ensures.lines
      own.ensures.backlog bytes _ _ _ (c.import.ensures.crew.jobs bytes (told (ap source_of c.in-Import.is)))));
  idle = search rules;
  same = search rules;
}

-- `validate DAY` and `audit DAY`
pub returns-in-Compare-clause-source : goal.returns-in-Compare-clause-source
returns-in-Compare-clause-source g c =
    rw c.in-Compare.is c.compare_and_tell.ensures.source

pub returns-in-Compare-clause-aside : goal.returns-in-Compare-clause-aside
returns-in-Compare-clause-aside g c =
    rw c.in-Compare.is c.compare_and_tell.ensures.aside

pub returns-in-Compare-clause-read : goal.returns-in-Compare-clause-read
returns-in-Compare-clause-read g c =
    by_both _ _ _ _ _ _ _ _ _ _ _ (ap source_of c.in-Compare.is) (ap aside_of c.in-Compare.is)
    (λ bad. bad) (λ bad. bad) c.compare_and_tell.ensures.read

pub returns-in-Compare-clause-keeper : goal.returns-in-Compare-clause-keeper
returns-in-Compare-clause-keeper g c =
    rw c.in-Compare.is c.compare_and_tell.ensures.keeper

pub returns-in-Compare-clause-sink : goal.returns-in-Compare-clause-sink
returns-in-Compare-clause-sink g c =
    rw c.in-Compare.is c.compare_and_tell.ensures.sink

pub returns-in-Compare-clause-crew : goal.returns-in-Compare-clause-crew
returns-in-Compare-clause-crew g c =
    rw c.in-Compare.is c.compare_and_tell.ensures.crew

pub returns-in-Compare-clause-by : goal.returns-in-Compare-clause-by
returns-in-Compare-clause-by g c =
    rw c.in-Compare.is c.compare_and_tell.ensures.by

-- `past BASE`
pub returns-in-Past-clause-source : goal.returns-in-Past-clause-source
returns-in-Past-clause-source g c = record {
  unused = search rules;
  passed = search rules;
  reads = (λ used. rw c.in-Past.is c.past.ensures.source.uncompared);
  rest = (λ bytes o changes told kept.
      rw c.in-Past.is (c.past.ensures.source.rest bytes o (told (ap source_of c.in-Past.is)) kept));
  bounded = (λ o kept.
      rw c.in-Past.is (c.past.ensures.source.bounded o (kept (ap keeper_of c.in-Past.is))));
}

pub returns-in-Past-clause-read : goal.returns-in-Past-clause-read
returns-in-Past-clause-read g c =
    by_source _ _ _ _ _ _ _ _ (Unit {0}) _ (ap source_of c.in-Past.is)
    (closing_of c.past.result ReadFault (Ok (Some c.past.result)) refl) (λ bad. ap (λ (k : Closing). Ok (Some k)) bad)
    (λ calm. tt) (beside _ _ _ _ _ c.past.ensures.source.faults)

pub returns-in-Past-clause-keeper : goal.returns-in-Past-clause-keeper
returns-in-Past-clause-keeper g c = record {
  keeps = (λ bytes lines o right told kept.
      rw c.in-Past.is (c.past.ensures.keeper.keeps bytes o (told (ap source_of c.in-Past.is)) kept));
  puts = (λ o kept. rw c.in-Past.is (c.past.ensures.keeper.puts o kept));
  unchanged = search rules;
  held = (λ o kept changes well failed room. c.past.ensures.keeper.held well failed room ∙ kept);
  unused = search rules;
  faults = search rules;
}

pub returns-in-Past-clause-sink : goal.returns-in-Past-clause-sink
returns-in-Past-clause-sink g c = record {
  wrote = (λ bytes lines o told. rw c.in-Past.is (wrote_silent _ _ _
      (c.past.ensures.exact bytes o (told.source_is (ap source_of c.in-Past.is))
      (told.kept_is (ap keeper_of c.in-Past.is)))));
  does = (λ bytes lines o told kept.
      rw c.in-Past.is
      (did_silent _ (history_command c.args.terms.limits c.in-Past.base bytes o) _ _ _ _ _ refl
      (c.past.ensures.exact bytes o (told.source_is (ap source_of c.in-Past.is)) kept)
      (c.past.ensures.keeper.keeps bytes o (told.source_is (ap source_of c.in-Past.is)) kept) (appends_none _)));
  sums = (rw c.in-Past.is tt);
  faults = search rules;
}

-- `day DAY`
pub returns-in-Day-clause-keeper : goal.returns-in-Day-clause-keeper
returns-in-Day-clause-keeper g c = record {
  keeps = (λ bytes lines o right told kept. rw c.in-Day.is (c.day.ensures.keeps o kept));
  puts = search rules;
  unchanged = search rules;
  held = search rules;
  unused = search rules;
  faults = search rules;
}

pub returns-in-Day-clause-sink : goal.returns-in-Day-clause-sink
returns-in-Day-clause-sink g c = record {
  wrote = (λ bytes lines o told.
      rw c.in-Day.is (c.day.ensures.wrote o (told.kept_is (ap keeper_of c.in-Day.is))));
  does = (λ bytes lines o told kept.
      did_unchanged _ (office_answer c.args.terms.limits bytes lines o (Some c.args.terms.command)) o _ _ _ _
      (rw c.in-Day.is (report_office _ _ o)) (rw c.in-Day.is (c.day.ensures.wrote o (told.kept_is (ap keeper_of c.in-Day.is))))
      ((returns-in-Day-clause-keeper g c).keeps bytes lines o told.right told.source_is kept));
  sums = (rw c.in-Day.is c.day.ensures.sums);
  faults = search rules;
}

-- `vehicle VID FROM TO`
pub returns-in-Vehicle-clause-keeper : goal.returns-in-Vehicle-clause-keeper
returns-in-Vehicle-clause-keeper g c = record {
  keeps = (λ bytes lines o right told kept.
      rw c.in-Vehicle.is (c.vehicle.ensures.keeps o kept));
  puts = search rules;
  unchanged = search rules;
  held = search rules;
  unused = search rules;
  faults = search rules;
}

pub returns-in-Vehicle-clause-sink : goal.returns-in-Vehicle-clause-sink
returns-in-Vehicle-clause-sink g c = record {
  wrote = (λ bytes lines o told.
      rw c.in-Vehicle.is (c.vehicle.ensures.wrote o (told.kept_is (ap keeper_of c.in-Vehicle.is))));
  does = (λ bytes lines o told kept.
      did_unchanged _ (office_answer c.args.terms.limits bytes lines o (Some c.args.terms.command)) o _ _ _ _
      (rw c.in-Vehicle.is refl) (rw c.in-Vehicle.is (c.vehicle.ensures.wrote o (told.kept_is (ap keeper_of c.in-Vehicle.is))))
      ((returns-in-Vehicle-clause-keeper g c).keeps bytes lines o told.right told.source_is kept));
  sums = (rw c.in-Vehicle.is tt);
  faults = search rules;
}

-- `accidents`
pub returns-in-Accidents-clause-source : goal.returns-in-Accidents-clause-source
returns-in-Accidents-clause-source g c = record {
  unused = search rules;
  passed = search rules;
  reads = (λ used. rw c.in-Accidents.is c.accidents.ensures.reads);
  rest = search rules;
  bounded = (λ o kept. rw c.in-Accidents.is c.accidents.ensures.bounded);
}

pub returns-in-Accidents-clause-read : goal.returns-in-Accidents-clause-read
returns-in-Accidents-clause-read g c =
    by_source _ _ _ _ _ _ _ _ (Unit {0}) _ (ap source_of c.in-Accidents.is) (λ bad. bad) (λ bad. bad) (λ calm. tt)
    (beside _ _ _ _ _ c.accidents.ensures.source)

pub returns-in-Accidents-clause-keeper : goal.returns-in-Accidents-clause-keeper
returns-in-Accidents-clause-keeper g c = record {
  keeps = (λ bytes lines o right told kept. rw c.in-Accidents.is
      (kept_same _ (accidents_command c.args.terms.limits c.in-Accidents.late bytes o) _ _ _
      (same_log c.args.terms.limits c.in-Accidents.late bytes o) kept));
  puts = search rules;
  unchanged = search rules;
  held = search rules;
  unused = search rules;
  faults = search rules;
}

pub returns-in-Accidents-clause-sink : goal.returns-in-Accidents-clause-sink
returns-in-Accidents-clause-sink g c = record {
  wrote = (λ bytes lines o told.
      rw c.in-Accidents.is (c.accidents.ensures.wrote bytes o (told.source_is (ap source_of c.in-Accidents.is))));
  does = (λ bytes lines o told kept.
      did_unchanged _ (office_answer c.args.terms.limits bytes lines o (Some c.args.terms.command)) o _ _ _ _
      (rw c.in-Accidents.is (same_log c.args.terms.limits c.in-Accidents.late bytes o))
      (rw c.in-Accidents.is (c.accidents.ensures.wrote bytes o (told.source_is (ap source_of c.in-Accidents.is))))
      ((returns-in-Accidents-clause-keeper g c).keeps bytes lines o told.right told.source_is kept));
  sums = (rw c.in-Accidents.is tt);
  faults = search rules;
}

-- `export DAY`
pub returns-in-Export-clause-keeper : goal.returns-in-Export-clause-keeper
returns-in-Export-clause-keeper g c = record {
  keeps = (λ bytes lines o right told kept. rw c.in-Export.is (c.export.ensures.keeps o kept));
  puts = search rules;
  unchanged = search rules;
  held = search rules;
  unused = search rules;
  faults = search rules;
}

pub returns-in-Export-clause-sink : goal.returns-in-Export-clause-sink
returns-in-Export-clause-sink g c = record {
  wrote = (λ bytes lines o told.
      rw c.in-Export.is (c.export.ensures.wrote o (told.kept_is (ap keeper_of c.in-Export.is))));
  does = (λ bytes lines o told kept.
      did_unchanged _ (office_answer c.args.terms.limits bytes lines o (Some c.args.terms.command)) o _ _ _ _
      (rw c.in-Export.is (report_office _ _ o)) (rw c.in-Export.is (c.export.ensures.wrote o (told.kept_is (ap keeper_of c.in-Export.is))))
      ((returns-in-Export-clause-keeper g c).keeps bytes lines o told.right told.source_is kept));
  sums = (rw c.in-Export.is tt);
  faults = search rules;
}

-- `tariff XWAY CROWD SPEED FACTOR`
pub returns-in-Tariff-clause-source : goal.returns-in-Tariff-clause-source
returns-in-Tariff-clause-source g c = record {
  unused = search rules;
  passed = search rules;
  reads = search rules;
  rest = (λ bytes o changes told kept. rw c.in-Tariff.is tt);
  bounded = search rules;
}

pub returns-in-Tariff-clause-keeper : goal.returns-in-Tariff-clause-keeper
returns-in-Tariff-clause-keeper g c = record {
  keeps = (λ bytes lines o right told kept. rw c.in-Tariff.is (c.tariff.ensures.keeps o kept));
  puts = (λ o kept.
      rw c.in-Tariff.is
      (kept_whole g.K.Keeper.refuses
      (tariff_command c.in-Tariff.xway c.in-Tariff.crowd c.in-Tariff.speed c.in-Tariff.factor o) _ _
      (Ok (Some c.tariff.result)) (c.tariff.ensures.keeps o kept)));
  unchanged = search rules;
  held = (λ o kept changes.
      closing_holds _
      (tariff_command c.in-Tariff.xway c.in-Tariff.crowd c.in-Tariff.speed c.in-Tariff.factor o) _ _ _ refl
      (c.tariff.ensures.exact o kept) (c.tariff.ensures.keeps o kept));
  unused = search rules;
  faults = search rules;
}

pub returns-in-Tariff-clause-sink : goal.returns-in-Tariff-clause-sink
returns-in-Tariff-clause-sink g c = record {
  wrote = (λ bytes lines o told.
      rw c.in-Tariff.is (wrote_silent _ _ _ (c.tariff.ensures.exact o (told.kept_is (ap keeper_of c.in-Tariff.is)))));
  does = (λ bytes lines o told kept.
      rw c.in-Tariff.is
      (did_silent _ (tariff_command c.in-Tariff.xway c.in-Tariff.crowd c.in-Tariff.speed c.in-Tariff.factor o) _ _ _ _ _
      refl (c.tariff.ensures.exact o kept) (c.tariff.ensures.keeps o kept) (appends_none _)));
  sums = (rw c.in-Tariff.is tt);
  faults = search rules;
}

-- `tariffs`
pub returns-in-Tariffs-clause-keeper : goal.returns-in-Tariffs-clause-keeper
returns-in-Tariffs-clause-keeper g c = record {
  keeps = (λ bytes lines o right told kept.
      rw c.in-Tariffs.is (c.tariffs.ensures.keeps o kept));
  puts = search rules;
  unchanged = search rules;
  held = search rules;
  unused = search rules;
  faults = search rules;
}

pub returns-in-Tariffs-clause-sink : goal.returns-in-Tariffs-clause-sink
returns-in-Tariffs-clause-sink g c = record {
  wrote = (λ bytes lines o told.
      rw c.in-Tariffs.is (c.tariffs.ensures.wrote o (told.kept_is (ap keeper_of c.in-Tariffs.is))));
  does = (λ bytes lines o told kept.
      did_unchanged _ (office_answer c.args.terms.limits bytes lines o (Some c.args.terms.command)) o _ _ _ _
      (rw c.in-Tariffs.is refl) (rw c.in-Tariffs.is (c.tariffs.ensures.wrote o (told.kept_is (ap keeper_of c.in-Tariffs.is))))
      ((returns-in-Tariffs-clause-keeper g c).keeps bytes lines o told.right told.source_is kept));
  sums = (rw c.in-Tariffs.is tt);
  faults = search rules;
}

-- `generate SEED`
pub returns-in-Generate-clause-keeper : goal.returns-in-Generate-clause-keeper
returns-in-Generate-clause-keeper g c = record {
  keeps = (λ bytes lines o right told kept.
      rw c.in-Generate.is (kept_same _ (generate_command c.in-Generate.seed c.in-Generate.size o) _ _ _ refl kept));
  puts = search rules;
  unchanged = search rules;
  held = search rules;
  unused = search rules;
  faults = search rules;
}

pub returns-in-Generate-clause-sink : goal.returns-in-Generate-clause-sink
returns-in-Generate-clause-sink g c = record {
  wrote = (λ bytes lines o told. rw c.in-Generate.is (c.generate.ensures.wrote o));
  does = (λ bytes lines o told kept.
      did_unchanged _ (office_answer c.args.terms.limits bytes lines o (Some c.args.terms.command)) o _ _ _ _
      (rw c.in-Generate.is refl) (rw c.in-Generate.is (c.generate.ensures.wrote o))
      ((returns-in-Generate-clause-keeper g c).keeps bytes lines o told.right told.source_is kept));
  sums = (rw c.in-Generate.is tt);
  faults = search rules;
}

-- `rehearse SEED`
pub returns-in-Rehearse-clause-keeper : goal.returns-in-Rehearse-clause-keeper
returns-in-Rehearse-clause-keeper g c = record {
  keeps = (λ bytes lines o right told kept. rw c.in-Rehearse.is
      (closing_same _ (rehearse_command c.in-Rehearse.seed c.in-Rehearse.size c.in-Rehearse.run' o) _ _ _ refl kept));
  puts = search rules;
  unchanged = search rules;
  held = search rules;
  unused = search rules;
  faults = search rules;
}

pub returns-in-Rehearse-clause-sink : goal.returns-in-Rehearse-clause-sink
returns-in-Rehearse-clause-sink g c = record {
  wrote = (λ bytes lines o told.
      rw c.in-Rehearse.is (wrote_silent _ _ _ (c.rehearse.ensures.exact (told.right (ap crew_of c.in-Rehearse.is)) o)));
  does = (λ bytes lines o told kept.
      did_silent _ (office_answer c.args.terms.limits bytes lines o (Some c.args.terms.command)) o _ _ _ _
      (rw c.in-Rehearse.is refl)
      (rw c.in-Rehearse.is (c.rehearse.ensures.exact (told.right (ap crew_of c.in-Rehearse.is)) o))
      ((returns-in-Rehearse-clause-keeper g c).keeps bytes lines o told.right told.source_is kept) (appends_none _));
  sums = (rw c.in-Rehearse.is tt);
  faults = search rules;
}

pub returns-in-Rehearse-clause-crew : goal.returns-in-Rehearse-clause-crew
returns-in-Rehearse-clause-crew g c = record {
  unused = search rules;
  jobs = (λ bytes used told. rw c.in-Rehearse.is c.rehearse.ensures.jobs);
  idle = search rules;
  same = search rules;
}

-- `days`
pub returns-in-Days-clause-keeper : goal.returns-in-Days-clause-keeper
returns-in-Days-clause-keeper g c = record {
  keeps = (λ bytes lines o right told kept.
      rw c.in-Days.is (c.days.ensures.keeps o kept));
  puts = search rules;
  unchanged = search rules;
  held = search rules;
  unused = search rules;
  faults = search rules;
}

pub returns-in-Days-clause-sink : goal.returns-in-Days-clause-sink
returns-in-Days-clause-sink g c = record {
  wrote = (λ bytes lines o told.
      rw c.in-Days.is (c.days.ensures.wrote o (told.kept_is (ap keeper_of c.in-Days.is))));
  does = (λ bytes lines o told kept.
      did_unchanged _ (office_answer c.args.terms.limits bytes lines o (Some c.args.terms.command)) o _ _ _ _
      (rw c.in-Days.is refl) (rw c.in-Days.is (c.days.ensures.wrote o (told.kept_is (ap keeper_of c.in-Days.is))))
      ((returns-in-Days-clause-keeper g c).keeps bytes lines o told.right told.source_is kept));
  sums = (rw c.in-Days.is tt);
  faults = search rules;
}

-- `charges FROM TO`
pub returns-in-Charges-clause-keeper : goal.returns-in-Charges-clause-keeper
returns-in-Charges-clause-keeper g c = record {
  keeps = (λ bytes lines o right told kept.
      rw c.in-Charges.is (c.charges.ensures.keeps o kept));
  puts = search rules;
  unchanged = search rules;
  held = search rules;
  unused = search rules;
  faults = search rules;
}

pub returns-in-Charges-clause-sink : goal.returns-in-Charges-clause-sink
returns-in-Charges-clause-sink g c = record {
  wrote = (λ bytes lines o told.
      rw c.in-Charges.is (c.charges.ensures.wrote o (told.kept_is (ap keeper_of c.in-Charges.is))));
  does = (λ bytes lines o told kept.
      did_unchanged _ (office_answer c.args.terms.limits bytes lines o (Some c.args.terms.command)) o _ _ _ _
      (rw c.in-Charges.is refl) (rw c.in-Charges.is (c.charges.ensures.wrote o (told.kept_is (ap keeper_of c.in-Charges.is))))
      ((returns-in-Charges-clause-keeper g c).keeps bytes lines o told.right told.source_is kept));
  sums = (rw c.in-Charges.is tt);
  faults = search rules;
}

-- `check DAY`
pub returns-in-Check-clause-source : goal.returns-in-Check-clause-source
returns-in-Check-clause-source g c = record {
  unused = search rules;
  passed = search rules;
  reads = (λ used. rw c.in-Check.is c.check.ensures.reads);
  rest = search rules;
  bounded = (λ o kept. rw c.in-Check.is c.check.ensures.bounded);
}

pub returns-in-Check-clause-read : goal.returns-in-Check-clause-read
returns-in-Check-clause-read g c =
    by_source _ _ _ _ _ _ _ _ (Unit {0}) _ (ap source_of c.in-Check.is) (λ bad. bad) (λ bad. bad) (λ calm. tt)
    (beside _ _ _ _ _ c.check.ensures.source)

pub returns-in-Check-clause-keeper : goal.returns-in-Check-clause-keeper
returns-in-Check-clause-keeper g c = record {
  keeps = (λ bytes lines o right told kept. rw c.in-Check.is
      (kept_same _ (check_command c.args.terms.limits c.in-Check.number c.in-Check.late bytes o) _ _ _ refl kept));
  puts = search rules;
  unchanged = search rules;
  held = search rules;
  unused = search rules;
  faults = search rules;
}

pub returns-in-Check-clause-sink : goal.returns-in-Check-clause-sink
returns-in-Check-clause-sink g c = record {
  wrote = (λ bytes lines o told.
      rw c.in-Check.is (c.check.ensures.wrote bytes o (told.source_is (ap source_of c.in-Check.is))));
  does = (λ bytes lines o told kept.
      did_unchanged _ (office_answer c.args.terms.limits bytes lines o (Some c.args.terms.command)) o _ _ _ _
      (rw c.in-Check.is refl) (rw c.in-Check.is (c.check.ensures.wrote bytes o (told.source_is (ap source_of c.in-Check.is))))
      ((returns-in-Check-clause-keeper g c).keeps bytes lines o told.right told.source_is kept));
  sums = (rw c.in-Check.is tt);
  faults = search rules;
}
