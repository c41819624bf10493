use Rattle.std.proofs.Common.{◌≡◌, Option, subst, rules}
use Rattle.day_import.specs.declared.outcomes.Outcome.TheVariants.{WriteFault}
use Rattle.day_import.specs.Imports.{import_answer, work_by, import_worked, unless_recorded, Merges}
use Rattle.office_commands.proofs.NamedLaws.{import_named}
use Rattle.office_commands.proofs.OutcomeLaws.{wrote, keeps, by_sink, did, held, by_read, by_keeper}
use Rattle.road_time.specs.Reads.{reads}
use Rattle.day_reading.specs.Days.{most_of_day}
use Rattle.road_io.specs.Within.{ReadsWithin}
use Rattle.keep_office.specs.Office.{record_of}
use Rattle.keep_office.specs.declared.kept.DayRecord.{DayRecord}
use Rattle.office_commands.proofs.StartLaws.{stored_worked, imported_worked}
use Rattle.office_commands.proofs.RestLaws.{imported_to, imported_alone, rests}
use Rattle.office_commands.proofs.imports.import.Goals as goal

pub returns-clause-held : goal.returns-clause-held
returns-clause-held g c =
    held c.args.run.day (g.K.Keeper.told c.import-done.new.keeper ≡ g.K.Keeper.told c.args.keeper.now)
    c.import-done.result c.ended.result c.ended.ensures.ends c.import-done.ensures.keeps

pub returns-clause-source : goal.returns-clause-source
returns-clause-source g c = record {
  passed = search rules;
  stops = (λ bytes left.
      imported_to (reads bytes c.args.limits.now c.args.run.late).refused bytes (g.S.Source.left c.import-done.new.source)
      c.args.run.day c.import-done.result c.ended.result
      c.ended.ensures.ends (c.import-done.ensures.leaves bytes left));
  uncompared = (let before = g.S.Source.left c.args.source.now in
      let after = g.S.Source.left c.import-done.new.source in
      imported_alone c.args.run.day (ReadsWithin (most_of_day c.args.limits.now) before after) c.import-done.result
      c.ended.result c.ended.ensures.ends c.import-done.ensures.uncompared);
  rest = (λ bytes o left told.
      let read = reads bytes c.args.limits.now c.args.run.late in
      let merged = c.import-done.ensures.merged bytes o left told in
      let number = c.args.run.day in
      rests g.K.Keeper.refuses (work_by merged.found number read.tuples o) number bytes read.tuples read.refused o
      (record_of o number)
      (g.O.Sink.written c.args.sink.now) (g.O.Sink.written c.import-done.new.sink)
      (g.K.Keeper.told c.import-done.new.keeper) (g.S.Source.left c.import-done.new.source) c.import-done.result
      c.ended.result
      merged.merges (λ kept stored. c.import-done.ensures.whole bytes kept left stored)
      (c.import-done.ensures.rest bytes o left told) c.ended.ensures.ends);
  bounded = search rules;
  faults = (by_read c.import-done.result c.ended.result _ _ _ c.ended.ensures.unread c.ended.ensures.read_told
      c.ended.ensures.write_told c.ended.ensures.keeper_told c.import-done.ensures.source);
}

pub returns-clause-sink : goal.returns-clause-sink
returns-clause-sink g c = record {
  wrote = (λ right bytes o left told.
      let a = import_answer c.args.run.day c.args.run.late c.args.limits.now bytes o in
      wrote g.K.Keeper.refuses c.args.run.day a o (g.O.Sink.written c.args.sink.now)
      (g.O.Sink.written c.import-done.new.sink) (g.K.Keeper.told c.import-done.new.keeper)
      (import_named c.args.run.day c.args.run.late c.args.limits.now bytes o) c.import-done.result
      c.ended.result c.ended.ensures.ends (c.import-done.ensures.does right bytes o left told));
  does = (λ right bytes o left told.
      let a = import_answer c.args.run.day c.args.run.late c.args.limits.now bytes o in
      did g.K.Keeper.refuses c.args.run.day a o (g.O.Sink.written c.args.sink.now)
      (g.O.Sink.written c.import-done.new.sink) (g.K.Keeper.told c.import-done.new.keeper)
      (import_named c.args.run.day c.args.run.late c.args.limits.now bytes o) c.import-done.result
      c.ended.result c.ended.ensures.ends (c.import-done.ensures.does right bytes o left told));
  faults = (by_sink (c.import-done.result ≡ WriteFault) c.ended.result _ _ _ _ c.ended.ensures.failed
      c.ended.ensures.write_told c.import-done.ensures.sink);
}

pub returns-clause-keeper : goal.returns-clause-keeper
returns-clause-keeper g c = record {
  keeps = (λ right bytes o left told.
      let a = import_answer c.args.run.day c.args.run.late c.args.limits.now bytes o in
      keeps g.K.Keeper.refuses c.args.run.day a o (g.O.Sink.written c.args.sink.now)
      (g.O.Sink.written c.import-done.new.sink) (g.K.Keeper.told c.import-done.new.keeper) c.import-done.result
      c.ended.result c.ended.ensures.ends (c.import-done.ensures.does right bytes o left told));
  faults = (by_keeper _ _ _ _ _ c.ended.ensures.unkept c.ended.ensures.keeper_told
      c.import-done.ensures.keeper);
}

pub returns-clause-crew : goal.returns-clause-crew
returns-clause-crew g c = record {
  jobs = (λ bytes left. record {
    outcome = c.import-done.result;
    jobs = c.import-done.ensures.jobs bytes left;
    planned = (_, _, c.import-done.ensures.planned bytes left);
    whole =
        let number = c.args.run.day in
        let read = reads bytes c.args.limits.now c.args.run.late in
        let old = g.O.Sink.written c.args.sink.now in
        let new = g.O.Sink.written c.import-done.new.sink in
        let now = g.K.Keeper.told c.import-done.new.keeper in
        let done = c.import-done.result in
        imported_worked number done c.ended.result (g.K.Keeper.told c.args.keeper.now) c.ended.ensures.ends
        (λ o told none well.
        let merged = c.import-done.ensures.merged bytes o left told in
        let work = work_by merged.found number read.tuples o in
        stored_worked g.K.Keeper.refuses work number bytes read.tuples read.refused o old new now done c.ended.result
        (subst (λ (r : Option DayRecord). Merges g.K.Keeper.refuses
        (unless_recorded r (import_worked work number bytes read.tuples read.refused o) number bytes o) o old new now
        done) none merged.merges) c.ended.ensures.ends well);
  });
  idle = search rules;
  same = search rules;
}
