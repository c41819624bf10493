use Rattle.std.proofs.Common.{◌≡◌, rules}
use Rattle.day_import.specs.declared.outcomes.Outcome.TheVariants.{WriteFault}
use Rattle.day_import.specs.Imports.{answers_answer}
use Rattle.office_commands.proofs.NamedLaws.{answers_named}
use Rattle.office_commands.proofs.OutcomeLaws.{wrote, keeps, by_sink, did, by_read, by_keeper}
use Rattle.road_time.specs.Reads.{reads}
use Rattle.office_commands.proofs.StartLaws.{answered_worked}
use Rattle.office_commands.proofs.RestLaws.{answered_to}
use Rattle.office_commands.proofs.answers.answers.Goals as goal

pub returns-clause-source : goal.returns-clause-source
returns-clause-source g c = record {
  reads = (record {
    within = c.answers-done.ensures.bounded;
    to = λ bytes left. answered_to (reads bytes c.args.limits.now c.args.run.late).refused bytes
        (g.S.Source.left c.answers-done.new.source) c.args.run.day c.answers-done.result c.ended.result
        c.ended.ensures.ends c.answers-done.ensures.own (c.answers-done.ensures.leaves bytes left);
  });
  faults = (by_read c.answers-done.result c.ended.result _ _ _ c.ended.ensures.unread c.ended.ensures.read_told
      c.ended.ensures.write_told c.ended.ensures.keeper_told c.answers-done.ensures.source);
}

pub returns-clause-sink : goal.returns-clause-sink
returns-clause-sink g c = record {
  wrote = (λ right bytes o left told.
      let a = answers_answer c.args.run.day c.args.run.late c.args.limits.now bytes o in
      wrote g.K.Keeper.refuses c.args.run.day a o (g.O.Sink.written c.args.sink.now)
      (g.O.Sink.written c.answers-done.new.sink) (g.K.Keeper.told c.answers-done.new.keeper)
      (answers_named c.args.run.day c.args.run.late c.args.limits.now bytes o) c.answers-done.result
      c.ended.result c.ended.ensures.ends (c.answers-done.ensures.does right bytes o left told));
  does = (λ right bytes o left told.
      let a = answers_answer c.args.run.day c.args.run.late c.args.limits.now bytes o in
      did g.K.Keeper.refuses c.args.run.day a o (g.O.Sink.written c.args.sink.now)
      (g.O.Sink.written c.answers-done.new.sink) (g.K.Keeper.told c.answers-done.new.keeper)
      (answers_named c.args.run.day c.args.run.late c.args.limits.now bytes o) c.answers-done.result
      c.ended.result c.ended.ensures.ends (c.answers-done.ensures.does right bytes o left told));
  faults = (by_sink (c.answers-done.result ≡ WriteFault) c.ended.result _ _ _ _ c.ended.ensures.failed
      c.ended.ensures.write_told c.answers-done.ensures.sink);
}

pub returns-clause-keeper : goal.returns-clause-keeper
returns-clause-keeper g c = record {
  keeps = (λ right bytes o left told.
      let a = answers_answer c.args.run.day c.args.run.late c.args.limits.now bytes o in
      keeps g.K.Keeper.refuses c.args.run.day a o (g.O.Sink.written c.args.sink.now)
      (g.O.Sink.written c.answers-done.new.sink) (g.K.Keeper.told c.answers-done.new.keeper) c.answers-done.result
      c.ended.result c.ended.ensures.ends (c.answers-done.ensures.does right bytes o left told));
  faults = (by_keeper _ _ _ _ _ c.ended.ensures.unkept c.ended.ensures.keeper_told
      c.answers-done.ensures.keeper);
}

pub returns-clause-crew : goal.returns-clause-crew
returns-clause-crew g c = record {
  jobs = (λ bytes left. record {
    outcome = c.answers-done.result;
    jobs = c.answers-done.ensures.jobs bytes left;
    planned = (_, _, c.answers-done.ensures.planned bytes left);
    whole = λ said. answered_worked c.args.run.day c.answers-done.result c.ended.result c.ended.ensures.ends
        c.answers-done.ensures.own said;
  });
  idle = search rules;
  same = search rules;
}
