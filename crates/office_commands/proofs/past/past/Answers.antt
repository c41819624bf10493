use Rattle.std.proofs.Common.{◌≡◌, rules}
use Rattle.road_io.specs.Within.{ReadsWithin}
use Rattle.day_past.specs.Imports.{past_answer, most_past}
use Rattle.office_commands.proofs.HistoryLaws.{past_stands, past_keeps, past_rest, past_held, past_alone}
use Rattle.office_commands.proofs.past.past.Goals as goal

pub returns-clause-exact : goal.returns-clause-exact
returns-clause-exact g c =
    λ bytes o left told.
    past_stands g.K.Keeper.refuses c.args.base (past_answer c.args.base c.args.limits.now bytes o) o
    (g.K.Keeper.told c.import_past-done.new.keeper) c.import_past-done.result c.past_ended.result
    c.past_ended.ensures.ends (c.import_past-done.ensures.does bytes o left told)

pub returns-clause-source : goal.returns-clause-source
returns-clause-source g c = record {
  passed = search rules;
  uncompared = (let before = g.S.Source.left c.args.source.now in
      let after = g.S.Source.left c.import_past-done.new.source in
      past_alone c.args.base (ReadsWithin (most_past c.args.limits.now) before after) c.import_past-done.result
      c.past_ended.result c.past_ended.ensures.ends c.import_past-done.ensures.uncompared);
  rest = (λ bytes o left told.
      past_rest g.K.Keeper.refuses c.args.limits.now c.args.base bytes o o.past
      (g.K.Keeper.told c.import_past-done.new.keeper) (g.S.Source.left c.import_past-done.new.source)
      c.import_past-done.result c.past_ended.result
      c.past_ended.ensures.ends (c.import_past-done.ensures.does bytes o left told)
      (c.import_past-done.ensures.rest bytes o left told) (c.import_past-done.ensures.soon bytes left));
  bounded = search rules;
  faults = search rules;
}

pub returns-clause-keeper : goal.returns-clause-keeper
returns-clause-keeper g c = record {
  keeps = (λ bytes o left told.
      past_keeps g.K.Keeper.refuses c.args.base (past_answer c.args.base c.args.limits.now bytes o) o
      (g.K.Keeper.told c.import_past-done.new.keeper) c.import_past-done.result c.past_ended.result
      c.past_ended.ensures.ends (c.import_past-done.ensures.does bytes o left told));
  puts = search rules;
  held = (past_held c.args.base (g.K.Keeper.told c.import_past-done.new.keeper ≡ g.K.Keeper.told c.args.keeper.now)
      c.import_past-done.result c.past_ended.result c.past_ended.ensures.ends c.import_past-done.ensures.keeps);
  faults = search rules;
}
