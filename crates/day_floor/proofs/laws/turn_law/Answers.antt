use Rattle.day_floor.proofs.Runs.{each_run, rules_text, rules_charges, last_text, last_charges, last_starts}
use Rattle.day_floor.proofs.laws.turn_law.Goals as goal

pub returns-clause-kept : goal.returns-clause-kept
returns-clause-kept c =
    λ width limits turns some lawful number kept. each_run width limits number kept turns some lawful

pub returns-clause-rules : goal.returns-clause-rules
returns-clause-rules c = λ tariffs width limits turns some lawful right number kept. (
  rules_text width limits number kept tariffs turns some lawful right,
  rules_charges width limits number kept tariffs
      turns some lawful right,
)

pub returns-clause-last : goal.returns-clause-last
returns-clause-last c = λ width limits turns lawful none number kept. (
  last_text width limits number kept turns lawful none,
  last_charges width limits number kept turns lawful none,
  last_starts width limits number kept turns lawful none,
)
