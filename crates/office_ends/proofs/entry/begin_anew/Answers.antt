use Rattle.std.proofs.Common.{◌∙◌, ap, sym, arith}
use Rattle.office_ends.specs.Drops.{command_answer}
use Rattle.office_ends.specs.Endings.{status_of}
use Rattle.office_ends.proofs.EndingLaws.{does, high, is_failing, is_fault}
use Rattle.office_ends.proofs.entry.begin_anew.Goals as goal

pub returns-clause-does : goal.returns-clause-does
returns-clause-does g c = λ o told.
    does (command_answer c.args.named c.args.base o) (g.K.Keeper.told c.renewed-ending.new.keeper)
    c.renewed-ending.result c.close.result (g.O.Sink.written c.args.sink.now) (g.O.Sink.written c.close.new.sink)
    (c.renewed-ending.ensures.does o told) c.close.ensures.closes

pub returns-clause-says : goal.returns-clause-says
returns-clause-says g c = (c.renewed-ending.result, c.close.ensures.closes)

pub returns-clause-keeper : goal.returns-clause-keeper
returns-clause-keeper g c =
    let f = c.renewed-ending.ensures.keeper in
    record {
      later = f.later;
      cause = λ is. f.cause (is_fault c.renewed-ending.result
          (sym (c.close.ensures.status (λ e. omega (arith, is, e))) ∙ is));
      still = λ well quiet. f.still (λ bad. well (c.close.ensures.status quiet ∙ ap status_of bad));
      sure = λ never is. f.sure never (is_fault c.renewed-ending.result
          (sym (c.close.ensures.status (λ e. omega (arith, is, e))) ∙ is));
    }

pub returns-clause-halts : goal.returns-clause-halts
returns-clause-halts g c = λ o fault told is.
    c.renewed-ending.ensures.halts o fault told (is_failing c.renewed-ending.result fault
    (sym (c.close.ensures.status (λ five. omega (arith, high fault, is, five))) ∙ is))
