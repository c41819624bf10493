use Rattle.std.proofs.Common.{[], refl}
use Rattle.day_floor.proofs.SettlingBookLaws.{book_none}
use Rattle.day_floor.proofs.settler.Settler.new.Goals as goal

pub returns-clause-stands : goal.returns-clause-stands
returns-clause-stands c = λ finding number history. record {
  settled = refl;
  book = book_none finding c.new.result c.new.ensures;
  told = [];
  told_are = refl;
  count = c.new-2.ensures.count;
  took = c.new-2.ensures.took;
  none_held = c.new-2.ensures.held;
  none_charged = c.new-3.ensures.items;
}
