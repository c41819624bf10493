use Rattle.day_floor.proofs.BookLaws.{sound_new}
use Rattle.day_floor.proofs.book.Book.new.Goals as goal

pub invariant_of-result : goal.invariant_of-result
invariant_of-result c =
    sound_new c.new.result.entries c.new-2.result.entries c.new.ensures.empty c.new-2.ensures.empty c.new.ensures.unique
