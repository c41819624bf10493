use Rattle.keep_puts.proofs.PassingLaws.{pages_found_again}
use Rattle.keep_puts.proofs.passing.pages_find_again.Goals as goal

pub returns : goal.returns
returns g c = pages_found_again g.met.D.Disk.seen_may_stay c.args.old.now c.args.new.now
