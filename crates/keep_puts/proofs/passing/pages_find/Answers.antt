use Rattle.keep_puts.proofs.PassingLaws.{pages_found}
use Rattle.keep_puts.proofs.passing.pages_find.Goals as goal

pub returns : goal.returns
returns g c = pages_found g.met.D.Disk.seen_may_stay c.args.store.now c.args.pages.now
