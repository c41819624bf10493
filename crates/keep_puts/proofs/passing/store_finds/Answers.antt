use Rattle.keep_puts.proofs.PassingLaws.{store_found}
use Rattle.keep_puts.proofs.passing.store_finds.Goals as goal

pub returns : goal.returns
returns g c = store_found g.met.D.Disk.seen_may_stay c.args.pages.now c.args.store.now
