use Rattle.keep_puts.proofs.PassingLaws.{still_read}
use Rattle.keep_puts.proofs.passing.reads_stay.Goals as goal

pub returns : goal.returns
returns g c = still_read c.args.old.now c.args.new.now
