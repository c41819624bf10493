use Rattle.sqlite_wal.specs.PageSize.{bytes_of}
use Rattle.keep_puts.proofs.HandingLaws.{hands_over}
use Rattle.keep_puts.proofs.handing.store_of_pages.Goals as goal

pub returns-in-Ok : goal.returns-in-Ok
returns-in-Ok g c =
    hands_over g.met.D.Disk.seen_may_stay (bytes_of c.args.size) c.close-files.result.log c.close-files.result.db
    c.args.pages c.in-Ok.store c.close-files.ensures c.requires.sized c.in-Ok.ensures
