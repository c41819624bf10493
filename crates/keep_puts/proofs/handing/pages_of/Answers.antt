use Rattle.sqlite_wal.specs.PageSize.{bytes_of}
use Rattle.keep_puts.proofs.HandingLaws.{found_in}
use Rattle.keep_puts.proofs.handing.pages_of.Goals as goal

pub returns-in-Ok-recover : goal.returns-in-Ok-recover
returns-in-Ok-recover g c = λ clean.
    found_in (bytes_of c.args.size) c.args.files.log c.args.files.db c.in-Ok.pool c.recover.new.self c.in-Ok.ensures
    (c.in-Ok-recover.ensures.clean clean) (c.in-Ok-recover.ensures.found clean) c.in-Ok-recover.ensures.kept clean
