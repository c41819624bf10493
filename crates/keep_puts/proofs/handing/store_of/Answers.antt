use Rattle.std.proofs.Common.{sym, ◌∙◌}
use Rattle.sqlite_wal.specs.PageSize.{bytes_of}
use Rattle.keep_puts.proofs.HandingLaws.{opened_in}
use Rattle.keep_puts.proofs.handing.store_of.Goals as goal

pub returns-in-Ok-open : goal.returns-in-Ok-open
returns-in-Ok-open g c = λ clean.
    opened_in (bytes_of c.args.size) c.args.files.log c.args.files.db c.in-Ok-new.unopened c.in-Ok-open.store
    (c.in-Ok-new.ensures.files ∙ c.in-Ok.ensures.files) (c.in-Ok-new.ensures.size ∙ c.in-Ok.ensures.size)
    (c.in-Ok-new.ensures.schema ∙ sym c.requires.ours) c.in-Ok-open.ensures.schema c.in-Ok-open.ensures.ready
    (c.in-Ok-open.ensures.found clean) (c.in-Ok-open.ensures.kept clean).size clean
