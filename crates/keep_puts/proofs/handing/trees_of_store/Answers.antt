use Rattle.std.proofs.Common.{◌≡◌, ◌≤◌, sym, ◌∙◌, arith}
use Rattle.sqlite_pages.proofs.Doubt.{clean_of, no_doubt}
use Rattle.sqlite_pages.specs.Outcome.{doubt}
use Rattle.sqlite_pool.specs.Pool.{state}
use Rattle.sqlite_wal.specs.PageSize.{bytes_of}
use Rattle.keep_puts.proofs.HandingLaws.{takes_back}
use Rattle.keep_puts.proofs.handing.trees_of_store.Goals as goal

pub returns-in-Ok-open : goal.returns-in-Ok-open
returns-in-Ok-open g c = λ clean.
    let over : _ = c.in-Ok-true.ensures.0 c.in-Ok-true.field-0-test in
    let same : _ = c.in-Ok-open.ensures.same in
    let now : doubt (state c.in-Ok-open.trees.pages).is_clean ≡ 0 =
    no_doubt (state c.in-Ok-open.trees.pages).is_clean clean in
    let less : doubt (state c.in-Ok.pool).is_clean ≤ doubt (state c.in-Ok-open.trees.pages).is_clean = same.0.clean in
    takes_back g.met.D.Disk.seen_may_stay (bytes_of c.args.size) c.close-files.result.log c.close-files.result.db
    c.args.store c.in-Ok.pool c.in-Ok-open.trees c.close-files.ensures
    (λ shown. sym (c.is_broken.ensures.shown shown) ∙ c.if-is_broken.false) over.0 (over.1 ∙ sym c.requires.ours)
    over.2 c.in-Ok.ensures same.0.same_size same.0.in_order same.1 (c.in-Ok-open.ensures.found now)
    (clean_of (state c.in-Ok.pool).is_clean (omega (arith, less, now)))
