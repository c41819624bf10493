use Rattle.std.proofs.Common.{subst₂, ◌∙◌}
use Rattle.sqlite_pool.specs.Stored.{Recovers}
use Rattle.sqlite_store.specs.FileStore as store
use Rattle.keep_files.proofs.FileLaws.{image_is}
use Rattle.keep_files.proofs.LeftLaws.{left_alone, left_pages, pages_before, read_same}
use Rattle.keep_files.proofs.LeftLaws.{were_clean}
use Rattle.keep_files.proofs.page_files.checked.Goals as goal

-- what the store has committed is what the files recover to
pub returns-in-Ok-open-clause-opened : goal.returns-in-Ok-open-clause-opened
returns-in-Ok-open-clause-opened g c =
    let seen = c.our_page_size.new.files in
    let it = c.in-Ok-open.store in
    record {
      ours = c.in-Ok-open.ensures.schema ∙ c.in-Ok-unopened_over.ensures.ours;
      ready = c.in-Ok-open.ensures.ready;
      form = λ clean. c.in-Ok.ensures.form
          (were_clean c.in-Ok-unopened_over.unopened.pool seen.log seen.db c.in-Ok-unopened_over.ensures.files (c.in-Ok-open.ensures.honest clean));
      recovered = λ clean. record {
        sized = (c.in-Ok-open.ensures.kept clean).size ∙ c.in-Ok-unopened_over.ensures.sized ∙ c.in-Ok.ensures.sized;
        found =
            subst₂ (λ n i. Recovers n i (store.state it).committed) (c.in-Ok-unopened_over.ensures.sized ∙ c.in-Ok.ensures.sized)
            (image_is g.D.Disk seen c.args.files _ c.in-Ok-unopened_over.ensures.files
            (read_same c.args.files seen c.our_page_size.ensures.reads))
            (c.in-Ok-open.ensures.found clean);
      };
      crash = pages_before g.D.Disk c.args.files seen c.in-Ok-unopened_over.unopened.pool it.pool c.our_page_size.ensures.reads
          c.in-Ok-unopened_over.ensures.files (c.in-Ok-unopened_over.ensures.sized ∙ c.in-Ok.ensures.sized)
          (λ clean image may.
          let h = (c.in-Ok-open.ensures.kept clean).crash image may in record { same = h.same; unread = h.unread });
    }

-- files that an earlier failure left not to be used
pub returns-then-not-may_be_used-clause-left : goal.returns-then-not-may_be_used-clause-left
returns-then-not-may_be_used-clause-left g c = left_alone g.D.Disk g.met.D.Disk.seen_may_stay c.args.files

-- they are not a database of our schema
pub returns-in-Err-Refused-default-clause-left : goal.returns-in-Err-Refused-default-clause-left
returns-in-Err-Refused-default-clause-left g c =
    let it = c.in-Err-Refused-default.unopened in
    left_pages g.D.Disk c.args.files c.our_page_size.new.files c.in-Ok-unopened_over.unopened.pool it.pool
    c.our_page_size.ensures.reads c.in-Ok-unopened_over.ensures.files (c.in-Ok-unopened_over.ensures.sized ∙ c.in-Ok.ensures.sized)
    (λ clean image may.
    let h = (c.in-Err-Refused-default.ensures.unharmed clean).crash image may in
    record { same = h.same; unread = h.unread })
    g.met.D.Disk.seen_may_stay c.close.result c.in-Ok.ensures.form c.in-Err-Refused-default.ensures.falls
    c.close.ensures
