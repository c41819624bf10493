use Rattle.std.proofs.Common.{◌≡◌, ◌∙◌, IsTrue, arith}
use Rattle.sqlite_pages.specs.Outcome.{doubt}
use Rattle.sqlite_pages.proofs.Doubt.{clean_of, no_doubt}
use Rattle.sqlite_pool.specs.Opening.{image}
use Rattle.sqlite_pool.specs.Pool as pool
use Rattle.sqlite_pool.specs.PoolLaws.{Follows-trans}
use Rattle.sqlite.specs.Files.{image_of}
use Rattle.keep_files.proofs.FileLaws.{image_is, shows_on}
use Rattle.keep_files.specs.Causes.{IsOfChecking}
use Rattle.keep_files.specs.Files.{AreLeft}
use Rattle.keep_files.proofs.LeftLaws.{left_pages, pages_before, read_same, still_before, were_clean}
use Rattle.keep_files.proofs.MissedLaws.{failed_so, foreign_so}
use Rattle.keep_files.proofs.page_files.trees_of.Goals as goal

-- the pages show what the files recover to
pub returns-in-Ok-listed-clause-opened : goal.returns-in-Ok-listed-clause-opened
returns-in-Ok-listed-clause-opened g c =
    let seen = c.our_page_size.new.files in
    let found = c.in-Ok-recovered.pool in
    let mid = c.in-Ok-folded.pool in
    let last = c.in-Ok-listed.trees.pages in
    let then : doubt (pool.state last).is_clean ≡ 0 → IsTrue (pool.state mid).is_clean =
    λ sure. clean_of (pool.state mid).is_clean (omega (arith, c.in-Ok-listed.ensures.kept.clean, sure)) in
    let was : doubt (pool.state last).is_clean ≡ 0 → IsTrue (pool.state found).is_clean =
    λ sure. c.in-Ok-folded.ensures.kept.keeps.stays.clean (then sure) in
    let size : (pool.state last).page_size ≡ (pool.state found).page_size =
    c.in-Ok-listed.ensures.kept.same_size ∙ c.in-Ok-folded.ensures.kept.keeps.stays.size in
    let follows : pool.Follows found last =
    Follows-trans found mid last c.in-Ok-folded.ensures.kept c.in-Ok-listed.ensures.kept.in_order in
    record {
      sized =
          size ∙ c.in-Ok-recovered.ensures.kept.kept.size ∙ c.in-Ok-pool_over.ensures.sized ∙ c.in-Ok.ensures.sized;
      form = λ sure. c.in-Ok.ensures.form
          (were_clean c.in-Ok-pool_over.pool seen.log seen.db c.in-Ok-pool_over.ensures.files
          (c.in-Ok-recovered.ensures.kept.kept.clean (was sure)));
      shown = λ sure. shows_on (image c.in-Ok-pool_over.pool) (image_of g.D.Disk c.args.files) found last
          (image_is g.D.Disk seen c.args.files _ c.in-Ok-pool_over.ensures.files
          (read_same c.args.files seen c.our_page_size.ensures.reads))
          size (c.in-Ok-listed.ensures.same ∙ c.in-Ok-folded.ensures.same (then sure))
          (c.in-Ok-recovered.ensures.shows (was sure));
      crash = λ sure. pages_before g.D.Disk c.args.files seen c.in-Ok-pool_over.pool last c.our_page_size.ensures.reads
          c.in-Ok-pool_over.ensures.files (c.in-Ok-pool_over.ensures.sized ∙ c.in-Ok.ensures.sized)
          (λ clean. still_before g.met.D.Disk.seen_may_stay c.in-Ok-pool_over.pool found last
          c.in-Ok-recovered.ensures.kept.kept.size (c.in-Ok-recovered.ensures.ready (was sure))
          (c.in-Ok-recovered.ensures.found (was sure)) follows)
          (clean_of (pool.state last).is_clean sure);
    }

-- the pages could not be recovered
pub returns-in-Err-recovered-clause-left : goal.returns-in-Err-recovered-clause-left
returns-in-Err-recovered-clause-left g c =
    let last = c.in-Err-recovered.pool in
    foreign_so (λ left. (left.log, left.db) ≡ pool.files last) (AreLeft g.D.Disk c.args.files)
    (λ left same. left_pages g.D.Disk c.args.files c.our_page_size.new.files c.in-Ok-pool_over.pool last
    c.our_page_size.ensures.reads c.in-Ok-pool_over.ensures.files (c.in-Ok-pool_over.ensures.sized ∙ c.in-Ok.ensures.sized)
    (λ clean. c.in-Err-recovered.ensures.kept.crash) g.met.D.Disk.seen_may_stay left
    c.in-Ok.ensures.form c.in-Err-recovered.ensures.kept.kept.clean same)
    c.missed.result c.missed.ensures.foreign

pub returns-in-Err-recovered-clause-failed : goal.returns-in-Err-recovered-clause-failed
returns-in-Err-recovered-clause-failed g c =
    failed_so IsOfChecking c.in-Err-recovered.why c.in-Err-recovered.ensures.failed c.missed.result
    c.missed.ensures.failed

-- they do not list our trees
pub returns-in-Err-listed-clause-left : goal.returns-in-Err-listed-clause-left
returns-in-Err-listed-clause-left g c =
    let found = c.in-Ok-recovered.pool in
    let mid = c.in-Ok-folded.pool in
    let last = c.in-Err-listed.pool in
    let was : IsTrue (pool.state last).is_clean → IsTrue (pool.state found).is_clean =
    λ clean.
    let now : doubt (pool.state last).is_clean ≡ 0 = no_doubt (pool.state last).is_clean clean in
    c.in-Ok-folded.ensures.kept.keeps.stays.clean
    (clean_of (pool.state mid).is_clean (omega (arith, now, c.in-Err-listed.ensures.back.clean))) in
    let follows : pool.Follows found last =
    Follows-trans found mid last c.in-Ok-folded.ensures.kept c.in-Err-listed.ensures.back.in_order in
    foreign_so (λ left. (left.log, left.db) ≡ pool.files last) (AreLeft g.D.Disk c.args.files)
    (λ left same. left_pages g.D.Disk c.args.files c.our_page_size.new.files c.in-Ok-pool_over.pool last
    c.our_page_size.ensures.reads
    c.in-Ok-pool_over.ensures.files (c.in-Ok-pool_over.ensures.sized ∙ c.in-Ok.ensures.sized)
    (λ clean. still_before g.met.D.Disk.seen_may_stay c.in-Ok-pool_over.pool found last
    c.in-Ok-recovered.ensures.kept.kept.size (c.in-Ok-recovered.ensures.ready (was clean))
    (c.in-Ok-recovered.ensures.found (was clean)) follows)
    g.met.D.Disk.seen_may_stay left c.in-Ok.ensures.form
    (λ clean. c.in-Ok-recovered.ensures.kept.kept.clean (was clean)) same)
    c.missed-in-Err-listed.result c.missed-in-Err-listed.ensures.foreign

pub returns-in-Err-listed-clause-failed : goal.returns-in-Err-listed-clause-failed
returns-in-Err-listed-clause-failed g c =
    failed_so IsOfChecking c.in-Err-listed.why c.in-Err-listed.ensures.failed c.missed-in-Err-listed.result
    c.missed-in-Err-listed.ensures.failed

-- what their log has could not be copied
pub returns-in-Err-folded-clause-left : goal.returns-in-Err-folded-clause-left
returns-in-Err-folded-clause-left g c =
    let found = c.in-Ok-recovered.pool in
    let last = c.in-Err-folded.pool in
    let was : IsTrue (pool.state last).is_clean → IsTrue (pool.state found).is_clean =
    λ clean. c.in-Err-folded.ensures.kept.keeps.stays.clean clean in
    foreign_so (λ left. (left.log, left.db) ≡ pool.files last) (AreLeft g.D.Disk c.args.files)
    (λ left same. left_pages g.D.Disk c.args.files c.our_page_size.new.files c.in-Ok-pool_over.pool last
    c.our_page_size.ensures.reads
    c.in-Ok-pool_over.ensures.files (c.in-Ok-pool_over.ensures.sized ∙ c.in-Ok.ensures.sized)
    (λ clean. still_before g.met.D.Disk.seen_may_stay c.in-Ok-pool_over.pool found last
    c.in-Ok-recovered.ensures.kept.kept.size (c.in-Ok-recovered.ensures.ready (was clean))
    (c.in-Ok-recovered.ensures.found (was clean)) c.in-Err-folded.ensures.kept)
    g.met.D.Disk.seen_may_stay left c.in-Ok.ensures.form
    (λ clean. c.in-Ok-recovered.ensures.kept.kept.clean (was clean)) same)
    c.missed-in-Err-folded.result c.missed-in-Err-folded.ensures.foreign

pub returns-in-Err-folded-clause-failed : goal.returns-in-Err-folded-clause-failed
returns-in-Err-folded-clause-failed g c =
    failed_so IsOfChecking c.in-Err-folded.why c.in-Err-folded.ensures.failed c.missed-in-Err-folded.result
    c.missed-in-Err-folded.ensures.failed
