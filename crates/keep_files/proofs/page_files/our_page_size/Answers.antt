use Rattle.std.proofs.Common.{rules, ◌≡◌, ℕ, List, Some, length, slice_index, sym, subst, subst₂, ◌∙◌}
use Rattle.sqlite_wal.specs.Format.{be32}
use Rattle.sqlite_wal.specs.PageSize.{Names, bytes_of, size_in_file}
use Rattle.sqlite_wal.specs.Reads.{AreClean}
use Rattle.sqlite_wal.specs.Recovery.{Image}
use Rattle.sqlite_wal.specs.Recovery as raw
use Rattle.sqlite_pages.specs.PageMap.{PageMap}
use Rattle.sqlite.specs.Files.{image_of}
use Rattle.keep_files.proofs.LeftLaws.{both_read_twice, read_same, were_honest}
use Rattle.keep_files.proofs.page_files.our_page_size.Goals as goal

-- both looks only read
pub returns-clause-reads : goal.returns-clause-reads
returns-clause-reads g c =
    both_read_twice _ _ _ (c.probe_page_size.ensures.log, c.probe_page_size.ensures.db)
    (c.probe_first_page.ensures.log, c.probe_first_page.ensures.db)

-- what they saw is our form
pub returns-clause-form : goal.returns-clause-form
returns-clause-form g c clean =
    let files = c.args.files.now in
    let seen = c.probe_page_size.new.files in
    let now = c.probe_first_page.new.files in
    let size = c.in-Ok-Some.size in
    let early : AreClean g.D.Disk seen.log seen.db =
    were_honest (seen.log, seen.db) (now.log, now.db) (c.probe_first_page.ensures.log, c.probe_first_page.ensures.db)
    clean in
    let same = read_same files seen (c.probe_page_size.ensures.log, c.probe_page_size.ensures.db) in
    let told : c.bytes.result ≡ 4096 = search rules in
    let sized : bytes_of size ≡ 4096 = sym c.bytes.ensures.value ∙ told in
    let letter : c.in-Ok.head.0 ≡ 83 = search rules in
    let word : c.in-Ok.head.1 ≡ 0x0040_2020 = search rules in
    let head : (pages : PageMap) (first : List ℕ) → raw.Recovers 4096 (image_of g.D.Disk files) pages
    → pages 1 ≡ Some first → length first ≡ 4096
    → (c.in-Ok.head.0 ≡ slice_index first 0) × (c.in-Ok.head.1 ≡ be32 first 20) =
    λ pages first found is len. c.in-Ok.ensures.value clean pages first
    (subst₂ (λ (n : ℕ) (i : Image). raw.Recovers n i pages) (sym sized) (sym same) found) is (len ∙ sym sized) in
    record {
      sized = (
        λ kept. sym sized
            ∙ (subst (λ found. Names found (be32 (g.D.Disk.seen files.log) 8)) c.in-Ok-Some.field-0-is
            (c.in-Ok-Some.ensures.by_log early kept)).1,
        λ ignored. sym sized
            ∙ (subst (λ found. Names found (size_in_file (g.D.Disk.seen files.db))) c.in-Ok-Some.field-0-is
            (c.in-Ok-Some.ensures.by_file early ignored)).1,
      );
      begins = λ pages first found is len. sym (head pages first found is len).0 ∙ letter;
      plain = λ pages first found is len. sym (head pages first found is len).1 ∙ word;
    }
