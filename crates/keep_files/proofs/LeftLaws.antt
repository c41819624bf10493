-- What a look for our trees left of files.
use Rattle.std.proofs.Common.{◌≡◌, ℕ, Result, Ok, Err, IfOk, IsTrue, inl, inr, sym, ap, subst, subst₂, ◌∙◌}
use Rattle.std.proofs.lemmas.Bool.{and_from, and_parts}
use Rattle.sqlite_disk.specs.declared.Disk.{Ghosts}
use Rattle.sqlite_disk.specs.declared.Files.{Files}
use Rattle.sqlite_wal.specs.Files.{outcomes}
use Rattle.sqlite_wal.specs.Reads.{AreClean, OnlyReads, OnlyReadsBoth, are_clean}
use Rattle.sqlite_wal.specs.Recovery.{Image}
use Rattle.sqlite_wal.proofs.LogLemmas.{SeenMayStay}
use Rattle.sqlite_pool.specs.declared.pool.Pool.{Pool}
use Rattle.sqlite_pool.specs.Opening.{image as image_in}
use Rattle.sqlite_pool.specs.Pool as pool
use Rattle.sqlite_pool.specs.Stored.{IsUnreadable, Recovers, RecoversAs}
use Rattle.sqlite_pool.specs.StoredLaws.{RecoversAs-from, carried, readable}
use Rattle.sqlite_pool.proofs.StateLemmas.{clean_is, may_leave_is, settled}
use Rattle.sqlite_store.specs.declared.store.FileStore.{FileStore}
use Rattle.sqlite.specs.Files.{image_of}
use Rattle.sqlite.specs.Held.{Held}
use Rattle.keep_files.specs.Files.{AreLeft, HaveOurForm, IsAsBefore, IsAsBeforeFor, OfClosed, OfFiles}
use Rattle.keep_files.specs.Openings.{AsWhole}
use Rattle.keep_files.proofs.FileLaws.{image_is}

module _ {D : Type 0} {g : Ghosts D} where
  -- a file that was only read, and only read again, was only read
  read_twice : (a b c : D) → OnlyReads g a b → OnlyReads g b c → OnlyReads g a c
  read_twice a b c first then = record {
    seen = then.seen ∙ first.seen;
    clean = λ h. first.clean (then.clean h);
    usable = then.usable;
    key = then.key ∙ first.key;
    rot = then.rot ∙ first.rot;
    crash = λ left h. first.crash left (then.crash left h);
  }

  -- so were two files
  pub both_read_twice : (a b c : D × D) → OnlyReadsBoth g a b → OnlyReadsBoth g b c → OnlyReadsBoth g a c
  both_read_twice a b c first then =
      (read_twice a.0 b.0 c.0 first.0 then.0, read_twice a.1 b.1 c.1 first.1 then.1)

  -- two files that are clean were so before they were only read
  pub were_honest : (a b : D × D) → OnlyReadsBoth g a b → AreClean g b.0 b.1 → AreClean g a.0 a.1
  were_honest a b reads clean =
      let now = and_parts (g.is_clean b.0) (g.is_clean b.1) clean in
      and_from (g.is_clean a.0) (g.is_clean a.1) (reads.0.clean now.0) (reads.1.clean now.1)

  -- what two files read as
  pub read_same : (files seen : Files D) → OnlyReadsBoth g (files.log, files.db) (seen.log, seen.db)
      → image_of g seen ≡ image_of g files
  read_same files seen reads = λ i. record { log = reads.0.seen i; db = reads.1.seen i }

  -- the files of clean pages are clean
  pub were_clean : (it : Pool D g) (log db : D) → pool.files it ≡ (log, db) → IsTrue (pool.state it).is_clean
      → AreClean g log db
  were_clean it log db are clean = ap (λ (p : D × D). are_clean g p.0 p.1) (sym are) ∙ sym (clean_is it) ∙ clean

  -- and pages of clean files are clean
  are_clean_now : (it : Pool D g) (log db : D) → (log, db) ≡ pool.files it → AreClean g log db
      → IsTrue (pool.state it).is_clean
  are_clean_now it log db are clean = clean_is it ∙ ap (λ (p : D × D). are_clean g p.0 p.1) (sym are) ∙ clean

  -- what a crash may leave of pages, it may leave of their files
  outcomes_of : (it : Pool D g) (image : Image) → (pool.state it).may_leave image
      → outcomes g (pool.files it).0 (pool.files it).1 image
  unfolding pool.state pool.files
  outcomes_of it image may = may.1

  -- whatever a crash leaves of pages that were recovered and then only continued stands for what the files stood for
  pub still_before : SeenMayStay g → (it found last : Pool D g)
      → (pool.state found).page_size ≡ (pool.state it).page_size → IsTrue (pool.state found).is_open
      → Recovers (pool.state it).page_size (image_in it) (pool.state found).committed → pool.Follows found last
      → (image : Image) → (pool.state last).may_leave image
      → IsAsBefore (pool.state it).page_size (image_in it) (pool.state it).may_leave image
  still_before stays it found last size on was follows image may =
      let before = follows.keeps.crash image may in
      let there = (settled found stays on).durable before.0 before.1 in
      let now = carried (pool.state found).page_size before.0 image before.2 (pool.state found).committed there in
      record {
        same = inr
            (RecoversAs-from (pool.state it).page_size (image_in it) image (pool.state found).committed was
            (subst (λ (n : ℕ). Recovers n image (pool.state found).committed) size now));
        unread = λ un. absurd (readable (pool.state it).page_size (image_in it) (pool.state found).committed was un);
      }

module _ {D : Type 0} (g : Ghosts D) (files seen : Files D) (it last : Pool D g)
    (reads : OnlyReadsBoth g (files.log, files.db) (seen.log, seen.db)) (are : pool.files it ≡ (seen.log, seen.db))
    (size : (pool.state it).page_size ≡ 4096)
    (asks : IsTrue (pool.state last).is_clean → (image : Image) → (pool.state last).may_leave image
    → IsAsBefore (pool.state it).page_size (image_in it) (pool.state it).may_leave image) where
  -- whatever a crash leaves of pages that were made of files, once these were only read, is as before for the files
  pub pages_before : IsTrue (pool.state last).is_clean → (image : Image) → (pool.state last).may_leave image
      → IsAsBeforeFor g files image
  pages_before clean image may =
      let read : image_in it ≡ image_of g files =
      image_is g seen files (pool.files it) are (read_same files seen reads) in
      let older : (left : Image) → (pool.state it).may_leave left → outcomes g files.log files.db left =
      λ left old.
      let then = subst (λ (p : D × D). outcomes g p.0 p.1 left) are (outcomes_of it left old) in
      (reads.0.crash left.log then.0, reads.1.crash left.db then.1) in
      let h = asks clean image may in
      record {
        same = elim h.same [
          | inl old ↦ inl (older image old)
          | inr alike ↦ inr (subst₂ (λ (n : ℕ) (i : Image). RecoversAs n i image) size read alike)
        ];
        unread = λ un. older image
            (h.unread (subst₂ (λ (n : ℕ) (i : Image). IsUnreadable n i) (sym size) (sym read) un));
      }

  -- so are the files that such pages give back
  pub left_pages : SeenMayStay g → (left : Files D) → (AreClean g seen.log seen.db → HaveOurForm (image_of g files))
      → (IsTrue (pool.state last).is_clean → IsTrue (pool.state it).is_clean)
      → (left.log, left.db) ≡ pool.files last → AreLeft g files left
  left_pages stays left form honest same =
      let now : AreClean g left.log left.db → IsTrue (pool.state last).is_clean =
      are_clean_now last left.log left.db same in
      let was : AreClean g left.log left.db → AreClean g seen.log seen.db =
      λ clean. were_clean it seen.log seen.db are (honest (now clean)) in
      let before : AreClean g left.log left.db → (image : Image) → outcomes g left.log left.db image
      → IsAsBeforeFor g files image =
      λ clean image may. pages_before (now clean) image
      (may_leave_is last image (subst (λ (p : D × D). AreClean g p.0 p.1) same clean)
      (subst (λ (p : D × D). outcomes g p.0 p.1 image) same may)) in
      record {
        honest = λ clean. were_honest (files.log, files.db) (seen.log, seen.db) reads (was clean);
        foreign = λ clean odd. absurd (odd (form (was clean)));
        crash = before;
        same = λ clean. before clean (image_of g left) (stays left.log, stays left.db);
      }

module _ {D : Type 0} (g : Ghosts D) (stays : SeenMayStay g) where
  -- files that were only read
  pub left_read : (files left : Files D) → OnlyReadsBoth g (files.log, files.db) (left.log, left.db)
      → AreLeft g files left
  left_read files left reads =
      let before : (image : Image) → outcomes g left.log left.db image → IsAsBeforeFor g files image =
      λ image may.
      let was : outcomes g files.log files.db image =
      (reads.0.crash image.log may.0, reads.1.crash image.db may.1) in
      record { same = inl was; unread = λ un. was } in
      record {
        honest = were_honest (files.log, files.db) (left.log, left.db) reads;
        foreign = λ clean odd. read_same files left reads;
        crash = λ clean. before;
        same = λ clean. before (image_of g left) (stays left.log, stays left.db);
      }

  -- the same, where they were handed on
  pub left_handed : (files seen left : Files D) → OnlyReadsBoth g (files.log, files.db) (seen.log, seen.db)
      → (left.log ≡ seen.log) × (left.db ≡ seen.db) → AreLeft g files left
  left_handed files seen left reads same =
      left_read files left (
        subst (OnlyReads g files.log) (sym same.0) reads.0,
        subst (OnlyReads g files.db) (sym same.1) reads.1,
      )

  -- nobody looked at the files
  pub left_alone : (files : Files D) → AreLeft g files files
  left_alone files =
      let before : (image : Image) → outcomes g files.log files.db image → IsAsBeforeFor g files image =
      λ image may. record { same = inl may; unread = λ un. may } in
      record {
        honest = λ clean. clean;
        foreign = λ clean odd i. image_of g files;
        crash = λ clean. before;
        same = λ clean. before (image_of g files) (stays files.log, stays files.db);
      }

  -- a whole file was found in files that nobody looked at
  pub whole_alone : {E : Type 0} (files : Files D) (r : Result (Held (FileStore D g)) E)
      → IfOk r (λ conn. OfClosed g files (AsWhole conn))
      → IfOk r (λ conn. OfFiles g files (AsWhole conn))
  whole_alone files (Ok conn) h = (files, left_alone files, h)
  whole_alone files (Err e) h = tt
