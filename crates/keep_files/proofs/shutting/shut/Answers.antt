use Rattle.std.proofs.Common.{◌∙◌, ap, nat_lt}
use Rattle.sqlite_disk.specs.declared.tally.Tally.{Tally}
use Rattle.sqlite_wal.specs.Reads.{tally_of_files}
use Rattle.sqlite_pool.specs.Pool.{files}
use Rattle.keep_files.specs.Causes.{close_cause}
use Rattle.keep_files.proofs.shutting.shut.Goals as goal

pub returns-in-Ok-clause-copied : goal.returns-in-Ok-clause-copied
returns-in-Ok-clause-copied g c = record {
  last = c.checkpoint-copied.new.self;
  empty = c.in-Ok.ensures.moved;
  same = c.checkpoint-copied.ensures.pages;
  kept = c.checkpoint-copied.ensures.keeps;
}

pub returns-in-Err-clause-failed : goal.returns-in-Err-clause-failed
returns-in-Err-clause-failed g c =
    let before : Tally = tally_of_files g.D.Disk (files c.args.pool) in
    record {
      last = c.checkpoint-copied.new.self;
      error = c.in-Err.error;
      excused = c.in-Err.ensures.cause;
      kept = c.checkpoint-copied.ensures.keeps;
      names =
          c.cause_at_close.ensures
          ∙ ap (λ (t : Tally). close_cause c.in-Err.error (nat_lt t.refused c.tally.result.refused))
          c.tally-before.ensures
          ∙ ap (λ (t : Tally). close_cause c.in-Err.error (nat_lt before.refused t.refused)) c.tally.ensures;
    }
