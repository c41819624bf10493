use Rattle.std.proofs.Common.{ℕ, subst, sym}
use Rattle.sqlite_pool.specs.Opening.{image}
use Rattle.sqlite_pool.specs.Pool as pool
use Rattle.sqlite_pool.specs.Stored.{Recovers}
use Rattle.keep_files.proofs.page_files.recovered.Goals as goal

pub returns-in-Ok-clause-shows : goal.returns-in-Ok-clause-shows
returns-in-Ok-clause-shows g c clean = record {
  pages = (pool.state c.recover.new.self).committed;
  found =
      subst (λ (n : ℕ). Recovers n (image c.args.pool) (pool.state c.recover.new.self).committed)
      (sym c.recover.ensures.kept.size) (c.in-Ok.ensures.found clean);
  shown = (c.in-Ok.ensures.clean clean).fresh;
}

pub returns-in-Ok-clause-ready : goal.returns-in-Ok-clause-ready
returns-in-Ok-clause-ready g c clean = (c.in-Ok.ensures.clean clean).is_open

pub returns-in-Ok-clause-kept : goal.returns-in-Ok-clause-kept
returns-in-Ok-clause-kept g c = record {
  kept = c.recover.ensures.kept;
  crash = λ left may. record {
    same = c.recover.ensures.outcomes left may;
    unread = λ un. c.recover.ensures.still un left may;
  };
}

pub returns-in-Err-clause-kept : goal.returns-in-Err-clause-kept
returns-in-Err-clause-kept g c = record {
  kept = c.recover.ensures.kept;
  crash = λ left may. record {
    same = c.recover.ensures.outcomes left may;
    unread = λ un. c.recover.ensures.still un left may;
  };
}
