use Rattle.std.proofs.Common.{refl, sym, subst}
use Rattle.keep_tables.proofs.AskLaws.{find_version_asks}
use Rattle.keep_writes.proofs.CauseLaws.{err_handed}
use Rattle.keep_database.specs.Looks.{IsSecond}
use Rattle.keep_database.proofs.versions.has_second.Goals as goal

pub look-requires : goal.look-requires
look-requires g c = (find_version_asks, (0, refl, refl))

pub returns-in-Ok-clause-second : goal.returns-in-Ok-clause-second
returns-in-Ok-clause-second g c clean is =
    record {
      rows = c.in_ok-found.found.items;
      shown = c.in_ok-found.ensures.shown clean;
      second = subst IsSecond c.deref.ensures.value c.in-Ok.ensures.second;
    }

pub returns-in_err-found-clause-why : goal.returns-in_err-found-clause-why
returns-in_err-found-clause-why g c clean =
    err_handed c.from_residual.result c.in_err-found.field-0.0 _ c.from_residual.ensures.1
    (c.in_err-found.ensures.why clean)

pub returns-clause-other : goal.returns-clause-other
returns-clause-other g c clean is =
    record {
      rows = c.in_ok-found.found.items;
      shown = c.in_ok-found.ensures.shown clean;
      other = λ (h : IsSecond c.in_ok-found.found.items).
          c.in-Err.ensures.other (subst IsSecond (sym c.deref.ensures.value) h);
    }
