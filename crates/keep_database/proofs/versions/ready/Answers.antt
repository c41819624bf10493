use Rattle.std.proofs.Common.{◌∙◌, refl, inl, sym, subst}
use Rattle.keep_tables.proofs.AskLaws.{find_version_asks}
use Rattle.keep_database.proofs.StandLaws.{versioned, second, always}
use Rattle.keep_database.specs.Looks.{IsSecond}
use Rattle.keep_database.proofs.GiveLaws.{no_fault}
use Rattle.keep_database.proofs.CauseSteps.{failed_else}
use Rattle.keep_writes.proofs.CauseLaws.{err_handed, on_then}
use Rattle.keep_database.proofs.versions.ready.Goals as goal

pub look-requires : goal.look-requires
look-requires g c = (find_version_asks, (0, refl, refl))

pub returns-in_err-found-clause-why : goal.returns-in_err-found-clause-why
returns-in_err-found-clause-why g c clean o stands =
    err_handed c.from_residual.result c.in_err-found.field-0.0 _ c.from_residual.ensures.1
    (c.in_err-found.ensures.why clean)

pub returns-clause-stands : goal.returns-clause-stands
returns-clause-stands g c clean o stands =
    let shown = c.in_ok-found.ensures.shown clean in
    always c.is_second.result _
    (shown.is_open, versioned g.S.Store c.args.conn.now c.look.new.conn c.in_ok-found.found.items shown o stands)

pub returns-clause-version : goal.returns-clause-version
returns-clause-version g c clean =
    on_then c.is_second.result _ _ c.is_second.ensures.second
    (λ second. record {
      rows = c.in_ok-found.found.items;
      shown = c.in_ok-found.ensures.shown clean;
      second = subst IsSecond c.deref.ensures.value second;
    })

pub returns-clause-why : goal.returns-clause-why
returns-clause-why g c clean o stands =
    no_fault c.is_second.result _
    (c.is_second.ensures.there
    (c.deref.ensures.value ∙ second g.S.Store c.args.conn.now c.look.new.conn c.in_ok-found.found.items
    (c.in_ok-found.ensures.shown clean) o stands)) c.is_second.ensures.pure

pub returns-in_err-found-clause-unready : goal.returns-in_err-found-clause-unready
returns-in_err-found-clause-unready g c clean =
    err_handed c.from_residual.result c.in_err-found.field-0.0 _ c.from_residual.ensures.1
    (inl (c.in_err-found.ensures.why clean))

pub returns-clause-unready : goal.returns-clause-unready
returns-clause-unready g c clean =
    failed_else c.is_second.result _ _ _ c.is_second.ensures.pure c.is_second.ensures.other
    (λ other. record {
      rows = c.in_ok-found.found.items;
      shown = c.in_ok-found.ensures.shown clean;
      other = λ (h : IsSecond c.in_ok-found.found.items). other (subst IsSecond (sym c.deref.ensures.value) h);
    })
