use Rattle.std.proofs.Common.{inr, ◌≡◌, List, length, ◌∙◌, sym, subst, arith, Option, refl}
use Rattle.sqlite_value.specs.Order.{Row}
use Rattle.sqlite.specs.Effect.{Database}
use Rattle.sqlite.specs.Held.{state}
use Rattle.sqlite.specs.State.{HasCleanDisk}
use Rattle.keep_office.specs.declared.kept.DayRecord.{DayRecord}
use Rattle.keep_office.specs.Office.{record_of}
use Rattle.keep_tables.specs.Shown.{day_columns}
use Rattle.keep_tables.specs.Stands.{HasOffice}
use Rattle.keep_tables.proofs.AskLaws.{find_day_asks, find_seal_asks}
use Rattle.keep_tables.proofs.PutLaws.{survives_both}
use Rattle.keep_tables.proofs.StepLaws.{kept_then}
use Rattle.keep_writes.specs.Causes.{WasRefusedIn}
use Rattle.keep_database.proofs.GiveLaws.{gives_so, refused_so, record_fits, one_there}
use Rattle.keep_database.proofs.LookLaws.{day_looks, seal_looks, some_then, committed_before}
use Rattle.keep_database.proofs.CauseSteps.{failure_is, failure_after, wants_handed, wants_after}
use Rattle.keep_database.proofs.StandLaws.{always}
use Rattle.keep_database.specs.Exact.{IsDayIn}
use Rattle.keep_database.proofs.ShowLaws.{ok_then, both_shown}
use Rattle.keep_database.proofs.reads.day.Goals as goal

pub look-requires : goal.look-requires
look-requires g c = (find_day_asks, (3, refl, refl))

pub look-requires-2 : goal.look-requires-2
look-requires-2 g c = (find_seal_asks, (4, refl, refl))

pub returns-in_err-found-clause-gives : goal.returns-in_err-found-clause-gives
returns-in_err-found-clause-gives g c clean o has =
    refused_so (WasRefusedIn g.S.Store c.args.conn.now c.look.new.conn) (λ (x : Option DayRecord). x) c.from_residual.result c.in_err-found.field-0.0
    (record_of o c.args.day) c.from_residual.ensures.1 (λ is. failure_is g.S.Store c.args.conn.now c.look.new.conn _ (c.in_err-found.ensures.why clean) is)

pub returns-in_err-seals-clause-gives : goal.returns-in_err-seals-clause-gives
returns-in_err-seals-clause-gives g c clean o has =
    refused_so (WasRefusedIn g.S.Store c.args.conn.now c.look-2.new.conn) (λ (x : Option DayRecord). x) c.from_residual-in_err-seals.result
    c.in_err-seals.field-0.0 (record_of o c.args.day) c.from_residual-in_err-seals.ensures.1
    (λ is. failure_after g.S.Store c.args.conn.now c.look.new.conn c.look-2.new.conn
    (c.look.ensures.kept (omega (arith, c.look-2.ensures.survives.clean))) c.look.ensures.survives
    (failure_is g.S.Store c.look.new.conn c.look-2.new.conn _ (c.in_err-seals.ensures.why clean) is))

pub returns-in_err-seals-clause-kept : goal.returns-in_err-seals-clause-kept
returns-in_err-seals-clause-kept g c clean =
    let mid = state g.S.Store c.look.new.conn in
    let early : HasCleanDisk mid = omega (arith, c.look-2.ensures.survives.clean) in
    kept_then (state g.S.Store c.args.conn.now) mid (state g.S.Store c.look-2.new.conn) (c.look.ensures.kept early)
    (c.look-2.ensures.kept clean)

pub returns-in_err-seals-clause-survives : goal.returns-in_err-seals-clause-survives
returns-in_err-seals-clause-survives g c =
    survives_both (state g.S.Store c.args.conn.now) (state g.S.Store c.look.new.conn)
    (state g.S.Store c.look-2.new.conn) c.look.ensures.survives c.look-2.ensures.survives

pub returns-clause-kept : goal.returns-clause-kept
returns-clause-kept g c clean =
    let mid = state g.S.Store c.look.new.conn in
    let early : HasCleanDisk mid = omega (arith, c.look-2.ensures.survives.clean) in
    kept_then (state g.S.Store c.args.conn.now) mid (state g.S.Store c.look-2.new.conn) (c.look.ensures.kept early)
    (c.look-2.ensures.kept clean)

pub returns-clause-gives : goal.returns-clause-gives
returns-clause-gives g c clean o has =
    let mid = state g.S.Store c.look.new.conn in
    let early : HasCleanDisk mid = omega (arith, c.look-2.ensures.survives.clean) in
    let one = rw (c.params-to_sql.ensures) at (c.in_ok-found.ensures.shown early) in
    let two = rw (c.params-to_sql-2.ensures) at (c.in_ok-seals.ensures.shown clean) in
    let still =
    subst (λ (db : Database). HasOffice db o) (sym ((c.look.ensures.kept early).committed one.is_open)) has in
    let first = c.deref.ensures.value
    ∙ day_looks g.S.Store c.args.conn.now c.look.new.conn o has c.in_ok-found.found.items c.args.day one in
    let second = c.deref-2.ensures.value
    ∙ seal_looks g.S.Store c.look.new.conn c.look-2.new.conn o still c.in_ok-seals.seals.items c.args.day two in
    gives_so (WasRefusedIn g.S.Store c.args.conn.now c.look-2.new.conn) (λ (x : Option DayRecord). x) c.day_of.result (record_of o c.args.day)
    (c.day_of.ensures.gives (record_of o c.args.day) (record_fits c.args.day o.days has.fits.days) first second)

pub returns-clause-survives : goal.returns-clause-survives
returns-clause-survives g c =
    survives_both (state g.S.Store c.args.conn.now) (state g.S.Store c.look.new.conn)
    (state g.S.Store c.look-2.new.conn) c.look.ensures.survives c.look-2.ensures.survives

pub returns-clause-open : goal.returns-clause-open
returns-clause-open g c clean = always c.day_of.result _ (c.in_ok-seals.ensures.shown clean).is_open

pub returns-clause-sealed : goal.returns-clause-sealed
returns-clause-sealed g c clean =
    let mid = state g.S.Store c.look.new.conn in
    let early : HasCleanDisk mid = omega (arith, c.look-2.ensures.survives.clean) in
    let one = rw (c.params-to_sql.ensures) at (c.in_ok-found.ensures.shown early) in
    let two = rw (c.params-to_sql-2.ensures) at (c.in_ok-seals.ensures.shown clean) in
    let kept = c.look.ensures.kept early in
    let there = kept.was_open one.is_open in
    some_then c.day_of.result _ _ c.day_of.ensures.sealed
    (λ h. record {
      record_shown = record {
        now = c.look.new.conn;
        rows = c.in_ok-found.found.items;
        was_open = there;
        shown = one;
        one = subst (λ (l : List Row). length l ≡ 1) c.deref.ensures.value h.0;
      };
      seal_shown = record {
        now = c.look-2.new.conn;
        rows = c.in_ok-seals.seals.items;
        was_open = there;
        shown = committed_before g.S.Store c.args.conn.now c.look.new.conn kept c.look-2.new.conn _ _ _ one.is_open two;
        one = subst (λ (l : List Row). length l ≡ 1) c.deref-2.ensures.value h.1;
      };
    })

pub returns-in_err-found-clause-memory : goal.returns-in_err-found-clause-memory
returns-in_err-found-clause-memory g c clean o has none =
    wants_handed g.S.Store c.args.conn.now c.look.new.conn _ c.from_residual.result c.in_err-found.field-0.0
    c.from_residual.ensures.1 (c.in_err-found.ensures.why clean) none

pub returns-in_err-seals-clause-memory : goal.returns-in_err-seals-clause-memory
returns-in_err-seals-clause-memory g c clean o has none =
    wants_after g.S.Store c.args.conn.now c.look.new.conn c.look-2.new.conn
    (c.look.ensures.kept (omega (arith, c.look-2.ensures.survives.clean))) c.look.ensures.survives _
    (wants_handed g.S.Store c.look.new.conn c.look-2.new.conn _ c.from_residual-in_err-seals.result
    c.in_err-seals.field-0.0 c.from_residual-in_err-seals.ensures.1 (c.in_err-seals.ensures.why clean) none)

pub returns-clause-memory : goal.returns-clause-memory
returns-clause-memory g c clean o has none =
    let early : HasCleanDisk (state g.S.Store c.look.new.conn) = omega (arith, c.look-2.ensures.survives.clean) in
    inr
    (one_there day_columns (record_of o c.args.day) c.in_ok-found.found.items
    (day_looks g.S.Store c.args.conn.now c.look.new.conn o has c.in_ok-found.found.items c.args.day
    (rw (c.params-to_sql.ensures) at (c.in_ok-found.ensures.shown early)))
    (rw (sym c.deref.ensures.value) (c.day_of.ensures.memory none)))

pub returns-clause-shows : goal.returns-clause-shows
returns-clause-shows g c clean =
    let early : HasCleanDisk (state g.S.Store c.look.new.conn) = omega (arith, c.look-2.ensures.survives.clean) in
    let one = rw (c.params-to_sql.ensures) at (c.in_ok-found.ensures.shown early) in
    let two = rw (c.params-to_sql-2.ensures) at (c.in_ok-seals.ensures.shown clean) in
    ok_then c.day_of.result _ _ c.day_of.ensures.exact
    (λ kept h. both_shown g.S.Store c.args.conn.now c.look.new.conn (c.look.ensures.kept early) c.look-2.new.conn
    (c.look-2.ensures.kept clean) _ _ _ _ c.in_ok-found.found.items c.in_ok-seals.seals.items _ _
    (λ l m. IsDayIn c.args.day l m kept) one two
    c.deref.ensures.value c.deref-2.ensures.value h)
