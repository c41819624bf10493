use Rattle.std.proofs.Common.{inr, ◌∙◌, sym, subst, arith, ℕ, refl}
use Rattle.sqlite.specs.Effect.{Database}
use Rattle.sqlite.specs.Held.{state}
use Rattle.sqlite.specs.State.{HasCleanDisk}
use Rattle.keep_office.specs.Office.{last_day}
use Rattle.keep_tables.specs.Codec.{past_values}
use Rattle.keep_tables.specs.Stands.{HasOffice}
use Rattle.keep_tables.proofs.AskLaws.{find_last_asks, find_past_asks}
use Rattle.keep_tables.proofs.PutLaws.{survives_both}
use Rattle.keep_tables.proofs.StepLaws.{kept_then}
use Rattle.keep_writes.specs.Causes.{WasRefusedIn}
use Rattle.keep_database.proofs.GiveLaws.{gives_so, refused_so, past_based, one_there}
use Rattle.keep_database.proofs.LookLaws.{last_looks, past_looks}
use Rattle.keep_database.proofs.CauseSteps.{failure_is, failure_after, wants_handed, wants_after}
use Rattle.keep_database.proofs.StandLaws.{always}
use Rattle.keep_database.specs.Exact.{IsLastIn}
use Rattle.keep_database.proofs.ShowLaws.{ok_then, both_shown}
use Rattle.keep_database.proofs.reads.last_day.Goals as goal

pub look-requires : goal.look-requires
look-requires g c = (find_last_asks, (1, refl, refl))

pub look-requires-2 : goal.look-requires-2
look-requires-2 g c = (find_past_asks, (2, refl, refl))

pub returns-in_err-days-clause-gives : goal.returns-in_err-days-clause-gives
returns-in_err-days-clause-gives g c clean o has =
    refused_so (WasRefusedIn g.S.Store c.args.conn.now c.look.new.conn) (λ (x : ℕ). x) c.from_residual.result c.in_err-days.field-0.0
    (last_day o) c.from_residual.ensures.1 (λ is. failure_is g.S.Store c.args.conn.now c.look.new.conn _ (c.in_err-days.ensures.why clean) is)

pub returns-in_err-found-clause-gives : goal.returns-in_err-found-clause-gives
returns-in_err-found-clause-gives g c clean o has =
    refused_so (WasRefusedIn g.S.Store c.args.conn.now c.look-2.new.conn) (λ (x : ℕ). x) c.from_residual-in_err-found.result c.in_err-found.field-0.0
    (last_day o) c.from_residual-in_err-found.ensures.1 (λ is. failure_after g.S.Store c.args.conn.now c.look.new.conn c.look-2.new.conn
    (c.look.ensures.kept (omega (arith, c.look-2.ensures.survives.clean))) c.look.ensures.survives
    (failure_is g.S.Store c.look.new.conn c.look-2.new.conn _ (c.in_err-found.ensures.why clean) is))

pub returns-in_err-found-clause-kept : goal.returns-in_err-found-clause-kept
returns-in_err-found-clause-kept g c clean =
    let mid = state g.S.Store c.look.new.conn in
    let early : HasCleanDisk mid = omega (arith, c.look-2.ensures.survives.clean) in
    kept_then (state g.S.Store c.args.conn.now) mid (state g.S.Store c.look-2.new.conn) (c.look.ensures.kept early)
    (c.look-2.ensures.kept clean)

pub returns-in_err-found-clause-survives : goal.returns-in_err-found-clause-survives
returns-in_err-found-clause-survives g c =
    survives_both (state g.S.Store c.args.conn.now) (state g.S.Store c.look.new.conn)
    (state g.S.Store c.look-2.new.conn) c.look.ensures.survives c.look-2.ensures.survives

pub returns-clause-kept : goal.returns-clause-kept
returns-clause-kept g c clean =
    let mid = state g.S.Store c.look.new.conn in
    let early : HasCleanDisk mid = omega (arith, c.look-2.ensures.survives.clean) in
    kept_then (state g.S.Store c.args.conn.now) mid (state g.S.Store c.look-2.new.conn) (c.look.ensures.kept early)
    (c.look-2.ensures.kept clean)

pub returns-clause-gives : goal.returns-clause-gives
returns-clause-gives g c clean o has =
    let mid = state g.S.Store c.look.new.conn in
    let early : HasCleanDisk mid = omega (arith, c.look-2.ensures.survives.clean) in
    let one = c.in_ok-days.ensures.shown early in
    let two = c.in_ok-found.ensures.shown clean in
    let still =
    subst (λ (db : Database). HasOffice db o) (sym ((c.look.ensures.kept early).committed one.is_open)) has in
    let first = c.deref.ensures.value
    ∙ last_looks g.S.Store c.args.conn.now c.look.new.conn o has c.in_ok-days.days.items one in
    let second = c.deref-2.ensures.value
    ∙ past_looks g.S.Store c.look.new.conn c.look-2.new.conn o still c.in_ok-found.found.items two in
    gives_so (WasRefusedIn g.S.Store c.args.conn.now c.look-2.new.conn) (λ (x : ℕ). x) c.last_of.result (last_day o)
    (c.last_of.ensures.gives o.days o.past has.fits.days (past_based o.past o.days o.rows has.fits.past has.sound.past)
    first second)

pub returns-clause-survives : goal.returns-clause-survives
returns-clause-survives g c =
    survives_both (state g.S.Store c.args.conn.now) (state g.S.Store c.look.new.conn)
    (state g.S.Store c.look-2.new.conn) c.look.ensures.survives c.look-2.ensures.survives

pub returns-clause-open : goal.returns-clause-open
returns-clause-open g c clean = always c.last_of.result _ (c.in_ok-found.ensures.shown clean).is_open

pub returns-in_err-days-clause-memory : goal.returns-in_err-days-clause-memory
returns-in_err-days-clause-memory g c clean o has none =
    wants_handed g.S.Store c.args.conn.now c.look.new.conn _ c.from_residual.result c.in_err-days.field-0.0
    c.from_residual.ensures.1 (c.in_err-days.ensures.why clean) none

pub returns-in_err-found-clause-memory : goal.returns-in_err-found-clause-memory
returns-in_err-found-clause-memory g c clean o has none =
    wants_after g.S.Store c.args.conn.now c.look.new.conn c.look-2.new.conn
    (c.look.ensures.kept (omega (arith, c.look-2.ensures.survives.clean))) c.look.ensures.survives _
    (wants_handed g.S.Store c.look.new.conn c.look-2.new.conn _ c.from_residual-in_err-found.result
    c.in_err-found.field-0.0 c.from_residual-in_err-found.ensures.1 (c.in_err-found.ensures.why clean) none)

pub returns-clause-memory : goal.returns-clause-memory
returns-clause-memory g c clean o has none =
    let early : HasCleanDisk (state g.S.Store c.look.new.conn) = omega (arith, c.look-2.ensures.survives.clean) in
    let one = c.in_ok-days.ensures.shown early in
    let still =
    subst (λ (db : Database). HasOffice db o) (sym ((c.look.ensures.kept early).committed one.is_open)) has in
    inr
    (one_there past_values o.past c.in_ok-found.found.items
    (past_looks g.S.Store c.look.new.conn c.look-2.new.conn o still c.in_ok-found.found.items
    (c.in_ok-found.ensures.shown clean)) (rw (sym c.deref-2.ensures.value) (c.last_of.ensures.memory none)))

pub returns-clause-shows : goal.returns-clause-shows
returns-clause-shows g c clean =
    let early : HasCleanDisk (state g.S.Store c.look.new.conn) = omega (arith, c.look-2.ensures.survives.clean) in
    let one = c.in_ok-days.ensures.shown early in
    let two = c.in_ok-found.ensures.shown clean in
    ok_then c.last_of.result _ _ c.last_of.ensures.exact
    (λ last h. both_shown g.S.Store c.args.conn.now c.look.new.conn (c.look.ensures.kept early) c.look-2.new.conn
    (c.look-2.ensures.kept clean) _ _ _ _ c.in_ok-days.days.items c.in_ok-found.found.items _ _
    (λ l m. IsLastIn l m last) one two
    c.deref.ensures.value c.deref-2.ensures.value h)
