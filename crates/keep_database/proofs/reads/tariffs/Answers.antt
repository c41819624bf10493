use Rattle.std.proofs.Common.{inr, sym, ◌∙◌, refl}
use Rattle.road_time.specs.Rates.{Tariffs}
use Rattle.keep_tables.specs.Shown.{tariff_columns}
use Rattle.keep_tables.proofs.AskLaws.{find_tariffs_asks}
use Rattle.keep_writes.specs.Causes.{WasRefusedIn}
use Rattle.keep_database.proofs.GiveLaws.{gives_so, refused_so, some_there}
use Rattle.keep_database.proofs.LookLaws.{tariffs_look}
use Rattle.keep_database.proofs.CauseSteps.{failure_is, wants_handed}
use Rattle.keep_database.proofs.StandLaws.{always}
use Rattle.keep_database.specs.Exact.{AreTariffsIn}
use Rattle.keep_database.proofs.ShowLaws.{ok_then, such_shown}
use Rattle.keep_database.proofs.reads.tariffs.Goals as goal

pub look-requires : goal.look-requires
look-requires g c = (find_tariffs_asks, (8, refl, refl))

pub returns-in_err-found-clause-gives : goal.returns-in_err-found-clause-gives
returns-in_err-found-clause-gives g c clean o has =
    refused_so (WasRefusedIn g.S.Store c.args.conn.now c.look.new.conn) (λ (x : Tariffs). x) c.from_residual.result c.in_err-found.field-0.0 o.tariffs
    c.from_residual.ensures.1 (λ is. failure_is g.S.Store c.args.conn.now c.look.new.conn _ (c.in_err-found.ensures.why clean) is)

pub returns-clause-gives : goal.returns-clause-gives
returns-clause-gives g c clean o has =
    gives_so (WasRefusedIn g.S.Store c.args.conn.now c.look.new.conn) (λ (x : Tariffs). x) c.tariffs_of.result o.tariffs
    (c.tariffs_of.ensures.gives o.tariffs has.sound.tariffs has.fits.tariffs
    (c.deref.ensures.value ∙ tariffs_look g.S.Store c.args.conn.now c.look.new.conn o has c.in_ok-found.found.items
    (c.in_ok-found.ensures.shown clean)))

pub returns-clause-open : goal.returns-clause-open
returns-clause-open g c clean = always c.tariffs_of.result _ (c.in_ok-found.ensures.shown clean).is_open

pub returns-in_err-found-clause-memory : goal.returns-in_err-found-clause-memory
returns-in_err-found-clause-memory g c clean o has none =
    wants_handed g.S.Store c.args.conn.now c.look.new.conn _ c.from_residual.result c.in_err-found.field-0.0
    c.from_residual.ensures.1 (c.in_err-found.ensures.why clean) none

pub returns-clause-memory : goal.returns-clause-memory
returns-clause-memory g c clean o has none =
    inr
    (some_there tariff_columns o.tariffs c.in_ok-found.found.items
    (tariffs_look g.S.Store c.args.conn.now c.look.new.conn o has c.in_ok-found.found.items
    (c.in_ok-found.ensures.shown clean)) (rw (sym c.deref.ensures.value) (c.tariffs_of.ensures.memory none)))

pub returns-clause-shows : goal.returns-clause-shows
returns-clause-shows g c clean =
    let shown = c.in_ok-found.ensures.shown clean in
    ok_then c.tariffs_of.result _ _ c.tariffs_of.ensures.exact
    (λ tariffs h. such_shown g.S.Store c.args.conn.now c.look.new.conn (c.look.ensures.kept clean) _ _
    c.in_ok-found.found.items _ (λ l. AreTariffsIn l tariffs) shown c.deref.ensures.value h)
