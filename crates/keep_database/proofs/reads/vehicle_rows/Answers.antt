use Rattle.std.proofs.Common.{inr, sym, ◌∙◌, ◌&&◌, ◌==◌, nat_le, Vec, Global, refl}
use Rattle.std.proofs.lemmas.List.Kept.{IsStrictlySortedBy-filter}
use Rattle.sqlite_keyed.proofs.ListLemmas.{all-filter}
use Rattle.road_time.specs.declared.day.SpentRow.{SpentRow}
use Rattle.keep_office.specs.Office.{row_cmp, vehicle_rows_between}
use Rattle.keep_tables.specs.Codec.{spent_row}
use Rattle.keep_tables.specs.Stands.{FitsSpent}
use Rattle.keep_tables.proofs.AskLaws.{list_vehicle_asks}
use Rattle.keep_writes.specs.Causes.{WasRefusedIn}
use Rattle.keep_database.proofs.GiveLaws.{gives_so, refused_so, some_there}
use Rattle.keep_database.proofs.LookLaws.{vehicle_rows_look}
use Rattle.keep_database.proofs.CauseSteps.{failure_is, wants_handed}
use Rattle.keep_database.proofs.StandLaws.{always}
use Rattle.keep_database.specs.Exact.{AreAmounts}
use Rattle.keep_database.proofs.ShowLaws.{ok_then, such_shown}
use Rattle.keep_database.proofs.reads.vehicle_rows.Goals as goal

pub look-requires : goal.look-requires
look-requires g c = (list_vehicle_asks, (7, refl, refl))

pub returns-in_err-found-clause-gives : goal.returns-in_err-found-clause-gives
returns-in_err-found-clause-gives g c clean o has =
    refused_so (WasRefusedIn g.S.Store c.args.conn.now c.look.new.conn) (λ (v : Vec SpentRow Global). v.items) c.from_residual.result
    c.in_err-found.field-0.0 (vehicle_rows_between o c.args.vid c.args.from c.args.to) c.from_residual.ensures.1
    (λ is. failure_is g.S.Store c.args.conn.now c.look.new.conn _ (c.in_err-found.ensures.why clean) is)

pub returns-clause-gives : goal.returns-clause-gives
returns-clause-gives g c clean o has =
    gives_so (WasRefusedIn g.S.Store c.args.conn.now c.look.new.conn) (λ (v : Vec SpentRow Global). v.items) c.amounts_of.result
    (vehicle_rows_between o c.args.vid c.args.from c.args.to)
    (c.amounts_of.ensures.gives (vehicle_rows_between o c.args.vid c.args.from c.args.to)
    (all-filter FitsSpent (λ r. r.vid == c.args.vid && (nat_le c.args.from r.day && nat_le r.day c.args.to)) o.rows
    has.fits.rows)
    (IsStrictlySortedBy-filter row_cmp
    (λ r. r.vid == c.args.vid && (nat_le c.args.from r.day && nat_le r.day c.args.to)) o.rows has.sound.rows_rise)
    (c.deref.ensures.value
    ∙ vehicle_rows_look g.S.Store c.args.conn.now c.look.new.conn o has c.in_ok-found.found.items c.args.vid
    c.args.from c.args.to
    (rw (c.params-to_sql.ensures, c.params-to_sql-2.ensures, c.params-to_sql-3.ensures) at
    (c.in_ok-found.ensures.shown clean))))

pub returns-clause-open : goal.returns-clause-open
returns-clause-open g c clean = always c.amounts_of.result _ (c.in_ok-found.ensures.shown clean).is_open

pub returns-in_err-found-clause-memory : goal.returns-in_err-found-clause-memory
returns-in_err-found-clause-memory g c clean o has none =
    wants_handed g.S.Store c.args.conn.now c.look.new.conn _ c.from_residual.result c.in_err-found.field-0.0
    c.from_residual.ensures.1 (c.in_err-found.ensures.why clean) none

pub returns-clause-memory : goal.returns-clause-memory
returns-clause-memory g c clean o has none =
    inr
    (some_there spent_row (vehicle_rows_between o c.args.vid c.args.from c.args.to) c.in_ok-found.found.items
    (vehicle_rows_look g.S.Store c.args.conn.now c.look.new.conn o has c.in_ok-found.found.items c.args.vid
    c.args.from c.args.to
    (rw (c.params-to_sql.ensures, c.params-to_sql-2.ensures, c.params-to_sql-3.ensures) at
    (c.in_ok-found.ensures.shown clean)))
    (rw (sym c.deref.ensures.value) (c.amounts_of.ensures.memory none)))

pub returns-clause-shows : goal.returns-clause-shows
returns-clause-shows g c clean =
    let shown =
    rw (c.params-to_sql.ensures, c.params-to_sql-2.ensures, c.params-to_sql-3.ensures) at
    (c.in_ok-found.ensures.shown clean) in
    ok_then c.amounts_of.result _ _ c.amounts_of.ensures.exact
    (λ v h. such_shown g.S.Store c.args.conn.now c.look.new.conn (c.look.ensures.kept clean) _ _
    c.in_ok-found.found.items _ (λ l. AreAmounts l v.items) shown c.deref.ensures.value h)
