use Rattle.std.proofs.Common.{sym, subst, ℕ, List, refl}
use Rattle.sqlite_value.specs.Order.{Row}
use Rattle.road_time.specs.History.{paid}
use Rattle.keep_tables.specs.Amounts.{HasAmount}
use Rattle.keep_tables.proofs.AskLaws.{find_spent_asks}
use Rattle.keep_writes.specs.Causes.{WasRefusedIn}
use Rattle.keep_database.proofs.GiveLaws.{gives_so, refused_so}
use Rattle.keep_database.proofs.LookLaws.{spent_looks}
use Rattle.keep_database.proofs.CauseSteps.{failure_is, memory_handed}
use Rattle.keep_database.proofs.StandLaws.{always}
use Rattle.keep_database.proofs.ShowLaws.{ok_then, such_shown}
use Rattle.keep_database.proofs.reads.spent.Goals as goal

pub look-requires : goal.look-requires
look-requires g c = (find_spent_asks, (5, refl, refl))

pub returns-in_err-found-clause-gives : goal.returns-in_err-found-clause-gives
returns-in_err-found-clause-gives g c clean o has =
    refused_so (WasRefusedIn g.S.Store c.args.conn.now c.look.new.conn) (λ (x : ℕ). x) c.from_residual.result c.in_err-found.field-0.0
    (paid o.rows c.args.day c.args.vid c.args.xway) c.from_residual.ensures.1
    (λ is. failure_is g.S.Store c.args.conn.now c.look.new.conn _ (c.in_err-found.ensures.why clean) is)

pub returns-clause-gives : goal.returns-clause-gives
returns-clause-gives g c clean o has =
    gives_so (WasRefusedIn g.S.Store c.args.conn.now c.look.new.conn) (λ (x : ℕ). x) c.amount_in.result (paid o.rows c.args.day c.args.vid c.args.xway)
    (c.amount_in.ensures.gives (paid o.rows c.args.day c.args.vid c.args.xway)
    (subst (λ (l : List Row). HasAmount l (paid o.rows c.args.day c.args.vid c.args.xway))
    (sym c.deref.ensures.value)
    (spent_looks g.S.Store c.args.conn.now c.look.new.conn o has c.in_ok-found.found.items c.args.day c.args.vid
    c.args.xway
    (rw (c.params-to_sql.ensures, c.params-to_sql-2.ensures, c.params-to_sql-3.ensures, c.from.ensures) at
    (c.in_ok-found.ensures.shown clean)))))

pub returns-clause-open : goal.returns-clause-open
returns-clause-open g c clean = always c.amount_in.result _ (c.in_ok-found.ensures.shown clean).is_open

pub returns-in_err-found-clause-memory : goal.returns-in_err-found-clause-memory
returns-in_err-found-clause-memory g c clean none =
    memory_handed g.S.Store c.args.conn.now c.look.new.conn c.from_residual.result c.in_err-found.field-0.0
    c.from_residual.ensures.1 (c.in_err-found.ensures.why clean) none

pub returns-clause-memory : goal.returns-clause-memory
returns-clause-memory g c clean none = absurd (c.amount_in.ensures.pure none)

pub returns-clause-shows : goal.returns-clause-shows
returns-clause-shows g c clean =
    let shown =
    rw (c.params-to_sql.ensures, c.params-to_sql-2.ensures, c.params-to_sql-3.ensures, c.from.ensures) at
    (c.in_ok-found.ensures.shown clean) in
    ok_then c.amount_in.result _ _ c.amount_in.ensures.exact
    (λ tolls h. such_shown g.S.Store c.args.conn.now c.look.new.conn (c.look.ensures.kept clean) _ _
    c.in_ok-found.found.items _ (λ l. HasAmount l tolls) shown c.deref.ensures.value h)
