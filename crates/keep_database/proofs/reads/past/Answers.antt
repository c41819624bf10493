use Rattle.std.proofs.Common.{inr, sym, ◌∙◌, Option, refl}
use Rattle.keep_office.specs.declared.kept.PastRecord.{PastRecord}
use Rattle.keep_tables.specs.Codec.{past_values}
use Rattle.keep_tables.proofs.AskLaws.{find_past_asks}
use Rattle.keep_writes.specs.Causes.{WasRefusedIn}
use Rattle.keep_database.proofs.GiveLaws.{gives_so, refused_so, past_based, one_there}
use Rattle.keep_database.proofs.LookLaws.{past_looks}
use Rattle.keep_database.proofs.CauseSteps.{failure_is, wants_handed}
use Rattle.keep_database.proofs.StandLaws.{always}
use Rattle.keep_database.specs.Exact.{IsPastIn}
use Rattle.keep_database.proofs.ShowLaws.{ok_then, such_shown}
use Rattle.keep_database.proofs.reads.past.Goals as goal

pub look-requires : goal.look-requires
look-requires g c = (find_past_asks, (2, refl, refl))

pub returns-in_err-found-clause-gives : goal.returns-in_err-found-clause-gives
returns-in_err-found-clause-gives g c clean o has =
    refused_so (WasRefusedIn g.S.Store c.args.conn.now c.look.new.conn) (λ (x : Option PastRecord). x) c.from_residual.result c.in_err-found.field-0.0
    o.past c.from_residual.ensures.1 (λ is. failure_is g.S.Store c.args.conn.now c.look.new.conn _ (c.in_err-found.ensures.why clean) is)

pub returns-clause-gives : goal.returns-clause-gives
returns-clause-gives g c clean o has =
    gives_so (WasRefusedIn g.S.Store c.args.conn.now c.look.new.conn) (λ (x : Option PastRecord). x) c.past_of.result o.past
    (c.past_of.ensures.gives o.past (past_based o.past o.days o.rows has.fits.past has.sound.past)
    (c.deref.ensures.value ∙ past_looks g.S.Store c.args.conn.now c.look.new.conn o has c.in_ok-found.found.items
    (c.in_ok-found.ensures.shown clean)))

pub returns-clause-open : goal.returns-clause-open
returns-clause-open g c clean = always c.past_of.result _ (c.in_ok-found.ensures.shown clean).is_open

pub returns-in_err-found-clause-memory : goal.returns-in_err-found-clause-memory
returns-in_err-found-clause-memory g c clean o has none =
    wants_handed g.S.Store c.args.conn.now c.look.new.conn _ c.from_residual.result c.in_err-found.field-0.0
    c.from_residual.ensures.1 (c.in_err-found.ensures.why clean) none

pub returns-clause-memory : goal.returns-clause-memory
returns-clause-memory g c clean o has none =
    inr
    (one_there past_values o.past c.in_ok-found.found.items
    (past_looks g.S.Store c.args.conn.now c.look.new.conn o has c.in_ok-found.found.items
    (c.in_ok-found.ensures.shown clean)) (rw (sym c.deref.ensures.value) (c.past_of.ensures.memory none)))

pub returns-clause-shows : goal.returns-clause-shows
returns-clause-shows g c clean =
    let shown = c.in_ok-found.ensures.shown clean in
    ok_then c.past_of.result _ _ c.past_of.ensures.exact
    (λ past h. such_shown g.S.Store c.args.conn.now c.look.new.conn (c.look.ensures.kept clean) _ _
    c.in_ok-found.found.items _ (λ l. IsPastIn l past) shown c.deref.ensures.value h)
