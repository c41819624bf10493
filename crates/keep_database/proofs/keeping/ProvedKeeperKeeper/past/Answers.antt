use Rattle.std.proofs.Common.{◌≡◌, true, IsTrue, sym, ◌∙◌, Option}
use Rattle.sqlite.specs.Held.{state}
use Rattle.sqlite.specs.State.{HasCleanDisk}
use Rattle.sqlite.proofs.StateLemmas.{clean_if_open}
use Rattle.keep_office.specs.declared.kept.PastRecord.{PastRecord}
use Rattle.keep_tables.proofs.StandLaws.{told_sound}
use Rattle.keep_writes.specs.Causes.{WasRefused, WasRefusedIn}
use Rattle.keep_writes.proofs.CauseLaws.{was_refused}
use Rattle.keep_database.proofs.GiveLaws.{gives_weaker, cause_given}
use Rattle.keep_database.proofs.TellLaws.{reads_tell}
use Rattle.keep_database.proofs.keeping.ProvedKeeperKeeper.past.Goals as goal

pub returns-clause-state : goal.returns-clause-state
returns-clause-state g c =
    let old = state g.S.Store c.args.self.now.conn in
    let new = state g.S.Store c.past-answer.new.conn in
    let opens = λ (is : g.S.Steady.is_steady ≡ true). let h : IsTrue new.is_open =
    g.met.S.Steady.open is c.past-answer.new.conn.store in h in
    let clean = λ (is : g.S.Steady.is_steady ≡ true). let h : HasCleanDisk new =
    clean_if_open (g.S.Store.view c.past-answer.new.conn.store)
    (g.met.S.Store.shut_if_dirty c.past-answer.new.conn.store) (opens is) in h in
    rw c.count.ensures.same
    (reads_tell g.S.Steady.is_steady old new (WasRefusedIn g.S.Store c.args.self.now.conn c.past-answer.new.conn) (λ (x : Option PastRecord). x)
    c.past-answer.result (λ o. o.past) opens clean c.past-answer.ensures.kept c.past-answer.ensures.gives)

pub returns-clause-sound : goal.returns-clause-sound
returns-clause-sound g c = told_sound _ _

pub returns-clause-gives : goal.returns-clause-gives
returns-clause-gives g c clean o stands =
    rw c.count.ensures.same
    (gives_weaker (WasRefusedIn g.S.Store c.args.self.now.conn c.past-answer.new.conn) (WasRefused g.S.Store) (λ (x : Option PastRecord). x) c.past-answer.result o.past
    (was_refused g.S.Store c.args.self.now.conn c.past-answer.new.conn) (c.past-answer.ensures.gives clean o stands))

pub returns-clause-open : goal.returns-clause-open
returns-clause-open g c clean = rw c.count.ensures.same (c.past-answer.ensures.open clean)

pub returns-clause-why : goal.returns-clause-why
returns-clause-why g c clean o stands failed =
    cause_given (WasRefusedIn g.S.Store c.args.self.now.conn c.past-answer.new.conn) (λ (x : Option PastRecord). x) c.past-answer.result o.past
    (c.past-answer.ensures.gives clean o stands) (sym c.count.ensures.same ∙ failed)

pub returns-clause-version : goal.returns-clause-version
returns-clause-version g c clean = rw c.count.ensures.same (c.past-answer.ensures.version clean)

pub returns-clause-memory : goal.returns-clause-memory
returns-clause-memory g c clean o stands none =
    c.past-answer.ensures.memory clean o stands (sym c.count.ensures.same ∙ none)

pub returns-clause-shows : goal.returns-clause-shows
returns-clause-shows g c clean = rw c.count.ensures.same (c.past-answer.ensures.shows clean)
