use Rattle.std.proofs.Common.{◌≡◌, true, IsTrue, sym, ◌∙◌}
use Rattle.sqlite.specs.Held.{state}
use Rattle.sqlite.specs.State.{HasCleanDisk}
use Rattle.sqlite.proofs.StateLemmas.{clean_if_open}
use Rattle.keep_office.specs.Kept.{HasNoDays, with_past}
use Rattle.keep_tables.proofs.StandLaws.{told_sound}
use Rattle.keep_database.proofs.TellLaws.{puts_tell}
use Rattle.keep_writes.specs.Writes.{past_texts}
use Rattle.keep_writes.proofs.CauseLaws.{put_refused, failure_of}
use Rattle.keep_database.proofs.StandLaws.{done_open}
use Rattle.keep_database.proofs.keeping.ProvedKeeperKeeper.put_past.Goals as goal

pub returns-clause-state : goal.returns-clause-state
returns-clause-state g c =
    let old = state g.S.Store c.args.self.now.conn in
    let new = state g.S.Store c.put_past-answer.new.conn in
    let opens = λ (is : g.S.Steady.is_steady ≡ true). let h : IsTrue new.is_open =
    g.met.S.Steady.open is c.put_past-answer.new.conn.store in h in
    let clean = λ (is : g.S.Steady.is_steady ≡ true). let h : HasCleanDisk new =
    clean_if_open (g.S.Store.view c.put_past-answer.new.conn.store)
    (g.met.S.Store.shut_if_dirty c.put_past-answer.new.conn.store) (opens is) in h in
    rw c.count.ensures.same
    (puts_tell g.S.Steady.is_steady old new c.put_past-answer.result HasNoDays
    (with_past c.args.kept.now c.args.rows.now) opens clean c.requires.first
    (λ clean here o stands fit. c.put_past-answer.ensures.put clean here o stands fit))

pub returns-clause-sound : goal.returns-clause-sound
returns-clause-sound g c = told_sound _ _

pub returns-clause-put : goal.returns-clause-put
returns-clause-put g c clean here o stands fit =
    rw c.count.ensures.same (c.put_past-answer.ensures.put clean here o stands fit)

pub returns-clause-open : goal.returns-clause-open
returns-clause-open g c clean = rw c.count.ensures.same (c.put_past-answer.ensures.open clean)

pub returns-clause-done : goal.returns-clause-done
returns-clause-done g c clean o stands fit =
    rw c.count.ensures.same
    (done_open c.put_past-answer.result _ _ _ (c.put_past-answer.ensures.open clean)
    (λ here. c.put_past-answer.ensures.put clean here o stands fit))

pub returns-clause-why : goal.returns-clause-why
returns-clause-why g c clean o stands = rw c.count.ensures.same (c.put_past-answer.ensures.why clean o stands)

pub returns-clause-because : goal.returns-clause-because
returns-clause-because g c clean o stands failed =
    let writes = past_texts c.args.kept.now c.args.rows.now in
    put_refused g.S.Store writes c.args.self.now.conn c.put_past-answer.new.conn
    (failure_of g.S.Store writes c.args.self.now.conn c.put_past-answer.new.conn c.put_past-answer.result (c.put_past-answer.ensures.why clean o stands) (sym c.count.ensures.same ∙ failed))

pub returns-clause-version : goal.returns-clause-version
returns-clause-version g c clean = rw c.count.ensures.same (c.put_past-answer.ensures.version clean)

pub returns-clause-wrote : goal.returns-clause-wrote
returns-clause-wrote g c clean = rw c.count.ensures.same (c.put_past-answer.ensures.wrote clean)

pub returns-clause-told : goal.returns-clause-told
returns-clause-told g c clean = rw c.count.ensures.same (c.put_past-answer.ensures.told clean)

pub returns-clause-quiet : goal.returns-clause-quiet
returns-clause-quiet g c = rw c.count.ensures.same c.put_past-answer.ensures.quiet

pub returns-clause-refused : goal.returns-clause-refused
returns-clause-refused g c clean = rw c.count.ensures.same (c.put_past-answer.ensures.refused clean)
