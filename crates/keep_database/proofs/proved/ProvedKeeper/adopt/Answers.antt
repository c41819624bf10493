use Rattle.std.proofs.Common.{◌≡◌, Bool, IsTrue, Some, sym, subst}
use Rattle.sqlite.specs.Held.{state}
use Rattle.sqlite.specs.State.{HasCleanDisk}
use Rattle.sqlite.specs.declared.error.Error.TheVariants.{SqliteFailure}
use Rattle.sqlite.specs.declared.error.ErrorCode.TheVariants.{OutOfMemory}
use Rattle.sqlite.proofs.StateLemmas.{clean_if_open}
use Rattle.keep_tables.specs.Told.{told_in}
use Rattle.keep_tables.proofs.StandLaws.{told_if_stands}
use Rattle.keep_writes.specs.Unmade.{IsUnmade}
use Rattle.keep_writes.proofs.UnmadeLaws.{told_of, unmade_told}
use Rattle.keep_database.proofs.TellLaws.{either_stands, done_has, undone_has, made_has, made_quiet, quiet_made}
use Rattle.keep_database.proofs.TellLaws.{same_told}
use Rattle.keep_database.proofs.proved.ProvedKeeper.adopt.Goals as goal

pub returns-clause-stands : goal.returns-clause-stands
returns-clause-stands g c clean here o stands =
    either_stands c.make-made.result (state g.S.Store c.make-made.new.conn).committed o
    (c.make-made.ensures.stands clean here o stands)

pub returns-clause-tells : goal.returns-clause-tells
returns-clause-tells g c is o stands =
    let new = state g.S.Store c.make-made.new.conn in
    let here : IsTrue new.is_open = g.met.S.Steady.open is c.make-made.new.conn.store in
    let clean : HasCleanDisk new =
    clean_if_open (g.S.Store.view c.make-made.new.conn.store)
    (g.met.S.Store.shut_if_dirty c.make-made.new.conn.store) here in
    let told =
    told_if_stands new.committed o
    (either_stands c.make-made.result new.committed o (c.make-made.ensures.stands clean here o stands)) in
    subst (λ (b : Bool). told_in b new.committed ≡ Some o) (sym is) told

pub returns-clause-made : goal.returns-clause-made
returns-clause-made g c clean here none o stands =
    made_has c.make-made.result _ _ (c.why_unmade.ensures.none none) (c.make-made.ensures.stands clean here o stands)

pub returns-clause-quiet : goal.returns-clause-quiet
returns-clause-quiet g c none =
    made_quiet c.make-made.result c.error_of.result (c.why_unmade.ensures.none none) c.error_of.ensures

pub returns-clause-told : goal.returns-clause-told
returns-clause-told g c none =
    c.why_unmade.ensures.made (quiet_made c.make-made.result c.error_of.result none c.error_of.ensures)

pub returns-clause-why : goal.returns-clause-why
returns-clause-why g c clean =
    unmade_told g.S.Store c.args.connection c.make-made.new.conn c.error_of.result
    (told_of c.make-made.result c.error_of.result (IsUnmade g.S.Store c.args.connection c.make-made.new.conn)
    (c.make-made.ensures.why clean) c.error_of.ensures)

pub returns-clause-memory : goal.returns-clause-memory
returns-clause-memory g c =
    let told = same_told c.make-made.result c.error_of.result (SqliteFailure OutOfMemory) c.error_of.ensures in
    (λ is. told.0 (c.why_unmade.ensures.memory.0 is), λ is. c.why_unmade.ensures.memory.1 (told.1 is))

pub returns-clause-ours : goal.returns-clause-ours
returns-clause-ours g c clean none =
    done_has c.make-made.result _ (c.why_unmade.ensures.none none) (c.make-made.ensures.ours clean)

pub returns-clause-wrote : goal.returns-clause-wrote
returns-clause-wrote g c clean none lacks =
    done_has c.make-made.result _ (c.why_unmade.ensures.none none) (c.make-made.ensures.wrote clean lacks)

pub returns-clause-rest : goal.returns-clause-rest
returns-clause-rest g c clean none =
    done_has c.make-made.result _ (c.why_unmade.ensures.none none) (c.make-made.ensures.rest clean)

pub returns-clause-kept : goal.returns-clause-kept
returns-clause-kept g c clean some =
    undone_has c.make-made.result _ (λ done. some (c.why_unmade.ensures.made done)) (c.make-made.ensures.refused clean)
