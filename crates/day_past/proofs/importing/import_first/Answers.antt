use Rattle.std.proofs.Common.{◌≡◌, ◌∙◌, ℕ, List, Option, Some, Ok, Err, sym, subst}
use Rattle.std.specs.Prelude.{IfErr}
use Rattle.keep_office.specs.PastReads.{PastFault, past_reads}
use Rattle.day_past.specs.declared.judging.PastStop.TheVariants.{Row}
use Rattle.day_past.specs.Imports.{past_read, DoesPast, LeavesPast}
use Rattle.day_past.specs.Readings.{ReadsPast, StopsSoonAt}
use Rattle.day_past.proofs.KeepLaws.{row_does}
use Rattle.day_past.proofs.AskedLaws.{unasked}
use Rattle.day_past.proofs.importing.import_first.Goals as goal

pub returns-in-Ok-clause-does : goal.returns-in-Ok-clause-does
returns-in-Ok-clause-does g c = λ bytes o left told.
    let rows = (past_reads bytes c.args.base c.args.limits.now).rows in
    let ok : c.read_past.result ≡ Ok c.in-Ok.history = cc in
    let read = subst (λ r. ReadsPast r c.args.base c.args.limits.now (g.S.Source.left c.read_past.new.source) bytes) ok
    (c.read_past.ensures.reads bytes left) in
    let done = c.store.ensures.does c.args.base bytes rows o told read.1 read.2 in
    subst (λ (f : Option (ℕ × PastFault)). DoesPast g.K.Keeper.refuses (past_read c.args.base bytes rows f o) o
    (g.K.Keeper.told c.store.new.keeper) c.store.result) (sym read.0) done

pub returns-in-Ok-clause-rest : goal.returns-in-Ok-clause-rest
returns-in-Ok-clause-rest g c = λ bytes kept left.
    let ok : c.read_past.result ≡ Ok c.in-Ok.history = cc in
    let read = subst (λ r. ReadsPast r c.args.base c.args.limits.now (g.S.Source.left c.read_past.new.source) bytes) ok
    (c.read_past.ensures.reads bytes left) in
    subst (λ (o : Option (List ℕ)). LeavesPast c.store.result kept bytes o) (sym read.3)
    (c.store.ensures.rest kept bytes)

pub returns-in-Err-Row-clause-does : goal.returns-in-Err-Row-clause-does
returns-in-Err-Row-clause-does g c = λ bytes o left told.
    let reading = past_reads bytes c.args.base c.args.limits.now in
    let stopped : c.read_past.result ≡ Err (Row c.in-Err-Row.line c.in-Err-Row.cause) = cc in
    let read = subst (λ r. ReadsPast r c.args.base c.args.limits.now (g.S.Source.left c.read_past.new.source) bytes)
    stopped (c.read_past.ensures.reads bytes left) in
    let done =
    row_does g.K.Keeper.refuses c.args.base bytes reading.rows o reading.refused c.in-Err-Row.line
    c.in-Err-Row.cause read.0 read.1 read.2 in
    record { outcome_is = done.outcome_is; kept = told ∙ done.kept }

pub returns-in-Err-Row-clause-soon : goal.returns-in-Err-Row-clause-soon
returns-in-Err-Row-clause-soon g c = λ bytes left.
    let stopped : c.read_past.result ≡ Err (Row c.in-Err-Row.line c.in-Err-Row.cause) = cc in
    let soon =
    subst (λ r. IfErr r (λ stop. (bs : List ℕ) → g.S.Source.left c.args.source.now ≡ Some bs →
    StopsSoonAt stop bs (g.S.Source.left c.read_past.new.source))) stopped c.read_past.ensures.soon in
    soon bytes left

pub returns-in-Err-Row-clause-asked : goal.returns-in-Err-Row-clause-asked
returns-in-Err-Row-clause-asked g c = unasked (g.K.Keeper.plan c.args.keeper.now)

pub returns-in-Err-ReadFault-clause-asked : goal.returns-in-Err-ReadFault-clause-asked
returns-in-Err-ReadFault-clause-asked g c = unasked (g.K.Keeper.plan c.args.keeper.now)
