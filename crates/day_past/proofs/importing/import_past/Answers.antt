use Rattle.std.proofs.Common.{◌≡◌, ◌∙◌, Option, Some, None, Ok, Err, sym, subst}
use Rattle.keep_office.specs.declared.kept.PastRecord.{PastRecord}
use Rattle.keep_office.specs.Office.{Office}
use Rattle.day_past.specs.Imports.{unchanged, past_again, past_by_kept, DoesPast}
use Rattle.day_past.specs.Asked.{AsksNewPast}
use Rattle.day_past.specs.declared.outcomes.PastOutcome.{PastOutcome}
use Rattle.day_past.proofs.AskedLaws.{call_passed, call_refused, one_before, new_asked, kept_asked, fails_only}
use Rattle.day_past.proofs.AskedLaws.{fails_outcome}
use Rattle.keep_office.proofs.CallLaws.{reads_same, reads_ok}
use Rattle.day_past.proofs.importing.import_past.Goals as goal

pub returns-in-Ok-Some-clause-does : goal.returns-in-Ok-Some-clause-does
returns-in-Ok-Some-clause-does g c = λ bytes o left told.
    let w = g.K.Keeper.refuses in
    let base = c.args.base in
    let before = g.K.Keeper.told c.args.keeper.now in
    let after = g.K.Keeper.told c.past.new.self in
    let kept : after ≡ Some o = reads_same before after c.past.result (λ p past. past ≡ p.past) c.past.ensures.state
    ∙ told in
    let ok : c.past.result ≡ Ok (Some c.in-Ok-Some.kept) = cc in
    let past : Some c.in-Ok-Some.kept ≡ o.past =
    reads_ok before after c.past.result (λ p past. past ≡ p.past) o (Some c.in-Ok-Some.kept) c.past.ensures.state
    told ok in
    let done =
    subst (λ (t : Option Office). DoesPast w (unchanged (past_again c.in-Ok-Some.kept base bytes) o) o t
    c.compare.result) (sym kept) (c.compare.ensures.does w bytes o left) in
    subst (λ (r : Option PastRecord). DoesPast w (past_by_kept r base c.args.limits.now bytes o) o after
    c.compare.result) past
    done

pub returns-in-Ok-None-clause-does : goal.returns-in-Ok-None-clause-does
returns-in-Ok-None-clause-does g c = λ bytes o left told.
    let before = g.K.Keeper.told c.args.keeper.now in
    let after = g.K.Keeper.told c.past.new.self in
    let kept : after ≡ Some o = reads_same before after c.past.result (λ p past. past ≡ p.past) c.past.ensures.state
    ∙ told in
    let ok : c.past.result ≡ Ok None = cc in
    let none : None ≡ o.past =
    reads_ok before after c.past.result (λ p past. past ≡ p.past) o None c.past.ensures.state told ok in
    subst (λ (r : Option PastRecord). DoesPast g.K.Keeper.refuses (past_by_kept r c.args.base c.args.limits.now bytes o)
    o
    (g.K.Keeper.told c.import_new.new.keeper) c.import_new.result) none
    (c.import_new.ensures.does bytes o left kept)

pub returns-in-Ok-Some-clause-asked_first : goal.returns-in-Ok-Some-clause-asked_first
returns-in-Ok-Some-clause-asked_first g c = λ fails.
    let ok : c.past.result ≡ Ok (Some c.in-Ok-Some.kept) = cc in
    fails_only _ _ c.past.result (Some c.in-Ok-Some.kept) c.past.ensures.planned fails ok

pub returns-in-Ok-None-clause-asked_first : goal.returns-in-Ok-None-clause-asked_first
returns-in-Ok-None-clause-asked_first g c = λ fails.
    let ok : c.past.result ≡ Ok None = cc in
    fails_only _ _ c.past.result None c.past.ensures.planned fails ok

pub returns-in-Err-clause-asked_first : goal.returns-in-Err-clause-asked_first
returns-in-Err-clause-asked_first g c = λ fails.
    let here : c.past.result ≡ Err c.in-Err.fault = cc in
    fails_outcome _ _ c.past.result c.in-Err.fault c.keeper_refused.result c.past.ensures.planned fails here
    c.keeper_refused.ensures

pub returns-in-Ok-Some-clause-asked : goal.returns-in-Ok-Some-clause-asked
returns-in-Ok-Some-clause-asked g c =
    let ok : c.past.result ≡ Ok (Some c.in-Ok-Some.kept) = cc in
    kept_asked c.compare.result _ _ c.compare.ensures.own
    (call_passed _ _ c.past.result (Some c.in-Ok-Some.kept) c.past.ensures.planned ok)

pub returns-in-Ok-None-clause-asked : goal.returns-in-Ok-None-clause-asked
returns-in-Ok-None-clause-asked g c =
    let ok : c.past.result ≡ Ok None = cc in
    new_asked c.import_new.result _ _
    (one_before 1 c.import_new.result _ _ _ (call_passed _ _ c.past.result None c.past.ensures.planned ok)
    c.import_new.ensures.asked)

pub returns-in-Err-clause-asked : goal.returns-in-Err-clause-asked
returns-in-Err-clause-asked g c =
    let here : c.past.result ≡ Err c.in-Err.fault = cc in
    new_asked c.keeper_refused.result _ _
    (subst (λ (o : PastOutcome). AsksNewPast 2 o (g.K.Keeper.plan c.args.keeper.now) (g.K.Keeper.plan c.past.new.self))
    (sym c.keeper_refused.ensures) (call_refused 2 _ _ c.past.result c.in-Err.fault c.past.ensures.planned here))
