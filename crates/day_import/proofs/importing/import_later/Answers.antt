use Rattle.std.proofs.Common.{◌≡◌, ◌∙◌, Some, Ok, Err, inl, sym, subst}
use Rattle.keep_office.proofs.CallLaws.{reads_same, reads_ok}
use Rattle.day_import.proofs.FinishLaws.{read_after}
use Rattle.day_import.proofs.JobLaws.{refused_started, refused_planned, refused_none}
use Rattle.day_import.specs.Asked.{AsksBy}
use Rattle.day_import.specs.declared.outcomes.Outcome.{Outcome}
use Rattle.day_import.proofs.AskedLaws.{one_before, call_passed, call_refused}
use Rattle.day_import.proofs.importing.import_later.Goals as goal

pub returns-in-Ok-clause-merged : goal.returns-in-Ok-clause-merged
returns-in-Ok-clause-merged g c = λ bytes o left told.
    let before = g.K.Keeper.told c.args.keeper.now in
    let after = g.K.Keeper.told c.tariffs.new.self in
    let kept : after ≡ Some o = reads_same before after c.tariffs.result (λ p t. t ≡ p.tariffs) c.tariffs.ensures.state
    ∙ told in
    let under = reads_ok before after c.tariffs.result (λ p t. t ≡ p.tariffs) o c.in-Ok.tariffs c.tariffs.ensures.state
    told cc in
    c.import_begun.ensures.merged bytes o left kept under

pub returns-in-Ok-clause-does : goal.returns-in-Ok-clause-does
returns-in-Ok-clause-does g c = λ exact bytes o left told.
    let before = g.K.Keeper.told c.args.keeper.now in
    let after = g.K.Keeper.told c.tariffs.new.self in
    let kept : after ≡ Some o = reads_same before after c.tariffs.result (λ p t. t ≡ p.tariffs) c.tariffs.ensures.state
    ∙ told in
    let under = reads_ok before after c.tariffs.result (λ p t. t ≡ p.tariffs) o c.in-Ok.tariffs c.tariffs.ensures.state
    told cc in
    c.import_begun.ensures.does exact bytes o left kept under

pub returns-in-Err-clause-jobs : goal.returns-in-Err-clause-jobs
returns-in-Err-clause-jobs g c =
    λ bytes left. refused_started _ _ _ _ c.in-Err.fault c.refused.result c.refused.ensures

pub returns-in-Ok-clause-published_by : goal.returns-in-Ok-clause-published_by
returns-in-Ok-clause-published_by g c = λ exact bytes was left posted.
    (c.in-Ok.tariffs, c.import_begun.ensures.published exact bytes was left posted)

pub returns-in-Err-clause-published_by : goal.returns-in-Err-clause-published_by
returns-in-Err-clause-published_by g c = λ exact bytes was left posted.
    refused_none _ _ _ was _ c.in-Err.fault c.refused.result c.refused.ensures posted

pub returns-in-Err-clause-planned : goal.returns-in-Err-clause-planned
returns-in-Err-clause-planned g c = λ bytes left.
    refused_planned _ _ _ _ _ _ _ c.in-Err.fault c.refused.result c.refused.ensures

pub returns-in-Ok-clause-asked : goal.returns-in-Ok-clause-asked
returns-in-Ok-clause-asked g c =
    let ok : c.tariffs.result ≡ Ok c.in-Ok.tariffs = cc in
    one_before 0 c.import_begun.result _ _ _ c.import_begun.ensures.new_day
    (call_passed _ _ c.tariffs.result c.in-Ok.tariffs c.tariffs.ensures.planned ok) c.import_begun.ensures.asked

pub returns-in-Err-clause-asked : goal.returns-in-Err-clause-asked
returns-in-Err-clause-asked g c =
    let here : c.tariffs.result ≡ Err c.in-Err.fault = cc in
    subst (λ (o : Outcome). AsksBy 1 o (g.K.Keeper.plan c.args.keeper.now) (g.K.Keeper.plan c.tariffs.new.self))
    (sym c.refused.ensures) (call_refused 1 _ _ c.tariffs.result c.in-Err.fault c.tariffs.ensures.planned here)

pub returns-in-Ok-clause-read_first : goal.returns-in-Ok-clause-read_first
returns-in-Ok-clause-read_first g c = λ bytes left.
    let same = reads_same (g.K.Keeper.told c.args.keeper.now) (g.K.Keeper.told c.tariffs.new.self) c.tariffs.result
    (λ p t. t ≡ p.tariffs) c.tariffs.ensures.state in
    read_after _ _ _ _ _ _ same (c.import_begun.ensures.read_first bytes left)

pub returns-in-Err-clause-read_first : goal.returns-in-Err-clause-read_first
returns-in-Err-clause-read_first g c = λ bytes left.
    inl (reads_same (g.K.Keeper.told c.args.keeper.now) (g.K.Keeper.told c.tariffs.new.self) c.tariffs.result
    (λ p t. t ≡ p.tariffs) c.tariffs.ensures.state)
