use Rattle.std.proofs.Common.{◌≡◌, ◌∙◌, Option, Some, None, Ok, Err, sym, subst, arith}
use Rattle.keep_office.specs.Office.{Office, last_day}
use Rattle.keep_office.specs.Kept.{HasNoDays}
use Rattle.keep_office.specs.Calls.{IfTold}
use Rattle.day_past.specs.Imports.{PastAnswer, DoesPast}
use Rattle.keep_office.proofs.CallLaws.{reads_same}
use Rattle.day_past.specs.Asked.{AsksNewPast}
use Rattle.day_past.specs.declared.outcomes.PastOutcome.{PastOutcome}
use Rattle.day_past.proofs.AskedLaws.{call_passed, call_refused, one_before}
use Rattle.day_past.proofs.KeepLaws.{told_no_days, told_last, first_new}
use Rattle.day_past.proofs.importing.import_new.Goals as goal

pub import_first-requires-clause-first : goal.import_first-requires-clause-first
import_first-requires-clause-first g c =
    let before = g.K.Keeper.told c.args.keeper.now in
    let after = g.K.Keeper.told c.last_day.new.self in
    let same = reads_same before after c.last_day.result (λ p last. last ≡ last_day p) c.last_day.ensures.state in
    let ok : c.last_day.result ≡ Ok c.in-Ok.last = cc in
    let none = subst (λ (t : Option Office). IfTold t (λ o. o.past ≡ None)) (sym same) c.requires.none in
    told_no_days after c.last_day.ensures.sound none
    (told_last before after c.last_day.result c.in-Ok.last c.last_day.ensures.state ok
    (omega (arith, c.if-last-gt0.false)))

pub returns-else-last-gt0-clause-does : goal.returns-else-last-gt0-clause-does
returns-else-last-gt0-clause-does g c = λ bytes o left told.
    let before = g.K.Keeper.told c.args.keeper.now in
    let after = g.K.Keeper.told c.last_day.new.self in
    let kept : after ≡ Some o =
    reads_same before after c.last_day.result (λ p last. last ≡ last_day p) c.last_day.ensures.state ∙ told in
    let ok : c.last_day.result ≡ Ok c.in-Ok.last = cc in
    let none = subst (λ (t : Option Office). IfTold t (λ p. p.past ≡ None)) (told ∙ sym kept) c.requires.none in
    let bare =
    told_no_days after c.last_day.ensures.sound none
    (told_last before after c.last_day.result c.in-Ok.last c.last_day.ensures.state ok
    (omega (arith, c.if-last-gt0.false))) in
    let no_days : HasNoDays o = subst (λ (t : Option Office). IfTold t HasNoDays) kept bare in
    subst (λ (a : PastAnswer). DoesPast g.K.Keeper.refuses a o (g.K.Keeper.told c.import_first.new.keeper)
    c.import_first.result) (sym (first_new c.args.base c.args.limits.now bytes o no_days.days))
    (c.import_first.ensures.does bytes o left kept)

pub returns-else-last-gt0-clause-unread : goal.returns-else-last-gt0-clause-unread
returns-else-last-gt0-clause-unread g c = λ o told some.
    let before = g.K.Keeper.told c.args.keeper.now in
    let after = g.K.Keeper.told c.last_day.new.self in
    let kept : after ≡ Some o =
    reads_same before after c.last_day.result (λ p last. last ≡ last_day p) c.last_day.ensures.state ∙ told in
    let ok : c.last_day.result ≡ Ok c.in-Ok.last = cc in
    let none = subst (λ (t : Option Office). IfTold t (λ p. p.past ≡ None)) (told ∙ sym kept) c.requires.none in
    let bare =
    told_no_days after c.last_day.ensures.sound none
    (told_last before after c.last_day.result c.in-Ok.last c.last_day.ensures.state ok
    (omega (arith, c.if-last-gt0.false))) in
    let no_days : HasNoDays o = subst (λ (t : Option Office). IfTold t HasNoDays) kept bare in
    absurd (some no_days.days)

pub returns-then-last-gt0-clause-asked : goal.returns-then-last-gt0-clause-asked
returns-then-last-gt0-clause-asked g c =
    let ok : c.last_day.result ≡ Ok c.in-Ok.last = cc in
    call_passed _ _ c.last_day.result c.in-Ok.last c.last_day.ensures.planned ok

pub returns-else-last-gt0-clause-asked : goal.returns-else-last-gt0-clause-asked
returns-else-last-gt0-clause-asked g c =
    let ok : c.last_day.result ≡ Ok c.in-Ok.last = cc in
    one_before 0 c.import_first.result _ _ _
    (call_passed _ _ c.last_day.result c.in-Ok.last c.last_day.ensures.planned ok) c.import_first.ensures.asked

pub returns-in-Err-clause-asked : goal.returns-in-Err-clause-asked
returns-in-Err-clause-asked g c =
    let here : c.last_day.result ≡ Err c.in-Err.fault = cc in
    subst
    (λ (o : PastOutcome). AsksNewPast 1 o (g.K.Keeper.plan c.args.keeper.now) (g.K.Keeper.plan c.last_day.new.self))
    (sym c.keeper_refused.ensures) (call_refused 1 _ _ c.last_day.result c.in-Err.fault c.last_day.ensures.planned here)
