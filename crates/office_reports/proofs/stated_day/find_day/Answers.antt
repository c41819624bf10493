use Rattle.std.proofs.Common.{◌≡◌, ◌∙◌, Some, ap, subst}
use Rattle.keep_office.specs.Office.{IsSound, rows_between, sum_of_rows}
use Rattle.keep_office.specs.Calls.{SoundIfTold}
use Rattle.office_reports.proofs.AddLaws.{kept_adds}
use Rattle.office_reports.proofs.stated_day.find_day.Goals as goal

pub returns-else-adds_up-clause-sound : goal.returns-else-adds_up-clause-sound
returns-else-adds_up-clause-sound g c = λ o told d _.
    let same : g.K.Keeper.told c.find_rows.new.keeper ≡ Some o =
    c.find_rows.ensures.kept ∙ c.find_record.ensures.kept ∙ told in
    let sound : IsSound o = subst SoundIfTold same c.find_rows.ensures.sound in
    let rows : c.as_slice.result.now ≡ rows_between o c.args.day c.args.day =
    c.as_slice.ensures.value ∙ c.in-Ok-find_rows.ensures.found o (c.find_record.ensures.kept ∙ told) in
    c.adds_up.ensures.other c.if-adds_up.false
    (ap sum_of_rows rows ∙ kept_adds o c.args.day c.in-Ok.record sound (c.in-Ok.ensures.found o told))
