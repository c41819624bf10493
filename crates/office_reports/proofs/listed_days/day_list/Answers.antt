use Rattle.std.proofs.Common.{◌∙◌, length, ap}
use Rattle.office_reports.specs.DayLists.{list_text}
use Rattle.office_reports.proofs.listed_days.day_list.Goals as goal

pub returns-in-Ok-list_text-clause-exact : goal.returns-in-Ok-list_text-clause-exact
returns-in-Ok-list_text-clause-exact g c = λ o told.
    let found = c.in-Ok.ensures.exact o told in (
      c.in-Ok-list_text.ensures ∙ ap list_text (c.as_slice.ensures.value ∙ found.0),
      ap length (c.as_slice-in-Ok-list_text.ensures.value ∙ found.0),
      found.1,
    )
