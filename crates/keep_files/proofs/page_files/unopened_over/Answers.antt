use Rattle.std.proofs.Common.{sym, ◌∙◌}
use Rattle.keep_files.proofs.page_files.unopened_over.Goals as goal

pub returns-in-Ok-new-clause-files : goal.returns-in-Ok-new-clause-files
returns-in-Ok-new-clause-files g c = c.in-Ok-new.ensures.files ∙ c.in-Ok.ensures.files

pub returns-in-Ok-new-clause-sized : goal.returns-in-Ok-new-clause-sized
returns-in-Ok-new-clause-sized g c = c.in-Ok-new.ensures.size ∙ c.in-Ok.ensures.size

pub returns-in-Ok-new-clause-ours : goal.returns-in-Ok-new-clause-ours
returns-in-Ok-new-clause-ours g c = c.in-Ok-new.ensures.schema ∙ sym c.our_objects.ensures
