use Rattle.keep_files.proofs.FoundLaws.{found_now}
use Rattle.keep_files.proofs.page_files.listed.Goals as goal

pub returns-in-Ok-clause-found : goal.returns-in-Ok-clause-found
returns-in-Ok-clause-found g c =
    found_now g.P.Pages c.in-Ok.trees (g.P.Pages.size c.args.pages) (g.P.Pages.pages c.args.pages)
    c.in-Ok.ensures.same.0.same_size c.in-Ok.ensures.same.1 c.in-Ok.ensures.found c.in-Ok.ensures.begins
    c.in-Ok.ensures.second

pub returns-in-Ok-clause-kept : goal.returns-in-Ok-clause-kept
returns-in-Ok-clause-kept g c = c.in-Ok.ensures.same.0

pub returns-in-Ok-clause-same : goal.returns-in-Ok-clause-same
returns-in-Ok-clause-same g c = c.in-Ok.ensures.same.1

pub returns-in-Err-clause-back : goal.returns-in-Err-clause-back
returns-in-Err-clause-back g c = c.in-Err.ensures.same.0
