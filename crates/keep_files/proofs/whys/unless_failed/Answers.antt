use Rattle.keep_files.proofs.whys.unless_failed.Goals as goal

pub returns-in-Err-Failed-clause-says : goal.returns-in-Err-Failed-clause-says
returns-in-Err-Failed-clause-says g c is = c.why.ensures
