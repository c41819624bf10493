use Rattle.std.proofs.Common.{inl}
use Rattle.keep_files.proofs.RefuseLaws.{refused_alone}
use Rattle.keep_files.proofs.page_files.opened_whole.Goals as goal

-- the files were refused
pub returns-in-Ok-clause-refused : goal.returns-in-Ok-clause-refused
returns-in-Ok-clause-refused g c =
    refused_alone g.D.Disk g.D.AtPath.reaches g.D.AtPath.refuses g.D.AtPath.undrawn c.args.files
    g.met.D.Disk.seen_may_stay c.connected.result c.connected.ensures.refused

-- no number was drawn
pub returns-in-Err-clause-refused : goal.returns-in-Err-clause-refused
returns-in-Err-clause-refused g c = inl c.in-Err.ensures
