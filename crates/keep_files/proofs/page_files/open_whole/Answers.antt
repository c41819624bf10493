use Rattle.std.proofs.Common.{inl}
use Rattle.keep_files.specs.Openings.{AsWhole}
use Rattle.keep_files.proofs.FileLaws.{of_path}
use Rattle.keep_files.proofs.LeftLaws.{whole_alone}
use Rattle.keep_files.proofs.RefuseLaws.{refused_path}
use Rattle.keep_files.proofs.page_files.open_whole.Goals as goal

-- files that were opened at the path, at which nobody looked before
pub returns-in-Ok-clause-opened : goal.returns-in-Ok-clause-opened
returns-in-Ok-clause-opened g c =
    of_path g.D.Disk g.D.AtPath.reaches c.in-Ok.files AsWhole c.args.path.now c.in-Ok.ensures.opened
    c.opened_whole.result
    (whole_alone g.D.Disk g.met.D.Disk.seen_may_stay c.in-Ok.files c.opened_whole.result c.opened_whole.ensures.opened)

-- they were refused
pub returns-in-Ok-clause-refused : goal.returns-in-Ok-clause-refused
returns-in-Ok-clause-refused g c =
    refused_path g.D.Disk g.D.AtPath.reaches g.D.AtPath.refuses g.D.AtPath.undrawn c.in-Ok.files c.args.path.now
    c.in-Ok.ensures.opened c.opened_whole.result c.opened_whole.ensures.refused

-- the disk gave none
pub returns-in-Err-clause-refused : goal.returns-in-Err-clause-refused
returns-in-Err-clause-refused g c = inl c.in-Err.ensures.refused
