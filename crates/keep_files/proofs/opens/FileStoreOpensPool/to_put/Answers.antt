use Rattle.keep_files.specs.Openings.{put_part}
use Rattle.keep_files.proofs.FileLaws.{of_closed}
use Rattle.keep_files.proofs.RefuseLaws.{foreign_closed, refused_closed}
use Rattle.keep_files.proofs.opens.FileStoreOpensPool.to_put.Goals as goal

pub returns-clause-whole : goal.returns-clause-whole
returns-clause-whole g c =
    foreign_closed g.D.Disk c.close.result c.args.pages c.close.ensures c.stored.result c.stored.ensures.opened

pub returns-clause-opened : goal.returns-clause-opened
returns-clause-opened g c =
    of_closed g.D.Disk g.D.AtPath.reaches c.close.result put_part c.args.pages c.close.ensures c.stored.result
    c.stored.ensures.opened

pub returns-clause-refused : goal.returns-clause-refused
returns-clause-refused g c =
    refused_closed g.D.Disk g.D.AtPath.reaches g.D.AtPath.refuses g.D.AtPath.undrawn c.close.result c.args.pages
    c.close.ensures c.stored.result c.stored.ensures.refused
