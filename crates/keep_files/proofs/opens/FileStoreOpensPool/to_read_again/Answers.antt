use Rattle.keep_files.specs.Openings.{AsTrees}
use Rattle.keep_files.proofs.FileLaws.{of_stored}
use Rattle.keep_files.proofs.RefuseLaws.{lost_stored}
use Rattle.keep_files.proofs.opens.FileStoreOpensPool.to_read_again.Goals as goal

pub returns-clause-opened : goal.returns-clause-opened
returns-clause-opened g c =
    of_stored g.D.Disk g.D.AtPath.reaches c.close.result AsTrees c.args.store c.close.ensures c.listed_again.result
    c.listed_again.ensures.opened

pub returns-clause-lost : goal.returns-clause-lost
returns-clause-lost g c =
    lost_stored g.D.Disk g.D.AtPath.reaches g.D.AtPath.refuses g.D.AtPath.undrawn c.close.result c.args.store
    c.close.ensures c.listed_again.result c.listed_again.ensures.lost
