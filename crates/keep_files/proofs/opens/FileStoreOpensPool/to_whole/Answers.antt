use Rattle.keep_files.specs.Openings.{AsWhole}
use Rattle.keep_files.proofs.FileLaws.{of_stored}
use Rattle.keep_files.proofs.RefuseLaws.{refused_stored}
use Rattle.keep_files.proofs.opens.FileStoreOpensPool.to_whole.Goals as goal

pub returns-clause-opened : goal.returns-clause-opened
returns-clause-opened g c =
    of_stored g.D.Disk g.D.AtPath.reaches c.close.result AsWhole c.args.store c.close.ensures c.opened_whole.result
    c.opened_whole.ensures.opened

pub returns-clause-refused : goal.returns-clause-refused
returns-clause-refused g c =
    refused_stored g.D.Disk g.D.AtPath.reaches g.D.AtPath.refuses g.D.AtPath.undrawn c.close.result c.args.store
    c.close.ensures c.opened_whole.result c.opened_whole.ensures.refused
