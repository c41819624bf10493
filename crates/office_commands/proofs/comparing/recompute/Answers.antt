use Rattle.office_commands.proofs.StartLaws.{bulk_starts}
use Rattle.office_commands.proofs.comparing.recompute.Goals as goal

pub returns-in-InBulk-clause-jobs : goal.returns-in-InBulk-clause-jobs
returns-in-InBulk-clause-jobs g c =
    rw c.in-InBulk.is (bulk_starts c.bulk.result c.in-InBulk.shards c.in-InBulk.width c.args.tuples.now _ _
    c.bulk.ensures.jobs c.bulk.ensures.first)
