use Rattle.keep_files.proofs.keeper_in.KeeperIn.read.Goals as goal

pub returns-clause-does : goal.returns-clause-does
returns-clause-does g c = rw c.count.ensures.same c.read-answer.ensures.does

pub returns-clause-said : goal.returns-clause-said
returns-clause-said g c = (rw c.count.ensures.same c.read-answer.ensures.said, c.read-answer.ensures.stays)
