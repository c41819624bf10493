use Rattle.keep_files.proofs.keeper_in.KeeperIn.put.Goals as goal

pub returns-clause-does : goal.returns-clause-does
returns-clause-does g c = rw c.count.ensures.same c.put-answer.ensures.does

pub returns-clause-folded : goal.returns-clause-folded
returns-clause-folded g c = rw c.count.ensures.same c.put-answer.ensures.folded

pub returns-clause-said : goal.returns-clause-said
returns-clause-said g c = (rw c.count.ensures.same c.put-answer.ensures.said, c.put-answer.ensures.stays)
