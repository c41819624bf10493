use Rattle.serve_desk.proofs.two_locks.TwoLocksClerk.answer.Goals as goal

pub returns-clause-answers : goal.returns-clause-answers
returns-clause-answers g c = rw (← c.seat.view_is) c.answer_shared.ensures.shared

pub returns-clause-follows : goal.returns-clause-follows
returns-clause-follows g c = rw (← c.seat.view_is) c.answer_shared.ensures.follows
