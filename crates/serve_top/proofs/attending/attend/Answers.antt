use Rattle.serve_top.proofs.attending.attend.Goals as goal

pub returns-clause-attends : goal.returns-clause-attends
returns-clause-attends g c = λ bytes is. (
  c.session_shared.result,
  c.session_shared.ensures.shares bytes is,
  c.session_shared.ensures.cause,
)
