use Rattle.serve_requests.proofs.StatusLaws.{page_is_available}
use Rattle.serve_desk.proofs.SendLaws.{endless_page}
use Rattle.serve_desk.proofs.answers.answer_page.Goals as goal

pub returns-clause-sent : goal.returns-clause-sent
returns-clause-sent g c = (c.send_page.ensures.sent, c.send_page.ensures.sure)

pub returns-clause-unavailable : goal.returns-clause-unavailable
returns-clause-unavailable g c = λ is. page_is_available _ _ _ c.send_page.ensures.sent is

pub returns-clause-sure : goal.returns-clause-sure
returns-clause-sure g c = λ endless. c.send_page.ensures.sure (endless_page _ endless)
