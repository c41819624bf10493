use Rattle.serve_board.proofs.AnswerLaws.{answers}
use Rattle.serve_board.proofs.laws.answers_law.Goals as goal

pub returns : goal.returns
returns c = answers c.live_law.ensures.shows
