use Rattle.day_floor.proofs.Jobs.{next_ready, goes_out, out_ready, comes_back, true_result}
use Rattle.day_floor.proofs.laws.job_law.Goals as goal

pub returns-clause-next : goal.returns-clause-next
returns-clause-next c =
    λ tariffs width limits s worker job terms sound within next.
    (next_ready tariffs width limits s worker job terms sound within next, goes_out tariffs s worker job next)

pub returns-clause-come_back : goal.returns-clause-come_back
returns-clause-come_back c = λ tariffs width limits s worker job terms sound within some is. (
  out_ready tariffs width limits s worker job terms sound within some is,
  λ done shaped ok. comes_back tariffs width limits s worker job terms sound within some is done ok shaped,
  λ done result ok. true_result tariffs width limits s worker job terms sound within some is done ok result,
)
