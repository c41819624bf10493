use Rattle.std.proofs.Common.{take, ap, ◌∙◌, subst}
use Rattle.std.proofs.Math.Seq.{take-length}
use Rattle.road_time.specs.Day.{given}
use Rattle.day_floor.specs.Closes.{IsClosed}
use Rattle.day_floor.proofs.Settled.{if_ok}
use Rattle.day_floor.proofs.floor.Floor.close.Goals as goal

pub returns-clause-closed : goal.returns-clause-closed
returns-clause-closed g c =
    if_ok c.close.result
    (λ closed is g s st all.
    subst (IsClosed closed c.args.day (given s.found) g.number g.history)
    (ap (λ n. take n s.fed) all ∙ take-length s.fed)
    (is (given s.found) g.number g.history (take s.settled s.fed) st.settler))
    c.close.ensures.closed

pub returns-clause-digested : goal.returns-clause-digested
returns-clause-digested g c = if_ok c.close.result (λ closed is g s st. is ∙ st.digested) c.close.ensures.digested
