use Rattle.std.proofs.Common.{ap, ◌∙◌}
use Rattle.ways_crews.specs.Views.{Sat, input_of}
use Rattle.ways_crews.proofs.waiting.await_done.Goals as goal

pub returns-in-Some-collect-clause-done : goal.returns-in-Some-collect-clause-done
returns-in-Some-collect-clause-done g c job has =
    c.in-Some-collect.ensures.done job (ap (λ (m : Sat). input_of m.0 c.args.cell) c.loop.invariant.1 ∙ has)
