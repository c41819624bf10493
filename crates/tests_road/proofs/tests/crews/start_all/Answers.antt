use Rattle.std.proofs.Common.{◌+◌, [], ◌∷◌, ◌++◌, ap, sym, ◌∙◌, length-append}
use Rattle.std.proofs.lemmas.List.{map-append}
use Rattle.tests_road.proofs.tests.crews.start_all.Goals as goal

pub loop-number-preserved : goal.loop-number-preserved
loop-number-preserved g c =
    let (tasks, are, held, count) = c.loop-number.invariant in
    let ticket = c.start_beside.result in
    let more = (ticket, c.in_ok-job.job) ∷ [] in (
      tasks ++ more,
      map-append (λ t. t.0) tasks more ∙ (ap (λ ts. ts ++ ticket ∷ []) are ∙ sym c.in_ok-push_back.ensures.items),
      c.start_beside.ensures.out tasks held,
      length-append tasks more ∙ ap (λ n. n + 1) count,
    )
