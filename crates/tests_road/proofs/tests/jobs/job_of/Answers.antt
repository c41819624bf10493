use Rattle.std.proofs.Common.{◌≡◌, ◌++◌, [], ap, sym, subst, ◌∙◌}
use Rattle.ways_expressway.specs.Ready.{CanRun}
use Rattle.ways_expressway.proofs.CheckLaws.{checked}
use Rattle.tests_road.proofs.tests.jobs.job_of.Goals as goal

pub returns : goal.returns
returns c =
    let es = c.args.events.now in
    let all : c.from_vec.result ≡ es = c.from_vec.ensures ∙ c.in_ok-extend_from_slice.ensures.items
    ∙ ap (λ xs. xs ++ es) c.new-all.ensures.items in (
      [],
      record {
        stands = c.in_ok-carriage.ensures.stands;
        runs =
            subst (CanRun []) (sym all) (checked es c.requires);
      },
    )
