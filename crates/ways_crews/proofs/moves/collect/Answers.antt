use Rattle.std.proofs.Common.{rules, arith, ap, subst, Some, ◌∙◌, ◌≡◌}
use Rattle.ways_expressway.specs.declared.job.Done.{Done}
use Rattle.ways_expressway.specs.Results.{IsResultOf}
use Rattle.ways_crews.specs.Views.{Sat, input_of}
use Rattle.ways_crews.specs.declared.cells.Parcel.TheVariants.{Finished}
use Rattle.ways_crews.proofs.Asked.{collect_at, shut_at, turn_of, done_is}
use Rattle.ways_crews.proofs.CellSteps.{cleared}
use Rattle.ways_crews.proofs.moves.collect.Goals as goal

pub compare_exchange-requires : goal.compare_exchange-requires
compare_exchange-requires c = (
  search rules,
  (let w = c.requires.crew.0.1 in omega arith),
  collect_at _ _ _ c.args.seat.now.me c.requires.cell
      c.requires.crew.1,
)

pub exchange-parcel-requires : goal.exchange-parcel-requires
exchange-parcel-requires c =
    let found = c.compare_exchange.ensures.2.0 c.if-compare_exchange-ne-DONE.false in
    (search rules, (Some (Finished found.0), turn_of _ _ _ _ (ap (λ (m : Sat). m.1) found.2)))

pub returns-clause-done : goal.returns-clause-done
returns-clause-done c job has =
    let found = c.compare_exchange.ensures.2.0 c.if-compare_exchange-ne-DONE.false in
    let same : found.0 ≡ c.in-Some-Finished.done =
    done_is _ _ _ _ _ _ _ (ap (λ (m : Sat). m.1) found.2) c.exchange-parcel.ensures.2
    (c.in-Some-Finished.is ∙ ap Some c.in-Some-Finished.field-0-is) in
    subst (λ (d : Done). IsResultOf job d) same (found.1 job has)

pub store-requires : goal.store-requires
store-requires c =
    let found = c.compare_exchange.ensures.2.0 c.if-compare_exchange-ne-DONE.false in (
      search rules,
      (let w = c.requires.crew.0.1 in omega arith),
      shut_at _ _ _ _ _ _ c.requires.cell
          (c.exchange-parcel.ensures.1 ∙ (c.compare_exchange.ensures.1 ∙ c.requires.crew.1)) c.exchange-parcel.ensures.3
          (ap (λ (m : Sat). input_of m.0 c.args.cell) found.2 ∙ cleared c.args.seat.now.me.0 c.args.cell),
    )
