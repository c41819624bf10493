use Rattle.std.proofs.Common.{arith, subst, sym, ◌∙◌, ℕ, ◌<◌}
use Rattle.atomic_table.specs.Seated.{TableId}
use Rattle.atomic_table.specs.Table.{Joins}
use Rattle.ways_crews.specs.Cells.{CellRule}
use Rattle.ways_crews.specs.Views.{new_helper}
use Rattle.ways_crews.proofs.OtherSteps.{join_allowed}
use Rattle.ways_crews.proofs.standing_crew.StandingCrew.dismiss.Goals as goal

pub join_seat-requires : goal.join_seat-requires
join_seat-requires g c =
    let crew = c.args.self.now in
    let helper = c.args.helper in (
      crew.at.0 ∙ sym c.cells.ensures,
      helper.at.0 ∙ (c.requires ∙ sym c.cells.ensures),
      helper.hands,
      subst (λ (z : TableId). 0 < z.words) (sym c.cells.ensures) (let w = crew.at.1 in omega arith),
      subst (λ (z : ℕ). Joins CellRule z crew.seat.me.0 helper.seat.id helper.seat.me.0 crew.seat.me.0 new_helper)
          (sym crew.first) (join_allowed crew.seat.me.0 helper.seat.id helper.seat.me.0 helper.idle),
    )
