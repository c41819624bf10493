use Rattle.std.proofs.Common.{ap, sym, subst, ◌∙◌, Option, ℕ}
use Rattle.road_time.specs.declared.day.Limits.{Limits}
use Rattle.road_time.specs.Reads.{reads}
use Rattle.road_time.specs.Fits.{IsLimits}
use Rattle.office_commands.specs.Days.{refusal_of, recomputed, refused_at}
use Rattle.office_commands.proofs.DayLaws.{refused_same, recomputed_within}
use Rattle.tuples_text.specs.declared.cause.Cause.{Cause}
use Rattle.office_commands.specs.Rests.{EndsAt}
use Rattle.office_commands.proofs.RestLaws.{ends_at}
use Rattle.office_commands.proofs.day.read_day.Goals as goal

pub read_day-requires-clause-within : goal.read_day-requires-clause-within
read_day-requires-clause-within g c =
    subst (λ (l : Limits). IsLimits l) (sym c.recomputed-lesser.ensures)
    (recomputed_within c.args.how c.args.limits.now c.requires.within)

pub returns-in-Ok-clause-refused : goal.returns-in-Ok-clause-refused
returns-in-Ok-clause-refused g c = λ bytes told.
    c.refused_at.ensures
    ∙ refused_same c.in-Ok.day.end bytes (reads bytes c.recomputed-lesser.result c.args.late).refused
    (c.in-Ok.ensures.end bytes told)
    ∙ ap (λ l. refusal_of (reads bytes l c.args.late).refused) c.recomputed-lesser.ensures

pub returns-in-Ok-clause-ends : goal.returns-in-Ok-clause-ends
returns-in-Ok-clause-ends g c = λ bytes told.
    let left = g.S.Source.left c.read_day.new.source in
    let end = c.in-Ok.day.end in
    let there = ends_at (reads bytes c.recomputed-lesser.result c.args.late).refused bytes left end
    (c.in-Ok.ensures.end bytes told) (c.in-Ok.ensures.left bytes told) in
    let lesser =
    subst (λ (l : Limits). EndsAt (refused_at end) (reads bytes l c.args.late).refused bytes left)
    c.recomputed-lesser.ensures there in
    subst (λ (d : Option (ℕ × Cause)). EndsAt d
    (reads bytes (recomputed c.args.how c.args.limits.now) c.args.late).refused bytes left)
    (sym c.refused_at.ensures) lesser
