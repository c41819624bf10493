use Rattle.std.proofs.Common.{◌++◌, ◌∷◌, [], sym, ap, subst, ◌∙◌}
use Rattle.road_time.specs.Tuples.{reports}
use Rattle.day_floor.specs.Stands.{StandsFor}
use Rattle.ways_audit.specs.Own.{own_of}
use Rattle.ways_audit.proofs.OwnLaws.{own_push_yes, told_by_shard}
use Rattle.ways_audit.proofs.shard.Shard.keep.Goals as goal

pub returns-clause-tracked : goal.returns-clause-tracked
returns-clause-tracked c = λ day t.
    subst (StandsFor c.see.new.self) (sym (own_push_yes c.args.place c.args.count day c.args.report.now c.requires))
    (c.in_ok-tracked.ensures.seen (own_of c.args.place c.args.count (reports day)) t)

pub returns-clause-told : goal.returns-clause-told
returns-clause-told c = λ day t.
    c.in_ok-push_back.ensures.items
    ∙ ap (λ x. c.args.self.now.told.items ++ x ∷ [])
    (told_by_shard c.args.place c.args.count day c.args.report.now c.in_ok-tracked.tracked c.requires
    (c.in_ok-tracked.ensures.told (own_of c.args.place c.args.count (reports day)) t))
