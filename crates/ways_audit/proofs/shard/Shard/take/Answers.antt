use Rattle.std.proofs.Common.{◌≡◌, ◌++◌, ◌∷◌, [], false, None, sym, ap, subst, ◌∙◌, rules}
use Rattle.std.specs.List.{cons_option}
use Rattle.std.proofs.lemmas.List.{append-nil}
use Rattle.road_time.specs.Tuples.{reports, report_of}
use Rattle.day_floor.specs.Stands.{StandsFor}
use Rattle.ways_audit.specs.Own.{own_of, belongs}
use Rattle.ways_audit.proofs.OwnLaws.{own_push_no, own_other, other_tells_nothing, no_report}
use Rattle.ways_audit.proofs.shard.Shard.take.Goals as goal

pub returns-else-belongs-clause-tracked : goal.returns-else-belongs-clause-tracked
returns-else-belongs-clause-tracked c = λ day t.
    let no : belongs c.args.place c.args.count c.in-Report.report ≡ false = search rules in
    subst (λ x. StandsFor c.args.self.now.tracker (own_of c.args.place c.args.count (reports (day ++ x ∷ []))))
    (sym c.in-Report.is)
    (subst (StandsFor c.args.self.now.tracker) (sym (own_push_no c.args.place c.args.count day c.in-Report.report no))
    t)

pub returns-in_default : goal.returns-in_default
returns-in_default c =
    let none : report_of c.args.tuple.now ≡ None = no_report c.args.tuple.now c.in_default.not-Report in
    record {
      tracked =
          λ day t. subst (StandsFor c.args.self.now.tracker)
          (sym (own_other c.args.place c.args.count day c.args.tuple.now none)) t;
      told = λ day t. sym
          (ap (λ o. c.args.self.now.told.items ++ cons_option o [])
          (other_tells_nothing c.args.place c.args.count day c.args.tuple.now none)
          ∙ append-nil c.args.self.now.told.items);
    }
