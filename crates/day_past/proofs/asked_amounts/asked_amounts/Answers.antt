use Rattle.std.proofs.Common.{rules, ◌≡◌, ◌∙◌, ◌∷◌, length, sym, ap, subst, arith}
use Rattle.std.specs.List.{AllByRecursion}
use Rattle.road_time.specs.Fits.{IsValid}
use Rattle.day_past.specs.Asks.{count_asks, HasAllAsked}
use Rattle.day_past.proofs.AskedAmountLaws.{asked_more, none_asked, not_failed}
use Rattle.day_past.proofs.asked_amounts.asked_amounts.Goals as goal

pub loop-tuple-preserved : goal.loop-tuple-preserved
loop-tuple-preserved g c =
    let tuple = c.in-Some.tuple.now in
    let inv = c.loop-tuple.invariant in
    let join = c.join_asked.ensures in
    let now = c.join_asked.new.rows.items in
    let is : c.loop-tuple.left.now ≡ tuple ∷ c.in-Some.later.now = search rules in
    let fine = not_failed c.join_asked.result c.in_default-join_asked.field-0 c.in_default-join_asked.is in
    record {
      valid = (subst (AllByRecursion IsValid) is inv.valid).1;
      right = λ o told. join.right o (inv.same ∙ told) (inv.right o told);
      asked = λ more all rest. inv.asked more (λ p e. all p (join.grows p e))
          (subst (HasAllAsked c.args.number more) (sym is)
          (asked_more c.args.number now more tuple all c.in_default-join_asked.ensures.asked, rest));
      keys = join.keys;
      few = omega (arith, inv.few, join.few, ap count_asks is);
      same = join.same ∙ inv.same;
      stands = join.stands fine ∙ inv.stands;
      sure = λ never. (join.sure (inv.sure never)).1;
    }

pub returns-clause-asked : goal.returns-clause-asked
returns-clause-asked g c =
    let rows = c.loop-tuple.rows.items in
    let none : length c.loop-tuple.left.now ≡ 0 = c.in_default.ensures.cases in
    c.loop-tuple.invariant.asked rows (λ p e. e) (none_asked c.args.number rows c.loop-tuple.left.now none)
