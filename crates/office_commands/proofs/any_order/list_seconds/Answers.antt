use Rattle.std.proofs.Common.{◌≡◌, ◌++◌, List, [], sym, ap, subst}
use Rattle.road_io.specs.Cutter.{ahead, line_of}
use Rattle.ways_audit.specs.Seconds.{seconds}
use Rattle.office_commands.specs.declared.difference.Difference.{Difference}
use Rattle.office_commands.specs.declared.second.Reach.{Reach}
use Rattle.office_commands.specs.AnyOrder.{differences_by_second}
use Rattle.office_commands.specs.Differences.{differences}
use Rattle.office_commands.specs.Turns.{ReachTo}
use Rattle.office_commands.proofs.any_order.list_seconds.Goals as goal

pub returns-in-Ok-Whole-clause-exact : goal.returns-in-Ok-Whole-clause-exact
returns-in-Ok-Whole-clause-exact g c = λ entries st.
    let now = c.all_seconds.new in
    let all = differences_by_second (seconds c.args.wanted.now) 1 entries in
    let first : all ≡ c.new-list.result.items ++ all =
    sym (ap (λ (ds : List Difference). ds ++ all) c.new-list.ensures.items) in
    subst (λ (r : Reach). ReachTo r c.args.most all now.list.items (λ m ks. differences [] m ks) now.spot.line
    now.spot.entry (line_of now.cutter) (ahead now.cutter (g.A.Source.left now.aside))) c.in-Ok-Whole.field-0-is
    (c.in-Ok-Whole.ensures.exact all (entries, st, first))

pub returns-in-Ok-clause-exact : goal.returns-in-Ok-clause-exact
returns-in-Ok-clause-exact g c = λ entries st.
    let now = c.all_seconds.new in
    let all = differences_by_second (seconds c.args.wanted.now) 1 entries in
    let first : all ≡ c.new-list.result.items ++ all =
    sym (ap (λ (ds : List Difference). ds ++ all) c.new-list.ensures.items) in
    c.in-Ok.ensures.exact all
    (subst (λ (r : Reach). ReachTo r c.args.most all now.list.items (λ m ks. differences [] m ks) now.spot.line
    now.spot.entry (line_of now.cutter) (ahead now.cutter (g.A.Source.left now.aside))) c.in-Ok-Onward.field-0-is
    (c.in-Ok-Onward.ensures.exact all (entries, st, first)))
