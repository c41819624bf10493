use Rattle.std.proofs.Common.{rules, ◌≡◌, [], Some, drop, ap, ◌∙◌}
use Rattle.std.specs.List.{fold}
use Rattle.left_right.specs.Sides.{view}
use Rattle.serve_board.specs.declared.page.Page.{Page}
use Rattle.serve_board.specs.OperationLog.{Reach}
use Rattle.serve_board.specs.Changes.{page_with}
use Rattle.serve_board.proofs.RuleLaws.{opens, meets}
use Rattle.serve_board.proofs.opening.open_writer.Goals as goal

pub new-requires-3-clause-rule : goal.new-requires-3-clause-rule
new-requires-3-clause-rule g c = opens (record { shown = c.new.result; front = c.again.result }) c.new.ensures
    (ap (λ (r : Reach). r.log) c.again.ensures ∙ c.requires.none)

pub publish_as-writer-requires : goal.publish_as-writer-requires
publish_as-writer-requires g c after is =
    let w = c.in_ok-writer.writer in
    let none : drop w.behind w.log.items ≡ [] = search rules in
    meets w.desk.place.id w.desk.place.me.0.client w.desk.shown.value after
    (is ∙ ap (fold page_with w.desk.shown.value) none)

pub returns-clause-shown : goal.returns-clause-shown
returns-clause-shown g c =
    let w = c.in_ok-writer.writer in
    let p = c.publish_as-writer.result.0 in
    let none : drop w.behind w.log.items ≡ [] = search rules in
    let is : p.desk.shown.value ≡ fold page_with w.desk.shown.value (drop w.behind w.log.items) = search rules in
    let first : w.desk.shown.value ≡ record { shown = c.new.result; front = c.again.result } = search rules in
    ap (λ (q : Page). q.front) (is ∙ (ap (fold page_with w.desk.shown.value) none ∙ first)) ∙ c.again.ensures

pub returns-clause-knows : goal.returns-clause-knows
returns-clause-knows g c =
    let w = c.in_ok-writer.writer in
    let p = c.publish_as-writer.result.0 in
    let none : drop w.behind w.log.items ≡ [] = search rules in
    let is : p.desk.shown.value ≡ fold page_with w.desk.shown.value (drop w.behind w.log.items) = search rules in
    let first : w.desk.shown.value ≡ record { shown = c.new.result; front = c.again.result } = search rules in
    let met : view p.desk.place ≡ Some p.desk.shown.value.front.book = search rules in
    met ∙ (ap (λ (q : Page). Some q.front.book) (is ∙ (ap (fold page_with w.desk.shown.value) none ∙ first))
    ∙ ap (λ (r : Reach). Some r.book) c.again.ensures)
