use Rattle.std.proofs.Common.{rules, ◌≡◌, [], ◌∷◌, ◌++◌, ◌^◌, ◌<◌, drop, refl, sym, ap, ◌∙◌, subst, inr}
use Rattle.std.specs.List.{fold}
use Rattle.day_floor.specs.Boards.{board_after, all_accounts}
use Rattle.serve_board.specs.declared.page.Page.{Page}
use Rattle.serve_board.specs.declared.page.Post.TheVariants.{Changed, Reached}
use Rattle.serve_board.specs.OperationLog.{Reach}
use Rattle.serve_board.specs.Changes.{operation_of, posted_on, page_with}
use Rattle.serve_board.proofs.RuleLaws.{publishes}
use Rattle.serve_board.proofs.PostLaws.{reach_with, change_waits, both_wait, all_posted, front_is, log_is, held_queued}
use Rattle.serve_board.proofs.PostLaws.{held_posted}
use Rattle.serve_board.proofs.post.submit.Goals as goal

pub returns-then-is_err-2-clause-tip : goal.returns-then-is_err-2-clause-tip
returns-then-is_err-2-clause-tip g c =
    let w = c.args.writer in
    let a = c.append.new.self in
    let b = c.append-2.new.self in
    let waits : drop a.behind a.log.items ≡ drop w.behind w.log.items ++ Changed c.args.change ∷ [] = search rules in
    let still : drop b.behind b.log.items ≡ drop a.behind a.log.items = search rules in
    let next : c.add-tip.result ≡ reach_with (operation_of c.args.change) c.args.tip = search rules in
    held_queued c.args.tip c.add-tip.result (operation_of c.args.change)
    (posted_on w.desk.shown.value (drop w.behind w.log.items))
    (posted_on b.desk.shown.value (drop b.behind b.log.items)) c.requires.tip next
    (change_waits w.desk.shown.value b.desk.shown.value (drop w.behind w.log.items) (drop b.behind b.log.items)
    c.args.change (ap (λ d. d.shown.value) (c.append-2.ensures.desk ∙ c.append.ensures.desk)) (still ∙ waits))

pub returns-then-is_err-2-clause-err : goal.returns-then-is_err-2-clause-err
returns-then-is_err-2-clause-err g c =
    let w = c.args.writer in
    let a = c.append.new.self in
    let b = c.append-2.new.self in
    let waits : drop a.behind a.log.items ≡ drop w.behind w.log.items ++ Changed c.args.change ∷ [] = search rules in
    let still : drop b.behind b.log.items ≡ drop a.behind a.log.items = search rules in
    inr (change_waits w.desk.shown.value b.desk.shown.value (drop w.behind w.log.items) (drop b.behind b.log.items)
    c.args.change (ap (λ d. d.shown.value) (c.append-2.ensures.desk ∙ c.append.ensures.desk)) (still ∙ waits))

pub publish_as-writer-requires : goal.publish_as-writer-requires
publish_as-writer-requires g c after is =
    let w = c.args.writer in
    let a = c.append.new.self in
    let b = c.append-2.new.self in
    let x = w.desk.shown.value in
    let y = b.desk.shown.value in
    let ps = drop w.behind w.log.items in
    let qs = drop a.behind a.log.items in
    let rs = drop b.behind b.log.items in
    let f = c.front.result in
    let waits : qs ≡ ps ++ Changed c.args.change ∷ [] = search rules in
    let more : rs ≡ qs ++ Reached f ∷ [] = search rules in
    let reached : f ≡ reach_with (operation_of c.args.change) c.args.tip = search rules in
    let same : y ≡ x = ap (λ d. d.shown.value) (c.append-2.ensures.desk ∙ c.append.ensures.desk) in
    let front : after.front ≡ f = front_is y after qs rs f more is in
    let book : after.front.book ≡ y.front.book = ap (λ (r : Reach). r.book) (front ∙ reached)
    ∙ (sym c.requires.book ∙ ap (λ (p : Page). p.front.book) (sym same)) in
    let posted : posted_on after [] ≡ _ =
    all_posted x after ps [] c.args.change c.args.tip c.requires.tip (front ∙ reached) refl in
    publishes b.desk.place.id b.desk.place.me.0.client y after rs is book
    (ap (λ (r : Reach). r.log) front
    ∙ log_is x y ps qs rs c.args.change f c.args.tip c.requires.tip same waits more reached)
    (subst (λ p. all_accounts (board_after p.published) < 2 ^ 63) (sym posted) c.requires.below)

pub returns-then-is_err-3-clause-tip : goal.returns-then-is_err-3-clause-tip
returns-then-is_err-3-clause-tip g c =
    let w = c.args.writer in
    let a = c.append.new.self in
    let b = c.append-2.new.self in
    let p = c.publish_as-writer.result.0 in
    let waits : drop a.behind a.log.items ≡ drop w.behind w.log.items ++ Changed c.args.change ∷ [] = search rules in
    let more : drop b.behind b.log.items ≡ drop a.behind a.log.items ++ Reached c.front.result ∷ [] = search rules in
    let still : drop p.behind p.log.items ≡ drop b.behind b.log.items = search rules in
    let shown : p.desk.shown.value ≡ b.desk.shown.value = search rules in
    let next : c.add-tip.result ≡ reach_with (operation_of c.args.change) c.args.tip = search rules in
    held_queued c.args.tip c.add-tip.result (operation_of c.args.change)
    (posted_on w.desk.shown.value (drop w.behind w.log.items))
    (posted_on p.desk.shown.value (drop p.behind p.log.items)) c.requires.tip next
    (both_wait w.desk.shown.value p.desk.shown.value (drop w.behind w.log.items) (drop a.behind a.log.items)
    (drop p.behind p.log.items) c.args.change c.front.result
    (shown ∙ ap (λ d. d.shown.value) (c.append-2.ensures.desk ∙ c.append.ensures.desk)) waits (still ∙ more))

pub returns-then-is_err-3-clause-err : goal.returns-then-is_err-3-clause-err
returns-then-is_err-3-clause-err g c =
    let w = c.args.writer in
    let a = c.append.new.self in
    let b = c.append-2.new.self in
    let p = c.publish_as-writer.result.0 in
    let waits : drop a.behind a.log.items ≡ drop w.behind w.log.items ++ Changed c.args.change ∷ [] = search rules in
    let more : drop b.behind b.log.items ≡ drop a.behind a.log.items ++ Reached c.front.result ∷ [] = search rules in
    let still : drop p.behind p.log.items ≡ drop b.behind b.log.items = search rules in
    let shown : p.desk.shown.value ≡ b.desk.shown.value = search rules in
    inr (both_wait w.desk.shown.value p.desk.shown.value (drop w.behind w.log.items) (drop a.behind a.log.items)
    (drop p.behind p.log.items) c.args.change c.front.result
    (shown ∙ ap (λ d. d.shown.value) (c.append-2.ensures.desk ∙ c.append.ensures.desk)) waits (still ∙ more))

pub returns-clause-book : goal.returns-clause-book
returns-clause-book g c =
    let a = c.append.new.self in
    let b = c.append-2.new.self in
    let p = c.publish_as-writer.result.0 in
    let more : drop b.behind b.log.items ≡ drop a.behind a.log.items ++ Reached c.front.result ∷ [] = search rules in
    let is : p.desk.shown.value ≡ fold page_with b.desk.shown.value (drop b.behind b.log.items) = search rules in
    let reached : c.front.result ≡ reach_with (operation_of c.args.change) c.args.tip = search rules in
    ap (λ (r : Reach). r.book)
    (front_is b.desk.shown.value p.desk.shown.value (drop a.behind a.log.items) (drop b.behind b.log.items)
    c.front.result more is ∙ reached)

pub returns-clause-tip : goal.returns-clause-tip
returns-clause-tip g c =
    let w = c.args.writer in
    let a = c.append.new.self in
    let b = c.append-2.new.self in
    let p = c.publish_as-writer.result.0 in
    let more : drop b.behind b.log.items ≡ drop a.behind a.log.items ++ Reached c.front.result ∷ [] = search rules in
    let is : p.desk.shown.value ≡ fold page_with b.desk.shown.value (drop b.behind b.log.items) = search rules in
    let none : drop p.behind p.log.items ≡ [] = search rules in
    let reached : c.front.result ≡ reach_with (operation_of c.args.change) c.args.tip = search rules in
    let next : c.add-tip.result ≡ reach_with (operation_of c.args.change) c.args.tip = search rules in
    held_posted c.args.tip c.add-tip.result (operation_of c.args.change)
    (posted_on w.desk.shown.value (drop w.behind w.log.items))
    (posted_on p.desk.shown.value (drop p.behind p.log.items)) c.requires.tip next
    (all_posted w.desk.shown.value p.desk.shown.value (drop w.behind w.log.items) (drop p.behind p.log.items)
    c.args.change c.args.tip c.requires.tip
    (front_is b.desk.shown.value p.desk.shown.value (drop a.behind a.log.items) (drop b.behind b.log.items)
    c.front.result more is ∙ reached) none)

pub returns-clause-ok : goal.returns-clause-ok
returns-clause-ok g c =
    let w = c.args.writer in
    let a = c.append.new.self in
    let b = c.append-2.new.self in
    let p = c.publish_as-writer.result.0 in
    let more : drop b.behind b.log.items ≡ drop a.behind a.log.items ++ Reached c.front.result ∷ [] = search rules in
    let is : p.desk.shown.value ≡ fold page_with b.desk.shown.value (drop b.behind b.log.items) = search rules in
    let none : drop p.behind p.log.items ≡ [] = search rules in
    let reached : c.front.result ≡ reach_with (operation_of c.args.change) c.args.tip = search rules in
    all_posted w.desk.shown.value p.desk.shown.value (drop w.behind w.log.items) (drop p.behind p.log.items)
    c.args.change c.args.tip c.requires.tip
    (front_is b.desk.shown.value p.desk.shown.value (drop a.behind a.log.items) (drop b.behind b.log.items)
    c.front.result more is ∙ reached) none
