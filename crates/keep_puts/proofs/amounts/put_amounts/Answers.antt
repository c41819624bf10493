use Rattle.std.proofs.Common.{◌≡◌, ℤ, length, IfOk, sym, ap, subst, ◌∙◌, to_z, of_z, w64, arith, rules}
use Rattle.sqlite_trees.specs.Tree.{Trees}
use Rattle.sqlite_trees.specs.View.{View, IsClean}
use Rattle.keep_puts.specs.Room.{IsDoneIf, AreNumbers, HasNumbers, TakesAmounts}
use Rattle.keep_puts.specs.Steps.{AreBelow}
use Rattle.keep_puts.specs.Puts.{PutsFrom}
use Rattle.keep_puts.proofs.ClearLaws.{done_then}
use Rattle.keep_puts.proofs.StoreLaws.{done_if}
use Rattle.keep_puts.proofs.amounts.put_amounts.Goals as goal

pub returns-in_default-clause-room : goal.returns-in_default-clause-room
returns-in_default-clause-room g c clean takes =
    let old = g.S.Store.view c.args.store.now in
    let mid = g.S.Store.view c.may_follow.new.store in
    let early : IsClean mid = omega (arith, clean, c.next_number.ensures.quiet.clean) in
    let same : mid.trees ≡ old.trees = ap (λ (v : View). v.trees) (c.in_ok-may_follow.ensures.same early) in
    let count = length c.args.rows.now in
    absurd (rw c.in_default.is at (c.in_ok-first.ensures.room clean count
    (subst (λ (t : Trees). HasNumbers count (t 1)) (sym same) takes.numbers)))

pub returns-clause-room : goal.returns-clause-room
returns-clause-room g c clean =
    let old = g.S.Store.view c.args.store.now in
    let mid = g.S.Store.view c.may_follow.new.store in
    let last = g.S.Store.view c.next_number.new.store in
    let late : IsClean last = omega (arith, clean, c.put_from.ensures.quiet.clean) in
    let early : IsClean mid = omega (arith, late, c.next_number.ensures.quiet.clean) in
    let same : mid.trees ≡ old.trees = ap (λ (v : View). v.trees) (c.in_ok-may_follow.ensures.same early) in
    let count = length c.args.rows.now in
    let whole : to_z w64 (of_z w64 c.in-Some.first) ≡ c.in-Some.first = search rules in
    done_if c.put_from.result (AreNumbers c.in-Some.first count) (TakesAmounts c.args.rows.now old.trees)
    (λ takes. rw c.in-Some.is at (c.in_ok-first.ensures.room late count
    (subst (λ (t : Trees). HasNumbers count (t 1)) (sym same) takes.numbers)))
    (subst (λ (n : ℤ). IfOk c.put_from.result (IsDoneIf (AreNumbers n count))) whole (c.put_from.ensures.room clean))

pub returns-clause-puts : goal.returns-clause-puts
returns-clause-puts g c clean =
    let old = g.S.Store.view c.args.store.now in
    let mid = g.S.Store.view c.may_follow.new.store in
    let last = g.S.Store.view c.next_number.new.store in
    let new = g.S.Store.view c.put_from.new.store in
    let late : IsClean last = omega (arith, clean, c.put_from.ensures.quiet.clean) in
    let early : IsClean mid = omega (arith, late, c.next_number.ensures.quiet.clean) in
    let one : mid.trees ≡ old.trees = ap (λ (v : View). v.trees) (c.in_ok-may_follow.ensures.same early) in
    let two : last.trees ≡ mid.trees = ap (λ (v : View). v.trees) (c.in_ok-first.ensures.same late) in
    let first = to_z w64 (of_z w64 c.in-Some.first) in
    let whole : first ≡ c.in-Some.first = search rules in
    let below : AreBelow c.in-Some.first (mid.trees 1) = rw c.in-Some.is at (c.in_ok-first.ensures.next late) in
    let above = subst (λ (n : ℤ). AreBelow n (mid.trees 1)) (sym whole) below in
    done_then c.put_from.result _ _
    (c.put_from.ensures.puts clean (subst (λ (t : Trees). AreBelow first (t 1)) (sym two) above))
    (λ puts. record {
      first = first;
      above = subst (λ (t : Trees). AreBelow first (t 1)) one above;
      puts = subst (λ (t : Trees). PutsFrom first c.args.rows.now t new.trees) (two ∙ one) puts;
    })
