use Rattle.std.proofs.Common.{rules, ◌≡◌, ◌++◌, ◌∷◌, [], List, true, is_ok, sym, subst}
use Rattle.road_time.specs.declared.day.SpentRow.{SpentRow}
use Rattle.std.specs.List.{AllByRecursion}
use Rattle.std.proofs.lemmas.Bool.{cond_both}
use Rattle.std.specs.declared.cmp.Ordering.TheVariants.{Less}
use Rattle.keep_office.specs.Office.{row_cmp, RowsRise}
use Rattle.day_past.specs.declared.amounts.Amounts.{Amounts}
use Rattle.day_past.proofs.AmountLaws.{rise_behind, taken_behind}
use Rattle.day_past.proofs.amounts.Amounts.take.Goals as goal

-- what comes behind the last of the list comes behind all of it
below_new : (a : Amounts) (r : SpentRow) (seen : List SpentRow) → seen ≡ a.rising.items → RowsRise a.rising.items →
    (RowsRise seen → AllByRecursion (λ s. row_cmp s r ≡ Less) seen) →
    AllByRecursion (λ s. row_cmp s r ≡ Less) a.rising.items
below_new a r seen same rise behind =
    subst (AllByRecursion (λ s. row_cmp s r ≡ Less)) same (behind (subst RowsRise (sym same) rise))

pub returns-then-is_behind : goal.returns-then-is_behind
returns-then-is_behind c = λ base rows valid h.
    let old = c.args.self.now in
    let rising : old.is_rising ≡ true = search rules in
    let e : c.push.new.self.items ≡ old.rising.items ++ c.args.row.now ∷ [] = search rules in
    let same : c.as_slice.result.now ≡ old.rising.items = search rules in
    let behind = below_new c.args.self.now c.args.row.now _ same old.rise (c.is_behind.ensures c.if-is_behind.true) in
    let new : Amounts =
    record {
      alloc = old.alloc;
      rising = c.push.new.self;
      by_key = old.by_key;
      is_rising = old.is_rising;
      rise = c.self-1.given.0;
    } in
    taken_behind old new base rows c.args.row.now rising rising e behind valid h

pub returns-in-Ok-take_by_key : goal.returns-in-Ok-take_by_key
returns-in-Ok-take_by_key c = λ base rows valid h.
    c.in-Ok-take_by_key.ensures base rows valid (c.in-Ok-leave_list.ensures.same base rows h)

pub invariant_of-self : goal.invariant_of-self
invariant_of-self c =
    let old = c.args.self.now in
    let xs = old.rising.items in
    let r = c.args.row.now in
    let same : c.as_slice.result.now ≡ xs = search rules in
    let behind = below_new old r _ same old.rise (c.is_behind.ensures c.if-is_behind.true) in
    record {
      rise = subst RowsRise (sym c.push.ensures.items)
          (cond_both (is_ok c.push.result) (xs ++ r ∷ []) xs RowsRise (λ _. rise_behind xs r old.rise behind)
          (λ _. old.rise));
    }
