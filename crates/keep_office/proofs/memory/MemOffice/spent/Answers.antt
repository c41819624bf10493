use Rattle.std.proofs.Common.{rules, length, sym, ap, ◌∙◌, arith}
use Rattle.road_time.specs.declared.day.SpentRow.{SpentRow}
use Rattle.std.proofs.lemmas.Fn.{always_returns_same}
use Rattle.keep_office.specs.Office.{key_cmp}
use Rattle.keep_office.proofs.RowOrder.{found_paid, missed_paid, key_rises}
use Rattle.keep_office.proofs.memory.MemOffice.spent.Goals as goal

pub returns-in-Ok : goal.returns-in-Ok
returns-in-Ok c =
    let at = c.in-Ok.ensures.position (key_cmp c.args.day c.args.vid c.args.xway)
    (always_returns_same _ _ _ (λ a r f' k. search rules)) in
    ap (λ (r : SpentRow). r.tolls) c.index.ensures
    ∙ sym (found_paid c.args.day c.args.vid c.args.xway c.args.self.now.rows.items c.in-Ok.at c.index.result.now
    c.args.self.now.sound.rows_rise (omega (arith, c.in-Ok.ensures.bound, ap length c.deref.ensures.value))
    (rw (sym c.deref.ensures.value) (at c.index.result.now)))

pub returns-in-Err : goal.returns-in-Err
returns-in-Err c =
    let at = c.in-Err.ensures.position (key_cmp c.args.day c.args.vid c.args.xway)
    (always_returns_same _ _ _ (λ a r f' k. search rules)) in
    let rise = key_rises c.args.day c.args.vid c.args.xway c.args.self.now.rows.items c.args.self.now.sound.rows_rise in
    sym (missed_paid c.args.day c.args.vid c.args.xway c.args.self.now.rows.items c.in-Err.field-0
    (rw (sym c.deref.ensures.value) (at (rw c.deref.ensures.value rise))))
