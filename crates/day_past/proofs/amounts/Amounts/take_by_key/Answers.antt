use Rattle.std.proofs.Common.{◌≡◌, ℕ, Some, None, refl, sym, ◌∙◌}
use Rattle.std.specs.Map.{lookup}
use Rattle.std.specs.BTreeMap.{is_at, insert_entry}
use Rattle.keep_office.specs.Office.{row_cmp}
use Rattle.day_past.specs.declared.amounts.Amounts.{Amounts}
use Rattle.day_past.specs.declared.amounts.Key.{Key}
use Rattle.day_past.specs.contracts.amounts.KeyOrd.TheImpl as key_order
use Rattle.day_past.specs.Rows.{amount_of}
use Rattle.day_past.proofs.AmountLaws.{taken_before, taken_by_key}
use Rattle.day_past.proofs.amounts.Amounts.take_by_key.Goals as goal

-- keys are in the order of rows
same : (k q : Key) (v w : ℕ) → key_order.cmp-value.it k q ≡ row_cmp (amount_of (k, v)) (amount_of (q, w))
same k q v w = refl

pub returns-in-Ok-Some : goal.returns-in-Ok-Some
returns-in-Ok-Some c = λ base rows valid h.
    let r = c.args.row.now in
    let k : Key = record { day = r.day; vid = r.vid; xway = r.xway } in
    let was : lookup (is_at (key_order.cmp-value.it k)) c.args.self.now.by_key.entries ≡ Some c.in-Ok-Some.field-0-0 =
    sym c.in-Ok-Some.ensures.old ∙ c.in-Ok-Some.field-0-is in
    taken_before key_order.cmp-value.it same c.args.self.now base rows k c.in-Ok-Some.field-0-0 c.requires was h

pub returns-in-Ok-None : goal.returns-in-Ok-None
returns-in-Ok-None c = λ base rows valid h.
    let r = c.args.row.now in
    let k : Key = record { day = r.day; vid = r.vid; xway = r.xway } in
    let old = c.args.self.now in
    let new : Amounts =
    record {
      alloc = old.alloc;
      rising = old.rising;
      by_key = c.insert.new.self;
      is_rising = old.is_rising;
      rise = c.self-1.given.0;
    } in
    let off : lookup (is_at (key_order.cmp-value.it k)) old.by_key.entries ≡ None = sym c.in-Ok-None.ensures.old
    ∙ c.in-Ok-None.field-0-is in
    let e : c.insert.new.self.entries ≡ insert_entry key_order.cmp-value.it old.by_key.entries k r.tolls =
    c.in-Ok-None.ensures.entries in
    taken_by_key key_order.cmp-value.it same old new base rows k r.tolls c.requires c.requires off e
    c.insert.ensures.ordered valid h
