use Rattle.std.proofs.Common.{◌&&◌, ◌==◌, nat_le}
use Rattle.std.proofs.lemmas.List.Kept.{IsStrictlySortedBy-filter}
use Rattle.keep_office.specs.Office.{row_cmp}
use Rattle.keep_office.proofs.memory.MemOffice.vehicle_rows.Goals as goal

pub returns-clause-rise : goal.returns-clause-rise
returns-clause-rise c =
    rw (c.in_ok-rows.ensures, c.deref.ensures.value)
    (IsStrictlySortedBy-filter row_cmp
    (λ r. r.vid == c.args.vid && (nat_le c.args.from r.day && nat_le r.day c.args.to)) c.args.self.now.rows.items
    c.args.self.now.sound.rows_rise)
