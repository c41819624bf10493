use Rattle.std.proofs.Common.{◌+◌}
use Rattle.road_io.specs.Cutter.{ahead, line_of, line_number}
use Rattle.office_commands.proofs.ListingLaws.{stands_entered, ready_by}
use Rattle.office_commands.proofs.listing.move_on.Goals as goal

pub returns-in-Ok-clause-stands : goal.returns-in-Ok-clause-stands
returns-in-Ok-clause-stands g c = λ now told.
    let before = ahead c.args.cutter.now (g.A.Source.left c.args.aside.now) in
    let after = ahead c.next_entry.new.cutter (g.A.Source.left c.next_entry.new.aside) in
    stands_entered c.in-Ok.entry before after (line_of c.next_entry.new.cutter) now c.in-Ok.ensures.enters told
    (λ is. (c.in-Ok.ensures.next is).2)

pub returns-in-Ok-clause-ready : goal.returns-in-Ok-clause-ready
returns-in-Ok-clause-ready g c =
    ready_by c.in-Ok.entry c.next_entry.new.cutter (line_number c.args.cutter.now + 1) c.in-Ok.ensures.next
