use Rattle.std.proofs.Common.{◌≡◌, Ok, true, Err, subst}
use Rattle.road_time.specs.Lines.{lines_of}
use Rattle.road_io.specs.Cutter.{ahead, line_of, rest_of, line_number, Cuts, StandsCut}
use Rattle.road_io.specs.declared.cutter.LineFault.TheVariants.{LongLine}
use Rattle.office_commands.proofs.BoundLaws.{line_read}
use Rattle.office_commands.proofs.AsideLaws.{long_entry, first_long}
use Rattle.office_commands.proofs.aside.next_entry.Goals as goal

pub returns-in-Err-LongLine-clause-enters : goal.returns-in-Err-LongLine-clause-enters
returns-in-Err-LongLine-clause-enters g c = λ bytes told.
    let new = c.advance.new.self in
    let before = ahead c.args.cutter.now (g.A.Source.left c.args.aside.now) in
    let after = ahead new (g.A.Source.left c.advance.new.source) in
    let res : c.advance.result ≡ Err (LongLine c.in-Err-LongLine.field-0-0) = cc in
    let cuts = subst (λ r. Cuts r before after (line_of new)) res (c.advance.ensures.cuts c.requires.whole) in
    long_entry (lines_of bytes) (first_long before after (line_of new) bytes c.in-Err-LongLine.field-0-0 cuts told)

pub returns-then-is_marked-clause-read : goal.returns-then-is_marked-clause-read
returns-then-is_marked-clause-read g c = λ lines bytes s.
    let old = c.args.cutter.now in
    let new = c.advance.new.self in
    let before = ahead old (g.A.Source.left c.args.aside.now) in
    let after = ahead new (g.A.Source.left c.advance.new.source) in
    let res : c.advance.result ≡ Ok true = cc in
    let cuts = subst (λ r. Cuts r before after (line_of new)) res (c.advance.ensures.cuts c.requires.whole) in
    let stands = subst (λ r. StandsCut r (line_number old) new) res (c.advance.ensures.stands c.requires.whole) in
    line_read before after (line_of new) (rest_of new) bytes lines s cuts (c.advance.ensures.taken c.requires.whole res)
    stands.3

pub returns-else-is_marked-clause-read : goal.returns-else-is_marked-clause-read
returns-else-is_marked-clause-read g c = λ lines bytes s.
    let old = c.args.cutter.now in
    let new = c.advance.new.self in
    let before = ahead old (g.A.Source.left c.args.aside.now) in
    let after = ahead new (g.A.Source.left c.advance.new.source) in
    let res : c.advance.result ≡ Ok true = cc in
    let cuts = subst (λ r. Cuts r before after (line_of new)) res (c.advance.ensures.cuts c.requires.whole) in
    let stands = subst (λ r. StandsCut r (line_number old) new) res (c.advance.ensures.stands c.requires.whole) in
    line_read before after (line_of new) (rest_of new) bytes lines s cuts (c.advance.ensures.taken c.requires.whole res)
    stands.3
