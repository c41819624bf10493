use Rattle.std.proofs.Common.{◌∙◌, ◌+◌, [], length, refl, ap, arith}
use Rattle.std.specs.Io.KnownBytes.{prepend_known}
use Rattle.road_io.specs.Cutter.{ahead}
use Rattle.office_commands.specs.Entries.{HasReadEntries, most_compared}
use Rattle.office_commands.proofs.BoundLaws.{lines_within}
use Rattle.office_commands.proofs.listed.first_differences.Goals as goal

pub returns-in-Ok-next_entry-clause-bounded : goal.returns-in-Ok-next_entry-clause-bounded
returns-in-Ok-next_entry-clause-bounded g c = λ bytes told.
    let left = g.A.Source.left c.args.aside.now in
    let lines = length c.args.wanted.now + c.args.most in
    let start : HasReadEntries (ahead c.in-Ok.cutter left) 0 bytes = record {
      taken = [];
      now = bytes;
      ahead_is = ap (λ h. prepend_known h left) c.in-Ok.ensures.0 ∙ ap (prepend_known []) told;
      bytes_are = refl;
      few = omega arith;
    } in
    lines_within c.list_from.new.cutter (g.A.Source.left c.list_from.new.aside) bytes (1 + length c.args.wanted.now +
    c.args.most) (most_compared lines) (c.list_from.ensures.read bytes (c.next_entry.ensures.read 0 bytes start))
    (omega arith)

pub returns-clause-bounded : goal.returns-clause-bounded
returns-clause-bounded g c = λ bytes told.
    let left = g.A.Source.left c.args.aside.now in
    let lines = length c.args.wanted.now + c.args.most in
    let start : HasReadEntries (ahead c.in-Ok.cutter left) 0 bytes = record {
      taken = [];
      now = bytes;
      ahead_is = ap (λ h. prepend_known h left) c.in-Ok.ensures.0 ∙ ap (prepend_known []) told;
      bytes_are = refl;
      few = omega arith;
    } in
    lines_within c.next_entry.new.cutter (g.A.Source.left c.next_entry.new.aside) bytes 1 (most_compared lines)
    (c.next_entry.ensures.read 0 bytes start) (omega arith)
