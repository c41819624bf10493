use Rattle.std.proofs.Common.{◌≡◌, ◌+◌, ◌-◌, negsuc, None, length, drop, map, get_or, sym, ap, refl, ◌∙◌, arith}
use Rattle.std.proofs.lemmas.List.{drop_all, drop_more, get_or-map, length-map}
use Rattle.tuples_text.specs.Ends.{line_end, field_number}
use Rattle.tuples_text.proofs.NoticeLaws.{field_before, kind_before, end_at}
use Rattle.tuples_text.proofs.tuple_lines.put_fields.Goals as goal

pub loop-left-init : goal.loop-left-init
loop-left-init c =
    let fs = c.args.fields.now in
    record {
      few = omega arith;
      room = omega (arith, c.put_byte-at.ensures.start);
      inside = omega (arith, c.put_byte-at.ensures.start, c.told-line);
      written = end_at 320 _ c.args.line.now c.put_byte-at.ensures.written c.told-line
          ∙ ap line_end (sym (drop_all 14 (map field_number fs)
          (omega (arith, length-map fs field_number, c.told-fields))));
    }

pub loop-left-preserved : goal.loop-left-preserved
loop-left-preserved c =
    let fs = c.args.fields.now in
    let zs = map field_number fs in
    let k = c.loop-left.left - 1 in
    let put = c.put_number-at.ensures in
    let size : length zs ≡ 14 = length-map fs field_number ∙ c.told-fields in
    let next : c.loop-left.left ≡ k + 1 = omega (arith, c.loop-left-test.true) in
    let same =
    sym (get_or-map field_number fs k None (negsuc 0) (omega (arith, c.told-fields, c.loop-left.invariant.few))) in
    let tail = c.loop-left.invariant.written ∙ ap (λ n. line_end (drop n zs)) next in
    record {
      few = omega (arith, c.loop-left.invariant.few);
      room = omega (arith, c.loop-left.invariant.room, put.low);
      inside = omega (arith, c.loop-left.invariant.inside, put.high);
      written = field_before _ (get_or zs k (negsuc 0)) _ _ (drop (k + 1) zs) put.written same tail
          ∙ ap line_end (sym (drop_more zs k (negsuc 0) (omega (arith, c.loop-left.invariant.few))));
    }

pub returns-clause-written : goal.returns-clause-written
returns-clause-written c =
    let zs = map field_number c.args.fields.now in
    let none : c.loop-left.left ≡ 0 = omega (arith, c.loop-left-test.false) in
    kind_before _ c.args.kind _ _ zs c.put_byte.ensures.written refl c.requires
    (c.loop-left.invariant.written ∙ ap (λ n. line_end (drop n zs)) none)
